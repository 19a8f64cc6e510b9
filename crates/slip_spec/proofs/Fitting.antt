-- The written slip fits its bytes. Assumes nothing.
use mathlib.Core.Path.{◌≡◌, refl, sym, ◌∙◌, subst}
use mathlib.Core.Bool.{Bool, true, false}
use mathlib.Core.List.{List, [], ◌∷◌, map}
use mathlib.Core.Option
use mathlib.Core.Option.{Option, none, some, get_or, none-ne-some, some-injective}
use Prim.Native.Nat.{ℕ, zero, suc, ◌+◌, ◌≤◌, ◌<◌}
use native.Mathlib.Omega.{arith}
use lib.Dec.{ltb}
use lib.ListN.{length, length-map, get_elem?}
use borrow.Author.Tests.{lt-ltb}
use Rattle.base.specs.Lists.{pick, count_from, ◌∈◌}
use Rattle.base.proofs.Lists.{every_in, every_count_from, length_keep, length_count_from, holds_some, Pairs, no_pairs, with_later, pairs_keep, pairs_map}
use Rattle.base.proofs.Lists.{pairs_pairwise}
use Rattle.base.proofs.Le.{AllBytes}
use Rattle.base.proofs.Members.{map_in}
use Rattle.committee.specs.Committee.{AuthorityIndex, Committee}
use Rattle.committee_set.specs.AuthoritySet.{AuthoritySet, member, members}
use Rattle.record_spec.specs.Reference.{BlockReference, TransactionLocator, same_reference}
use Rattle.record_spec.specs.Block.{Block, is_share, is_share_at, accept, vote_range}
use Rattle.record_spec.proofs.References.{other_reference}
use Rattle.record_spec.proofs.Records.{ReferenceFits, LocatorFits, BlockFits}
use Rattle.store_spec.proofs.Stored.{WellStored, fresh, stored}
use Rattle.store_spec.proofs.Check.{in_every}
use Rattle.final_spec.specs.Ancestry.{by_accept, by_range, VotesFor, by_share, by_vote}
use Rattle.final_spec.specs.Claims.{Stored}
use Rattle.final_spec.proofs.Claimed.{well_stored}
use Rattle.final_readings_spec.specs.Readings.{Reading, voters_in, certifies_in, certifiers_in}
use Rattle.slip_spec.specs.Slip.{voters_ascend, certifiers_ascend}
use Rattle.slip_spec.specs.Paths.{to_block, leads, least_distance, distance, steps_from, path_to}
use Rattle.slip_spec.specs.Reading.{votes_as}
use Rattle.slip_spec.specs.Writing.{ascending_blocks, voter_of, certifier_of, ordered_certifiers, slip_for}
use Rattle.slip_spec.proofs.Slips.{VoterFits, CertifierFits, SlipFits}
use Rattle.slip_spec.proofs.Paths.{named_in, first_step}
use Rattle.slip_spec.proofs.Distances.{least_found, length_steps}
use Rattle.slip_spec.proofs.Ordered.{Distinct, ascending_ascends, length_ascending}
use Rattle.slip_spec.proofs.Naming.{listed_member, own_path, certifier_in}

place_below : {A : Type 0} (xs : List A) (p : ℕ) (x : A) → get_elem? xs p ≡ some x → p < length xs
place_below [] p x h = absurd (none-ne-some x h)
place_below (y ∷ xs) zero x h = omega arith
place_below (y ∷ xs) (suc p) x h = omega (arith, place_below xs p x h)

-- ---- a stored block keeps within the limits of its record

-- ---- the locator: a block within the limits votes for it

pub vote_fits : (b : Block) (l : TransactionLocator) → BlockFits b → VotesFor b l → LocatorFits l
unfolding is_share_at
vote_fits b l f (by_share e h) =
    let s = holds_some is_share _ h in
    record { block = subst ReferenceFits e f.reference; offset = omega (arith, place_below b.statements l.offset s.0 s.1, f.few_statements) }
vote_fits b l f (by_vote (by_accept m)) = every_in b.statements (accept l) f.statements m
vote_fits b l f (by_vote (by_range r m e g h)) =
    let x = every_in b.statements (vote_range r) f.statements m in
    record { block = subst ReferenceFits e x.block; offset = omega (arith, x.end) }

-- ---- the paths: shorter than the list of blocks, and of bytes

suc_of : (o : Option ℕ) (n : ℕ) → Option.map suc o ≡ some n → (m : ℕ) × (o ≡ some m) × (n ≡ suc m)
suc_of none n h = absurd (none-ne-some n h)
suc_of (some m) n h = (m, refl, sym (some-injective _ _ h))

pub distance_below : (votes : Block → Bool) (bs : List Block) (r : BlockReference) (n : ℕ) → distance votes bs r ≡ some n → n < length bs
unfolding distance
distance_below votes [] r n h = absurd (none-ne-some n h)
distance_below votes (b ∷ older) r n h = go (same_reference b.reference r) (votes b) h (λ i m e. distance_below votes older i m e)
  where
    go : (t u : Bool) → pick t (pick u (some 0) (Option.map suc (least_distance (map (distance votes older) b.includes)))) (distance votes older r) ≡ some n
        → ((i : BlockReference) (m : ℕ) → distance votes older i ≡ some m → m < length older) → n < suc (length older)
    go true true k ih = let e : 0 ≡ n = some-injective _ _ k in omega arith
    go true false k ih =
        let m = suc_of _ n k in
        let x = map_in (distance votes older) b.includes (least_found (map (distance votes older) b.includes) m.0 m.1) in
        omega (arith, ih x.0 m.0 x.2, m.2)
    go false u k ih = omega (arith, ih r n k)

length_path : (votes : Block → Bool) (bs : List Block) (b : Block) → length (path_to votes bs b) ≤ length bs
unfolding path_to
length_path votes bs b = go (distance votes bs b.reference) refl
  where
    go : (o : Option ℕ) → distance votes bs b.reference ≡ o → length (steps_from votes bs (get_or o 0) b) ≤ length bs
    go none e = omega (arith, length_steps votes bs 0 b)
    go (some n) e = omega (arith, length_steps votes bs n b, distance_below votes bs b.reference n e)

path_bytes : (bs : List Block) → ((x : Block) → x ∈ bs → length x.includes ≤ 256) → (ps : List ℕ) (b d : Block) → b ∈ bs → leads bs ps b ≡ to_block d →
    AllBytes ps
path_bytes bs f [] b d m h = tt
path_bytes bs f (p ∷ ps) b d m h =
    let s = first_step bs p ps b d h in (
      omega (arith, f b m, place_below b.includes p s.include s.at),
      path_bytes bs f ps s.next d (named_in bs s.include s.next s.given)
          s.onward,
    )

-- ---- both lists ascend

rising : (i n : ℕ) → Pairs (λ x y. ltb x y ≡ true) (count_from i n)
unfolding count_from
rising i zero = no_pairs
rising i (suc n) = with_later (every_count_from (i + 1) n (λ o (l : i + 1 ≤ o) k. lt-ltb i o (omega arith))) (rising (i + 1) n)

distinct_stored : {bs : List Block} → WellStored bs → Distinct bs
distinct_stored fresh = no_pairs
distinct_stored (stored {b = b} {older = older} new found w) = with_later
    (in_every older (λ d m. other_reference b.reference d.reference (λ e. new d m (sym e)))) (distinct_stored w)

module _ (reading : Reading) (c : Committee) (bs : List Block) (h : Stored c bs) (l : TransactionLocator) (few : length bs ≤ 1024)
    (fits : (b : Block) → b ∈ bs → BlockFits b) (target : LocatorFits l) where
  module _ (b : Block) (m : b ∈ bs) where
    abbrev own : AuthoritySet
    own = voters_in reading bs l b.reference

    few_voters : length (map (voter_of bs l b) (members own)) ≤ 128
    unfolding members
    few_voters = omega (arith, length-map (members own) (voter_of bs l b), length_keep (member own) (count_from 0 128), length_count_from 0 128)

    voter_fits : (a : AuthorityIndex) → a ∈ members own → VoterFits (voter_of bs l b a)
    unfolding voter_of
    voter_fits a k =
        let p = (own_path reading c bs h l b m a k).leading in
        record {
          author = omega (arith, (listed_member own a k).0);
          short = omega (arith, length_path (votes_as l a) bs b);
          bytes = path_bytes bs (λ x n. (fits x n).few_includes) (path_to (votes_as l a) bs b) b p.vote m p.leading;
        }

    voters_ascend_lem : voters_ascend (map (voter_of bs l b) (members own)) ≡ true
    unfolding voters_ascend members voter_of
    voters_ascend_lem =
        pairs_pairwise (λ v w. ltb v.author w.author) (map (voter_of bs l b) (members own))
        (pairs_map (voter_of bs l b) (λ x y e. e) (members own) (pairs_keep (member own) (count_from 0 128) (rising 0 128)))

    certifier_fits : CertifierFits (certifier_of reading bs l b)
    unfolding certifier_of
    certifier_fits =
        record {
          reference = (fits b m).reference;
          few = omega (arith, few_voters);
          voters = in_every (map (voter_of bs l b) (members own)) (λ v k. let x = map_in (voter_of bs l b) (members own) k in subst VoterFits x.2
              (voter_fits x.0 x.1));
          ascend = voters_ascend_lem;
        }

  abbrev ordered : List Block
  ordered = ordered_certifiers reading c bs l

  pub length_certifiers : length (map (certifier_of reading bs l) ordered) ≡ length (certifiers_in reading c bs l)
  unfolding ordered_certifiers certifiers_in
  length_certifiers = length-map ordered (certifier_of reading bs l) ∙ length_ascending (certifies_in reading c bs l) bs

  few_certifiers : length (certifiers_in reading c bs l) ≤ length bs
  unfolding certifiers_in
  few_certifiers = length_keep (certifies_in reading c bs l) bs

  certifiers_ascend_lem : certifiers_ascend (map (certifier_of reading bs l) ordered) ≡ true
  unfolding certifiers_ascend certifier_of ordered_certifiers
  certifiers_ascend_lem =
      pairs_pairwise _ (map (certifier_of reading bs l) ordered)
      (pairs_map (certifier_of reading bs l) (λ x y e. e) ordered (pairs_keep (certifies_in reading c bs l) (ascending_blocks bs)
      (ascending_ascends bs (distinct_stored (well_stored c bs h)))))

  pub slip_fits : SlipFits (slip_for reading c bs l)
  unfolding slip_for
  slip_fits =
      record {
        locator = target;
        few = omega (arith, length_certifiers, few_certifiers);
        certifiers = in_every (map (certifier_of reading bs l) ordered)
            (λ k m. let x = map_in (certifier_of reading bs l) ordered m in subst CertifierFits x.2
            (certifier_fits x.0 (certifier_in reading c bs h l x.0 x.1).0));
        ascend = certifiers_ascend_lem;
      }
