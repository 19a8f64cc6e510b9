-- The certifiers' authors read off the index are those of the single question. Assumes nothing.
use mathlib.Core.Path.{◌≡◌, refl, sym, ap, ◌∙◌}
use mathlib.Core.Logic.{◌⊎◌, inl, inr}
use mathlib.Core.Bool.{Bool, true, false, not, ◌&&◌, ◌||◌}
use mathlib.Core.List.{List, [], ◌∷◌, map, flatten}
use Prim.Native.Nat.{◌-◌, ◌*◌, ◌^◌, ◌<◌}
use native.Mathlib.Omega.{arith}
use native.Mathlib.Decide.{dec_lt}
use lib.Bits.{bit_or, or_zero_l, or_comm}
use borrow.Author.Tests.{lt-ltb, le-ltb}
use Rattle.base.specs.Lists.{pick, any_of, keep, ◌∈◌}
use Rattle.base.proofs.Tests.{holds_or_not, and_both, and_left, and_right, same_test, not_both}
use Rattle.base.proofs.Members.{any_in, in_any}
use Rattle.committee.specs.Committee.{AuthorityIndex, Committee, total_stake, is_quorum}
use Rattle.committee_set.specs.AuthoritySet.{AuthoritySet, nobody, inserted, united, set_of, stake_of}
use Rattle.committee_set.proofs.Words.{united_nobody, nobody_united}
use Rattle.committee_set.proofs.Votes.{stake_nobody}
use Rattle.record_spec.specs.Reference.{TransactionLocator}
use Rattle.record_spec.specs.Block.{Block, author}
use Rattle.store_spec.proofs.Stored.{WellStored, fresh, stored}
use Rattle.final_spec.specs.Voters.{certifies, certifiers, is_final}
use Rattle.base.proofs.Lists.{keep_same}
use Rattle.index_spec.specs.Runs.{Run, run, run_covers, votes_at, voters_in}
use Rattle.index_spec.specs.Part.{RunsOf, part_in}
use Rattle.index_spec.specs.Index.{indexed}
use Rattle.index_spec.specs.Certified.{part_certifies, quorum_run, author_run, certifying_runs, certified}
use Rattle.index_spec.proofs.Sets.{united_self}
use Rattle.index_spec.proofs.Chain.{covered}
use Rattle.index_spec.proofs.Relation.{runs_chain, runs_told, in_chain, none_covers}
use Rattle.index_spec.proofs.Pointwise.{append_names}
use Rattle.index_spec.proofs.Ascending.{stretched_runs}
use Rattle.index_spec.proofs.Parts.{part_names, part_runs}
use Rattle.index_spec.proofs.Grown.{voters_stay}

module _ (c : Committee) (b : Block) (older : List Block) (new : (d : Block) → d ∈ older → d.reference ≡ b.reference → ⊥) (l : TransactionLocator) where
  -- older blocks certify as before
  pub older_certify : (d : Block) → d ∈ older → certifies c (b ∷ older) l d ≡ certifies c older l d
  unfolding certifies
  older_certify d m = rw (voters_stay b older new d m l)

  -- the part says whether the block certifies
  pub part_certifies_lem : part_certifies c b (part_in (b ∷ older) b.reference) l ≡ certifies c (b ∷ older) l b
  unfolding part_certifies certifies
  part_certifies_lem = rw (part_names (b ∷ older) l b.reference)

-- one author more, as a union
inserted_united : (v : AuthoritySet) (a : AuthorityIndex) → united (inserted nobody a) v ≡ inserted v a
unfolding inserted united
inserted_united v a = split (dec_lt a 64)
  where
    split : Dec (a < 64) → united (inserted nobody a) v ≡ inserted v a
    split (yes h) =
        let e : bit_or (bit_or 0 (2 ^ a)) v.low ≡ bit_or v.low (2 ^ a) = rw (or_zero_l (2 ^ a)) (or_comm (2 ^ a) v.low) in
        let f : bit_or 0 v.high ≡ v.high = or_zero_l v.high in
        rw (lt-ltb a 64 h) (λ i. record { low = e i; high = f i })
    split (no h) =
        let e : bit_or (bit_or 0 (2 ^ (a - 64))) v.high ≡ bit_or v.high (2 ^ (a - 64)) = rw (or_zero_l (2 ^ (a - 64))) (or_comm (2 ^ (a - 64)) v.high) in
        let f : bit_or 0 v.low ≡ v.low = or_zero_l v.low in
        rw (le-ltb a 64 (omega arith)) (λ i. record { low = f i; high = e i })

no_quorum : (c : Committee) → is_quorum c (stake_of c nobody) ≡ false
unfolding is_quorum stake_of
no_quorum c = rw (stake_nobody c 0, le-ltb (2 * total_stake c) 0 (omega arith))

module _ (c : Committee) (b : Block) (l : TransactionLocator) where
  -- the author, where a run with quorum covers the locator
  kept_names : (xs : List Run) → voters_in (map (author_run b) (keep (quorum_run c) xs)) l ≡ pick (any_of (λ x. run_covers x l && quorum_run c x) xs)
      (inserted nobody (author b)) nobody
  unfolding voters_in votes_at run_covers author_run run keep any_of
  kept_names [] = refl
  kept_names (x ∷ xs) = go (quorum_run c x) (kept_names xs)
    where
      whom : AuthoritySet
      whom = inserted nobody (author b)

      two : (t u : Bool) → united (pick t whom nobody) (pick u whom nobody) ≡ pick ((t && true) || u) whom nobody
      two true true = united_self whom
      two true false = united_nobody whom
      two false u = nobody_united (pick u whom nobody)

      one : (t u : Bool) → pick u whom nobody ≡ pick ((t && false) || u) whom nobody
      one true u = refl
      one false u = refl

      go : (q : Bool) → voters_in (map (author_run b) (keep (quorum_run c) xs)) l ≡ pick (any_of (λ z. run_covers z l && quorum_run c z) xs) whom nobody
          → voters_in (map (author_run b) (pick q (x ∷ keep (quorum_run c) xs) (keep (quorum_run c) xs))) l ≡ pick
          ((run_covers x l && q) || any_of (λ z. run_covers z l && quorum_run c z) xs) whom nobody
      go true ih = ap (united (votes_at (author_run b x) l)) ih ∙ two (run_covers x l) (any_of (λ z. run_covers z l && quorum_run c z) xs)
      go false ih = ih ∙ one (run_covers x l) (any_of (λ z. run_covers z l && quorum_run c z) xs)

  -- a run with quorum covers the locator exactly where the voters hold quorum
  quorum_covers : {f : TransactionLocator → AuthoritySet} (xs : List Run) → RunsOf f xs → any_of (λ x. run_covers x l && quorum_run c x) xs ≡ is_quorum c
      (stake_of c (voters_in xs l))
  unfolding quorum_run
  quorum_covers xs r =
      same_test _ _
      (λ h. forth (any_in (λ x. run_covers x l && quorum_run c x) xs h))
      (λ h. back h (holds_or_not (any_of (λ x. run_covers x l) xs)))
    where
      forth : ((x : Run) × (x ∈ xs) × (run_covers x l && quorum_run c x ≡ true)) → is_quorum c (stake_of c (voters_in xs l)) ≡ true
      forth x =
          ap (λ (v : AuthoritySet). is_quorum c (stake_of c v)) (in_chain x.0 xs (runs_chain xs r) x.1 l
          (covered x.0 l (and_left (run_covers x.0 l) _ x.2)))
          ∙ and_right (run_covers x.0 l) _ x.2

      back : is_quorum c (stake_of c (voters_in xs l)) ≡ true → (any_of (λ x. run_covers x l) xs ≡ true) ⊎ (any_of (λ x. run_covers x l) xs ≡ false)
          → any_of (λ x. run_covers x l && quorum_run c x) xs ≡ true
      back h (inl k) =
          let x = any_in (λ z. run_covers z l) xs k in
          in_any (λ z. run_covers z l && quorum_run c z) x.1
          (and_both (run_covers x.0 l) _ x.2
          (ap (λ (v : AuthoritySet). is_quorum c (stake_of c v)) (sym (in_chain x.0 xs (runs_chain xs r) x.1 l (covered x.0 l x.2))) ∙ h))
      back h (inr k) = absurd (not_both h (ap (λ (v : AuthoritySet). is_quorum c (stake_of c v)) (none_covers xs l k) ∙ no_quorum c))

  certifying_names : {f : TransactionLocator → AuthoritySet} (part : List Run) → RunsOf f part
      → voters_in (certifying_runs c b part) l ≡ pick (part_certifies c b part l) (inserted nobody (author b)) nobody
  unfolding certifying_runs part_certifies voters_in
  certifying_names part r = go b.marked
    where
      go : (t : Bool) → voters_in (pick t [] (map (author_run b) (keep (quorum_run c) part))) l ≡ pick (not t && is_quorum c (stake_of c (voters_in part l)))
          (inserted nobody (author b)) nobody
      go true = refl
      go false = kept_names part ∙ ap (λ (t : Bool). pick t (inserted nobody (author b)) nobody) (quorum_covers part r)

-- the runs of all blocks name the certifiers' authors
all_names : (c : Committee) (l : TransactionLocator) {bs : List Block} → WellStored bs
    → voters_in (flatten (map (λ x. certifying_runs c x.block x.runs) (indexed bs))) l ≡ set_of (map author (certifiers c bs l))
unfolding indexed certifiers keep set_of voters_in flatten
all_names c l fresh = refl
all_names c l (stored {b = b} {older = older} new found w) =
    append_names (certifying_runs c b (part_in (b ∷ older) b.reference)) (flatten (map (λ x. certifying_runs c x.block x.runs) (indexed older))) l
    ∙ ap (λ (v : AuthoritySet). united v (voters_in (flatten (map (λ x. certifying_runs c x.block x.runs) (indexed older))) l))
    (certifying_names c b l (part_in (b ∷ older) b.reference) (part_runs (b ∷ older) b.reference))
    ∙ ap (united (pick (part_certifies c b (part_in (b ∷ older) b.reference) l) (inserted nobody (author b)) nobody)) (all_names c l w)
    ∙ ap (λ (t : Bool). united (pick t (inserted nobody (author b)) nobody) (set_of (map author (keep (certifies c older l) older))))
    (part_certifies_lem c b older new l)
    ∙ go (certifies c (b ∷ older) l b)
    ∙ ap (λ (ds : List Block). set_of (map author (pick (certifies c (b ∷ older) l b) (b ∷ ds) ds)))
    (sym (keep_same (certifies c (b ∷ older) l) (certifies c older l) older (older_certify c b older new l)))
  where
    go : (t : Bool) → united (pick t (inserted nobody (author b)) nobody) (set_of (map author (keep (certifies c older l) older)))
        ≡ set_of (map author (pick t (b ∷ keep (certifies c older l) older) (keep (certifies c older l) older)))
    go true = inserted_united (set_of (map author (keep (certifies c older l) older))) (author b)
    go false = nobody_united (set_of (map author (keep (certifies c older l) older)))

-- in the longest stretches
pub certified_runs : (c : Committee) {bs : List Block} → WellStored bs → RunsOf (λ l. set_of (map author (certifiers c bs l))) (certified c (indexed bs))
unfolding certified
certified_runs c {bs} w = stretched_runs (λ l. set_of (map author (certifiers c bs l)))
    (flatten (map (λ x. certifying_runs c x.block x.runs) (indexed bs))) (λ l. all_names c l w)

-- so a locator is final exactly where these runs name quorum
pub certified_final : (c : Committee) {bs : List Block} → WellStored bs → (l : TransactionLocator) → is_final c bs l ≡ is_quorum c
    (stake_of c (voters_in (certified c (indexed bs)) l))
unfolding is_final
certified_final c {bs} w l = ap (λ (v : AuthoritySet). is_quorum c (stake_of c v)) (sym (runs_told (certified c (indexed bs)) (certified_runs c w) l))
