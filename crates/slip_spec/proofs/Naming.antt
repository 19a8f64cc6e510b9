-- The written slip names all certifiers and voters, and no others. Assumes nothing.
use mathlib.Core.Path.{◌≡◌, refl, subst}
use mathlib.Core.Bool.{true}
use mathlib.Core.List.{List, [], ◌∷◌, map}
use mathlib.Core.Option.{some}
use Prim.Native.Nat.{ℕ, suc, ◌<◌}
use native.Mathlib.Omega.{arith}
use lib.ListN.{get_elem?}
use borrow.Author.Tests.{eq-eqb}
use Rattle.base.specs.Lists.{count_from, ◌∈◌, here, there}
use Rattle.base.proofs.Tests.{and_both}
use Rattle.base.proofs.Members.{in_map, map_in, in_keep, keep_in, count_from_in}
use Rattle.committee.specs.Committee.{AuthorityIndex, Committee}
use Rattle.committee_set.specs.AuthoritySet.{AuthoritySet, member, members}
use Rattle.record_spec.specs.Reference.{TransactionLocator}
use Rattle.record_spec.specs.Block.{Block, author}
use Rattle.store_spec.proofs.Stored.{WellStored}
use Rattle.final_spec.specs.Ancestry.{Ancestor, itself, included, Voter}
use Rattle.final_spec.specs.Claims.{Stored}
use Rattle.final_spec.proofs.Ancestors.{ancestor_stored, descendant_stored}
use Rattle.final_spec.proofs.Votes.{for_votes}
use Rattle.final_spec.proofs.Claimed.{well_stored, small_authors}
use Rattle.final_readings_spec.specs.Readings.{Reading, old, withdrawing, voters_in, certifies_in, certifiers_in}
use Rattle.final_readings_spec.specs.Withdrawing.{VoterIn}
use Rattle.final_readings_spec.proofs.VotersIn.{voter_in_counted, counted_voter_in}
use Rattle.committee_set.proofs.Members.{in_members}
use Rattle.slip_spec.specs.Slip.{SlipVoter}
use Rattle.slip_spec.specs.Paths.{to_block, leads, path_to}
use Rattle.slip_spec.specs.Reading.{votes_as}
use Rattle.slip_spec.specs.Writing.{ascending_blocks, voter_of, certifier_of, ordered_certifiers, slip_for}
use Rattle.slip_spec.specs.Meaning.{LeadsToVote, ShortestThenFirst, NamesVoters, NamesCertifier, NamesAll}
use Rattle.slip_spec.proofs.Paths.{step_leads}
use Rattle.slip_spec.proofs.Distances.{named_stored, shortest_first}
use Rattle.slip_spec.proofs.Ordered.{in_ascending, ascending_in}

-- ---- voters and paths

place_of : {A : Type 0} {x : A} {xs : List A} → x ∈ xs → (p : ℕ) × (get_elem? xs p ≡ some x)
place_of here = (0, refl)
place_of (there m) = let r = place_of m in (suc r.0, r.1)

-- a path leads to every ancestor
pub ancestor_path : {bs : List Block} → WellStored bs → {d b : Block} → Ancestor bs d b → (ps : List ℕ) × (leads bs ps b ≡ to_block d)
unfolding leads
ancestor_path w (itself m) = ([], refl)
ancestor_path {bs} w {d = d} (included {b = b} {i = i} m k a) =
    let p = place_of k in
    let r = ancestor_path w a in (
      p.0 ∷ r.0,
      step_leads bs p.0 r.0 b d (record {
        include = i.reference;
        next = i;
        at = p.1;
        given = named_stored w i (descendant_stored a);
        onward = r.1;
      }),
    )

-- to the vote of every voter
pub voter_path : {bs : List Block} → WellStored bs → (l : TransactionLocator) (a : AuthorityIndex) (b : Block) → Voter bs b l a → (ps : List ℕ) × LeadsToVote
    (votes_as l a) bs ps b
unfolding votes_as
voter_path w l a b v =
    let p = ancestor_path w v.ancestor in (
      p.0,
      record {
        vote = v.voting;
        leading = p.1;
        voting = and_both _ _ (eq-eqb (author v.voting) a v.authored) (for_votes v.voting l v.votes);
      },
    )

-- ---- the written slip

pub listed_member : (v : AuthoritySet) (a : AuthorityIndex) → a ∈ members v → (a < 128) × (member v a ≡ true)
unfolding members
listed_member v a m = let k = keep_in (member v) (count_from 0 128) m in (let q = count_from_in 0 128 k.0 in omega (arith, q.1), k.1)

-- whoever votes in a reading votes in the old one
pub in_voter : (reading : Reading) {bs : List Block} {b : Block} {l : TransactionLocator} {a : AuthorityIndex} → VoterIn reading bs b l a → Voter bs b l a
in_voter old v = v
in_voter withdrawing v = v.0

module _ (reading : Reading) (c : Committee) (bs : List Block) (h : Stored c bs) (l : TransactionLocator) where
  well : WellStored bs
  well = well_stored c bs h

  module _ (b : Block) (m : b ∈ bs) where
    abbrev own : AuthoritySet
    own = voters_in reading bs l b.reference

    pub own_voter : (a : AuthorityIndex) → a ∈ members own → VoterIn reading bs b l a
    own_voter a k = counted_voter_in reading well l a b m (listed_member own a k).1

    pub own_path : (a : AuthorityIndex) → a ∈ members own → ShortestThenFirst (votes_as l a) bs b (path_to (votes_as l a) bs b)
    own_path a k = let p = voter_path well l a b (in_voter reading (own_voter a k)) in shortest_first (votes_as l a) bs well b m p.0 p.1

    names_voters : NamesVoters reading bs l b (map (voter_of bs l b) (members own))
    unfolding voter_of
    names_voters =
        record {
          every = λ a v. (
            voter_of bs l b a,
            in_map (voter_of bs l b) (in_members own a (small (in_voter reading v)) (voter_in_counted reading well l a b m v)),
            refl,
          );
          only = λ v k. let x = map_in (voter_of bs l b) (members own) k in subst (λ (y : SlipVoter). VoterIn reading bs b l y.author) x.2
              (own_voter x.0 x.1);
          paths = λ v k. let x = map_in (voter_of bs l b) (members own) k in subst
              (λ (y : SlipVoter). ShortestThenFirst (votes_as l y.author) bs b y.path) x.2 (own_path x.0 x.1);
        }
      where
        small : {a : AuthorityIndex} → Voter bs b l a → a < 128
        small v = rw (← v.authored) (small_authors c bs h v.voting (ancestor_stored v.ancestor))

  -- the certifiers, in ascending order
  pub certifier_in : (b : Block) → b ∈ ordered_certifiers reading c bs l → (b ∈ bs) × (certifies_in reading c bs l b ≡ true)
  unfolding ordered_certifiers
  certifier_in b m = let k = keep_in (certifies_in reading c bs l) (ascending_blocks bs) m in (ascending_in bs b k.0, k.1)

  pub in_certifiers : (b : Block) → b ∈ bs → certifies_in reading c bs l b ≡ true → b ∈ ordered_certifiers reading c bs l
  unfolding ordered_certifiers
  in_certifiers b m e = in_keep (certifies_in reading c bs l) (ascending_blocks bs) (in_ascending bs b m) e

  pub certifiers_in_lem : (b : Block) → b ∈ certifiers_in reading c bs l → b ∈ ordered_certifiers reading c bs l
  unfolding certifiers_in
  certifiers_in_lem b m = let k = keep_in (certifies_in reading c bs l) bs m in in_certifiers b k.0 k.1

  pub names_all : NamesAll c bs (slip_for reading c bs l)
  unfolding slip_for certifier_of
  names_all =
      record {
        every = λ b m e. (certifier_of reading bs l b, in_map (certifier_of reading bs l) (in_certifiers b m e), refl);
        only = λ k m.
            let x = map_in (certifier_of reading bs l) (ordered_certifiers reading c bs l) m in
            let i = certifier_in x.0 x.1 in
            subst (NamesCertifier reading c bs l) x.2 (record {
              block = x.0;
              stored = i.0;
              listed = refl;
              certifying = i.1;
              voters = names_voters x.0
                  i.0;
            });
      }
