-- The claims about voters and finality: the computed answers are what the relations say. Assumes nothing.
use mathlib.Core.Path.{◌≡◌, sym, subst}
use mathlib.Core.Bool.{true}
use mathlib.Core.List.{List, [], ◌∷◌}
use Prim.Native.Nat.{◌<◌}
use native.Mathlib.Omega.{arith}
use Rattle.base.specs.Lists.{◌∈◌, here, there}
use Rattle.base.specs.Checks.{passes}
use Rattle.base.proofs.Tests.{and_left, and_right}
use Rattle.base.proofs.Members.{in_empty}
use Rattle.committee.specs.Committee.{Committee, known}
use Rattle.committee.proofs.Bounds.{few_members, known_below}
use Rattle.record_spec.specs.Block.{Block, author}
use Rattle.store_spec.specs.Layout.{Record}
use Rattle.store_spec.specs.Accept.{block_checks, all_accepted}
use Rattle.store_spec.proofs.Stored.{WellStored}
use Rattle.store_spec.proofs.Accepted.{blocks, known_author, accepted_stored}
use Rattle.final_spec.specs.Claims.{Stored, VotersMeant, VotersOfAncestry, FinalMeant, LeastFinalMeant, FinalListMeant}
use Rattle.final_spec.proofs.Ancestors.{ancestor_stored}
use Rattle.final_spec.proofs.Voters.{voters_iff, voters_equal}
use Rattle.final_spec.proofs.Finals.{final_iff}
use Rattle.final_spec.proofs.Candidates.{least_final_lem}
use Rattle.final_spec.proofs.Asked.{asked_on}

-- blocks accepted one after the other are well stored
pub well_stored : (c : Committee) (bs : List Block) → Stored c bs → WellStored bs
well_stored c bs h = subst WellStored (sym h.blocks) (accepted_stored c h.records h.accepted)

-- and their authors fit the two words
pub known_authors : (c : Committee) (rs : List Record) → all_accepted c rs ≡ true → (b : Block) → b ∈ blocks rs → known c (author b) ≡ true
unfolding all_accepted
known_authors c [] h b m = absurd (in_empty m)
known_authors c (r ∷ rs) h b here = known_author c rs b (and_left _ _ h)
known_authors c (r ∷ rs) h b (there m) = known_authors c rs (and_right (passes (block_checks c rs r.block)) _ h) b m

pub small_authors : (c : Committee) (bs : List Block) → Stored c bs → (b : Block) → b ∈ bs → author b < 128
small_authors c bs h b m =
    omega (
      arith,
      few_members c h.sound,
      known_below c (author b)
          (known_authors c h.records h.accepted b (subst (λ (ds : List Block). b ∈ ds) h.blocks m)),
    )

-- ---- the claims

pub voters_meant : VotersMeant
unfolding VotersMeant
voters_meant c bs h l b m a = voters_iff (well_stored c bs h) l a b m

pub voters_of_ancestry : VotersOfAncestry
unfolding VotersOfAncestry
voters_of_ancestry c d bs cs h k b m n f l =
    voters_equal (well_stored c bs h) (well_stored d cs k) (small_authors c bs h) (small_authors d cs k) b m (λ x y. ancestor_stored ((f x).0 y)) l

pub final_meant : FinalMeant
unfolding FinalMeant
final_meant c bs h l = final_iff c (well_stored c bs h) l

pub least_final_meant : LeastFinalMeant
unfolding LeastFinalMeant
least_final_meant c bs after = least_final_lem c bs after

pub final_list_meant : FinalListMeant
unfolding FinalListMeant
final_list_meant c s b h = asked_on c s b h
