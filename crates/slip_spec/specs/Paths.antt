-- Paths of include places: where they lead, and the shortest one to a vote. Assumes nothing: these are definitions.
use Rattle.std.specs.Prelude.{ℕ, zero, suc, Bool, List, [], ◌∷◌, map, ltb, eqb, get_or}
use Rattle.std.proofs.Math.Option
use Rattle.std.proofs.Math.Option.{Option, none, some}
use Rattle.std.proofs.Math.ListN.{get_elem?}
use Rattle.base.specs.Lists.{pick, find, holds}
use Rattle.record_spec.specs.Reference.{BlockReference, same_reference}
use Rattle.record_spec.specs.Block.{Block}
use Rattle.record_spec.specs.Record.{no_reference, no_block}

-- the block of a reference
unfoldable pub named : List Block → BlockReference → Option Block
named bs r = find (λ b. same_reference b.reference r) bs

-- where a path leads: to a block; past the end of a block's includes; or to a block that is not among those given
pub data Led : Type 0 where
  to_block : Block → Led
  nowhere : Led
  not_given : Led

-- on from a block that a path reaches
unfoldable pub on_from : (Block → Led) → Option Block → Led
on_from f none = not_given
on_from f (some b) = f b

-- on from an include
unfoldable pub on_by : List Block → (Block → Led) → Option BlockReference → Led
on_by bs f none = nowhere
on_by bs f (some r) = on_from f (named bs r)

-- 02: "path of include places (1 each)": where it leads from a block
unfoldable pub leads : List Block → List ℕ → Block → Led
leads bs [] b = to_block b
leads bs (p ∷ ps) b = on_by bs (leads bs ps) (get_elem? b.includes p)

-- ---- the shortest path to a vote, and the first of these

-- the lesser of two distances, either of which may be none
unfoldable pub lesser_distance : Option ℕ → Option ℕ → Option ℕ
lesser_distance none o = o
lesser_distance (some m) none = some m
lesser_distance (some m) (some n) = pick (ltb n m) (some n) (some m)

unfoldable pub least_distance : List (Option ℕ) → Option ℕ
least_distance [] = none
least_distance (o ∷ os) = lesser_distance o (least_distance os)

-- how many includes the nearest vote is away from the block of a reference: as in `voters`, includes stand later in the list
unfoldable pub distance : (Block → Bool) → List Block → BlockReference → Option ℕ
distance votes [] r = none
distance votes (b ∷ older) r =
    pick (same_reference b.reference r)
    (pick (votes b) (some 0) (Option.map suc (least_distance (map (distance votes older) b.includes))))
    (distance votes older r)

-- that many includes away
unfoldable pub is_away : ℕ → Option ℕ → Bool
is_away n o = holds (λ m. eqb m n) o

-- the place of the first element of which the test holds; past the end where there is none
unfoldable pub first_place : {A : Type 0} → (A → Bool) → List A → ℕ
first_place p [] = 0
first_place p (x ∷ xs) = pick (p x) 0 (suc (first_place p xs))

-- 02: "by the shortest, then first, path": n steps, each to the first include whose distance is one less
unfoldable pub steps_from : (Block → Bool) → List Block → ℕ → Block → List ℕ
steps_from votes bs zero b = []
steps_from votes bs (suc n) b =
    let p : ℕ = first_place (λ i. is_away n (distance votes bs i)) b.includes in
    p ∷ steps_from votes bs n (Option.get_or (named bs (get_or b.includes p no_reference)) no_block)

unfoldable pub path_to : (Block → Bool) → List Block → Block → List ℕ
path_to votes bs b = steps_from votes bs (Option.get_or (distance votes bs b.reference) 0) b
