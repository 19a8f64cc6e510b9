-- The least final locator after a given one, and the final list, in both readings. Assumes nothing: these are definitions.
use Rattle.std.specs.Prelude.{ℕ, ◌+◌, ◌&&◌}
use mathlib.Core.List.{List, [], ◌∷◌, ◌++◌, map, flatten}
use Rattle.std.proofs.Math.Option.{Option, none}
use Rattle.base.specs.Lists.{pick, keep}
use Rattle.base.specs.Le.{Bytes}
use Rattle.base.specs.Checks.{Answer, checked}
use Rattle.committee.specs.Committee.{Committee}
use Rattle.record_spec.specs.Reference.{BlockReference, TransactionLocator, locator, same_reference, locators}
use Rattle.record_spec.specs.Block.{Block, spans}
use Rattle.final_spec.specs.Finality.{blocks_of}
use Rattle.final_spec.specs.NextFinal.{is_after, LeastOf, candidates, least_locator, next_final_checks, AskedOf, ascending_locators}
use Rattle.final_readings_spec.specs.Rejecting.{rejections}
use Rattle.final_readings_spec.specs.Readings.{Reading, old, withdrawing, is_final_in}

-- 01: "the least final locator after a given one, or from the start, or none"
abbrev pub LeastFinalIn : Reading → Committee → List Block → Option TransactionLocator → Option TransactionLocator → Type 0
LeastFinalIn reading c bs = LeastOf (is_final_in reading c bs)

-- ---- the same, computed: only where a vote begins, just after the given locator, or just after a rejected one, can the least one stand

-- just after the locators that a block rejects
unfoldable pub after_rejections : Block → List TransactionLocator
after_rejections b = map (λ l. locator l.block (l.offset + 1)) (rejections b)

unfoldable pub candidates_in : Reading → List Block → Option TransactionLocator → List TransactionLocator
candidates_in old bs after = candidates bs after
candidates_in withdrawing bs after = candidates bs after ++ flatten (map after_rejections bs)

unfoldable pub least_final_in : Reading → Committee → List Block → Option TransactionLocator → Option TransactionLocator
least_final_in reading c bs after = least_locator (keep (λ l. is_after after l && is_final_in reading c bs l) (candidates_in reading bs after))

-- 02: "calls of its own for finality, both lists and slips", with the old one's checks: 5, 10
unfoldable pub next_final_in : Reading → Committee → Bytes → Option TransactionLocator → Answer (Option TransactionLocator)
next_final_in reading c s after = checked (next_final_checks c s) (least_final_in reading c (blocks_of s) after)

-- 01: "asked on from the start until none, it gives the final list"
abbrev pub AskedOnIn : Reading → Committee → Bytes → Option TransactionLocator → List TransactionLocator → Type 0
AskedOnIn reading c s = AskedOf (next_final_in reading c s)

abbrev pub FinalListIn : Reading → Committee → Bytes → List TransactionLocator → Type 0
FinalListIn reading c s ls = AskedOnIn reading c s none ls

-- every final locator, ascending: those that are final among all for which a stored block votes
unfoldable pub final_list_in : Reading → Committee → List Block → List TransactionLocator
final_list_in reading c bs = keep (is_final_in reading c bs) (ascending_locators (flatten (map (λ b. flatten (map locators (spans b))) bs)))

-- ---- where a stretch of the list in bulk is cut

-- where a reject of a locator of the block begins and ends; nothing of a reject of another block's
unfoldable pub reject_edges : List Block → BlockReference → List ℕ
reject_edges bs r = flatten (map (λ b. flatten (map (λ l. pick (same_reference l.block r) (l.offset ∷ (l.offset + 1) ∷ []) []) (rejections b))) bs)
