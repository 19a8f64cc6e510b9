-- The least final locator after a given one, and the final list. Assumes nothing: these are definitions.
use Rattle.std.specs.Prelude.{◌+◌, ◌≡◌, Bool, true, false, not, ◌&&◌}
use mathlib.Core.List.{List, [], ◌∷◌, ◌++◌, map, flatten}
use Rattle.std.proofs.Math.Option.{Option, none, some}
use Rattle.base.specs.Lists.{pick, keep}
use Rattle.base.specs.Le.{Bytes}
use Rattle.base.specs.Checks.{Check, ◌⇒◌, Answer, answered, checked}
use Rattle.committee.specs.Committee.{Committee, broken}
use Rattle.record_spec.specs.Reference.{TransactionLocator, locator, same_locator, locator_before, locators}
use Rattle.record_spec.specs.Block.{Block, spans}
use Rattle.store_spec.specs.Store.{store_in_order}
use Rattle.final_spec.specs.Voters.{is_final}
use Rattle.final_spec.specs.Finality.{blocks_of}

-- after the given locator; every locator is after none
unfoldable pub is_after : Option TransactionLocator → TransactionLocator → Bool
is_after none l = true
is_after (some m) l = locator_before m l

-- 01: "the least final locator after a given one, or from the start, or none": what that means, of whatever is asked of a locator
pub data LeastOf (test : TransactionLocator → Bool) (after : Option TransactionLocator) : Option TransactionLocator → Type 0 where
  least : (l : TransactionLocator) → test l ≡ true → is_after after l ≡ true
      → ((m : TransactionLocator) → test m ≡ true → is_after after m ≡ true → locator_before m l ≡ false)
      → LeastOf test after (some l)
  nothing : ((m : TransactionLocator) → is_after after m ≡ true → test m ≡ false) → LeastOf test after none

abbrev pub LeastFinal : Committee → List Block → Option TransactionLocator → Option TransactionLocator → Type 0
LeastFinal c bs = LeastOf (is_final c bs)

-- ---- the same, computed: only where a vote begins, or just after the given locator, can the least one stand

unfoldable pub just_after : Option TransactionLocator → List TransactionLocator
just_after none = []
just_after (some m) = locator m.block (m.offset + 1) ∷ []

unfoldable pub candidates : List Block → Option TransactionLocator → List TransactionLocator
candidates bs after = just_after after ++ flatten (map (λ b. map (λ r. locator r.block r.start) (spans b)) bs)

unfoldable pub lesser_locator : TransactionLocator → Option TransactionLocator → Option TransactionLocator
lesser_locator l none = some l
lesser_locator l (some m) = pick (locator_before l m) (some l) (some m)

unfoldable pub least_locator : List TransactionLocator → Option TransactionLocator
least_locator [] = none
least_locator (l ∷ ls) = lesser_locator l (least_locator ls)

unfoldable pub least_final : Committee → List Block → Option TransactionLocator → Option TransactionLocator
least_final c bs after = least_locator (keep (λ l. is_after after l && is_final c bs l) (candidates bs after))

-- 01: "Queries check 5, 10"
unfoldable pub next_final_checks : Committee → Bytes → List Check
next_final_checks c s = (broken c ⇒ 5) ∷ (not (store_in_order c s) ⇒ 10) ∷ []

unfoldable pub next_final : Committee → Bytes → Option TransactionLocator → Answer (Option TransactionLocator)
next_final c s after = checked (next_final_checks c s) (least_final c (blocks_of s) after)

-- 01: "asked on from the start until none, it gives the final list": what a question for the next one gives, asked on after a locator
pub data AskedOf (next : Option TransactionLocator → Answer (Option TransactionLocator)) : Option TransactionLocator → List TransactionLocator → Type 0 where
  done : {after : Option TransactionLocator} → next after ≡ answered none → AskedOf next after []
  onward : {after : Option TransactionLocator} {l : TransactionLocator} {ls : List TransactionLocator}
      → next after ≡ answered (some l) → AskedOf next (some l) ls → AskedOf next after (l ∷ ls)

abbrev pub AskedOn : Committee → Bytes → Option TransactionLocator → List TransactionLocator → Type 0
AskedOn c s = AskedOf (next_final c s)

abbrev pub FinalList : Committee → Bytes → List TransactionLocator → Type 0
FinalList c s ls = AskedOn c s none ls

-- ---- the final list, computed

-- a locator put among locators in ascending order, once
unfoldable pub placed_locator : TransactionLocator → List TransactionLocator → List TransactionLocator
placed_locator l [] = l ∷ []
placed_locator l (m ∷ ms) =
    pick (locator_before l m) (l ∷ m ∷ ms)
    (pick (same_locator l m) (m ∷ ms) (m ∷ placed_locator l ms))

unfoldable pub ascending_locators : List TransactionLocator → List TransactionLocator
ascending_locators [] = []
ascending_locators (l ∷ ls) = placed_locator l (ascending_locators ls)

-- every final locator, ascending: those that are final among all for which a stored block votes
unfoldable pub final_list : Committee → List Block → List TransactionLocator
final_list c bs = keep (is_final c bs) (ascending_locators (flatten (map (λ b. flatten (map locators (spans b))) bs)))
