-- The ordinary list: the final stored shares. Assumes nothing: these are definitions.
use Rattle.std.specs.Prelude.{Bool, ◌&&◌}
use mathlib.Core.List.{List, map, flatten}
use Rattle.std.proofs.Math.Option.{Option, none}
use Rattle.base.specs.Lists.{keep}
use Rattle.base.specs.Le.{Bytes}
use Rattle.base.specs.Checks.{Answer, checked}
use Rattle.committee.specs.Committee.{Committee}
use Rattle.record_spec.specs.Reference.{TransactionLocator}
use Rattle.record_spec.specs.Block.{Block}
use Rattle.final_spec.specs.Voters.{is_final}
use Rattle.final_spec.specs.Finality.{blocks_of}
use Rattle.final_spec.specs.NextFinal.{is_after, LeastOf, least_locator, next_final_checks, AskedOf, final_list}
use Rattle.store_spec.specs.Shares.{is_stored_share}
use Rattle.list_ordinary_spec.specs.Shares.{shares_of}

-- 02: "The ordinary listing shall show final locators that name a stored share"
unfoldable pub is_final_share : Committee → List Block → TransactionLocator → Bool
is_final_share c bs l = is_stored_share bs l && is_final c bs l

-- the least of them after a given locator, or from the start, or none: what that means
abbrev pub LeastFinalShare : Committee → List Block → Option TransactionLocator → Option TransactionLocator → Type 0
LeastFinalShare c bs = LeastOf (is_final_share c bs)

-- the same, computed: only a stored share can be it
unfoldable pub least_final_share : Committee → List Block → Option TransactionLocator → Option TransactionLocator
least_final_share c bs after = least_locator (keep (λ l. is_after after l && is_final c bs l) (flatten (map shares_of bs)))

-- the question, with the refusals of the wide one: 5, 10
unfoldable pub next_final_share : Committee → Bytes → Option TransactionLocator → Answer (Option TransactionLocator)
next_final_share c s after = checked (next_final_checks c s) (least_final_share c (blocks_of s) after)

-- what the question gives, asked on after a locator
abbrev pub SharesAskedOn : Committee → Bytes → Option TransactionLocator → List TransactionLocator → Type 0
SharesAskedOn c s = AskedOf (next_final_share c s)

-- the ordinary list: asked on from the start until none
abbrev pub FinalShareList : Committee → Bytes → List TransactionLocator → Type 0
FinalShareList c s ls = SharesAskedOn c s none ls

-- 02: "a second call keeps the wide list"; "the ordinary list adds being a stored share": the same, computed
unfoldable pub final_shares : Committee → List Block → List TransactionLocator
final_shares c bs = keep (is_stored_share bs) (final_list c bs)
