-- The pending question. Assumes nothing: these are definitions.
use Rattle.std.specs.Prelude.{ℕ, not, List, [], ◌∷◌}
use Rattle.std.proofs.Math.Option.{Option, none, some}
use Rattle.base.specs.Lists.{pick}
use Rattle.base.specs.Le.{Bytes}
use Rattle.base.specs.Checks.{Check, ◌⇒◌, refusal, passes, Answer, refused, answered}
use Rattle.committee.specs.Committee.{Committee, Stake, broken}
use Rattle.committee_set.specs.AuthoritySet.{number_of_voters}
use Rattle.record_spec.specs.Reference.{TransactionLocator}
use Rattle.store_spec.specs.Layout.{entries, position_of, lookup}
use Rattle.store_spec.specs.Store.{records_of, store_in_order}
use Rattle.pending_spec.specs.Items.{Item, item_at}
use Rattle.pending_spec.specs.Table.{items_of, table_in_order}

-- 01: "Asking for a pending locator gives its stake and its number of voters"
pub record Standing : Type 0 where
  pub stake : Stake
  pub voters : ℕ

-- 01: "Queries check 5, 10, 11 (pending only), .."
unfoldable pub pending_checks : Committee → Bytes → List ℕ → List Check
pending_checks c s t =
    (broken c ⇒ 5)
    ∷ (not (store_in_order c s) ⇒ 10)
    ∷ (not (table_in_order c (entries (records_of s)) t) ⇒ 11)
    ∷ []

-- 01: "or 42"
unfoldable pub standing_of : Option Item → Answer Standing
standing_of none = refused 42
standing_of (some x) = answered (record { stake = x.aggregator.stake; voters = number_of_voters x.aggregator.votes })

-- what stands at a locator, of a store and a table in order
unfoldable pub standing_at : Bytes → List ℕ → TransactionLocator → Answer Standing
standing_at s t l = standing_of (item_at (items_of t) (position_of (lookup (entries (records_of s)) l.block)) l.offset)

unfoldable pub pending : Committee → Bytes → List ℕ → TransactionLocator → Answer Standing
pending c s t l =
    pick (passes (pending_checks c s t)) (standing_at s t l) (refused (refusal (pending_checks c s t)))
