-- Which ranges matter from a locator on, or all, up to a bound, where there is one. Assumes nothing: these are definitions.
use Rattle.std.specs.Prelude.{◌≡◌, Bool, false, not, ◌&&◌, ltb}
use Rattle.std.proofs.Math.Option.{Option, none, some}
use Rattle.record_spec.specs.Reference.{TransactionLocator, TransactionLocatorRange, locator, locator_before}
use Rattle.final_spec.specs.NextFinal.{is_after}
use Rattle.list_order.specs.Row.{is_after_best}

-- at the given locator or after it; every locator is after none
unfoldable pub From : Option TransactionLocator → TransactionLocator → Type 0
From none l = Unit {0}
From (some h) l = locator_before l h ≡ false

-- at the last locator or after it, and not after the bound
pub record Within (last bound : Option TransactionLocator) (l : TransactionLocator) : Type 0 where
  pub from : From last l
  pub short : is_after_best bound l ≡ false

-- a range that is not empty, ends after the last locator and does not start after the bound: no other one covers a locator within
unfoldable pub in_reach : Option TransactionLocator → Option TransactionLocator → TransactionLocatorRange → Bool
in_reach last bound q = ltb q.start q.end && (is_after last (locator q.block q.end) && not (is_after_best bound (locator q.block q.start)))
