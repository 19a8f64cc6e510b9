-- Rounds decide first. Assumes nothing.
use mathlib.Core.Path.{◌≡◌}
use mathlib.Core.Bool.{false}
use Prim.Native.Nat.{◌<◌}
use native.Mathlib.Omega.{arith}
use borrow.Author.Tests.{ne_eqb, le-ltb}
use Rattle.record_spec.specs.Reference.{TransactionLocator, reference_key, same_reference, reference_before, locator_before}
use Rattle.base.specs.Lists.{same, before}

pub higher_round : (l m : TransactionLocator) → m.block.round < l.block.round → locator_before l m ≡ false
unfolding locator_before reference_before same_reference reference_key before same
higher_round l m h = rw (le-ltb l.block.round m.block.round (omega arith), ne_eqb l.block.round m.block.round (λ e. omega arith))
