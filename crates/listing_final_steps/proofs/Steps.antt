-- As many stretches as there is room for. Assumes nothing.
use mathlib.Core.Path.{◌≡◌, refl, ap, ◌∙◌}
use mathlib.Core.Bool.{Bool, true, false}
use mathlib.Core.List.{List, [], ◌∷◌}
use mathlib.Core.Option.{Option, none, some}
use Prim.Native.Nat.{ℕ, zero, suc, ◌*◌, ◌/◌, ◌≤◌}
use native.Mathlib.Omega.{arith}
use lib.ListN.{length}
use Rattle.base.specs.Lists.{pick}
use Rattle.base.specs.Le.{Bytes}
use Rattle.base.specs.Checks.{Check, refusal, passes, refused, answered, checked}
use Rattle.committee.specs.Committee.{Committee}
use Rattle.record_spec.specs.Reference.{TransactionLocator}
use Rattle.record_spec.specs.Block.{Block}
use Rattle.final_spec.specs.Finality.{blocks_of}
use Rattle.final_spec.specs.NextFinal.{next_final_checks}
use Rattle.list_stretches_spec.specs.Stretches.{Listing, stretch_at, last_locator, from_found, stretches}
use Rattle.list_stretches_spec.specs.Bulk.{Given, given_after, stretch_room, list_stretches}
use Rattle.listing_final_steps.specs.Steps.{given_by}

few_stretches : (c : Committee) (bs : List Block) (k : Listing) (n : ℕ) (after : Option TransactionLocator) → length (stretches c bs k n after) ≤ n
unfolding stretches from_found
few_stretches c bs k zero after = omega arith
few_stretches c bs k (suc n) after = go (few_stretches c bs k n) (k.next after)
  where
    go : ((a : Option TransactionLocator) → length (stretches c bs k n a) ≤ n) → (o : Option TransactionLocator)
        → length (from_found o λ l. stretch_at c bs k l ∷ stretches c bs k n (some (last_locator (stretch_at c bs k l)))) ≤ suc n
    go others none = omega arith
    go others (some l) = omega (arith, others (some (last_locator (stretch_at c bs k l))))

pub few_given : (c : Committee) (s : Bytes) (k : Listing) (out : Bytes) (after : Option TransactionLocator) → 80 * (given_by
    (list_stretches c s k out after).answer).stretches ≤ length out
unfolding list_stretches given_after given_by checked
few_given c s k out after = go (passes (next_final_checks c s))
  where
    go : (t : Bool)
        → 80 * (given_by (pick t (answered (given_after k after (stretches c (blocks_of s) k (stretch_room out) after)))
        (refused (refusal (next_final_checks c s))))
        ).stretches ≤ length out
    go true = omega (arith, few_stretches c (blocks_of s) k (stretch_room out) after)
    go false = omega arith
