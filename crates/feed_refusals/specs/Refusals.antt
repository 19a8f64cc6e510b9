-- The refusals of a feed that stand before those about memory, for a host that lends memory of the wrong size. Assumes nothing: these are definitions.
use Rattle.std.specs.Prelude.{ℕ, List, ◌++◌}
use Rattle.base.specs.Le.{Bytes}
use Rattle.base.specs.Checks.{Check}
use Rattle.committee.specs.Committee.{Committee}
use Rattle.store_spec.specs.Layout.{read_record}
use Rattle.feed_spec.specs.Pending.{pending_checks}
use Rattle.feed_spec.specs.Feed.{rule_checks}

-- 01: "Feeding checks 5, 10, 11, .. 20 to 30": all that come before 15, but for 12
unfoldable pub early_checks : Committee → Bytes → List ℕ → Bytes → List Check
early_checks c s t bytes = pending_checks c s t ++ rule_checks c s (read_record bytes)
