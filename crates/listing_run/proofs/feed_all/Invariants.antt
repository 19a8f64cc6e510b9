use Rattle.std.proofs.Common.{◌≡◌, ◌+◌, ◌-◌, ◌*◌, ◌≤◌, length}
use Rattle.listing_feed_steps.specs.Feeds.{engine, FedFrom}
use Rattle.listing_run.proofs.feed_all.Given as goal

abbrev pub invariant-loop-turn : goal.invariant-loop-turn
invariant-loop-turn g l =
    ((l.fed.number ≤ l.turn + 1) × ((l.fed.accepted ≤ l.fed.number) × ((l.fed.refused ≤ l.fed.number) × (l.fed.processed ≤ 2730 * l.fed.number))))
    × FedFrom l.stakes (engine l.initial.store l.initial.table) l.store l.table
