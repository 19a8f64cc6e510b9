use borrow.Author.Tests.{lt-ltb, le-ltb}
use Rattle.list_lanes.specs.Lanes.{wants_lane}
use Rattle.list_lanes.proofs.wants_lane.Goals as goal

pub returns-then-lane-lt1024 : goal.returns-then-lane-lt1024
unfolding wants_lane
returns-then-lane-lt1024 c = rw (lt-ltb c.args.lane 1024 c.if-lane-lt1024.true)

pub returns-then-lane-lt2048 : goal.returns-then-lane-lt2048
unfolding wants_lane
returns-then-lane-lt2048 c = rw (
  le-ltb c.args.lane 1024 c.if-lane-lt1024.false,
  lt-ltb c.args.lane 2048
      c.if-lane-lt2048.true,
) c.wants_rejects.ensures

pub returns : goal.returns
unfolding wants_lane
returns c = rw (
  le-ltb c.args.lane 1024 c.if-lane-lt1024.false,
  le-ltb c.args.lane 2048
      c.if-lane-lt2048.false,
) c.wants_shares.ensures
