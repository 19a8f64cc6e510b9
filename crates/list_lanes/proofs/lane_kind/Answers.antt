use borrow.Author.Tests.{lt-ltb, le-ltb}
use Rattle.list_lanes.specs.Lanes.{lane_kind}
use Rattle.list_lanes.proofs.lane_kind.Goals as goal

pub returns-then-lane-lt1024 : goal.returns-then-lane-lt1024
unfolding lane_kind
returns-then-lane-lt1024 c = rw (lt-ltb c.args.lane 1024 c.if-lane-lt1024.true)

pub returns-then-lane-lt2048 : goal.returns-then-lane-lt2048
unfolding lane_kind
returns-then-lane-lt2048 c = rw (le-ltb c.args.lane 1024 c.if-lane-lt1024.false, lt-ltb c.args.lane 2048 c.if-lane-lt2048.true)

pub returns : goal.returns
unfolding lane_kind
returns c = rw (le-ltb c.args.lane 1024 c.if-lane-lt1024.false, le-ltb c.args.lane 2048 c.if-lane-lt2048.false)
