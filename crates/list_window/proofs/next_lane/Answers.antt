use mathlib.Core.Path.{sym, ◌∙◌}
use Rattle.types.specs.Values.{as_maybe}
use Rattle.list_lanes.proofs.Lanes.{unwanted_lane, lane_of}
use Rattle.list_window.proofs.Entering.{lane_none}
use Rattle.list_window.proofs.next_lane.Goals as goal

pub returns-then-not-wants_lane : goal.returns-then-not-wants_lane
returns-then-not-wants_lane c = let a = c.args in
    rw (unwanted_lane a.wanted a.store.now a.order.now a.lane (sym c.wants_lane.ensures ∙ c.if-not-wants_lane.true))
    (lane_none a.store.now (as_maybe a.last) a.edges.now a.window a.lane)

pub next_block-requires : goal.next_block-requires
next_block-requires c = c.requires.1

pub returns : goal.returns
returns c = let o = c in
    let a = o.args in
    rw (lane_of a.wanted a.store.now a.order.now a.lane
    (sym c.wants_lane.ensures ∙ c.if-not-wants_lane.false) o.requires.0) c.next_block.ensures
