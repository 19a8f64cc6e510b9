use native.Mathlib.Omega.{arith}
use Rattle.listing_events.proofs.Events.{put_start, put_next, put_all}
use Rattle.listing_events.proofs.put_events.Goals as goal

named_wrote_processed_value : {P0 P1 : Type 0} → P0 × P1 → record { wrote : P0; processed_value : P1 }
named_wrote_processed_value p = record { wrote = p.0; processed_value = p.1 }

pub loop-j-init : goal.loop-j-init
loop-j-init c = (put_start _ _ _, omega arith)

pub overflow_add-processed : goal.overflow_add-processed
overflow_add-processed c = omega (
  arith,
  (put_next c.loop-j.invariant.0
      c.put_event-at.ensures c.one_if_processed-processed.ensures).few,
)

pub loop-j-preserved : goal.loop-j-preserved
loop-j-preserved c = (
  put_next c.loop-j.invariant.0
      c.put_event-at.ensures c.one_if_processed-processed.ensures,
  omega arith,
)

pub shape_of-out : goal.shape_of-out
shape_of-out c = c.loop-j.invariant.0.long

pub returns : goal.returns
returns c = named_wrote_processed_value (put_all c.loop-j.invariant.0 (omega arith))
