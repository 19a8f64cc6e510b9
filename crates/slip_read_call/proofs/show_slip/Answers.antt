use native.Mathlib.Omega.{arith}
use Rattle.base.proofs.Lists.{zeros_at}
use Rattle.slip_read_call.proofs.Answering.{known_all, shown_slip}
use Rattle.slip_read_body.proofs.Certifying.{head_long}
use Rattle.slip_read_call.proofs.show_slip.Goals as goal

pub read_locator-locator-requires : goal.read_locator-locator-requires
read_locator-locator-requires c = omega (arith, head_long c.args.slip.now c.requires.0.0)

pub named_reading-reading-requires : goal.named_reading-reading-requires
named_reading-reading-requires c = omega (
  arith,
  head_long c.args.slip.now
      c.requires.0.0,
)

pub note_lacking-requires : goal.note_lacking-requires
note_lacking-requires c = (
  c.requires.1.0,
  (c.requires.1.1, zeros_at 1024),
)

pub note_rejecters-requires : goal.note_rejecters-requires
note_rejecters-requires c = (
  c.requires.1.0,
  (omega (arith, c.requires.1.1), zeros_at 2048),
)

pub take_slip-requires : goal.take_slip-requires
take_slip-requires c =
    let p = c.requires in (
      p.0.0,
      record {
        sound = p.0.1.0;
        all = p.0.1.1;
        places = p.1.0.0;
        right = p.1.0.1;
        room = omega (arith, p.1.1, c.note_votes.auto.votes);
        lack_room = omega (arith, p.1.1, c.note_lacking.auto.lacking);
        reject_room = omega (arith, p.1.1, c.note_rejecters.auto.rejecting);
      },
    )

pub returns : goal.returns
returns c =
    let a = c.args in
    shown_slip _ a.slip.now a.records.now a.order.now _ _ _ c.take_slip.result
    (known_all a.slip.now a.records.now a.order.now _ _ _ _ _
    c.named_reading-reading.ensures
    c.read_locator-locator.ensures
    c.note_votes.ensures
    c.note_lacking.ensures
    c.note_rejecters.ensures)
    c.take_slip.ensures
