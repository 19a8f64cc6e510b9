use mathlib.Core.Path.{refl, sym, ap, subst, ◌∙◌}
use Prim.Native.Nat.{◌+◌, ◌*◌, ◌≤◌}
use native.Mathlib.Omega.{arith}
use lib.ListN.{length, get_or, length-drop, length-append}
use Rattle.index_spec.specs.Index.{part_words}
use Rattle.index_spec.proofs.Reading.{part_length}
use Rattle.index_runs.specs.Values.{as_run, as_maybe, as_place}
use Rattle.index_parts.specs.Parts.{StandsOn, Compared}
use Rattle.index_strides.proofs.Words.{part_inside, part_count}
use Rattle.index_parts.proofs.Held.{holding_start, holding_on, holding_differs, holding_end, holding_more}
use Rattle.index_parts.proofs.part_end.Goals as goal

pub returns-then-index-at : goal.returns-then-index-at
unfolding Compared
returns-then-index-at c = λ xs r rest e. omega (
  arith,
  part_inside c.args.index.now c.args.at
      xs rest e,
  c.if-index-at.true,
)

pub returns-then-room-index : goal.returns-then-room-index
unfolding Compared
returns-then-room-index c = λ xs r rest e.
    let a = c.args in
    omega (
      arith,
      c.if-room-index.true,
      part_count a.index.now a.at xs rest e,
      length-drop a.at a.index.now,
      ap length e,
      length-append (part_words xs)
          rest,
      part_length xs,
    )

pub loop-spot-init : goal.loop-spot-init
unfolding as_place
loop-spot-init c =
    let a = c.args in
    let k = c.requires in
    (k.room.0, holding_start a.own.now a.mine.now a.index.now a.n a.cursors.now _ a.at k.sources.0 k.sources.1 refl refl refl)

pub stand_on-stood-requires : goal.stand_on-stood-requires
stand_on-stood-requires c =
    let a = c.args in
    let g = c.loop-spot in
    let room : a.at + 1 + 10 * get_or a.index.now a.at 0 ≤ length a.index.now = omega (
      arith,
      c.if-room-index.false,
      c.if-index-at.false,
    ) in
    let h = g.invariant.1 in
    let s = h.held.standing in record {
      sources = (s.ready, s.own_ready);
      room = (
        (omega (arith, c.loop-spot-test.true), omega (arith, room, h.pos, h.left)),
        (
          g.invariant.0 ∙ sym s.long,
          s.own_long ∙ c.requires.room.1,
        ),
      );
    }

pub returns-in_default : goal.returns-in_default
unfolding StandsOn
returns-in_default c = λ xs r.
    let a = c.args in
    let g = c.loop-spot in
    let room : a.at + 1 + 10 * get_or a.index.now a.at 0 ≤ length a.index.now = omega (
      arith,
      c.if-room-index.false,
      c.if-index-at.false,
    ) in
    let m = c.stand_on-stood in
    let w = subst (StandsOn a.own.now g.mine m.new.mine a.index.now a.n g.cursors m.new.cursors g.spot)
    c.in_default.is m.ensures in
    holding_differs a.own.now a.mine.now g.mine a.index.now a.n a.cursors.now g.cursors g.spot a.at g.invariant.1 room
    (omega (arith, c.loop-spot-test.true)) w xs r

pub loop-spot-smaller : goal.loop-spot-smaller
unfolding StandsOn
loop-spot-smaller c =
    let a = c.args in
    let g = c.loop-spot in
    let room : a.at + 1 + 10 * get_or a.index.now a.at 0 ≤ length a.index.now = omega (
      arith,
      c.if-room-index.false,
      c.if-index-at.false,
    ) in
    let m = c.stand_on-stood in
    let w = subst (StandsOn a.own.now g.mine m.new.mine a.index.now a.n g.cursors m.new.cursors g.spot)
    c.in-Some.is m.ensures in
    omega (arith, w.left)

pub loop-spot-preserved : goal.loop-spot-preserved
unfolding StandsOn
loop-spot-preserved c =
    let a = c.args in
    let g = c.loop-spot in
    let room : a.at + 1 + 10 * get_or a.index.now a.at 0 ≤ length a.index.now = omega (
      arith,
      c.if-room-index.false,
      c.if-index-at.false,
    ) in
    let m = c.stand_on-stood in
    let w = subst (StandsOn a.own.now g.mine m.new.mine a.index.now a.n g.cursors m.new.cursors g.spot)
    c.in-Some.is m.ensures in (
      c.ahead-1.given ∙ g.invariant.0,
      holding_on a.own.now a.mine.now g.mine a.index.now a.n
          a.cursors.now g.cursors g.spot a.at g.invariant.1 room _ m.new.mine m.new.cursors w
          (λ i. omega (
            arith,
            c.shared_slice_known-1.given i,
          )),
    )

pub next_piece-next-requires : goal.next_piece-next-requires
next_piece-next-requires c = let s = c.loop-spot.invariant.1.held.standing in (s.ready, s.own_ready)

pub returns-in_default-next : goal.returns-in_default-next
unfolding as_maybe
returns-in_default-next c = λ xs r.
    let a = c.args in
    let g = c.loop-spot in
    let room : a.at + 1 + 10 * get_or a.index.now a.at 0 ≤ length a.index.now = omega (
      arith,
      c.if-room-index.false,
      c.if-index-at.false,
    ) in
    holding_end a.own.now a.mine.now g.mine a.index.now a.n a.cursors.now g.cursors g.spot a.at g.invariant.1 room
    (omega (arith, c.loop-spot-test.false))
    (as_maybe c.next_piece-next.result)
    c.next_piece-next.ensures.piece_or (ap as_maybe c.in_default-next.is) xs r

pub returns : goal.returns
unfolding as_maybe
returns c = λ xs r.
    let a = c.args in
    let g = c.loop-spot in
    let room : a.at + 1 + 10 * get_or a.index.now a.at 0 ≤ length a.index.now = omega (
      arith,
      c.if-room-index.false,
      c.if-index-at.false,
    ) in
    holding_more a.own.now a.mine.now g.mine a.index.now a.n a.cursors.now g.cursors g.spot a.at g.invariant.1 room
    (omega (arith, c.loop-spot-test.false))
    (as_maybe c.next_piece-next.result)
    c.next_piece-next.ensures.piece_or (as_run c.in-Some-next.field-0)
    (ap as_maybe c.in-Some-next.is) xs r
