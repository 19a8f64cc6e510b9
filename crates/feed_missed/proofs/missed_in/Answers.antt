use mathlib.Core.Path.{ap, ◌∙◌}
use mathlib.Core.Bool.{Bool}
use Prim.Native.Nat.{◌-◌}
use native.Mathlib.Omega.{arith}
use Rattle.base.specs.Lists.{pick}
use Rattle.pending_question.proofs.Offsets.{placed_first, placed_later}
use Rattle.feed_missed.proofs.Telling.{telling_start, telling_long, telling_on, telling_end}
use Rattle.feed_missed.proofs.missed_in.Goals as goal

pub first_statement-cursor-requires : goal.first_statement-cursor-requires
first_statement-cursor-requires c = c.requires.0

pub loop-o-init : goal.loop-o-init
loop-o-init c = (telling_start _ _ _ _ _ _ c.requires.1, placed_first _ _ _ c.first_statement-cursor.ensures)

pub share_at-found-requires : goal.share_at-found-requires
share_at-found-requires c = (c.requires.0, c.loop-o.invariant.1)

pub put_event-requires : goal.put_event-requires
put_event-requires c =
    let l = c in
    let o = c in
    omega (
      arith,
      telling_long _ _ _ _ _ _ _ _ _ l.loop-o.invariant.0,
      l.loop-o.invariant.0.many,
      l.loop-o.invariant.0.from,
      c.loop-o-test.true,
      o.requires.2,
    )

pub overflow_add-k : goal.overflow_add-k
overflow_add-k c =
    let l = c in
    omega (
      arith,
      l.loop-o.invariant.0.many,
      l.loop-o.invariant.0.from,
      c.loop-o-test.true,
      c.requires.2,
    )

pub loop-o-preserved : goal.loop-o-preserved
loop-o-preserved c =
    let l = c in
    let kind = c.missed_kind.ensures ∙ ap (λ (z : Bool). pick z 2 3)
    c.share_at-found.ensures.0 in (
      telling_on _ _ _ _ _ _ _ _ _ _ _ l.loop-o.invariant.0 c.loop-o-test.true kind
          c.put_event.ensures,
      placed_later _ _ _ _ (omega arith) c.share_at-found.ensures.1,
    )

pub shape_of-events : goal.shape_of-events
shape_of-events c = telling_long _ _ _ _ _ _ _ _ _ c.loop-o.invariant.0

pub returns : goal.returns
returns c = telling_end _ _ _ _ _ _ _ _ _ c.loop-o.invariant.0 c.loop-o-test.false
