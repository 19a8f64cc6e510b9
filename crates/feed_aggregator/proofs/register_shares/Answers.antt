use mathlib.Core.Bool.{true}
use Rattle.committee.specs.Committee.{known}
use borrow.Author.Rules.{rules}
use mathlib.Core.Path.{◌≡◌, sym, ap, ◌∙◌, subst}
use Prim.Native.Nat.{ℕ, ◌-◌}
use native.Mathlib.Omega.{arith}
use Rattle.record_spec.specs.Reference.{BlockReference}
use Rattle.types.specs.Values.{as_reference}
use Rattle.record_shared_ranges.specs.Cursor.{runs_told, FurtherOn}
use Rattle.record_shared_ranges.proofs.Walk.{placed_index, placed}
use Rattle.feed_aggregator.proofs.Runs.{adding_start, adding_written, adding_on, adding_stop, adding_end}
use Rattle.feed_aggregator.proofs.register_shares.Goals as goal

pub reference-reference-requires : goal.reference-reference-requires
reference-reference-requires c = c.requires.formed

pub first_statement-cursor-requires : goal.first_statement-cursor-requires
first_statement-cursor-requires c = c.requires.formed

pub loop-run-init : goal.loop-run-init
loop-run-init c =
    let o = c in
    let r = o.args.rec.now in
    let e = c.first_statement-cursor.ensures in
    let z = placed_index r c.first_statement-cursor.result 0 e in
    (rw z (adding_start _ _ _ _ _ o.requires.table.0 o.requires.table.1), placed r c.first_statement-cursor.result 0 e, omega (arith, z))

pub next_shared_range-requires : goal.next_shared_range-requires
next_shared_range-requires c = (c.requires.formed, (c.loop-run.invariant.1, c.loop-run.invariant.2))

pub shape_of-table-in_default : goal.shape_of-table-in_default
shape_of-table-in_default c = let o = c in (adding_written _ _ _ _ _ o.requires.table.0
    o.requires.table.1 _ _ c.loop-run.invariant.0).long

pub returns-in_default : goal.returns-in_default
returns-in_default c = let o = c in adding_end _ _ _ _ _ o.requires.table.0
    o.requires.table.1 _ _ c.loop-run.invariant.0
    (c.next_shared_range.ensures.0 ∙ ap (runs_told _) c.in_default.is)

pub item_count-requires : goal.item_count-requires
item_count-requires c = let o = c in
    (adding_written _ _ _ _ _ o.requires.table.0 o.requires.table.1 _ _ c.loop-run.invariant.0).holds.laid

pub shape_of-table-then-room_of-item_count : goal.shape_of-table-then-room_of-item_count
shape_of-table-then-room_of-item_count c = let o = c in
    (adding_written _ _ _ _ _ o.requires.table.0 o.requires.table.1 _ _ c.loop-run.invariant.0
    ).long

pub returns-then-room_of-item_count : goal.returns-then-room_of-item_count
returns-then-room_of-item_count c =
    let o = c in
    adding_stop _ _ _ _ _ o.requires.table.0 o.requires.table.1 _ _ c.loop-run.invariant.0 _ (c.next_shared_range.ensures.0 ∙ ap (runs_told _)
    c.in-Some.is)
    (omega (arith, c.if-room_of-item_count.true, c.room_of.ensures, c.item_count.ensures)) _

pub register-requires : goal.register-requires
unfolding as_reference
register-requires c =
    let o = c in
    let who = ap (λ (z : BlockReference). z.authority) c.reference-reference.ensures in record {
      broken = o.requires.committee.0;
      known = subst (λ (a : ℕ). known o.args.stakes.now a ≡ true) (sym who) o.requires.committee.1;
      holds = (adding_written _ _ _ _ _ o.requires.table.0 o.requires.table.1 _ _
          c.loop-run.invariant.0).holds;
      room = omega
          (arith, c.if-room_of-item_count.false, c.room_of.ensures, c.item_count.ensures);
    }

pub loop-run-smaller : goal.loop-run-smaller
unfolding FurtherOn
loop-run-smaller c =
    let l = c in
    let on = subst (FurtherOn _ _) c.in-Some.is
    c.next_shared_range.ensures.1 in
    omega (arith, on.0, on.1.0)

pub loop-run-preserved : goal.loop-run-preserved
unfolding as_reference FurtherOn
loop-run-preserved c =
    let o = c in
    let l = c in
    let who = ap (λ (z : BlockReference). z.authority) c.reference-reference.ensures in
    let on = subst (FurtherOn _ _) c.in-Some.is
    c.next_shared_range.ensures.1 in (
      adding_on _ _ _ _ _ o.requires.table.0 o.requires.table.1 _ _ l.loop-run.invariant.0 _ (c.next_shared_range.ensures.0 ∙ ap (runs_told _)
          c.in-Some.is)
          (omega (
            arith,
            c.if-room_of-item_count.false,
            c.room_of.ensures,
            c.item_count.ensures,
          )) _ (rw who at c.register.ensures),
      on.1.1,
      on.1.0,
    )
