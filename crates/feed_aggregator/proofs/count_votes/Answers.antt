use borrow.Author.Tests.{not-true, not-false}
use mathlib.Core.Path.{refl, ap, ◌∙◌}
use Prim.Native.Nat.{◌+◌, ◌-◌, ◌<◌}
use native.Mathlib.Omega.{arith}
use lib.ListN.{length}
use Rattle.record_spec.specs.Block.{Statement, voted_range, counted_offsets, event_room}
use Rattle.record_spec.specs.Record.{block_in}
use Rattle.record_shared_ranges.proofs.Walk.{placed_index, placed, checks_any, passes_at, offsets_counted, counted_on}
use Rattle.feed_aggregator.proofs.Counting.{counting_start, counting_long, counting_order, counting_on, counting_stop, counting_end}
use Rattle.feed_events.proofs.Announced.{stated_long}
use Rattle.feed_aggregator.proofs.count_votes.Goals as goal

pub statement_count-count-requires : goal.statement_count-count-requires
statement_count-count-requires c = c.requires.lent.formed

pub first_statement-cursor-requires : goal.first_statement-cursor-requires
first_statement-cursor-requires c = c.requires.lent.formed

pub loop-cursor-init : goal.loop-cursor-init
unfolding event_room offsets_counted
loop-cursor-init c =
    let o = c in
    let h = o.requires.lent in
    let r = o.args.rec.now in
    let e = c.first_statement-cursor.ensures in
    let z = placed_index r c.first_statement-cursor.result 0 e in
    (rw z (counting_start _ _ _ _ _ _ _ h.author_known h.table o.requires.room), placed r c.first_statement-cursor.result 0 e, omega (arith, z))

pub next_statement-found-requires : goal.next_statement-found-requires
next_statement-found-requires c = let l = c in (
  c.requires.lent.formed,
  (l.loop-cursor.invariant.1, omega (arith, c.statement_count-count.ensures, c.loop-cursor-test.true)),
)

pub vote_statement-step-requires : goal.vote_statement-step-requires
vote_statement-step-requires c =
    let o = c in
    let h = o.requires.lent in
    let l = c in
    let s = o.args.rec.now in
    let ss = (block_in s).statements in
    let i = l.loop-cursor.cursor.index in
    let inside : i < length ss = omega (
      arith,
      c.statement_count-count.ensures,
      c.loop-cursor-test.true,
    ) in
    let n = c.next_statement-found in record {
      lent = record {
        committee = h.committee;
        stake = h.stake;
        store = h.store;
        formed = h.formed;
        new = h.new;
        author_known = h.author_known;
        table =
            counting_order _ _ _ _ _ _ _ h.author_known h.table _ _ _ _ l.loop-cursor.invariant.0;
      };
      checked = rw (← checks_any s n.result.statement, n.ensures.0) (passes_at ss i o.requires.checked inside);
      room = λ q. omega (
        arith,
        l.loop-cursor.invariant.0.enough q,
        counted_on ss i inside,
        ap (λ (x : Statement). counted_offsets (voted_range x)) n.ensures.0,
        stated_long _ _ _ _ _ l.loop-cursor.invariant.0.stated,
      );
      order = o.requires.order;
    }

pub shape_of-table-then-not-step : goal.shape_of-table-then-not-step
shape_of-table-then-not-step c = let h = c.requires.lent in c.vote_statement-step.auto.table ∙
    counting_long _ _ _ _ _ _ _ h.author_known h.table _ _ _ _
    c.loop-cursor.invariant.0

pub shape_of-events-then-not-step : goal.shape_of-events-then-not-step
shape_of-events-then-not-step c = c.vote_statement-step.auto.events ∙ stated_long _ _ _ _ _
    c.loop-cursor.invariant.0.stated

pub returns-then-not-step : goal.returns-then-not-step
returns-then-not-step c =
    let o = c in
    let h = o.requires.lent in
    let l = c in
    let ss = (block_in o.args.rec.now).statements in
    let inside : l.loop-cursor.cursor.index < length ss = omega (
      arith,
      c.statement_count-count.ensures,
      c.loop-cursor-test.true,
    ) in
    counting_stop _ _ _ _ _ _ _ h.author_known h.table _ _ _ _ l.loop-cursor.invariant.0 _ inside
    c.next_statement-found.ensures.0 _ _ _
    c.vote_statement-step.ensures (not-true _ c.if-not-step.true)

pub loop-cursor-smaller : goal.loop-cursor-smaller
loop-cursor-smaller c =
    let r = c.args.rec.now in
    omega (
      arith,
      placed_index r c.next_statement-found.result.next
          (c.loop-cursor.cursor.index + 1)
          c.next_statement-found.ensures.1.0,
      c.statement_count-count.ensures,
      c.loop-cursor-test.true,
    )

pub loop-cursor-preserved : goal.loop-cursor-preserved
loop-cursor-preserved c =
    let o = c in
    let h = o.requires.lent in
    let l = c in
    let r = o.args.rec.now in
    let n = c.next_statement-found in
    let inside : l.loop-cursor.cursor.index < length (block_in r).statements = omega (
      arith,
      c.statement_count-count.ensures,
      c.loop-cursor-test.true,
    ) in
    let e = n.ensures.1.0 in
    let index = placed_index r n.result.next (l.loop-cursor.cursor.index + 1) e in (
      rw index (counting_on _ _ _ _ _ _ _ h.author_known h.table _ _ _ _ l.loop-cursor.invariant.0 _ inside n.ensures.0 _ _ _
          c.vote_statement-step.ensures (not-false _ c.if-not-step.false)),
      placed r n.result.next
          (l.loop-cursor.cursor.index + 1) e,
      omega (arith, index, inside),
    )

pub shape_of-table : goal.shape_of-table
shape_of-table c = let h = c.requires.lent in counting_long _ _ _ _ _ _ _
    h.author_known h.table _ _ _ _ c.loop-cursor.invariant.0

pub shape_of-events : goal.shape_of-events
shape_of-events c = stated_long _ _ _ _ _ c.loop-cursor.invariant.0.stated

pub returns : goal.returns
returns c = let h = c.requires.lent in counting_end _ _ _ _ _ _ _
    h.author_known h.table _ _ _ _ c.loop-cursor.invariant.0
    (omega (arith, c.statement_count-count.ensures, c.loop-cursor-test.false)) _ refl refl
