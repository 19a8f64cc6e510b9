use mathlib.Core.Path.{refl, sym, ap, ◌∙◌}
use native.Mathlib.Omega.{arith}
use lib.ListN.{length}
use lib.Seq.{length-take-le}
use Rattle.std.proofs.lemmas.Result.{err_from_is_err_and}
use Rattle.base.proofs.Refusals.{number_not_zero}
use Rattle.pending_question.proofs.Lending.{lying}
use Rattle.final_block_votes.proofs.Along.{sorted_count}
use Rattle.final_block_votes.proofs.Sorting.{some_committee}
use Rattle.index_feed_spec.proofs.Order.{lent_pending, lent_index}
use Rattle.index_feed_refusals.proofs.lent_refusal.Goals as goal

pub returns-in_err-lent_refusal : goal.returns-in_err-lent_refusal
returns-in_err-lent_refusal c =
    let a = c.args in
    let n = c.in_err-lent_refusal.field-0.0 in
    let p = err_from_is_err_and c.from_residual.result c.from_residual.ensures.1 in
    let e = c.in_err-lent_refusal.ensures.first in
    rw (p.1, p.2) (record {
      refusal_value = e ∙ sym (lent_pending a.stakes.now a.store.now a.table.now a.index.now (λ z. number_not_zero n (e ∙ z)));
      count_bound = tt;
    })

pub sorted_positions-count-requires : goal.sorted_positions-count-requires
sorted_positions-count-requires c = (
  c.in_ok-lent_refusal.ensures.laid refl,
  c.requires.0,
)

pub slice_bounds-agrees-end : goal.slice_bounds-agrees-end
slice_bounds-agrees-end c = omega (
  arith,
  c.sorted_positions-count.ensures.0,
  c.requires.0,
  c.sorted_positions-count.auto,
)

pub slice_bounds-agrees-end-2 : goal.slice_bounds-agrees-end-2
slice_bounds-agrees-end-2 c = sym (length-take-le _ _ (omega (
  arith,
  c.sorted_positions-count.ensures.0,
  c.requires.0,
  c.sorted_positions-count.auto,
)))

pub agrees-requires : goal.agrees-requires
agrees-requires c = let a = c.args in
    let e = c.in_ok-lent_refusal.ensures in
    let l = lying a.stakes.now a.store.now a.table.now (sym e.first) in
    let p = c.sorted_positions-count.ensures in (
      some_committee (record {
        sound = l.committee;
        in_order = l.store;
        laid = e.laid refl;
        places = p.1.1;
      }),
      omega (
        arith,
        p.0,
        p.1.0,
        c.requires.1,
        ap length p.1.1 ∙ sorted_count a.store.now (e.laid refl),
      ),
    )

pub returns-then-not-agrees : goal.returns-then-not-agrees
returns-then-not-agrees c = let a = c.args in
    record {
      refusal_value = sym (lent_index a.stakes.now a.store.now a.table.now a.index.now
          (sym c.in_ok-lent_refusal.ensures.first) ∙ rw
          (sym c.agrees.ensures.value ∙ c.if-not-agrees.true));
      count_bound = tt;
    }

pub returns : goal.returns
returns c = let a = c.args in
    let e = c.in_ok-lent_refusal.ensures in
    let l = lying a.stakes.now a.store.now a.table.now
    (sym e.first) in
    let p = c.sorted_positions-count.ensures in
    let q = c.agrees.ensures in
    let t = c.if-not-agrees.false in record {
      refusal_value = sym (lent_index a.stakes.now a.store.now a.table.now a.index.now
          (sym e.first) ∙ rw (sym q.value ∙ t));
      count_bound = (
        p.0,
        record {
          lent = sym e.first;
          laid = e.laid refl;
          sorted = record {
            sound = l.committee;
            in_order = l.store;
            laid = e.laid refl;
            places = p.1.1;
          };
          agrees = sym q.value ∙ t;
          known = q.known t;
        },
      );
    }
