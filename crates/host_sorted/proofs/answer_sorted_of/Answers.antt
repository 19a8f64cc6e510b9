use mathlib.Core.Path.{sym, ap, ◌∙◌}
use native.Mathlib.Omega.{arith}
use lib.Seq.{length-take-le}
use Rattle.sorted_spec.specs.Sorted.{AskedSorted}
use Rattle.host_calls.specs.Calls.{committee_of}
use Rattle.host_sorted.proofs.Told.{call_same, told_count, told_refusal}
use Rattle.host_sorted.proofs.answer_sorted_of.Goals as goal

pub slice_bounds-answer_sorted-end : goal.slice_bounds-answer_sorted-end
slice_bounds-answer_sorted-end c =
    let w = c.stakes_of-n in
    sym (length-take-le w.result w.new.stakes (omega (arith, w.auto.stakes, w.ensures.0)))

pub returns-in-Ok : goal.returns-in-Ok
returns-in-Ok c =
    let a = c.args in
    let w = c.answer_sorted in
    let h = c.stakes_of-n.ensures.1 in record {
      value = told_count (committee_of a.stakes.now) a.store.now a.index.now a.locators.now a.replies.now _ h w.result w.ensures.result_value
          c.in-Ok.count c.in-Ok.is;
      replies_after = w.ensures.replies_after ∙ ap (λ (x : AskedSorted). x.out)
          (call_same (committee_of a.stakes.now) a.store.now a.index.now a.locators.now a.replies.now _ h);
    }

pub returns-in-Err : goal.returns-in-Err
returns-in-Err c =
    let a = c.args in
    let w = c.answer_sorted in
    let h = c.stakes_of-n.ensures.1 in record {
      value = c.refused.ensures ∙ told_refusal (committee_of a.stakes.now) a.store.now a.index.now a.locators.now a.replies.now _ h w.result
          w.ensures.result_value
          c.in-Err.refusal c.in-Err.is;
      replies_after = w.ensures.replies_after ∙ ap (λ (x : AskedSorted). x.out)
          (call_same (committee_of a.stakes.now) a.store.now a.index.now a.locators.now a.replies.now _ h);
    }
