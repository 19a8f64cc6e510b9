use mathlib.Core.Path.{ap, ◌∙◌}
use Rattle.types.specs.Values.{as_maybe}
use Rattle.list_stretches_spec.specs.Bulk.{AskedBulk}
use Rattle.list_bulk.proofs.Asking.{old_shares}
use Rattle.final_readings_spec.specs.Answers.{as_reading}
use Rattle.list_readings_spec.specs.Answers.{is_ordinary}
use Rattle.list_bulk.proofs.final_stretches.Goals as goal

pub returns : goal.returns
unfolding is_ordinary as_reading
returns c = let a = c.args in
    let e = old_shares a.stakes.now a.store.now a.out.now (as_maybe a.after) in
    let q = c.list_stretches.ensures in
    record { result_value = q.result_value ∙ ap (λ (x : AskedBulk). x.answer) e; out_after = q.out_after ∙ ap (λ (x : AskedBulk). x.out) e }
