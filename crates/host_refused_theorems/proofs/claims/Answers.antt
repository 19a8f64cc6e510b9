use Rattle.host_final_answers.specs.Answers.{after_of}
use Rattle.host_calls.specs.Calls.{committee_of}
use Rattle.host_finals.specs.NextFinal.{next_final_call, next_wide_call, next_final_withdrawing_call, next_wide_withdrawing_call}
use Rattle.host_finals.specs.Stretches.{stretches_call, wide_stretches_call, stretches_withdrawing_call, wide_stretches_withdrawing_call}
use Rattle.host_index_finals.specs.Indexed.{stretches_indexed_call, wide_stretches_indexed_call}
use Rattle.host_refused_theorems.specs.Claims.{NextKept, StretchesKept}
use Rattle.host_refused_theorems.proofs.Feeds.{refused_feed_lem, refused_records, refused_records_indexed}
use Rattle.host_refused_theorems.proofs.Lists.{next_kept, stretches_kept, indexed_kept}
use Rattle.host_refused_theorems.proofs.claims.Goals as goal

pub returns : goal.returns
unfolding NextKept StretchesKept next_final_call next_wide_call next_final_withdrawing_call next_wide_withdrawing_call stretches_call wide_stretches_call
    stretches_withdrawing_call wide_stretches_withdrawing_call stretches_indexed_call wide_stretches_indexed_call
returns c =
    record {
      feed_indexed = refused_feed_lem;
      feed_records = refused_records;
      feed_records_indexed = refused_records_indexed;
      next_final = λ stakes s after out n e. next_kept (committee_of stakes) s _ out n (after_of after) e;
      next_wide = λ stakes s after out n e. next_kept (committee_of stakes) s _ out n (after_of after) e;
      next_final_withdrawing = λ stakes s after out n e. next_kept (committee_of stakes) s _ out n (after_of after) e;
      next_wide_withdrawing = λ stakes s after out n e. next_kept (committee_of stakes) s _ out n (after_of after) e;
      stretches = λ stakes s after out n e. stretches_kept (committee_of stakes) s _ out n (after_of after) e;
      wide_stretches = λ stakes s after out n e. stretches_kept (committee_of stakes) s _ out n (after_of after) e;
      stretches_withdrawing = λ stakes s after out n e. stretches_kept (committee_of stakes) s _ out n (after_of after) e;
      wide_stretches_withdrawing = λ stakes s after out n e. stretches_kept (committee_of stakes) s _ out n (after_of after) e;
      stretches_indexed = λ ix stakes s after out n e. indexed_kept (committee_of stakes) s _ out n ix (after_of after) e;
      wide_stretches_indexed = λ ix stakes s after out n e. indexed_kept (committee_of stakes) s _ out n ix (after_of after) e;
    }
