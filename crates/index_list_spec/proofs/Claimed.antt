-- The claims about lists with the index, put together. Assumes nothing.
use Rattle.base.specs.Lists.{same}
use Rattle.index_spec.proofs.Grown.{kept_agrees}
use Rattle.index_list_spec.specs.Claims.{SameLists, KeptLists, RefusedAlike, Disagreeing, Claims}
use Rattle.index_list_spec.proofs.Asking.{same_list_lem, same_refusal, fifty_four}

pub claimed : Claims
unfolding SameLists KeptLists RefusedAlike Disagreeing
claimed =
    record {
      same = same_list_lem;
      kept = λ c s ix k out after h. same_list_lem c s ix k out after (kept_agrees h);
      refused = same_refusal;
      disagreeing = fifty_four;
    }
