-- The claims about the replies hold. Assumes nothing.
use mathlib.Core.List.{◌++◌}
use Rattle.final_spec.proofs.Claimed.{well_stored}
use Rattle.sorted_spec.specs.Claims.{StepsMeant, RepliesMeant, QuestionMeant, Claims}
use Rattle.sorted_spec.proofs.Replies.{replies_single, replies_first, question_answered}

pub claimed : Claims
unfolding StepsMeant RepliesMeant QuestionMeant
claimed =
    record {
      steps = λ c newer older h ls. replies_first c ls newer older (well_stored c (newer ++ older) h);
      replies = λ c bs h ls. replies_single c ls (well_stored c bs h);
      question = question_answered;
    }
