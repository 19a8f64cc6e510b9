-- The marked cards hold: evaluated, where a card is about given values. Assumes nothing.
use mathlib.Core.Path.{refl}
use Rattle.mission_theorems.proofs.Computing.{computing}
use Rattle.card_theorems.specs.Marked.{MarkedCards}

pub marked : MarkedCards
unfolding computing
marked =
    record {
      four_quorum = λ c h. rw h;
      four_no_quorum = λ c h. rw h;
      four_valid = λ c h. rw h;
      four_not_valid = λ c h. rw h;
      three_quorum = λ c h. rw h;
      three_no_quorum = λ c h. rw h;
      one_quorum = λ c h. rw h;
      largest_taken = refl;
      larger_refused = refl;
      range_taken = λ r. refl;
      range_too_far = λ r. refl;
      range_backwards = λ r. refl;
      runs = λ r v w x l. refl;
      cut = refl;
      empty_range = refl;
      never_joined = refl;
      sole_final = refl;
      sole_pending = refl;
      under_mark_lem = refl;
      marked_not = refl;
      child_certifies = refl;
      child_alone = refl;
      author_once = refl;
      third_author = refl;
    }
