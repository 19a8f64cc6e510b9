-- The claims about payloads hold. Assumes nothing.
use Rattle.mission_theorems.specs.Feeds.{fresh}
use Rattle.mission_theorems.specs.ThirdStatement.{engine_of}
use Rattle.payload_theorems.specs.Claims.{QuestionsUnseen, ListsUnseen, Claims}
use Rattle.payload_theorems.proofs.Blocks.{feeding_unseen}
use Rattle.payload_theorems.proofs.Feeds.{feed_unseen, EngineApart, run_same, told_same, fresh_apart}
use Rattle.payload_theorems.proofs.Questions.{questions_unseen}
use Rattle.payload_theorems.proofs.Written.{written_apart}

lists_unseen : ListsUnseen
unfolding ListsUnseen QuestionsUnseen engine_of
lists_unseen c t u a =
    let f = fresh_apart c t u a in
    let e : EngineApart c (engine_of c t) (engine_of c u) =
    run_same c (fresh t.past t.words) (fresh u.past u.words) f t.feeds u.feeds a.feeds in
    record {
      told = told_same c (fresh t.past t.words) (fresh u.past u.words) f t.feeds u.feeds a.feeds;
      table = e.table;
      store = e.store;
      questions = questions_unseen c (engine_of c t).store (engine_of c u).store e.store;
    }

pub claimed : Claims
claimed = record { feeding = feeding_unseen; written = written_apart; feed = feed_unseen; questions = questions_unseen; lists = lists_unseen }
