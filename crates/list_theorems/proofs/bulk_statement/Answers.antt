use mathlib.Core.Path.{sym, ◌∙◌}
use mathlib.Core.Option.{none}
use Rattle.final_spec.specs.Finality.{blocks_of}
use Rattle.list_stretches_spec.specs.Stretches.{wide}
use Rattle.list_stretches_spec.specs.Claims.{WideGives}
use Rattle.list_stretches_spec.proofs.Wide.{wide_lawful_lem, wide_gives_lem}
use Rattle.list_ordinary_spec.specs.Ordinary.{ordinary}
use Rattle.list_ordinary_spec.specs.Claims.{OrdinaryGives}
use Rattle.list_ordinary_spec.proofs.Ordinary.{ordinary_lawful, ordinary_gives}
use Rattle.mission_theorems.specs.ThirdStatement.{engine_of}
use Rattle.mission_theorems.proofs.Finals.{store_of, gives_finals, gives_final_shares, same_list_lem, same_share_list}
use Rattle.list_theorems.specs.Bulk.{ReachesEnd}
use Rattle.list_theorems.proofs.Reaching.{reach}
use Rattle.list_theorems.proofs.Asked.{wide_spread, ordinary_spread, wide_alike_on, longest_on, ordinary_alike_on}
use Rattle.list_theorems.proofs.bulk_statement.Goals as goal

pub returns : goal.returns
returns c =
    record {
      spread = λ d b t ts on ls k. wide_spread d (engine_of d t).store b (store_of d t).order on ls k;
      alike = λ d b t ts on. wide_alike_on d (engine_of d t).store b (store_of d t).order on;
      longest = λ d b t ts on. let s = (engine_of d t).store in longest_on d s b (store_of d t).order (wide d (blocks_of s)) (wide_lawful_lem d (blocks_of s))
          on;
      same_list = λ d b t u same ts us on un.
          let f = gives_finals d b t in
          let g = gives_finals d b u in
          wide_spread d (engine_of d t).store b (store_of d t).order on f.list f.given
          ∙ same_list_lem d b t u same f.list g.list f.given g.given
          ∙ sym (wide_spread d (engine_of d u).store b (store_of d u).order un g.list g.given);
      reaches = λ d b t ls k. let s = (engine_of d t).store in unfold ReachesEnd WideGives in λ outs f some few.
          reach d s b (store_of d t).order (wide d (blocks_of s)) (wide_lawful_lem d (blocks_of s)) outs f some none ls
          ((wide_gives_lem d s b (store_of d t).order none ls).1 k) few;
      ordinary_spread = λ d b t ts on ls k. ordinary_spread d (engine_of d t).store b (store_of d t).order on ls k;
      ordinary_alike = λ d b t ts on. ordinary_alike_on d (engine_of d t).store b (store_of d t).order on;
      ordinary_longest = λ d b t ts on. let s = (engine_of d t).store in longest_on d s b (store_of d t).order (ordinary d (blocks_of s))
          (ordinary_lawful d (blocks_of s)) on;
      ordinary_same = λ d b t u same ts us on un.
          let f = gives_final_shares d b t in
          let g = gives_final_shares d b u in
          ordinary_spread d (engine_of d t).store b (store_of d t).order on f.shares f.given
          ∙ same_share_list d b t u same f.shares g.shares f.given g.given
          ∙ sym (ordinary_spread d (engine_of d u).store b (store_of d u).order un g.shares g.given);
      ordinary_reaches = λ d b t ls k. let s = (engine_of d t).store in unfold ReachesEnd OrdinaryGives in λ outs f some few.
          reach d s b (store_of d t).order (ordinary d (blocks_of s)) (ordinary_lawful d (blocks_of s)) outs f some none ls
          ((ordinary_gives d s b (store_of d t).order none ls).1 k) few;
    }
