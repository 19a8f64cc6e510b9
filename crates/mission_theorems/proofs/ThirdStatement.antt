-- The mission's third statement, whole, from its parts. Assumes nothing.
use mathlib.Core.Path.{◌≡◌}
use mathlib.Core.Bool.{false}
use Rattle.committee.specs.Committee.{Committee, broken}
use Rattle.mission_theorems.specs.ThirdStatement.{Holds, Start, engine_of, accepted_of, ThirdStatement}
use Rattle.mission_theorems.proofs.Finals.{answers_final, answers_40, gives_finals, gives_final_shares, same_list_lem, same_share_list}
use Rattle.mission_theorems.proofs.Announced.{others_quiet}
use Rattle.mission_theorems.proofs.Shares.{share_stands}
use Rattle.mission_theorems.proofs.Since.{final_announced}

holds_after : (c : Committee) → broken c ≡ false → (t : Start) → Holds c (engine_of c t) (accepted_of c t)
holds_after c b t =
    record {
      final = answers_final c b t;
      only40 = answers_40 c b t;
      finals = gives_finals c b t;
      ordinary = gives_final_shares c b t;
      shares = share_stands c b t;
      others = others_quiet c t;
      announced = final_announced c b t;
    }

pub third_statement : ThirdStatement
third_statement = record { every = holds_after; same_list = same_list_lem; same_shares = same_share_list }
