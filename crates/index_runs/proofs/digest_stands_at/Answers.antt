use mathlib.Core.Path.{sym, ap, ◌∙◌}
use mathlib.Core.List.{List}
use Prim.Native.Nat.{ℕ}
use native.Mathlib.Omega.{arith}
use lib.ListN.{drop}
use Rattle.index_runs.specs.Values.{starts_with}
use Rattle.index_runs.proofs.Words.{digest_turned}
use Rattle.index_runs.proofs.digest_stands_at.Goals as goal

pub returns : goal.returns
returns c =
    let a = c.args in
    c.stand_at.ensures
    ∙ ap (λ (ds : List ℕ). starts_with ds (drop a.at a.index.now))
    (sym (digest_turned a.digest c.turned-first.result c.turned-second.result
    c.turned-third.result c.turned-fourth.result (omega arith) (omega arith) (omega arith) (omega arith)
    c.turned-first.ensures c.turned-second.ensures c.turned-third.ensures
    c.turned-fourth.ensures))
