use mathlib.Core.Path.{sym, ap, ◌∙◌}
use mathlib.Core.List.{List}
use Prim.Native.Nat.{ℕ}
use lib.Seq.{sets}
use Rattle.index_runs.proofs.Words.{digest_turned, four_stores}
use lib.ListN.{length-set}
use native.Mathlib.Omega.{arith}
use Rattle.index_runs.proofs.write_digest.Goals as goal

pub bounds-index-at-2 : goal.bounds-index-at-2
bounds-index-at-2 c = simp length-set (omega arith)

pub bounds-index-at-3 : goal.bounds-index-at-3
bounds-index-at-3 c = simp length-set (omega arith)

pub bounds-index-at-4 : goal.bounds-index-at-4
bounds-index-at-4 c = simp length-set (omega arith)

pub returns : goal.returns
returns c =
    let a = c.args in
    four_stores a.index.now a.at c.turned.result c.turned-2.result c.turned-3.result
    c.turned-4.result
    ∙ ap (λ (ds : List ℕ). sets a.index.now a.at ds) (sym
    (digest_turned a.digest c.turned.result c.turned-2.result c.turned-3.result
    c.turned-4.result (omega arith) (omega arith) (omega arith) (omega arith) c.turned.ensures
    c.turned-2.ensures c.turned-3.ensures c.turned-4.ensures))
