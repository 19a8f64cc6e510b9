use mathlib.Core.Path.{ap, ◌∙◌}
use mathlib.Core.List.{List}
use Prim.Native.Nat.{ℕ, ◌+◌, ◌*◌}
use native.Mathlib.Omega.{arith}
use lib.ListN.{take, drop}
use lib.Seq.{sets}
use Rattle.index_runs.specs.Values.{as_run}
use Rattle.index_strides.specs.Strides.{stride_runs}
use Rattle.index_strides.proofs.Writing.{copied}
use Rattle.index_strides.proofs.write_stride.Goals as goal

pub returns : goal.returns
unfolding stride_runs
returns c = let a = c.args in
    c.copy_on.ensures
    ∙ ap (λ (l : List ℕ). sets l (a.at + 10) (take (10 * a.runs.more) (drop a.runs.pos l))) c.write_run.ensures
    ∙ copied a.index.now a.at a.runs.pos a.runs.more (as_run a.runs.run) (λ i. omega (
      arith,
      c.slice_known-1.given i,
    ))
    c.requires.0 (omega (
      arith,
      c.requires.1,
    ))
