use mathlib.Core.Path.{◌≡◌, sym, subst}
use mathlib.Core.Bool.{true}
use mathlib.Core.List.{List}
use Prim.Native.Nat.{ℕ}
use lib.ListN.{drop}
use Rattle.index_spec.specs.Runs.{Run}
use Rattle.index_spec.specs.Index.{run_words}
use Rattle.index_spec.specs.Walk.{run_from}
use Rattle.index_runs.specs.Values.{as_maybe, as_place, starts_with}
use Rattle.index_pieces.specs.Sources.{Ready}
use Rattle.index_parts.specs.Parts.{RunPassed, StandsNext}
use Rattle.index_parts.proofs.Passed.{met_passed}
use Rattle.index_strides.proofs.Words.{run_here}
use native.Mathlib.Omega.{arith}
use Rattle.index_parts.proofs.next_stands.Goals as goal

pub returns-then-run_meets : goal.returns-then-run_meets
unfolding StandsNext as_maybe
returns-then-run_meets c = subst (λ (x : Run). RunPassed
    c.args.own.now c.args.mine.now c.run_meets.new.mine
    c.args.index.now c.args.n c.args.cursors.now c.run_meets.new.cursors
    (as_place c.args.place) x × (starts_with (run_words x)
    (drop c.args.pos c.args.index.now) ≡ true)) (sym c.read_run.ensures) (
      met_passed c.args.own.now c.args.mine.now c.args.index.now
          c.args.n c.args.cursors.now (as_place c.args.place) c.run_meets.new.mine
          c.run_meets.new.cursors
          (run_from (drop c.args.pos c.args.index.now))
          (c.run_meets.ensures.passed c.if-run_meets.true),
      run_here
          c.args.index.now c.args.pos (λ i. omega (
            arith,
            c.shared_slice_known-1.given i,
          )) c.requires.room.0,
    )

pub merged_stands-requires : goal.merged_stands-requires
merged_stands-requires c = (
  (
    subst
        (λ (cs : List ℕ). Ready c.args.index.now cs
        c.args.n) (sym (c.run_meets.ensures.cursors_unchanged c.if-run_meets.false).0)
        c.requires.sources.0,
    subst (λ (ms : List ℕ). Ready
        c.args.own.now ms 1) (sym (c.run_meets.ensures.cursors_unchanged
        c.if-run_meets.false).1)
        c.requires.sources.1,
  ),
  c.requires.room.0,
)

pub returns : goal.returns
returns c = subst (λ (cs : List ℕ). StandsNext
    c.args.own.now
    c.args.mine.now c.merged_stands.new.mine
    c.args.index.now
    c.args.n cs c.merged_stands.new.cursors
    (as_place c.args.place)
    c.args.pos (as_maybe c.merged_stands.result))
    (c.run_meets.ensures.cursors_unchanged
    c.if-run_meets.false).0
    (subst (λ (ms : List ℕ). StandsNext
    c.args.own.now ms c.merged_stands.new.mine
    c.args.index.now
    c.args.n
    c.run_meets.new.cursors
    c.merged_stands.new.cursors
    (as_place c.args.place)
    c.args.pos (as_maybe c.merged_stands.result))
    (c.run_meets.ensures.cursors_unchanged
    c.if-run_meets.false).1 c.merged_stands.ensures)
