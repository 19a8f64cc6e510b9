use mathlib.Core.Path.{sym, ◌∙◌}
use Prim.Native.Nat.{◌+◌}
use native.Mathlib.Omega.{arith}
use lib.ListN.{get_or}
use borrow.Author.Tests.{eq-eqb, ne_eqb}
use Rattle.index_spec.specs.Runs.{run}
use Rattle.types.specs.Values.{as_reference}
use Rattle.index_runs.specs.Values.{as_run}
use Rattle.index_runs.proofs.Words.{run_starts}
use Rattle.index_runs.proofs.stands_at.Goals as goal

pub returns-then-index-at : goal.returns-then-index-at
unfolding as_run run as_reference
returns-then-index-at c =
    let a = c.args in
    let words = run_starts a.index.now a.at (as_run a.x) (omega arith) in
    sym (words ∙ rw (ne_eqb (get_or a.index.now a.at 0) a.x.block.authority.0 c.if-index-at.true))

pub returns-then-index-at-2 : goal.returns-then-index-at-2
unfolding as_run run as_reference
returns-then-index-at-2 c =
    let a = c.args in
    let words = run_starts a.index.now a.at (as_run a.x) (omega arith) in
    sym (words ∙ rw (
      eq-eqb (get_or a.index.now a.at 0) a.x.block.authority.0 c.if-index-at.false,
      ne_eqb
          (get_or a.index.now (a.at + 1) 0) a.x.block.round.0 c.if-index-at-2.true,
    ))

pub returns-then-not-digest_stands_at : goal.returns-then-not-digest_stands_at
unfolding as_run run as_reference
returns-then-not-digest_stands_at c =
    let a = c.args in
    let words = run_starts a.index.now a.at (as_run a.x) (omega arith) in
    sym (words ∙ rw (
      eq-eqb (get_or a.index.now a.at 0) a.x.block.authority.0 c.if-index-at.false,
      eq-eqb
          (get_or a.index.now (a.at + 1) 0) a.x.block.round.0 c.if-index-at-2.false,
      sym c.digest_stands_at.ensures ∙
          c.if-not-digest_stands_at.true,
    ))

pub returns : goal.returns
unfolding as_run run as_reference
returns c =
    let a = c.args in
    let words = run_starts a.index.now a.at (as_run a.x) (omega arith) in
    sym (words ∙ rw (
      eq-eqb (get_or a.index.now a.at 0) a.x.block.authority.0 c.if-index-at.false,
      eq-eqb (get_or a.index.now (a.at + 1) 0) a.x.block.round.0 c.if-index-at-2.false,
      sym
          c.digest_stands_at.ensures ∙ c.if-not-digest_stands_at.false,
      ← c.stand_at.ensures,
    ))
