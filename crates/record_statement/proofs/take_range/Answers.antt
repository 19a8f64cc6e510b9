use mathlib.Core.Path.{refl}
use native.Mathlib.Omega.{arith}
use Rattle.record_statement.specs.Values.{as_statement}
use Rattle.record_statement.specs.Step.{payload_between, Took}
use Rattle.record_statement.proofs.Steps.{range_cut, range_reads}
use Rattle.record_statement.proofs.take_range.Goals as goal

pub returns-then-s-at-lt65 : goal.returns-then-s-at-lt65
unfolding Took
returns-then-s-at-lt65 c =
    let o = c in
    let s = o.args.s.now in
    let p = o.args.at in
    range_cut s p o.requires.0 o.requires.1 (omega arith)

pub returns : goal.returns
unfolding Took as_statement payload_between
returns c =
    let o = c in
    let s = o.args.s.now in
    let p = o.args.at in (
      rw (c.new-range.ensures, c.read_reference-block.ensures, c.read_u64-start.ensures, c.read_u64-end.ensures)
          (range_reads s p o.requires.0 o.requires.1 (omega arith)),
      (omega arith, refl),
    )
