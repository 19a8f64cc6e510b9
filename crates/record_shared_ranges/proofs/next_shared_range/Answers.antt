use mathlib.Core.Path.{sym, ◌∙◌}
use native.Mathlib.Omega.{arith}
use Rattle.record_spec.specs.Record.{block_in}
use Rattle.record_shared_ranges.specs.Cursor.{runs_told, FurtherOn}
use Rattle.record_shared_ranges.proofs.Walk.{placed_index, placed, run_none, run_from_lem, run_told}
use Rattle.record_shared_ranges.proofs.next_shared_range.Goals as goal

pub returns-then-start-count : goal.returns-then-start-count
unfolding runs_told FurtherOn
returns-then-start-count c =
    let k = c in
    let o = k in
    let r = o.args.rec.now in
    let b = block_in r in
    let i = o.args.cursor.index in
    let from = placed_index r k.skip_statements-start.result _ k.skip_statements-start.ensures in
    (run_none b i o.requires.1.1 (sym from ∙ c.if-start-count.true ∙ k.statement_count-count.ensures), tt)

pub skip_statements-end-requires : goal.skip_statements-end-requires
skip_statements-end-requires c =
    let k = c in
    let o = k in
    let r = o.args.rec.now in
    let b = block_in r in
    let from = placed_index r k.skip_statements-start.result _ k.skip_statements-start.ensures in (
      o.requires.0,
      (
        placed r k.skip_statements-start.result _ k.skip_statements-start.ensures,
        omega
            (arith, from, run_from_lem b o.args.cursor.index o.requires.1.1),
      ),
    )

pub returns : goal.returns
unfolding runs_told FurtherOn
returns c =
    let k = c in
    let o = k in
    let e = c in
    run_told (block_in o.args.rec.now) o.args.cursor.index o.requires.1.1 o.args.rec.now k.skip_statements-start.result
    c.skip_statements-end.result k.skip_statements-start.ensures c.skip_statements-end.ensures
    (λ h. e.if-start-count.false (h ∙ sym k.statement_count-count.ensures))
