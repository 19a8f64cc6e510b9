use mathlib.Core.Path.{sym, ◌∙◌}
use native.Mathlib.Omega.{arith}
use lib.ListN.{length}
use lib.Seq.{length-take-le}
use Rattle.stakes_file.specs.Load.{loaded_into}
use Rattle.stakes_file.specs.Answers.{as_load}
use Rattle.stakes_file.proofs.Loaded.{along_bad, along_good}
use Rattle.stakes_file.proofs.load_along.Goals as goal

pub returns-then-not-good_names : goal.returns-then-not-good_names
unfolding as_load loaded_into
returns-then-not-good_names c =
    let start = c.args in
    let e = along_bad start.file.now start.indexes.now (sym c.good_names.ensures ∙ c.if-not-good_names.true) in
    record { result_value = rw e; stakes_after = rw e }

pub slice_bounds-put_committee-end : goal.slice_bounds-put_committee-end
slice_bounds-put_committee-end c =
    let start = c in
    let filled = c.stakes_along in
    sym (length-take-le (length start.args.indexes.now) filled.new.stakes (omega (arith, filled.auto.stakes, start.requires.1)))

pub returns : goal.returns
returns c =
    let start = c.args in
    let m = c.stakes_along.ensures in
    let e = along_good start.file.now start.indexes.now (sym
    c.good_names.ensures ∙ c.if-not-good_names.false) in
    record { result_value = rw m at c.put_committee.ensures.result_value ∙ (rw e); stakes_after = rw m at c.put_committee.ensures.stakes_after ∙ (rw e) }
