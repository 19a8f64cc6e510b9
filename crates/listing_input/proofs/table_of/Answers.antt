use mathlib.Core.Path.{◌∙◌}
use mathlib.Core.List.{[]}
use lib.ListN.{take}
use native.Mathlib.Omega.{arith}
use Rattle.stakes_file.specs.Answers.{stakes_in}
use Rattle.stakes_file.proofs.Front.{loaded_front, at_most}
use Rattle.listing_input.specs.Input.{file_stakes}
use Rattle.listing_input.specs.Read.{as_file}
use Rattle.listing_input.proofs.table_of.Goals as goal

pub returns-in-Absent : goal.returns-in-Absent
unfolding file_stakes as_file
returns-in-Absent c =
    let start = c.args in
    let l = c.load in
    let t = loaded_front start.stakes.now l.new.stakes l.result (omega arith) [] l.ensures.result_value l.ensures.stakes_after in
    (at_most 128 254 l.result (omega arith) t.0, t.1 ∙ (rw c.in-Absent.is))

pub returns-in-Of : goal.returns-in-Of
unfolding file_stakes as_file
returns-in-Of c =
    let start = c.args in
    let l = c.load-in-Of in
    let t = loaded_front start.stakes.now l.new.stakes l.result (omega arith) (take c.in-Of.n start.bytes.now) l.ensures.result_value
    l.ensures.stakes_after in
    (at_most 128 254 l.result (omega arith) t.0, t.1 ∙ (rw c.in-Of.is))

pub returns-in-Failed : goal.returns-in-Failed
unfolding stakes_in file_stakes as_file
returns-in-Failed c = (omega arith, rw c.in-Failed.is)
