use mathlib.Core.Path.{sym, ◌∙◌}
use native.Mathlib.Omega.{arith}
use lib.Seq.{length-take-le}
use Rattle.stakes_chain.proofs.Chains.{chain_found, chained_inside}
use Rattle.stakes_file.specs.Load.{loaded_into}
use Rattle.stakes_file.specs.Answers.{as_load}
use Rattle.stakes_file.proofs.Loaded.{load_broken, load_some, load_nothing, some_bytes, chain_fits, chain_told, chain_broken}
use Rattle.stakes_file.proofs.load.Goals as goal

pub returns-then-file-eq0 : goal.returns-then-file-eq0
returns-then-file-eq0 c =
    let start = c.args in
    let e = load_nothing start.file.now (omega arith) in
    let m = c.course_committee-course.ensures in
    record { result_value = rw m at c.put_in_front.ensures.result_value ∙ (rw e); stakes_after = rw m at c.put_in_front.ensures.stakes_after ∙ (rw e) }

pub returns-in_default : goal.returns-in_default
unfolding as_load loaded_into
returns-in_default c =
    let start = c.args in
    let walk = c.chain in
    let e = load_broken start.file.now (some_bytes start.file.now (λ z. omega arith))
    (chain_broken start.file.now _ _ walk.ensures.1 c.in_default.is) in
    record { result_value = rw e; stakes_after = rw e }

pub slice_bounds-indexes-end : goal.slice_bounds-indexes-end
slice_bounds-indexes-end c =
    let walk = c.chain in
    omega (arith, chain_fits _ _ c.in-Some.is walk.ensures.0, walk.auto.indexes)

pub slice_bounds-load_along-end : goal.slice_bounds-load_along-end
slice_bounds-load_along-end c =
    let walk = c.chain in
    sym (length-take-le c.in-Some.n walk.new.indexes
    (omega (arith, chain_fits _ _ c.in-Some.is walk.ensures.0, walk.auto.indexes)))

pub load_along-requires : goal.load_along-requires
load_along-requires c =
    let start = c.args in
    let walk = c.chain in
    let n = c.in-Some.n in
    let fits = chain_fits _ _ c.in-Some.is walk.ensures.0 in (
      chained_inside _ _ (chain_found start.file.now _ (chain_told start.file.now _ _ walk.ensures.1 n c.in-Some.is)),
      omega (arith, length-take-le n walk.new.indexes (omega (arith, walk.auto.indexes))),
    )

pub returns : goal.returns
returns c =
    let start = c.args in
    let walk = c.chain in
    let n = c.in-Some.n in
    let e = load_some start.file.now _ (some_bytes start.file.now (λ z. omega arith))
    (chain_told start.file.now _ _ walk.ensures.1 n c.in-Some.is) in
    record { result_value = c.load_along.ensures.result_value ∙ (rw e); stakes_after = c.load_along.ensures.stakes_after ∙ (rw e) }
