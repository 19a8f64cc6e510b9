use mathlib.Core.Path.{sym, ◌∙◌}
use native.Mathlib.Omega.{arith}
use borrow.Author.Tests.{leb-true}
use Rattle.base.proofs.Le.{bytes_of}
use Rattle.draft_size.specs.Asked.{requested}
use Rattle.draft_size.specs.Step.{low}
use Rattle.draft_size.proofs.Sizing.{sized_digest, sized_mark, sized_cut, sized_includes, sized_statements, sized_fits}
use borrow.Author.Rules.{rules}
use Rattle.draft_size.proofs.measure_record.Goals as goal

pub returns-then-digest-ne32 : goal.returns-then-digest-ne32
unfolding requested
returns-then-digest-ne32 c =
    let a = c.args in
    λ author round.
    let q = requested author round a.digest.now a.mark a.includes.now a.statements.now in
    sym (sized_digest q c.if-digest-ne32.true)

pub returns-then-mark-gt1 : goal.returns-then-mark-gt1
unfolding requested
returns-then-mark-gt1 c =
    let a = c.args in
    λ author round.
    let q = requested author round a.digest.now a.mark a.includes.now a.statements.now in
    sym (sized_mark q c.if-mark-gt1.true)

pub returns-then-includes-ne0 : goal.returns-then-includes-ne0
unfolding requested
returns-then-includes-ne0 c =
    let a = c.args in
    λ author round.
    let q = requested author round a.digest.now a.mark a.includes.now a.statements.now in
    sym (sized_cut q (bytes_of a.includes.now (λ j h. omega (arith, c.shared_slice_known-2-1.given j))) c.if-includes-ne0.true)

pub returns-then-includes-gt-MAX_INCLUDES : goal.returns-then-includes-gt-MAX_INCLUDES
unfolding requested
returns-then-includes-gt-MAX_INCLUDES c =
    let a = c.args in
    λ author round.
    let q = requested author round a.digest.now a.mark a.includes.now a.statements.now in
    sym (sized_includes q (bytes_of a.includes.now (λ j h. omega (arith, c.shared_slice_known-2-1.given j)))
    c.if-includes-gt-MAX_INCLUDES.true)

pub returns-in_err-count : goal.returns-in_err-count
unfolding requested
returns-in_err-count c =
    let a = c.args in
    λ author round.
    let q = requested author round a.digest.now a.mark a.includes.now a.statements.now in
    rw c.from_residual.ensures (sym (sized_statements q (sym c.measure.ensures.value ∙ c.in_err-count.was)))

pub overflow_add-result-2 : goal.overflow_add-result-2
unfolding low
overflow_add-result-2 c =
    let few = leb-true c.in_ok-count.bytes 67110912 (rw c.in_ok-count.was at c.measure.ensures.result_value) in
    omega (arith, few, c.if-includes-gt-MAX_INCLUDES.false)

pub returns : goal.returns
unfolding requested
returns c =
    let a = c.args in
    λ author round.
    let q = requested author round a.digest.now a.mark a.includes.now a.statements.now in
    sym (sized_fits q (bytes_of a.includes.now (λ j h. omega
    (arith, c.shared_slice_known-2-1.given j))) c.in_ok-count.count
    c.in_ok-count.bytes c.if-digest-ne32.false
    (omega (arith, c.if-mark-gt1.false)) c.if-includes-ne0.false
    (omega (arith, c.if-includes-gt-MAX_INCLUDES.false)) (sym c.measure.ensures.value ∙ c.in_ok-count.was))
