use borrow.Author.Tests.{eq-eqb, ne_eqb}
use Rattle.types.specs.Values.{as_locator}
use Rattle.record_spec.specs.Reference.{locator}
use Rattle.list_block_spans.specs.Answers.{voted_by}
use Rattle.list_block_spans.specs.Ranges.{rejected_range}
use Rattle.list_block_spans.proofs.rejected_range.Goals as goal

pub returns-then-locator-eq-LAST_OFFSET : goal.returns-then-locator-eq-LAST_OFFSET
unfolding voted_by rejected_range as_locator locator
returns-then-locator-eq-LAST_OFFSET c = rw (eq-eqb _ 18446744073709551615 c.if-locator-eq-LAST_OFFSET.true)

pub returns : goal.returns
unfolding voted_by rejected_range as_locator locator
returns c = rw (c.one.ensures, ne_eqb _ 18446744073709551615 c.if-locator-eq-LAST_OFFSET.false)
