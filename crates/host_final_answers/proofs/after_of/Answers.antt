use Rattle.host_locators.proofs.Locators.{locator_none, locator_read}
use Rattle.host_final_answers.specs.Answers.{after_of, as_after, after_locator}
use Rattle.types.specs.Values.{as_maybe}
use lib.ListN.{length}
use borrow.Author.Tests.{eq-eqb, ne_eqb}
use Rattle.host_final_answers.proofs.after_of.Goals as goal

pub returns-then-bytes-eq0 : goal.returns-then-bytes-eq0
unfolding after_of as_after as_maybe
returns-then-bytes-eq0 c = rw (eq-eqb (length c.args.bytes.now) 0 c.if-bytes-eq0.true)

pub returns-then-bytes-ne-LOCATOR_BYTES : goal.returns-then-bytes-ne-LOCATOR_BYTES
unfolding after_of as_after after_locator
returns-then-bytes-ne-LOCATOR_BYTES c = rw (
  ne_eqb (length c.args.bytes.now) 0 c.if-bytes-eq0.false,
  locator_none
      c.args.bytes.now c.if-bytes-ne-LOCATOR_BYTES.true,
)

pub returns : goal.returns
unfolding after_of as_after as_maybe after_locator
returns c = rw (
  ne_eqb (length c.args.bytes.now) 0 c.if-bytes-eq0.false,
  locator_read
      c.args.bytes.now c.if-bytes-ne-LOCATOR_BYTES.false,
  c.read_locator.ensures,
)
