use mathlib.Core.Path.{sym, ap, ◌∙◌}
use mathlib.Core.Option.{Option, some}
use native.Mathlib.Omega.{arith}
use Rattle.load_spec.proofs.Needed.{needs_short, needs_other, needs_found}
use Rattle.load_needed.specs.Answers.{as_needed}
use Rattle.record_spec.specs.Reference.{TransactionLocator}
use Rattle.load_needed.proofs.needed_by.Goals as goal

pub returns-then-bytes-lt57 : goal.returns-then-bytes-lt57
unfolding as_needed
returns-then-bytes-lt57 c = sym (needs_short c.args.bytes.now c.if-bytes-lt57.true)

pub returns-then-bytes-ne1 : goal.returns-then-bytes-ne1
unfolding as_needed
returns-then-bytes-ne1 c = sym (needs_other c.args.bytes.now c.if-bytes-ne1.true)

pub returns : goal.returns
unfolding as_needed
returns c = ap {B = Option TransactionLocator} some c.read_locator.ensures ∙ sym
    (needs_found c.args.bytes.now (omega arith) c.if-bytes-ne1.false)
