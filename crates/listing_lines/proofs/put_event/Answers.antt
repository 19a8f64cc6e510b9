use borrow.Author.Tests.{eq-eqb, ne_eqb}
use Rattle.listing_lines.specs.Lines.{event_line, event_name}
use Rattle.listing_text.specs.Text.{line, numbers, number_line}
use Rattle.listing_lines.proofs.put_event.Goals as goal

pub returns-then-kind-eq1 : goal.returns-then-kind-eq1
unfolding event_line event_name line number_line numbers
returns-then-kind-eq1 c = rw (eq-eqb c.args.kind 1
    c.if-kind-eq1.true) c.put_line.ensures

pub returns-then-kind-eq2 : goal.returns-then-kind-eq2
unfolding event_line event_name line number_line numbers
returns-then-kind-eq2 c = rw (
  ne_eqb c.args.kind 1
      c.if-kind-eq1.false,
  eq-eqb
      c.args.kind 2 c.if-kind-eq2.true,
)
    c.put_line-then-kind-eq2.ensures

pub returns : goal.returns
unfolding event_line event_name line number_line numbers
returns c = rw (
  ne_eqb c.args.kind 1
      c.if-kind-eq1.false,
  ne_eqb
      c.args.kind 2 c.if-kind-eq2.false,
)
    c.put_line-2.ensures
