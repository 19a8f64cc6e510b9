use native.Mathlib.Omega.{arith}
use borrow.Author.Tests.{eq-eqb, ne_eqb}
use Rattle.record_check_statements.proofs.accept_refusal.Goals as goal

pub returns-then-offset-eq-LAST_OFFSET : goal.returns-then-offset-eq-LAST_OFFSET
returns-then-offset-eq-LAST_OFFSET c = rw (eq-eqb c.args.offset 18446744073709551615 (omega arith))

pub returns : goal.returns
returns c = rw (ne_eqb c.args.offset 18446744073709551615 (λ e. omega arith))
