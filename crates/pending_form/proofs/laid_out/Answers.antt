use mathlib.Core.Path.{sym, ◌∙◌}
use native.Mathlib.Omega.{arith}
use Rattle.pending_form.proofs.Forming.{laid_tests, laid_no}
use Rattle.pending_form.proofs.laid_out.Goals as goal

pub returns-then-t-eq0 : goal.returns-then-t-eq0
returns-then-t-eq0 c = sym (laid_no _ (omega arith))

pub returns-then-most-n : goal.returns-then-most-n
returns-then-most-n c = sym (laid_no _ (omega arith))

pub returns : goal.returns
returns c = c.zero_from.ensures ∙ laid_tests _ (omega arith)
