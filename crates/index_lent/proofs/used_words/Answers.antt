use mathlib.Core.Path.{sym}
use native.Mathlib.Omega.{arith}
use Rattle.index_lent.proofs.Used.{used_over, used_all, used_inside}
use Rattle.index_lent.proofs.used_words.Goals as goal

pub returns-then-index-eq0 : goal.returns-then-index-eq0
returns-then-index-eq0 c = omega (arith, used_inside c.args.index.now)

pub returns-then-index-used : goal.returns-then-index-used
returns-then-index-used c = sym (used_over c.args.index.now (omega (arith, c.if-index-used.true)))

pub returns : goal.returns
returns c = sym (used_all c.args.index.now (omega (arith, c.if-index-used.false)))
