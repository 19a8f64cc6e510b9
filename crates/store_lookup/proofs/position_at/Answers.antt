use mathlib.Core.Path.{sym}
use native.Mathlib.Omega.{arith}
use lib.ListN.{get_or-eq_default}
use Rattle.store_lookup.proofs.position_at.Goals as goal

pub returns-then-order-k : goal.returns-then-order-k
returns-then-order-k c = let a = c.args in sym (get_or-eq_default a.order.now 0 {n = a.k} (omega (arith, c.if-order-k.true)))
