use Rattle.store_lookup.proofs.Ordered.{place_before}
use Rattle.store_lookup.proofs.position_before.Goals as goal

pub returns : goal.returns
returns c = let a = c.args in place_before a.order.now a.k c.if-k-eq0.false
