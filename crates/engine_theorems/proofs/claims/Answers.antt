use Rattle.engine_theorems.proofs.Stored.{stores_accepted}
use Rattle.engine_theorems.proofs.Others.{others_not_pending}
use Rattle.engine_theorems.proofs.Orders.{order_unseen}
use Rattle.engine_theorems.proofs.Events.{events_mean}
use Rattle.engine_theorems.proofs.claims.Goals as goal

pub returns : goal.returns
returns c = record { stored = stores_accepted; others = others_not_pending; order = order_unseen; events = events_mean }
