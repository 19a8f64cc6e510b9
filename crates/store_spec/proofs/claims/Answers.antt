use Rattle.store_spec.proofs.Claimed.{chain_meant, in_order_accepted, fresh_in_order, accepting_keeps_order, stored_share_meant, payload_meant}
use Rattle.store_spec.proofs.claims.Goals as goal

pub returns : goal.returns
returns c = record {
  chain = chain_meant;
  accepted = in_order_accepted;
  fresh = fresh_in_order;
  accepting = accepting_keeps_order;
  shares =
      stored_share_meant;
  payload = payload_meant;
}
