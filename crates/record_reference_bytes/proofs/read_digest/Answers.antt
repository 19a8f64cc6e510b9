use Rattle.record_reference_bytes.proofs.Read.{read_four}
use Rattle.record_reference_bytes.proofs.read_digest.Goals as goal

pub returns : goal.returns
returns c =
    let s = c.args.s.now in
    let at = c.args.at in
    read_four _ s at c.read_high_u64-first.ensures c.read_high_u64-second.ensures c.read_high_u64-third.ensures
    c.read_high_u64-fourth.ensures
