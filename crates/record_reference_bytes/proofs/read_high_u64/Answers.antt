use native.Mathlib.Omega.{arith}
use Rattle.record_reference_bytes.proofs.Read.{read_double}
use Rattle.record_reference_bytes.proofs.read_high_u64.Goals as goal

pub returns : goal.returns
returns c =
    let s = c.args.s.now in
    let at = c.args.at in
    read_double 4 s at c.read_high_u32.result c.read_high_u32-2.result (omega arith) c.read_high_u32.ensures
    c.read_high_u32-2.ensures
