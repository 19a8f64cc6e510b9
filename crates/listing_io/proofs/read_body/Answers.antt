use Rattle.std.proofs.Common.{arith}
use Rattle.listing_io.proofs.Sizes.{whole_bound}
use Rattle.listing_io.proofs.read_body.Goals as goal

pub returns : goal.returns
returns g c = rw c.whole_size.ensures (whole_bound _ _ (omega arith))
