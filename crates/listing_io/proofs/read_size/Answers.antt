use Rattle.listing_io.proofs.Sizes.{size_bound}
use Rattle.listing_io.proofs.read_size.Goals as goal

pub returns : goal.returns
returns g c = rw c.size_of.ensures (size_bound _)
