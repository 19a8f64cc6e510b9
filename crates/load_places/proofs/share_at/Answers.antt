use Prim.Native.Nat.{◌+◌, ◌*◌}
use mathlib.Core.Path.{ap}
use lib.ListN.{get_or}
use Rattle.record_spec.specs.Reference.{BlockReference, locator}
use Rattle.types.specs.Values.{as_locator}
use Rattle.load_places.specs.Listed.{place_at}
use Rattle.load_places.proofs.share_at.Goals as goal

pub reference_at-block-requires : goal.reference_at-block-requires
reference_at-block-requires c = c.requires.1

pub returns : goal.returns
unfolding place_at as_locator
returns c = ap (λ (r : BlockReference). locator r (get_or c.args.places.now
    (2 * c.args.i + 1) 0)) c.reference_at-block.ensures
