-- Where a new block goes in the chain: machinery for the contracts of the functions that accept a record. Assumes nothing: these are definitions.
use Rattle.std.specs.Prelude.{List, [], ◌∷◌}
use Rattle.std.proofs.Math.Option.{Option, none, some}
use Rattle.store_spec.specs.Layout.{Entry}

-- the first of a list
unfoldable pub first : List Entry → Option Entry
first [] = none
first (e ∷ es) = some e
