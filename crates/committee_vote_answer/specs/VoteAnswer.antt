-- What a vote is told (committee.rs). Assumes nothing: these are definitions.
use Rattle.std.specs.Prelude.{Bool, true, false, not}

-- 02: "`add` shall answer one of four: repeated below quorum, repeated with quorum, new below quorum, new with quorum, the last also saying whether
-- this vote crossed it"
pub data Told : Type 0 where
  repeated_below : Told
  repeated_with : Told
  new_below : Told
  new_with : (crossed : Bool) → Told

-- which of them it is, by whether the author had voted, whether quorum held before and whether it holds now; crossed: it holds now and did not before
unfoldable pub told_of : Bool → Bool → Bool → Told
told_of true before false = repeated_below
told_of true before true = repeated_with
told_of false before false = new_below
told_of false before true = new_with (not before)
