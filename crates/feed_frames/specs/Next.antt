-- Machinery for the contracts of inner functions: the next record. Assumes nothing: these are definitions.
use Rattle.std.specs.Prelude.{ℕ, ◌-◌, ◌≤◌, ◌<◌, ◌≡◌, ◌∷◌, length, take, drop}
use Rattle.base.specs.Le.{Bytes}
use Rattle.feed_frames.specs.Frames.{records_in}
use Rattle.feed_frames.specs.declared.Frame.{Frame}

-- where the next record stands, and that the others follow it
pub record NextRecord (s : Bytes) (at : ℕ) (r : Frame) : Type 0 where
  pub on : at < r.end
  pub within : r.end ≤ length s
  pub starts : r.start ≤ r.end
  pub records : records_in (drop at s) ≡ take (r.end - r.start) (drop r.start s) ∷ records_in (drop r.end s)
