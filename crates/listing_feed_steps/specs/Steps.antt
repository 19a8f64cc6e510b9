-- One record of an input as the code tells of it. Machinery for the contracts of inner functions. Assumes nothing: these are definitions.
use Rattle.std.specs.Prelude.{ℕ, ◌+◌, ◌*◌, ◌≤◌, ◌<◌, ◌≡◌, List, take}
use Rattle.base.specs.Le.{Bytes}
use Rattle.listing_input.specs.declared.Size.{Size}
use Rattle.listing_input.specs.declared.Size.TheVariants.{End, Broken, Of}
use Rattle.listing_text.specs.Text.{Wrote}
use Rattle.listing_spec.specs.Output.{Frame, nothing, broken, framed, Feeding, Told}
use Rattle.listing_feed_steps.specs.declared.Fed.{Fed}

-- what was fed so far, with the memory beside it
unfoldable pub feeding_of : Fed → Bytes → List ℕ → Feeding
feeding_of f s t = record { number = f.number; store = s; table = t; accepted = f.accepted; refusals = f.refused; processed = f.processed }

-- what was read: a record stands in front of the bytes
unfoldable pub frame_read : Size → Bytes → Frame
frame_read End b = nothing
frame_read Broken b = broken
frame_read (Of n) b = framed (take n b)

-- the counts stay below the number of the record, and that below 2^52, which no input reaches: so they fit a word
pub record Counted (f : Fed) : Type 0 where
  pub number : f.number < 4503599627370496
  pub accepted : f.accepted ≤ f.number
  pub refusals : f.refused ≤ f.number
  pub processed : f.processed ≤ 2730 * f.number

pub record CountedAfter (f r : Fed) : Type 0 where
  pub number : r.number ≤ f.number + 1
  pub accepted : r.accepted ≤ r.number
  pub refusals : r.refused ≤ r.number
  pub processed : r.processed ≤ 2730 * r.number

-- the lines stand in front, and the rest is as they tell
pub record Step (t : Told) (before after : Bytes) (s : Bytes) (w : List ℕ) (r : Fed) : Type 0 where
  pub lines : Wrote before after 0 r.put t.lines
  pub left : feeding_of r s w ≡ t.left
  pub ended : r.ended ≡ t.ended

-- whatever the memory beside it
abbrev pub AnyStep : (Bytes → List ℕ → Told) → Bytes → Bytes → Fed → Type 0
AnyStep f before after r = (s : Bytes) (w : List ℕ) → Step (f s w) before after s w r
