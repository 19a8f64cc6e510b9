-- The lines of a stretch of final locators. Assumes nothing: these are definitions.
use Rattle.std.specs.Prelude.{ℕ, zero, suc, ◌+◌, ◌-◌, ◌≤◌, ◌<◌, [], ◌++◌, length}
use Rattle.base.specs.Le.{Bytes}
use Rattle.listing_text.specs.Text.{Wrote}
use Rattle.listing_lines.specs.Lines.{final_line}
use Rattle.listing_final_lines.specs.declared.Stretch.{Stretch}
use Rattle.listing_final_lines.specs.declared.Part.{Part}

-- the line of index d of a stretch
unfoldable pub line_of : Stretch → ℕ → Bytes
line_of t d = final_line t.round t.author t.head (t.first + d) t.blocks t.stake

-- n of its lines from index d on
unfoldable pub lines_of : Stretch → ℕ → ℕ → Bytes
lines_of t d zero = []
lines_of t d (suc n) = line_of t d ++ lines_of t (d + 1) n

-- lines from index `done` on stand in front, as many as fit; at least one where one is left and fits
pub record PutLines (t : Stretch) (done : ℕ) (r : Part) (before after : Bytes) : Type 0 where
  pub lines : Wrote before after 0 r.put (lines_of t done (r.done - done))
  pub from : done ≤ r.done
  pub inside : done ≤ t.lines → r.done ≤ t.lines
  pub onward : done < t.lines → 128 ≤ length before → done < r.done
