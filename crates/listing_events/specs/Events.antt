-- The lines of a record's events. Assumes nothing: these are definitions.
use Rattle.std.specs.Prelude.{ℕ, zero, suc, ◌+◌, List, [], ◌++◌, eqb, get_or, drop}
use Rattle.base.specs.Lists.{pick}
use Rattle.base.specs.Le.{Bytes}
use Rattle.listing_lines.specs.Lines.{event_line}

-- 01: "An event is three words: kind (1 processed, 2 late, 3 unknown), statement index, offset" and "`processed K S O`, `late`, `unknown` likewise": the
-- lines of the first n events of record k
unfoldable pub event_lines : ℕ → ℕ → List ℕ → Bytes
event_lines k zero w = []
event_lines k (suc n) w = event_line (get_or w 0 0) k (get_or w 1 0) (get_or w 2 0) ++ event_lines k n (drop 3 w)

-- how many of them are processed ones
unfoldable pub processed_in : ℕ → List ℕ → ℕ
processed_in zero w = 0
processed_in (suc n) w = pick (eqb (get_or w 0 0) 1) 1 0 + processed_in n (drop 3 w)
