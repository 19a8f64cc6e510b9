-- What the last line says of the pending table. Assumes nothing: these are definitions.
use Rattle.std.specs.Prelude.{ℕ, ◌-◌, List, map}
use Rattle.base.specs.Lists.{sum_of}
use Rattle.pending_spec.specs.Items.{Item}

unfoldable pub item_offsets : Item → ℕ
item_offsets x = x.end - x.start

-- 01: "`end` with accepted, refused, processed, pending offsets, final": the offsets of all items
unfoldable pub pending_offsets : List Item → ℕ
pending_offsets xs = sum_of (map item_offsets xs)
