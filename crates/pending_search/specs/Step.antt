-- Machinery for the contracts of inner functions: what a search finds. Assumes nothing: these are definitions.
use Rattle.std.specs.Prelude.{ℕ, ◌≤◌, ◌<◌, ◌≡◌, Bool, true, false, ◌&&◌, ◌||◌, List, ltb, leb, eqb, length, get_or}
use Rattle.pending_spec.specs.Items.{Item, no_item}

-- the item lies wholly before the offset o of the entry at p
unfoldable pub ends_before : ℕ → ℕ → Item → Bool
ends_before p o x = ltb x.position p || (eqb x.position p && leb x.end o)

-- where the items that lie wholly before the offset o of the entry at p end
pub record Parted (p o : ℕ) (xs : List Item) (i : ℕ) : Type 0 where
  pub most : i ≤ length xs
  pub below : (j : ℕ) → j < i → ends_before p o (get_or xs j no_item) ≡ true
  pub above : (j : ℕ) → i ≤ j → j < length xs → ends_before p o (get_or xs j no_item) ≡ false
