-- What the code's structs and enums say, in items. Assumes nothing: these are definitions.
use Rattle.std.specs.Prelude.{ℕ, ◌≤◌, ◌<◌, ◌≡◌, Bool, true, false, List, length, get_or}
use Rattle.std.proofs.Math.Option.{Option, none, some}
use Rattle.pending_search.specs.declared.ItemStretch.{ItemStretch}
use Rattle.pending_spec.specs.Items.{Item, no_item, item_holds, item_at}
use Rattle.std.specs.Prelude.{None, Some}
use Rattle.std.specs.declared.option.Option as code

-- an index at which the test holds, or there is none
pub data FoundBy (test : Item → Bool) (xs : List Item) : code.Option ℕ → Type 0 where
  at_index : (i : ℕ) → i < length xs → test (get_or xs i no_item) ≡ true → FoundBy test xs (Some i)
  nowhere : ((i : ℕ) → i < length xs → test (get_or xs i no_item) ≡ false) → FoundBy test xs None

-- the item that was found
unfoldable pub found_item : List Item → code.Option ℕ → Option Item
found_item xs (Some i) = some (get_or xs i no_item)
found_item xs None = none

-- what stands at the offset o of the entry at p stands at each offset up to the stretch's end, which is not past `end`
pub record Constant (xs : List Item) (p o end : ℕ) (s : ItemStretch) : Type 0 where
  pub found : FoundBy (item_holds p o) xs s.found
  pub onward : o < s.end
  pub most : s.end ≤ end
  pub same : (q : ℕ) → o ≤ q → q < s.end → item_at xs p q ≡ item_at xs p o
