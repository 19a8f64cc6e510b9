-- Machinery for the contracts of inner functions: room for more edges in a table. Assumes nothing: these are definitions.
use Rattle.std.specs.Prelude.{ℕ, ◌+◌, ◌*◌, ◌/◌, ◌≤◌, ◌≡◌, false, List, length}
use Rattle.std.proofs.Math.Option.{Option}
use Rattle.base.specs.Lists.{keep}
use Rattle.base.specs.Le.{Bytes}
use Rattle.record_spec.specs.Reference.{TransactionLocator, same_locator}
use Rattle.types.specs.Values.{as_maybe}
use Rattle.list_order.specs.Row.{is_after_best}
use Rattle.list_row_sort.specs.Rows.{Row, rows_of, key_of, Sortable}
use Rattle.list_cuts.specs.Cuts.{Held}
use Rattle.list_cuts.specs.declared.Window.{Window}

-- those of the rows that are at a locator
unfoldable pub rows_at : Bytes → TransactionLocator → List Row → List Row
rows_at s l rows = keep (λ e. same_locator (key_of s e) l) rows

-- at most so many of the first n rows of a table are at one locator
unfoldable pub FewAt : Bytes → List ℕ → ℕ → ℕ → Type 0
FewAt s t n limit = (l : TransactionLocator) → length (rows_at s l (rows_of t n)) ≤ limit

-- what making room for more rows asks: it is there where fifteen in sixteen of the rows go but those of one locator, of which there are few
pub record Halvable (s : Bytes) (t spare : List ℕ) (n more : ℕ) : Type 0 where
  pub can : Sortable s t spare n
  pub few : FewAt s t n 3072
  pub wide : 3 * (n / 16 + 3072 + more) ≤ length t

-- a bound that is not after another: a locator that is not after the one is not after the other
unfoldable pub Shorter : Option TransactionLocator → Option TransactionLocator → Type 0
Shorter bound other = (l : TransactionLocator) → is_after_best other l ≡ false → is_after_best bound l ≡ false

-- room made for them: what was held is, in a window that may be smaller
pub record RoomMade (s : Bytes) (u v : List ℕ) (w r : Window) (more : ℕ) : Type 0 where
  pub long : length v ≡ length u
  pub held : (last : Option TransactionLocator) (es : List Row) → Held s last (as_maybe w.bound) u w.n es → Held s last (as_maybe r.bound) v r.n es
  pub short : (last : Option TransactionLocator) (es : List Row) → Held s last (as_maybe w.bound) u w.n es → Shorter (as_maybe w.bound)
      (as_maybe r.bound)
  pub fit : 3 * (r.n + more) ≤ length v
