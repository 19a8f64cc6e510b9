-- Machinery for the contracts of inner functions: the edges of a lane more. Assumes nothing: these are definitions.
use Rattle.std.specs.Prelude.{ℕ, ◌+◌, ◌≤◌, ◌<◌, ◌≡◌, true, List, ◌++◌, length}
use Rattle.std.proofs.Math.Option.{Option}
use Rattle.base.specs.Le.{Bytes}
use Rattle.record_spec.specs.Reference.{TransactionLocator, TransactionLocatorRange}
use Rattle.store_spec.specs.Entry.{block_at, is_entry}
use Rattle.list_block_spans.specs.Joined.{VotesFit}
use Rattle.types.specs.Values.{as_maybe}
use Rattle.list_row_sort.specs.Rows.{Row, Sortable}
use Rattle.list_edge_rows.specs.Edges.{edges_of}
use Rattle.list_cuts.specs.Cuts.{Held}
use Rattle.list_block_edges.specs.Taken.{OwnRows}
use Rattle.list_cuts.specs.declared.Window.{Window}
use Rattle.list_cuts.specs.Room.{FewAt, Shorter}

-- what is held with the edges of one lane more
pub record HeldMore (s : Bytes) (qs : List TransactionLocatorRange) (last bound : Option TransactionLocator) (t : List ℕ) (n place : ℕ) (es : List Row) : Type
    0 where
  pub own : List Row
  pub right : OwnRows s last bound qs own
  pub held : Held s last bound t n (es ++ edges_of place own)

-- what taking those of an entry's block asks: the entry, few rows at one locator in a wide table, as many spare words, and a place that can be doubled
pub record Enterable (s : Bytes) (at place : ℕ) (t spare : List ℕ) (n : ℕ) : Type 0 where
  pub entry : is_entry s at ≡ true
  pub votes : VotesFit (block_at s at)
  pub few : length (block_at s at).statements ≤ 1024
  pub can : Sortable s t spare n
  pub few_at : FewAt s t n 3072
  pub wide : 16386 ≤ length t
  pub spared : length t ≤ length spare
  pub small : place < 9223372036854775808

-- and what it leaves
pub record NextTaken (s : Bytes) (qs : List TransactionLocatorRange) (last : Option TransactionLocator) (u v : List ℕ) (w r : Window) (place : ℕ) : Type 0 where
  pub long : length v ≡ length u
  pub short : (es : List Row) → Held s last (as_maybe w.bound) u w.n es → Shorter (as_maybe w.bound) (as_maybe r.bound)
  pub held : (es : List Row) → Held s last (as_maybe w.bound) u w.n es → HeldMore s qs last (as_maybe r.bound) v r.n place es
