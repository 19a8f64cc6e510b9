-- Machinery for the contracts of private functions: how far a walk over entries and statements has come. Assumes nothing: these are definitions.
use Rattle.std.specs.Prelude.{ℕ, ◌≤◌, ◌<◌, ◌≡◌, true, ◌⊎◌, length}
use Rattle.base.specs.Lists.{◌∈◌}
use Rattle.base.specs.Le.{Bytes}
use Rattle.record_spec.specs.Record.{block_in}
use Rattle.record_cursor.specs.Cursor.{cursor_at}
use Rattle.record_cursor.specs.declared.StatementCursor.{StatementCursor}
use Rattle.store_spec.specs.Layout.{Entry, entries, used_by}
use Rattle.store_spec.specs.Store.{records_of}
use Rattle.store_spec.specs.Entry.{record_at, is_entry}
use Rattle.pending_spec.specs.Items.{Item}
use Rattle.pending_question.specs.declared.Walk.{Walk}

-- a place among the statements that is not past an offset
pub record NotPast (r : Bytes) (o : ℕ) (c : StatementCursor) : Type 0 where
  pub right : c ≡ cursor_at r c.index
  pub inside : c.index ≤ length (block_in r).statements
  pub before : c.index ≤ o

-- an entry stands there, or the entries end there
abbrev pub OnEntry : Bytes → ℕ → Type 0
OnEntry s at = (is_entry s at ≡ true) ⊎ (at ≡ used_by (records_of s))

-- the entries before `at` stand before p
abbrev pub Passed : Bytes → ℕ → ℕ → Type 0
Passed s at p = (e : Entry) → e ∈ entries (records_of s) → e.position < at → e.position < p

-- the first entry that does not stand before p, or the end of the entries
pub record EntryFrom (s : Bytes) (p at : ℕ) : Type 0 where
  pub on : OnEntry s at
  pub passed : Passed s at p
  pub reached : (at ≡ used_by (records_of s)) ⊎ (p ≤ at)

-- the walk has not passed the item
pub record Ahead (s : Bytes) (w : Walk) (x : Item) : Type 0 where
  pub passed : Passed s w.at x.position
  pub placed : is_entry s x.position ≡ true → w.last ≡ x.position → NotPast (record_at s x.position) x.start w.cursor

-- the walk stands at the item's entry, not past the item's end
pub record WalkedTo (s : Bytes) (x : Item) (w : Walk) : Type 0 where
  pub stands : is_entry s w.at ≡ true
  pub at : w.at ≡ x.position
  pub last : w.last ≡ x.position
  pub placed : NotPast (record_at s x.position) x.end w.cursor
