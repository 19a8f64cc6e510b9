-- Machinery for the contracts of inner functions: items in order, shares registered, and what was checked before. Assumes nothing: these are definitions.
use Rattle.std.specs.Prelude.{ℕ, ◌≡◌, Bool, true, false, List, leb, length}
use Rattle.base.specs.Lists.{all_of, pairwise}
use Rattle.base.specs.Le.{Bytes}
use Rattle.base.specs.Checks.{passes}
use Rattle.committee.specs.Committee.{Committee, broken}
use Rattle.record_spec.specs.Record.{well_formed, block_in}
use Rattle.store_spec.specs.Layout.{entries}
use Rattle.store_spec.specs.Store.{records_of}
use Rattle.store_spec.specs.Accept.{block_checks}
use Rattle.store_spec.specs.Entry.{laid_out}
use Rattle.pending_spec.specs.Items.{Item, item_before, item_full}
use Rattle.pending_spec.specs.Table.{table_of, room, table_in_order}

-- items that ascend, are disjoint and not empty
pub record Orderly (xs : List Item) : Type 0 where
  pub ordered : pairwise item_before xs ≡ true
  pub full : all_of item_full xs ≡ true

-- what registering leaves of a table: xs are the items with those that are added
pub record Registered (xs : List Item) (t : List ℕ) (r : Bool) (u : List ℕ) : Type 0 where
  pub fits : r ≡ leb (length xs) (room t)
  pub table : r ≡ true → u ≡ table_of (length t) xs

-- what has been checked before a record is counted: the committee, the store, the table, and the record but for what it asks of memory
pub record Feeding (c : Committee) (s rec : Bytes) (t : List ℕ) : Type 0 where
  pub committee : broken c ≡ false
  pub store : laid_out s ≡ true
  pub formed : well_formed rec ≡ true
  pub checks : passes (block_checks c (records_of s) (block_in rec)) ≡ true
  pub table : table_in_order c (entries (records_of s)) t ≡ true
