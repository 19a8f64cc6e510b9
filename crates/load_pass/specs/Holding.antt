-- Machinery for the contracts of inner functions: the places while the ordinary list is gone along. Assumes nothing: these are definitions.
use Rattle.std.specs.Prelude.{ℕ, ◌*◌, ◌≤◌, ◌<◌, ◌≡◌, true, length, take, drop}
use mathlib.Core.List.{List, ◌++◌, map, flatten}
use Rattle.base.specs.Lists.{keep}
use Rattle.base.specs.Le.{Bytes}
use Rattle.committee.specs.Committee.{Committee}
use Rattle.record_spec.specs.Reference.{TransactionLocator, TransactionLocatorRange, locators}
use Rattle.record_cursor.specs.Cursor.{cursor_at}
use Rattle.store_spec.specs.Layout.{entries}
use Rattle.store_spec.specs.Store.{records_of, store_in_order}
use Rattle.store_spec.specs.Entry.{record_at, is_entry}
use Rattle.final_spec.specs.Finality.{blocks_of}
use Rattle.final_readings_spec.specs.Readings.{Reading}
use Rattle.list_readings_spec.specs.Lists.{all_listed}
use Rattle.load_spec.specs.Loadable.{is_loadable_in}
use Rattle.load_spec.specs.Question.{place_words}
use Rattle.load_pass.specs.declared.ReadUp.{ReadUp}

-- the first n places are those of the loadable ones among the final shares gone through, which come first among all
pub record Holding (reading : Reading) (c : Committee) (s : Bytes) (through : List TransactionLocator) (ps : List ℕ) (n : ℕ) : Type 0 where
  pub rest : List TransactionLocator
  pub splits : all_listed true reading c (blocks_of s) ≡ through ++ rest
  pub many : n ≡ length (keep (is_loadable_in reading c (blocks_of s)) through)
  pub words : take (2 * n) ps ≡ flatten (map (place_words (entries (records_of s))) (keep (is_loadable_in reading c (blocks_of s)) through))
  pub room : 2 * length (all_listed true reading c (blocks_of s)) ≤ length ps

-- words past the first n places are as they were
pub record Past (ps qs : List ℕ) (n : ℕ) : Type 0 where
  pub long : length qs ≡ length ps
  pub same : drop (2 * n) qs ≡ drop (2 * n) ps

-- the locators of a range come next, after those of which the first n places hold the loadable ones
pub record Coming (s : Bytes) (q : TransactionLocatorRange) (ps : List ℕ) (n : ℕ) : Type 0 where
  pub reading : Reading
  pub committee : Committee
  pub in_order : store_in_order committee s ≡ true
  pub gone : List TransactionLocator
  pub rest : List TransactionLocator
  pub longer : q.start < q.end
  pub splits : all_listed true reading committee (blocks_of s) ≡ gone ++ (locators q ++ rest)
  pub holding : Holding reading committee s gone ps n

-- and then they are gone through too
pub record Listed (s : Bytes) (q : TransactionLocatorRange) (ps : List ℕ) (n : ℕ) (qs : List ℕ) (m : ℕ) : Type 0 where
  pub holding : (g : Coming s q ps n) → Holding g.reading g.committee s (g.gone ++ locators q) qs m
  pub past : Past ps qs m
  pub onward : n ≤ m

-- up to which statement the record of an entry was read
unfoldable pub Read : Bytes → ReadUp → Type 0
Read s r = is_entry s r.at ≡ true → r.cursor ≡ cursor_at (record_at s r.at) r.cursor.index
