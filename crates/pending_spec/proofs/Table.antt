-- The pending table: its words read back as its items. Assumes nothing.
use mathlib.Core.Path.{◌≡◌, refl}
use mathlib.Core.List.{List, [], ◌∷◌, map, flatten}
use Prim.Native.Nat.{ℕ, ◌+◌, ◌-◌, ◌*◌, ◌≤◌}
use native.Mathlib.Omega.{arith}
use lib.ListN.{length, replicate, length-append, length-replicate}
use Rattle.base.specs.Read.{give, onward, ◌>>=◌}
use Rattle.base.proofs.Lists.{Every, none_of, and}
use Rattle.base.proofs.Read.{items_reads, ReadsBack, repeated_reads}
use Rattle.pending_spec.specs.Items.{Item}
use Rattle.pending_spec.specs.Table.{item_words, table_of, item_from, read_item, items_read, items_of}

item_reads : (x : Item) → ReadsBack read_item item_words x
unfolding read_item item_words item_from ◌>>=◌ onward give
item_reads x t = rw (items_reads 6 (item_words x) t refl)

each : (xs : List Item) → Every (ReadsBack read_item item_words) xs
each [] = none_of
each (x ∷ xs) = and (item_reads x) (each xs)

-- what a table was written from is read back
pub items_of_table_of : (n : ℕ) (xs : List Item) → items_of (table_of n xs) ≡ xs
unfolding items_of items_read table_of
items_of_table_of n xs = rw (repeated_reads read_item item_words xs (each xs) (replicate (n - 1 - 6 * length xs) 0))

pub length_words : (xs : List Item) → length (flatten (map item_words xs)) ≡ 6 * length xs
unfolding flatten item_words
length_words [] = refl
length_words (x ∷ xs) = omega (arith, length_words xs)

-- a table that its items fit has its length
pub length_table_of : (n : ℕ) (xs : List Item) → 1 + 6 * length xs ≤ n → length (table_of n xs) ≡ n
unfolding table_of
length_table_of n xs h =
    let k : ℕ = n - 1 - 6 * length xs in
    omega (arith, length-append (flatten (map item_words xs)) (replicate k 0), length_words xs, length-replicate {A = ℕ} k 0)
