-- The entries of a store by their positions, for the functions that read them. Assumes nothing: these are definitions.
use Rattle.std.specs.Prelude.{ℕ, ◌+◌, Bool, false, not, ◌&&◌, ◌||◌, List, [], ◌∷◌, ◌++◌, map, leb, eqb, length, take, drop}
use Rattle.std.proofs.Math.Option.{Option, none, some}
use Rattle.base.specs.Lists.{any_of, all_of, pairwise}
use Rattle.base.specs.Le.{Bytes, le_at}
use Rattle.base.specs.Read.{Part}
use Rattle.record_spec.specs.Reference.{same_reference, reference_before}
use Rattle.record_spec.specs.Block.{Block}
use Rattle.record_spec.specs.Record.{block_in}
use Rattle.store_spec.specs.Layout.{Record, used_by, Entry, reference_of, entries, first_position, next_position, ascending}
use Rattle.store_spec.specs.Store.{used_length, block_count, read_entries, records_of, allowed_length}

-- 01: "next position 4, record length 4, record": the record of the entry at a position, and its block
unfoldable pub record_at : Bytes → ℕ → Bytes
record_at s p = take (le_at 4 s (p + 4)) (drop (p + 8) s)

unfoldable pub block_at : Bytes → ℕ → Block
block_at s p = block_in (record_at s p)

-- where the entries stand, in order of arrival
unfoldable pub positions : List Record → List ℕ
positions [] = []
positions (r ∷ older) = positions older ++ (used_by older ∷ [])

-- where they stand, in ascending reference order
unfoldable pub sorted_positions : List Record → List ℕ
sorted_positions rs = map (λ e. e.position) (ascending (entries rs))

-- a number stands in a list
unfoldable pub is_in : ℕ → List ℕ → Bool
is_in n ns = any_of (λ m. eqb m n) ns

-- ---- what "in order" (10) says without the committee

-- the length, the used length, the block count and the six zero bytes
unfoldable pub header_right : Bytes → Bool
header_right s =
    allowed_length s
    && (leb (used_length s) (length s)
    && (leb (block_count s) 1024 && eqb (le_at 6 s 10) 0))

-- what was read ends at n
unfoldable pub ends_at : ℕ → Option (Part (List Record)) → Bool
ends_at n none = false
ends_at n (some p) = eqb (used_by p.value) n

-- as many entries as the block count says stand one after the other up to the used length, each with a well-formed record
unfoldable pub readable : Bytes → Bool
readable s = header_right s && ends_at (used_length s) (read_entries (block_count s) (drop 16 s))

-- the first position and every next position are what the layout says, and no two entries have one reference
unfoldable pub chained : Bytes → Bool
chained s =
    let es : List Entry = entries (records_of s) in
    eqb (le_at 4 s 0) (first_position es)
    && (all_of (λ e. eqb (le_at 4 s e.position) (next_position es e)) es
    && pairwise (λ e d. not (same_reference (reference_of e) (reference_of d))) es)

-- the used part is the layout of its records, which have different references: a store in order, but for what is checked of each record
unfoldable pub laid_out : Bytes → Bool
laid_out s = readable s && chained s

-- an entry of a readable store stands there
unfoldable pub is_entry : Bytes → ℕ → Bool
is_entry s p = readable s && is_in p (positions (records_of s))

-- the block at a position comes after the one at another, or that is none (zero)
unfoldable pub none_or_entry : Bytes → ℕ → Bool
none_or_entry s p = eqb p 0 || is_entry s p

unfoldable pub follows : Bytes → ℕ → ℕ → Bool
follows s last p = eqb last 0 || reference_before (block_at s last).reference (block_at s p).reference
