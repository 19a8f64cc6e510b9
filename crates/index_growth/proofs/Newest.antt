-- The part of a record that is fed: what the sources make, its room and its words. Assumes nothing.
use mathlib.Core.Path.{◌≡◌, refl, sym, subst}
use mathlib.Core.Bool.{true, false}
use mathlib.Core.List.{List, [], ◌∷◌}
use Prim.Native.Nat.{ℕ, ◌+◌, ◌-◌, ◌*◌, ◌/◌, ◌≤◌, ◌<◌}
use native.Mathlib.Omega.{arith}
use lib.ListN.{length, get_or}
use borrow.Author.Tests.{lt-ltb, le-ltb}
use Rattle.base.specs.Le.{Bytes}
use Rattle.record_spec.specs.Record.{block_in}
use Rattle.final_spec.specs.Finality.{blocks_of}
use Rattle.index_spec.specs.Part.{RunsOf}
use Rattle.index_spec.specs.Index.{indexed, used_words, index_agrees, index_short}
use Rattle.index_spec.proofs.Grown.{used_grows, agrees_used}
use Rattle.index_spec.proofs.Reading.{part_length}
use Rattle.index_own_runs.specs.Own.{OwnRuns}
use Rattle.index_pieces.specs.Sources.{Ready, together}
use Rattle.index_parts.specs.Parts.{Counted}
use Rattle.index_check.specs.Known.{Opened}
use Rattle.index_check.proofs.Opening.{own_ready, opened_runs}
use Rattle.index_check.proofs.Agreeing.{newest_part}
use Rattle.index_growth.specs.Growing.{new_part}
use Rattle.std.specs.Prelude.{None, Some, Option}

-- the sources and the record's own votes make its part
pub new_runs : (s rec : Bytes) (ix cs : List ℕ) (n : ℕ) (ws : List ℕ) (m : ℕ) → OwnRuns (block_in rec) ws m → Opened (blocks_of s) (block_in rec) ix cs n
    → RunsOf (together ws (0 ∷ m ∷ []) ix cs n) (new_part s rec)
unfolding new_part
new_runs s rec ix cs n ws m w o =
    subst (RunsOf (together ws (0 ∷ m ∷ []) ix cs n)) (sym (newest_part (block_in rec) (blocks_of s)))
    (opened_runs (block_in rec) ws m w (0 ∷ m ∷ []) refl refl refl (blocks_of s) ix cs n o)

pub new_ready : (rec : Bytes) (ws : List ℕ) (m : ℕ) → OwnRuns (block_in rec) ws m → Ready ws (0 ∷ m ∷ []) 1
new_ready rec ws m w = own_ready (block_in rec) ws m w (0 ∷ m ∷ []) refl refl refl

module _ (s rec : Bytes) (ix : List ℕ) (a : index_agrees (blocks_of s) ix ≡ true) where
  -- the words that are used with it
  needed : used_words (indexed (block_in rec ∷ blocks_of s)) ≡ get_or ix 0 0 + 1 + 10 * length (new_part s rec)
  unfolding new_part
  needed = omega (arith, used_grows (block_in rec) (blocks_of s), agrees_used (blocks_of s) ix a, part_length (new_part s rec))

  pub room_short : length ix < get_or ix 0 0 + 1 + 10 * length (new_part s rec) → index_short (block_in rec ∷ blocks_of s) ix ≡ true
  unfolding index_short
  room_short k = lt-ltb (length ix) (used_words (indexed (block_in rec ∷ blocks_of s))) (omega (arith, needed))

  pub room_enough : get_or ix 0 0 + 1 + 10 * length (new_part s rec) ≤ length ix → index_short (block_in rec ∷ blocks_of s) ix ≡ false
  unfolding index_short
  room_enough k = le-ltb (length ix) (used_words (indexed (block_in rec ∷ blocks_of s))) (omega (arith, needed))

  -- counted against the room behind its run count
  module _ (m : get_or ix 0 0 < length ix) (r : Option ℕ) (h : Counted ((length ix - get_or ix 0 0 - 1) / 10) (new_part s rec) r) where
    pub counted_short : r ≡ None → index_short (block_in rec ∷ blocks_of s) ix ≡ true
    unfolding Counted
    counted_short e =
        let many : (length ix - get_or ix 0 0 - 1) / 10 < length (new_part s rec) = subst (Counted ((length ix - get_or ix 0 0 - 1) / 10) (new_part s rec)) e h
        in
        room_short (omega arith)

    module _ (k : ℕ) (e : r ≡ Some k) where
      all_counted : (k ≤ (length ix - get_or ix 0 0 - 1) / 10) × (length (new_part s rec) ≡ k)
      unfolding Counted
      all_counted = subst (Counted ((length ix - get_or ix 0 0 - 1) / 10) (new_part s rec)) e h

      pub counted_runs : length (new_part s rec) ≡ k
      counted_runs = all_counted.1

      pub counted_room : get_or ix 0 0 + 1 + 10 * k ≤ length ix
      counted_room = omega (arith, all_counted.0)

      pub counted_enough : index_short (block_in rec ∷ blocks_of s) ix ≡ false
      counted_enough = room_enough (omega (arith, counted_room, counted_runs))
