-- The part of the next stored block held against the index. Assumes nothing.
use mathlib.Core.Path.{◌≡◌, sym, ap, subst, ◌∙◌}
use mathlib.Core.Bool.{true, false}
use mathlib.Core.List.{List, map}
use Prim.Native.Nat.{ℕ, ◌+◌, ◌<◌}
use native.Mathlib.Omega.{arith}
use lib.ListN.{length, set}
use Rattle.base.specs.Le.{Bytes, le_at}
use Rattle.base.proofs.Le.{AllBytes}
use Rattle.committee.specs.Committee.{Committee}
use Rattle.record_spec.specs.Block.{Block}
use Rattle.record_spec.specs.Record.{block_in}
use Rattle.store_spec.specs.Store.{records_of}
use Rattle.store_spec.specs.Accept.{is_stored}
use Rattle.store_spec.specs.Entry.{record_at, block_at, is_entry}
use Rattle.store_spec.proofs.Accepted.{blocks}
use Rattle.final_spec.specs.Finality.{blocks_of}
use Rattle.final_block_votes.specs.Walk.{Sorted, block_at_place}
use Rattle.final_block_votes.proofs.Along.{sorted_count}
use Rattle.index_spec.specs.Part.{part_from, part_in}
use Rattle.index_spec.specs.Index.{index_agrees}
use Rattle.index_own_runs.specs.Own.{Voting}
use Rattle.index_parts.specs.Parts.{Compared}
use Rattle.index_check.specs.Known.{Known, Rooted}
use Rattle.index_check.proofs.Arriving.{older_at, arrival, arrived_entry, arrived_block, arrived_voting, arrived_rooted, arrived_stored}
use Rattle.index_check.proofs.Agreeing.{Agreeing, agreeing_differs, agreeing_on}
use Rattle.std.specs.Prelude.{None, Some, Option}

module _ (c : Committee) (s : Bytes) (order ix starts₀ : List ℕ) (o : Sorted c s order) (bytes : AllBytes s) (starts : List ℕ) (at pos i : ℕ)
    (g : Agreeing s order ix starts₀ starts at pos i) (m : i < length order) where
  pub in_store : i < length (records_of s)
  in_store = omega (arith, ap length o.places ∙ sorted_count s o.laid)

  abbrev older : List Block
  older = blocks (older_at (records_of s) i)

  abbrev b : Block
  b = (arrival (records_of s) i in_store).own.block

  next_block : block_at s at ≡ b
  next_block = ap (block_at s) g.place ∙ arrived_block c s order o bytes i in_store

  pub next_entry : is_entry s at ≡ true
  next_entry = subst (λ (p : ℕ). is_entry s p ≡ true) (sym g.place) (arrived_entry c s order o bytes i in_store)

  pub next_stored : is_stored (records_of s) (block_at s at).reference ≡ true
  next_stored = subst (λ (d : Block). is_stored (records_of s) d.reference ≡ true) (sym next_block) (arrived_stored c s order o bytes i in_store)

  -- its record, as it stands in the store
  module _ (rec : Bytes) (e : rec ≡ record_at s at) where
    block_is : block_in rec ≡ b
    unfolding block_at
    block_is = ap block_in e ∙ next_block

    pub next_voting : Voting rec
    next_voting = subst Voting (sym (e ∙ ap (record_at s) g.place)) (arrived_voting c s order o bytes i in_store)

    pub next_rooted : Rooted s older (block_in rec)
    next_rooted = subst (Rooted s older) (sym block_is) (arrived_rooted c s order o bytes i in_store)

    module _ (r : Option ℕ)
        (held : (bs : List Block) → Known s order ix starts bs → Rooted s bs (block_in rec)
        → Compared ix pos (part_from (block_in rec) (map (part_in bs) (block_in rec).includes)) r) where
      compared : Compared ix pos (part_from b (map (part_in older) b.includes)) r
      compared = subst (λ (d : Block). Compared ix pos (part_from d (map (part_in older) d.includes)) r) block_is (held older g.known next_rooted)

      pub next_differs : r ≡ None → index_agrees (blocks_of s) ix ≡ false
      unfolding Compared
      next_differs d = agreeing_differs c s order ix starts₀ o bytes starts at pos i g in_store
          (subst (Compared ix pos (part_from b (map (part_in older) b.includes))) d compared)

      -- its part stands there, and where it begins is noted at the block's place
      pub next_on : (end : ℕ) → r ≡ Some end → (k : ℕ) → k < length order → (block_at_place s order k).reference ≡ (block_at s at).reference
          → (next : ℕ) → next ≡ at + 8 + le_at 4 s (at + 4) → Agreeing s order ix starts₀ (set starts k pos) next end (i + 1)
      unfolding Compared
      next_on end d k n p next q =
          let w = subst (Compared ix pos (part_from b (map (part_in older) b.includes))) d compared in
          agreeing_on c s order ix starts₀ o bytes starts at pos i g in_store end w.0 w.1.0 w.1.1 k n
          (p ∙ ap (λ (x : Block). x.reference) next_block) next q
