-- Where the parts stand once a block more is stored. Assumes nothing.
use mathlib.Core.Path.{◌≡◌, refl, sym, ap, subst, ◌∙◌}
use mathlib.Core.Logic.{◌⊎◌, inl, inr}
use mathlib.Core.Bool.{true, false}
use mathlib.Core.List.{List, ◌∷◌}
use Prim.Native.Nat.{ℕ, ◌-◌, ◌≤◌, ◌<◌}
use native.Mathlib.Omega.{arith}
use native.Mathlib.Decide.{dec_lt}
use lib.ListN.{length, get_or}
use Rattle.base.specs.Lists.{◌∈◌, here, there}
use Rattle.base.specs.Le.{Bytes}
use Rattle.base.proofs.Tests.{not_both}
use Rattle.base.proofs.Lists.{every_in}
use Rattle.base.proofs.Members.{in_cases}
use Rattle.record_spec.specs.Reference.{BlockReference}
use Rattle.record_spec.specs.Block.{Block}
use Rattle.record_spec.proofs.References.{other_reference}
use Rattle.store_spec.specs.Layout.{Record, used_by, Entry, entries}
use Rattle.store_spec.specs.Store.{records_of}
use Rattle.store_spec.specs.Accept.{is_stored}
use Rattle.store_spec.specs.Entry.{block_at, laid_out, sorted_positions}
use Rattle.store_spec.proofs.Store.{entries_below}
use Rattle.store_spec.proofs.Loops.{EntryAt, entry_at, block_of_entry}
use Rattle.store_spec.proofs.Lookups.{stored_entry}
use Rattle.store_spec.proofs.Search.{laid_out_lem, order_entry}
use Rattle.final_spec.specs.Finality.{blocks_of}
use Rattle.final_block_votes.specs.Walk.{block_at_place}
use Rattle.index_spec.specs.Part.{part_in}
use Rattle.index_spec.specs.Index.{indexed, used_words, index_words}
use Rattle.index_check.specs.Known.{Stands, Known}
use Rattle.index_part_places.specs.Places.{Noted}
use Rattle.index_part_places.proofs.Inserted.{Inserted, position_in}
use Rattle.index_part_places.proofs.Standing.{old_stands}

module _ (s s' : Bytes) (r : Record) (l : laid_out s ≡ true) (l' : laid_out s' ≡ true) (e : records_of s' ≡ r ∷ records_of s)
    (fresh : is_stored (records_of s) r.block.reference ≡ false) where
  abbrev rs : List Record
  rs = records_of s

  abbrev bs : List Block
  bs = blocks_of s

  abbrev P : List ℕ
  P = sorted_positions rs

  abbrev P' : List ℕ
  P' = sorted_positions (r ∷ rs)

  at : (i : ℕ) → i < length P → EntryAt s (get_or P i 0)
  at i h = entry_at s (get_or P i 0) (order_entry s l P refl i h)

  lower : (i : ℕ) → i < length P → get_or P i 0 < used_by rs
  lower i h = let x = at i h in omega (arith, x.place, every_in (entries rs) x.entry (entries_below rs) x.stored)

  -- blocks stand where they stood, and the new one behind them
  older_in : (x : Entry) → x ∈ entries rs → x ∈ entries (r ∷ rs)
  unfolding entries
  older_in x m = there m

  newest : Entry
  newest = record { position = used_by rs; bytes = r.bytes; block = r.block }

  newest_in : newest ∈ entries (r ∷ rs)
  unfolding entries newest
  newest_in = here

  block_in_lem : (x : Entry) → x ∈ entries (r ∷ rs) → block_at s' x.position ≡ x.block
  block_in_lem x m = block_of_entry s' (laid_out_lem s' l').reads x (subst (λ (qs : List Record). x ∈ entries qs) (sym e) m)

  old_block : (i : ℕ) (h : i < length P) → block_at s' (get_or P i 0) ≡ block_at s (get_or P i 0)
  old_block i h =
      let x = at i h in
      rw (← x.place) (block_in_lem x.entry (older_in x.entry x.stored) ∙ sym (block_of_entry s (laid_out_lem s l).reads x.entry x.stored))

  new_block : block_at s' (used_by rs) ≡ r.block
  unfolding newest
  new_block = block_in_lem newest newest_in

  -- no old block has the new one's reference
  others : (i : ℕ) → i < length P → (block_at s (get_or P i 0)).reference ≡ r.block.reference → ⊥
  others i h q =
      let x = at i h in
      let z = ap (λ (b : Block). b.reference) (sym (block_of_entry s (laid_out_lem s l).reads x.entry x.stored)) ∙ ap (λ (p : ℕ). (block_at s p).reference)
      x.place ∙ q in
      not_both (stored_entry rs r.block.reference x.entry x.stored z) fresh

  module _ (order starts₀ starts : List ℕ) (n : Noted (r ∷ rs) (used_by rs) (used_words (indexed bs)) order starts₀ starts) where
    place : ℕ
    place = (position_in r rs).0

    ins : Inserted place (used_by rs) P P'
    unfolding place
    ins = (position_in r rs).1

    -- the place that was found is the one where it was put
    same_place : n.place ≡ place
    same_place = go (dec_lt n.place place) (dec_lt place n.place)
      where
        go : Dec (n.place < place) → Dec (place < n.place) → n.place ≡ place
        go (yes h) k =
            absurd (omega (arith, n.found, ins.below n.place h, lower n.place (omega (arith, ins.within))))
        go (no h) (yes k) =
            absurd (omega (
              arith,
              n.found,
              ins.above n.place k (omega (arith, n.within, ins.long)),
              lower (n.place - 1)
                  (omega (arith, n.within, ins.long)),
            ))
        go (no h) (no k) = omega arith

    module _ (k : Known s P (index_words bs) starts₀ bs) (new : Stands (index_words (r.block ∷ bs)) (used_words (indexed bs))
        (part_in (r.block ∷ bs) r.block.reference)) where
      other_part : (q : BlockReference) → (r.block.reference ≡ q → ⊥) → part_in (r.block ∷ bs) q ≡ part_in bs q
      unfolding part_in
      other_part q h = rw (other_reference r.block.reference q h)

      abbrev Right : ℕ → Block → Type 0
      Right j d = Stands (index_words (r.block ∷ bs)) (get_or starts j 0) (part_in (r.block ∷ bs) d.reference)

      -- at the place of an old block
      old_part : (i j : ℕ) → i < length P → get_or P' j 0 ≡ get_or P i 0 → get_or starts j 0 ≡ get_or starts₀ i 0
          → (d : Block) → d ∈ (r.block ∷ bs) → d.reference ≡ (block_at_place s' P' j).reference → Right j d
      unfolding block_at_place
      old_part i j h p st d m q = go (in_cases m)
        where
          is : d.reference ≡ (block_at s (get_or P i 0)).reference
          is = q ∙ ap (λ (x : ℕ). (block_at s' x).reference) p ∙ ap (λ (b : Block). b.reference) (old_block i h)

          go : (d ≡ r.block) ⊎ (d ∈ bs) → Right j d
          go (inl z) = absurd (others i h (sym is ∙ ap (λ (b : Block). b.reference) z))
          go (inr z) =
              let f = other_part d.reference (λ y. others i h (sym is ∙ sym y)) in
              rw (st, f) (old_stands r.block bs (get_or starts₀ i 0) (part_in bs d.reference) (k.parts i h d z is))

      -- at the place of the new one
      new_part : (j : ℕ) → j ≡ place → (d : Block) → d.reference ≡ (block_at_place s' P' j).reference → Right j d
      unfolding block_at_place
      new_part j z d q =
          let is : d.reference ≡ r.block.reference =
          q ∙ ap (λ (x : ℕ). (block_at s' (get_or P' x 0)).reference) z ∙ ap (λ (x : ℕ). (block_at s' x).reference) ins.own ∙ ap (λ (b : Block). b.reference)
          new_block in
          let st : get_or starts j 0 ≡ used_words (indexed bs) = ap (λ (x : ℕ). get_or starts x 0) (z ∙ sym same_place) ∙ n.put.own in
          rw (st, is) new

      pub known_grown : length P' ≤ length starts₀ → Known s' P' (index_words (r.block ∷ bs)) starts (r.block ∷ bs)
      known_grown room = record { long = omega (arith, n.put.long); parts = parts }
        where
          parts : (j : ℕ) → j < length P' → (d : Block) → d ∈ (r.block ∷ bs) → d.reference ≡ (block_at_place s' P' j).reference → Right j d
          parts j h d m q = go (dec_lt j place) (dec_lt place j)
            where
              go : Dec (j < place) → Dec (place < j) → Right j d
              go (yes u) v = old_part j j (omega (arith, ins.within)) (ins.below j u) (n.put.below j (omega (arith, same_place))) d m q
              go (no u) (yes v) =
                  old_part (j - 1) j (omega (arith, ins.long)) (ins.above j v (omega (arith, ins.long)))
                  (n.put.above j (omega (arith, same_place)) (omega arith)) d m q
              go (no u) (no v) = new_part j (omega arith) d q
