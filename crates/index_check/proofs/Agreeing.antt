-- The index held against the store, part by part (54). Assumes nothing.
use mathlib.Core.Path.{◌≡◌, refl, sym, ap, subst, ◌∙◌}
use mathlib.Core.Logic.{◌⊎◌, inl, inr}
use mathlib.Core.Bool.{true, false}
use mathlib.Core.List.{List, [], ◌∷◌, ◌++◌, map, map-append}
use Prim.Native.Nat.{ℕ, ◌+◌, ◌≤◌, ◌<◌}
use native.Mathlib.Omega.{arith}
use native.Mathlib.Decide.{dec_lt, ℕ_discrete}
use lib.Dec.{eqb}
use lib.ListN.{length, get_or, drop, set, length-set}
use lib.Seq.{get_or-set_same, get_or-set_other}
use borrow.Author.Tests.{eq-eqb, ne_eqb}
use Rattle.base.specs.Lists.{◌∈◌}
use Rattle.base.specs.Le.{Bytes, le_at}
use Rattle.base.proofs.Tests.{fails}
use Rattle.base.proofs.Le.{AllBytes}
use Rattle.base.proofs.Members.{in_empty, in_cases, in_right, map_in}
use Rattle.base.proofs.Lists.{every_in}
use Rattle.committee.specs.Committee.{Committee}
use Rattle.record_spec.specs.Reference.{BlockReference, reference_before}
use Rattle.record_spec.specs.Block.{Block}
use Rattle.record_spec.proofs.References.{reference_refl, other_reference, reference_irrefl}
use Rattle.record_spec.proofs.Records.{ReferenceFits, BlockFits, block_of_fits}
use Rattle.store_spec.specs.Layout.{Record, used_by}
use Rattle.store_spec.specs.Store.{records_of}
use Rattle.store_spec.proofs.Search.{reference_in, order_rises}
use Rattle.store_spec.proofs.Store.{records_of_bytes, records_of_right, right_block}
use Rattle.store_spec.specs.Entry.{block_at}
use Rattle.store_spec.proofs.Stored.{WellStored, stored}
use Rattle.store_spec.proofs.Accepted.{blocks}
use Rattle.final_spec.specs.Finality.{blocks_of}
use Rattle.final_block_votes.specs.Walk.{Sorted, block_at_place}
use Rattle.index_spec.specs.Runs.{Run}
use Rattle.index_spec.specs.Part.{part_from, part_in}
use Rattle.index_spec.specs.Index.{part_words, indexed, body_words, used_words, index_agrees}
use Rattle.index_spec.proofs.Grown.{used_grows, agrees_used}
use Rattle.index_spec.proofs.Checking.{agrees_part, Checked, checked_start, checked_on, checked_end}
use Rattle.index_spec.proofs.Reading.{part_back, part_length}
use Rattle.index_spec.proofs.Fitting.{run_reference}
use Rattle.index_strides.proofs.Words.{part_count}
use Rattle.index_check.specs.Known.{Stands, Known}
use Rattle.index_check.proofs.Fits.{span_fits}
use Rattle.index_check.proofs.Arriving.{older_at, older_none, older_all, Arrival, arrival, older_stored, own_stands}

-- what is known after i blocks
pub record Agreeing (s : Bytes) (order ix starts₀ starts : List ℕ) (at pos i : ℕ) : Type 0 where
  pub long : length starts ≡ length starts₀
  pub few : i ≤ length (records_of s)
  pub place : at ≡ used_by (older_at (records_of s) i)
  pub words : pos ≡ used_words (indexed (blocks (older_at (records_of s) i)))
  pub within : pos ≤ length ix
  pub checked : Checked (blocks (older_at (records_of s) i)) ix
  pub known : Known s order ix starts (blocks (older_at (records_of s) i))

-- the newest block's part
pub newest_part : (b : Block) (bs : List Block) → part_in (b ∷ bs) b.reference ≡ part_from b (map (part_in bs) b.includes)
unfolding part_in
newest_part b bs = rw (reference_refl b.reference)

module _ (c : Committee) (s : Bytes) (order ix starts₀ : List ℕ) (o : Sorted c s order) (bytes : AllBytes s) where
  abbrev rs : List Record
  rs = records_of s

  pub agreeing_start : 0 < length ix → length order ≤ length starts₀ → Agreeing s order ix starts₀ starts₀ 16 1 0
  unfolding used_by used_words indexed body_words
  agreeing_start h m =
      record {
        long = refl;
        few = omega arith;
        place = ap used_by (sym (older_none rs));
        words = ap (λ (qs : List Record). used_words (indexed (blocks qs))) (sym (older_none rs));
        within = omega arith;
        checked = subst (λ (qs : List Record). Checked (blocks qs) ix) (sym (older_none rs)) (checked_start ix h);
        known = record { long = m; parts = λ k n d j e. absurd (in_empty (subst (λ (qs : List Record). d ∈ blocks qs) (older_none rs) j)) };
      }

  other_part : (b : Block) (bs : List Block) (r : BlockReference) → (b.reference ≡ r → ⊥) → part_in (b ∷ bs) r ≡ part_in bs r
  unfolding part_in
  other_part b bs r n = rw (other_reference b.reference r n)

  module _ (starts : List ℕ) (at pos i : ℕ) (g : Agreeing s order ix starts₀ starts at pos i) (h : i < length rs) where
    abbrev older : List Record
    older = older_at rs i

    abbrev a : Arrival rs i
    a = arrival rs i h

    abbrev b : Block
    b = a.own.block

    abbrev part : List Run
    part = part_from b (map (part_in (blocks older)) b.includes)

    -- the index does not agree where the part does not stand
    pub agreeing_differs : ((rest : List ℕ) → drop pos ix ≡ part_words part ++ rest → ⊥) → index_agrees (blocks_of s) ix ≡ false
    unfolding blocks_of
    agreeing_differs f =
        fails (index_agrees (blocks rs) ix) λ t.
        let u : index_agrees (blocks a.newer ++ b ∷ blocks older) ix ≡ true = subst (λ (bs : List Block). index_agrees bs ix ≡ true) (ap blocks a.are ∙
        map-append (λ r. r.block) a.newer (a.own ∷ older)) t in
        let p = agrees_part (blocks a.newer) b (blocks older) ix u in
        f p.0 (ap (λ (n : ℕ). drop n ix) g.words ∙ p.1 ∙ ap (λ (xs : List Run). part_words xs ++ p.0) (newest_part b (blocks older)))

    module _ (e : ℕ) (ends : e ≡ pos + length (part_words part)) (inside : e ≤ length ix) (there_is : drop pos ix ≡ part_words part ++ drop e ix) where
      part_words_lem : drop (used_words (indexed (blocks older))) ix ≡ part_words (part_in (b ∷ blocks older) b.reference) ++ drop e ix
      part_words_lem = ap (λ (n : ℕ). drop n ix) (sym g.words) ∙ there_is ∙ ap (λ (xs : List Run). part_words xs ++ drop e ix) (sym (newest_part b (blocks
          older)))

      stored_in : (d : Block) → d ∈ (b ∷ blocks older) → d ∈ blocks rs
      stored_in d m = subst (λ (bs : List Block). d ∈ bs) (sym (ap blocks a.are ∙ map-append (λ r. r.block) a.newer (a.own ∷ older))) (in_right
          (blocks a.newer) m)

      block_fits : (d : Block) → d ∈ blocks rs → BlockFits d
      block_fits d m =
          let r = map_in (λ x. x.block) rs m in
          subst BlockFits r.2
          (block_of_fits r.0.bytes r.0.block (every_in rs r.0 (records_of_bytes s bytes) r.1) (right_block r.0 (every_in rs r.0
          (records_of_right s) r.1)))

      run_fits : (x : Run) → x ∈ part_in (b ∷ blocks older) b.reference → ReferenceFits x.reference
      run_fits x m = run_reference (b ∷ blocks older) b.reference x m ReferenceFits (λ d n q k. span_fits d (block_fits d (stored_in d n)) q k)

      newest_stands : Stands ix pos (part_in (b ∷ blocks older) b.reference)
      newest_stands =
          let f : drop pos ix ≡ part_words (part_in (b ∷ blocks older) b.reference) ++ drop e ix = ap (λ (n : ℕ). drop n ix) g.words ∙ part_words_lem in
          record {
            inside = omega (arith, ends, inside, part_length part, part_count ix pos part (drop e ix) there_is);
            are = part_back ix pos (part_in (b ∷ blocks older) b.reference) (drop e ix) f run_fits;
          }

      -- the place of the newest block
      module _ (k : ℕ) (m : k < length order) (r : (block_at_place s order k).reference ≡ b.reference) where
        one_place : (j : ℕ) → j < length order → (block_at_place s order j).reference ≡ b.reference → j ≡ k
        unfolding block_at_place
        one_place j n q = go (dec_lt j k) (dec_lt k j)
          where
            apart : (x y : ℕ) → x < y → y < length order → (block_at s (get_or order x 0)).reference ≡ b.reference → (block_at s (get_or order y 0)).reference
                ≡ b.reference → ⊥
            apart x y u v e₁ e₂ =
                reference_irrefl b.reference
                (subst (λ (z : BlockReference). reference_before z b.reference ≡ true) e₁
                (subst (λ (z : BlockReference). reference_before (block_at s (get_or order x 0)).reference z ≡ true) e₂ (unfold reference_in in order_rises s
                o.laid order o.places x y u v)))

            go : Dec (j < k) → Dec (k < j) → j ≡ k
            go (yes u) v = absurd (apart j k u m q r)
            go (no u) (yes v) = absurd (apart k j v n r q)
            go (no u) (no v) = omega arith

        new : (d : Block) → d ∈ blocks older → d.reference ≡ b.reference → ⊥
        new = go (older_stored c s order o bytes i h)
          where
            go : WellStored (b ∷ blocks older) → (d : Block) → d ∈ blocks older → d.reference ≡ b.reference → ⊥
            go (stored f found w) = f

        known_next : Known s order ix (set starts k pos) (b ∷ blocks older)
        known_next =
            record {
              long = omega (arith, g.known.long, length-set starts k pos);
              parts = λ j n d p q. split j n d q (in_cases p);
            }
          where
            split : (j : ℕ) → j < length order → (d : Block) → d.reference ≡ (block_at_place s order j).reference → (d ≡ b) ⊎ (d ∈ blocks older) → Stands ix
                (get_or (set starts k pos) j 0) (part_in (b ∷ blocks older) d.reference)
            split j n d q (inl z) =
                let w : d.reference ≡ b.reference = ap (λ (x : Block). x.reference) z in
                let u : j ≡ k = one_place j n (sym q ∙ w) in
                let v : get_or (set starts k pos) j 0 ≡ pos = ap (λ (x : ℕ). get_or (set starts k pos) x 0) u ∙ get_or-set_same starts k pos 0 (omega (
                  arith,
                  g.known.long,
                )) in
                subst (λ (x : ℕ). Stands ix x (part_in (b ∷ blocks older) d.reference)) (sym v) (subst (λ (x : BlockReference). Stands ix pos (part_in (b
                ∷ blocks older) x)) (sym w) newest_stands)
            split j n d q (inr z) =
                let u : j ≡ k → ⊥ = λ y. new d z (q ∙ ap (λ (x : ℕ). (block_at_place s order x).reference) y ∙ r) in
                let f : part_in (b ∷ blocks older) d.reference ≡ part_in (blocks older) d.reference = other_part b (blocks older) d.reference (λ y.
                new d z (sym y)) in
                subst (λ (x : ℕ). Stands ix x (part_in (b ∷ blocks older) d.reference)) (sym (get_or-set_other starts k j pos 0 u))
                (subst (Stands ix (get_or starts j 0)) (sym f) (g.known.parts j n d z q))

        pub agreeing_on : (end : ℕ) → end ≡ at + 8 + le_at 4 s (at + 4) → Agreeing s order ix starts₀ (set starts k pos) end e (i + 1)
        unfolding used_by
        agreeing_on end z =
            record {
              long = length-set starts k pos ∙ g.long;
              few = omega arith;
              place = sized ∙ ap used_by (sym a.next);
              words = used ∙ ap (λ (qs : List Record). used_words (indexed (blocks qs))) (sym a.next);
              within = inside;
              checked = subst (λ (qs : List Record). Checked (blocks qs) ix) (sym a.next) (checked_on b (blocks older) ix (drop e ix) g.checked
                  part_words_lem);
              known = subst (λ (qs : List Record). Known s order ix (set starts k pos) (blocks qs)) (sym a.next) known_next;
            }
          where
            sized : end ≡ used_by older + (8 + length a.own.bytes)
            sized = omega (arith, z, g.place, ap (λ (p : ℕ). le_at 4 s (p + 4)) g.place, (own_stands c s order o bytes i h).size)

            used : e ≡ used_words (indexed (b ∷ blocks older))
            used = omega (arith, ends, g.words, used_grows b (blocks older), ap (λ (xs : List Run). length (part_words xs)) (newest_part b (blocks older)))

  -- all blocks were held against the index
  module _ (starts : List ℕ) (at pos i : ℕ) (g : Agreeing s order ix starts₀ starts at pos i) (h : length rs ≤ i) where
    all : i ≡ length rs
    all = omega (arith, g.few)

    pub agreeing_end : eqb (get_or ix 0 0) pos ≡ index_agrees (blocks_of s) ix
    unfolding blocks_of
    agreeing_end = go (ℕ_discrete (get_or ix 0 0) pos)
      where
        whole : older_at rs i ≡ rs
        whole = ap (older_at rs) all ∙ older_all rs

        words : pos ≡ used_words (indexed (blocks rs))
        words = g.words ∙ ap (λ (qs : List Record). used_words (indexed (blocks qs))) whole

        go : Dec (get_or ix 0 0 ≡ pos) → eqb (get_or ix 0 0) pos ≡ index_agrees (blocks rs) ix
        go (yes e) = eq-eqb (get_or ix 0 0) pos e ∙ sym (checked_end (blocks rs) ix (subst (λ (qs : List Record). Checked (blocks qs) ix) whole g.checked)
            (e ∙ words))
        go (no e) = ne_eqb (get_or ix 0 0) pos e ∙ sym (fails (index_agrees (blocks rs) ix) (λ t. e (agrees_used (blocks rs) ix t ∙ sym words)))

    pub agreeing_known : Known s order ix starts (blocks_of s)
    unfolding blocks_of
    agreeing_known = subst (λ (qs : List Record). Known s order ix starts (blocks qs)) (ap (older_at rs) all ∙ older_all rs) g.known

-- no words are no index
pub no_index : (bs : List Block) (ix : List ℕ) → length ix ≤ 0 → index_agrees bs ix ≡ false
no_index bs [] h = fails (index_agrees bs []) (λ t. let e = agrees_used bs [] t in let u : used_words (indexed bs) ≡ 1 + length (body_words (indexed bs)) =
    unfold used_words in refl in omega arith)
no_index bs (w ∷ ix) h = absurd (omega arith)
