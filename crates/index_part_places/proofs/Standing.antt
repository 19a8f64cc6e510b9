-- A part stands where it stood in an index that has grown, and the new part behind the others. Assumes nothing.
use mathlib.Core.Path.{◌≡◌, refl, sym, ap, subst, ◌∙◌}
use mathlib.Core.Bool.{true}
use mathlib.Core.List.{List, [], ◌∷◌, ◌++◌, map}
use Prim.Native.Nat.{ℕ, zero, suc, ◌+◌, ◌*◌, ◌≤◌, ◌<◌}
use native.Mathlib.Omega.{arith}
use native.Mathlib.Numerals.{add-one}
use lib.ListN.{length, get_or, drop, length-append, length-drop, get_or-append}
use lib.Seq.{drop-append-le}
use Rattle.base.specs.Lists.{◌∈◌}
use Rattle.base.specs.Le.{Bytes}
use Rattle.base.proofs.Le.{AllBytes}
use Rattle.base.proofs.Lists.{every_in}
use Rattle.base.proofs.Members.{map_in}
use Rattle.base.proofs.Orders.{same_true}
use Rattle.record_spec.specs.Block.{Block}
use Rattle.record_spec.proofs.Records.{ReferenceFits, BlockFits, block_of_fits}
use Rattle.store_spec.specs.Store.{records_of}
use Rattle.store_spec.proofs.Store.{records_of_bytes, records_of_right, right_block}
use Rattle.final_spec.specs.Finality.{blocks_of}
use Rattle.index_spec.specs.Runs.{Run}
use Rattle.index_spec.specs.Part.{part_in}
use Rattle.index_spec.specs.Index.{part_words, indexed, body_words, used_words, index_words, used_part, index_agrees}
use Rattle.index_spec.specs.Walk.{part_at}
use Rattle.index_spec.proofs.Grown.{used_length, index_grows, part_at_lem}
use Rattle.index_spec.proofs.Reading.{part_length, part_back}
use Rattle.index_spec.proofs.Fitting.{run_reference}
use Rattle.index_strides.proofs.Words.{part_count, runs_more}
use Rattle.index_check.specs.Known.{Stands}
use Rattle.index_check.proofs.Fits.{span_fits}

-- ---- words that are followed by others

pub stands_grown : (u v : ℕ) (body part : List ℕ) (p : ℕ) (xs : List Run) → Stands (u ∷ body) p xs → 0 < p → Stands (v ∷ (body ++ part)) p xs
unfolding part_at
stands_grown u v body part zero xs h k = absurd (omega arith)
stands_grown u v body part (suc q) xs h k =
    let n = get_or body q 0 in
    let i : suc q + 1 + 10 * n ≤ length (u ∷ body) = h.inside in
    let count : get_or (body ++ part) q 0 ≡ n = get_or-append body part 0 q (omega arith) in
    let rest : drop (suc q + 1) (v ∷ (body ++ part)) ≡ drop (suc q) body ++ part = rw (add-one (suc q)) (drop-append-le (suc q) body part (omega arith)) in
    let old : drop (suc q + 1) (u ∷ body) ≡ drop (suc q) body = rw (add-one (suc q)) in
    record {
      inside = omega (arith, i, count, length-append body part);
      are = rw (count, rest) (runs_more n (drop (suc q) body) part (omega (arith, i, length-drop (suc q) body))) ∙ rw old at h.are;
    }

-- ---- an index that agrees

pub used_words_lem : (bs : List Block) (ix : List ℕ) → index_agrees bs ix ≡ true → used_part ix ≡ index_words bs
unfolding index_agrees
used_words_lem bs ix h = same_true (used_part ix) (index_words bs) h

-- no part stands at its first word
first_used : (bs : List Block) → get_or (index_words bs) 0 0 ≡ used_words (indexed bs)
unfolding index_words
first_used bs = refl

pub never_first : (bs : List Block) (xs : List Run) → Stands (index_words bs) 0 xs → ⊥
never_first bs xs h = omega (arith, h.inside, used_length bs, first_used bs)

module _ (b : Block) (bs : List Block) where
  pub old_stands : (p : ℕ) (xs : List Run) → Stands (index_words bs) p xs → Stands (index_words (b ∷ bs)) p xs
  old_stands zero xs h = absurd (never_first bs xs h)
  old_stands (suc q) xs h =
      rw (index_grows b bs)
      (stands_grown (used_words (indexed bs)) _ (body_words (indexed bs)) (part_words (part_in (b ∷ bs) b.reference)) (suc q) xs (unfold index_words in h)
      (omega arith))

  -- the new part begins where the others end
  pub new_stands : ((x : Run) → x ∈ part_in (b ∷ bs) b.reference → ReferenceFits x.reference)
      → Stands (index_words (b ∷ bs)) (used_words (indexed bs)) (part_in (b ∷ bs) b.reference)
  new_stands f =
      let ix = index_words (b ∷ bs) in
      let xs = part_in (b ∷ bs) b.reference in
      let p = part_at_lem [] b bs in
      let p₀ = used_words (indexed bs) in
      record {
        inside = omega (arith, part_count ix p₀ xs p.0 p.1, part_length xs, ap length p.1, length-drop p₀ ix, length-append (part_words xs) p.0);
        are = part_back ix p₀ xs p.0 p.1 f;
      }

-- the references of the runs of stored blocks fit
pub runs_fit : (s : Bytes) → AllBytes s → (b : Block) (bs : List Block) → blocks_of s ≡ b ∷ bs
    → (x : Run) → x ∈ part_in (b ∷ bs) b.reference → ReferenceFits x.reference
unfolding blocks_of
runs_fit s bytes b bs e x m = run_reference (b ∷ bs) b.reference x m ReferenceFits
    (λ d n q k. span_fits d (fits d (subst (λ (l : List Block). d ∈ l) (sym e) n)) q k)
  where
    fits : (d : Block) → d ∈ map (λ r. r.block) (records_of s) → BlockFits d
    fits d n =
        let r = map_in (λ x. x.block) (records_of s) n in
        subst BlockFits r.2
        (block_of_fits r.0.bytes r.0.block (every_in (records_of s) r.0 (records_of_bytes s bytes) r.1)
        (right_block r.0 (every_in (records_of s) r.0 (records_of_right s) r.1)))
