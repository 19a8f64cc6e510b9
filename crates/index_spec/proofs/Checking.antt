-- An index held against the blocks one part after the other (54), and after a feed. Assumes nothing.
use mathlib.Core.Path.{◌≡◌, refl, sym, ap, ◌∙◌}
use mathlib.Core.Bool.{true, false}
use mathlib.Core.List.{List, [], ◌∷◌, ◌++◌, map, append_assoc}
use Prim.Native.Nat.{ℕ, zero, suc, ◌≤◌, ◌<◌}
use native.Mathlib.Omega.{arith}
use lib.ListN.{length, get_or, take, drop, take-append-drop}
use lib.Seq.{drop-drop, drop_at, take-append_seam}
use Rattle.base.specs.Lists.{same}
use Rattle.base.specs.Le.{Bytes}
use Rattle.base.specs.Checks.{passes}
use Rattle.base.proofs.Orders.{same_refl, same_true}
use Rattle.committee.specs.Committee.{Committee}
use Rattle.record_spec.specs.Block.{Block}
use Rattle.store_spec.specs.Layout.{Record}
use Rattle.store_spec.specs.Accept.{block_checks}
use Rattle.store_spec.specs.Store.{records_of, store_in_order, store_full, store_holding}
use Rattle.store_spec.proofs.Store.{Right, accepting}
use Rattle.final_spec.specs.Finality.{blocks_of}
use Rattle.index_spec.specs.Part.{part_in}
use Rattle.index_spec.specs.Index.{part_words, indexed, body_words, used_words, index_words, index_of, used_part, index_agrees, index_short, appended}
use Rattle.index_spec.proofs.Grown.{used_length, used_grows, agrees_used, holding_agrees, index_appends, part_at_lem}

-- ---- where it agrees

agrees_splits : (bs : List Block) (ix : List ℕ) → index_agrees bs ix ≡ true → ix ≡ index_words bs ++ drop (used_words (indexed bs)) ix
unfolding index_agrees used_part
agrees_splits bs ix h =
    sym (take-append-drop (get_or ix 0 0) ix)
    ∙ ap (λ (xs : List ℕ). xs ++ drop (get_or ix 0 0) ix) (same_true (take (get_or ix 0 0) ix) (index_words bs) h)
    ∙ ap (λ (n : ℕ). index_words bs ++ drop n ix) (agrees_used bs ix h)

drop_inside : (n : ℕ) (xs ys : List ℕ) → n ≤ length xs → drop n (xs ++ ys) ≡ drop n xs ++ ys
drop_inside zero xs ys h = refl
drop_inside (suc n) [] ys h = absurd (omega arith)
drop_inside (suc n) (x ∷ xs) ys h = drop_inside n xs ys (omega arith)

used_more : (newer older : List Block) → used_words (indexed older) ≤ used_words (indexed (newer ++ older))
used_more [] older = omega arith
used_more (b ∷ newer) older = omega (arith, used_more newer older, used_grows b (newer ++ older))

-- every block's part stands where the parts before it end
pub agrees_part : (newer : List Block) (b : Block) (older : List Block) (ix : List ℕ) → index_agrees (newer ++ b ∷ older) ix ≡ true
    → (rest : List ℕ) × (drop (used_words (indexed older)) ix ≡ part_words (part_in (b ∷ older) b.reference) ++ rest)
agrees_part newer b older ix h =
    let bs : List Block = newer ++ b ∷ older in
    let p = part_at_lem newer b older in
    let part : List ℕ = part_words (part_in (b ∷ older) b.reference) in
    let n : used_words (indexed older) ≤ length (index_words bs) = omega (arith, used_more newer (b ∷ older), used_grows b older, used_length bs) in (
      p.0 ++ drop (used_words (indexed bs)) ix,
      ap (drop (used_words (indexed older))) (agrees_splits bs ix h)
          ∙ drop_inside (used_words (indexed older)) (index_words bs) (drop (used_words (indexed bs)) ix) n
          ∙ ap (λ (xs : List ℕ). xs ++ drop (used_words (indexed bs)) ix) p.1
          ∙ append_assoc part p.0 (drop (used_words (indexed bs)) ix),
    )

-- ---- one part after the other

-- behind the first word stand the parts of these blocks
unfoldable pub Checked : List Block → List ℕ → Type 0
Checked older ix = ix ≡ (get_or ix 0 0 ∷ body_words (indexed older)) ++ drop (used_words (indexed older)) ix

pub checked_start : (ix : List ℕ) → 0 < length ix → Checked [] ix
unfolding Checked body_words indexed used_words
checked_start [] h = absurd (omega arith)
checked_start (w ∷ ix) h = refl

pub checked_on : (b : Block) (older : List Block) (ix rest : List ℕ) → Checked older ix
    → drop (used_words (indexed older)) ix ≡ part_words (part_in (b ∷ older) b.reference) ++ rest → Checked (b ∷ older) ix
unfolding Checked body_words indexed
checked_on b older ix rest h e =
    let part : List ℕ = part_words (part_in (b ∷ older) b.reference) in
    let first : List ℕ = get_or ix 0 0 ∷ body_words (indexed older) in
    let later : drop (used_words (indexed (b ∷ older))) ix ≡ rest =
    ap (λ (n : ℕ). drop n ix) (used_grows b older) ∙ sym (drop-drop (length part) (used_words (indexed older)) ix) ∙ ap (drop (length part)) e ∙ drop_at part
    rest (length part) refl in
    h
    ∙ ap (λ (xs : List ℕ). first ++ xs) (e ∙ ap (λ (xs : List ℕ). part ++ xs) (sym later))
    ∙ sym (append_assoc first part (drop (used_words (indexed (b ∷ older))) ix))

pub checked_end : (bs : List Block) (ix : List ℕ) → Checked bs ix → get_or ix 0 0 ≡ used_words (indexed bs) → index_agrees bs ix ≡ true
unfolding Checked index_agrees used_part index_words
checked_end bs ix h e =
    ap (λ (xs : List ℕ). same xs (index_words bs))
    (ap (λ (n : ℕ). take n ix) (e ∙ used_length bs)
    ∙ ap (take (length (index_words bs))) (h ∙ ap (λ (n : ℕ). (n ∷ body_words (indexed bs)) ++ drop (used_words (indexed bs)) ix) e)
    ∙ take-append_seam (index_words bs) (drop (used_words (indexed bs)) ix))
    ∙ same_refl (index_words bs)

-- ---- after a feed

pub fed_index : (c : Committee) (s : Bytes) (r : Record) (ix : List ℕ) → store_in_order c s ≡ true → Right r
    → passes (block_checks c (records_of s) r.block) ≡ true → store_full s r ≡ false
    → index_agrees (blocks_of s) ix ≡ true → index_short (r.block ∷ blocks_of s) ix ≡ false
    → used_part (appended ix (part_in (r.block ∷ blocks_of s) r.block.reference)) ≡ index_of (store_holding (r ∷ records_of s) s)
unfolding index_of blocks_of
fed_index c s r ix o h p f a k =
    same_true (used_part (appended ix (part_in bs r.block.reference))) (index_words bs) (unfold index_agrees in grown)
    ∙ ap (λ (rs : List Record). index_words (map (λ q. q.block) rs)) (sym (accepting c s r o h p f).records)
  where
    bs : List Block
    bs = r.block ∷ blocks_of s

    grown : index_agrees bs (appended ix (part_in bs r.block.reference)) ≡ true
    grown = ap (index_agrees bs) (sym (index_appends r.block (blocks_of s) ix a k)) ∙ holding_agrees bs ix
