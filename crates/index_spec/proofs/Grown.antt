-- The index of one block more: the used word changes and the part is appended. Assumes nothing.
use mathlib.Core.Path.{◌≡◌, refl, sym, ap, subst, ◌∙◌}
use mathlib.Core.Logic.{◌⊎◌, inl, inr}
use mathlib.Core.Bool.{true, false}
use mathlib.Core.List.{List, [], ◌∷◌, ◌++◌, map, append_assoc, append-nil}
use Prim.Native.Nat.{ℕ, ◌+◌, ◌≤◌}
use native.Mathlib.Omega.{arith}
use lib.ListN.{length, get_or, take, drop, set, length-append, take-append-drop}
use lib.Seq.{sets-eq, take-append_seam, drop_at}
use borrow.Author.Tests.{ltb-false}
use Rattle.base.specs.Lists.{same, ◌∈◌}
use Rattle.base.proofs.Members.{in_empty, in_cases, in_map}
use Rattle.base.proofs.Orders.{same_refl, same_true}
use Rattle.committee_set.specs.AuthoritySet.{AuthoritySet}
use Rattle.record_spec.specs.Reference.{TransactionLocator}
use Rattle.record_spec.specs.Block.{Block}
use Rattle.record_spec.proofs.References.{other_reference}
use Rattle.store_spec.proofs.Stored.{WellStored, fresh, stored}
use Rattle.final_spec.specs.Voters.{spoken, voters}
use Rattle.index_spec.specs.Runs.{Run}
use Rattle.index_spec.specs.Part.{RunsOf, PartOf, part_in}
use Rattle.index_spec.specs.Index.{part_words, Indexed, indexed, body_words, used_words, index_words, fresh_index, used_part, index_agrees, index_short}
use Rattle.index_spec.specs.Index.{index_holding, appended, Kept}
use Rattle.index_spec.proofs.Relation.{runs_chain, runs_told, chain_runs}
use Rattle.index_spec.proofs.Parts.{part_runs}

pub index_fresh : index_words [] ≡ fresh_index
unfolding index_words fresh_index used_words body_words indexed
index_fresh = refl

-- the used word counts the words
pub used_length : (bs : List Block) → used_words (indexed bs) ≡ length (index_words bs)
unfolding used_words index_words
used_length bs = omega arith

pub used_grows : (b : Block) (bs : List Block) → used_words (indexed (b ∷ bs)) ≡ used_words (indexed bs) + length (part_words (part_in (b ∷ bs) b.reference))
unfolding used_words body_words indexed
used_grows b bs = omega (arith, length-append (body_words (indexed bs)) (part_words (part_in (b ∷ bs) b.reference)))

pub index_grows : (b : Block) (bs : List Block)
    → index_words (b ∷ bs) ≡ (used_words (indexed bs) + length (part_words (part_in (b ∷ bs) b.reference))) ∷
    (body_words (indexed bs) ++ part_words (part_in (b ∷ bs) b.reference))
unfolding index_words body_words indexed
index_grows b bs = ap (λ (n : ℕ). n ∷ (body_words (indexed bs) ++ part_words (part_in (b ∷ bs) b.reference))) (unfold indexed in used_grows b bs)

-- an index that holds the blocks agrees with them
pub holding_agrees : (bs : List Block) (ix : List ℕ) → index_agrees bs (index_holding bs ix) ≡ true
unfolding index_agrees used_part index_holding index_words
holding_agrees bs ix = go (unfold index_words in (ap (λ (n : ℕ). take n (index_words bs ++ drop (used_words (indexed bs)) ix)) (used_length bs) ∙
    take-append_seam (index_words bs) _))
  where
    go : {xs : List ℕ} → xs ≡ index_words bs → same xs (index_words bs) ≡ true
    go e = ap (λ (ys : List ℕ). same ys (index_words bs)) e ∙ same_refl (index_words bs)

-- an index that agrees says how many words are used
pub agrees_used : (bs : List Block) (ix : List ℕ) → index_agrees bs ix ≡ true → get_or ix 0 0 ≡ used_words (indexed bs)
unfolding index_agrees used_part index_words
agrees_used bs ix h =
    ap (λ (xs : List ℕ). get_or xs 0 0) (sym (take-append-drop (get_or ix 0 0) ix))
    ∙ ap (λ (xs : List ℕ). get_or (xs ++ drop (get_or ix 0 0) ix) 0 0) (same_true (take (get_or ix 0 0) ix) (index_words bs) h)

-- 02: "Feeding a block appends that block's part only"
pub index_appends : (b : Block) (bs : List Block) (ix : List ℕ) → index_agrees bs ix ≡ true → index_short (b ∷ bs) ix ≡ false
    → index_holding (b ∷ bs) ix ≡ appended ix (part_in (b ∷ bs) b.reference)
unfolding index_agrees index_short used_part index_holding appended index_words body_words indexed
index_appends b bs ix h k =
    let part : List ℕ = part_words (part_in (b ∷ bs) b.reference) in
    let first : take (get_or ix 0 0) ix ≡ index_words bs = same_true (take (get_or ix 0 0) ix) (index_words bs) h in
    let next : get_or ix 0 0 + length part ≡ used_words (indexed (b ∷ bs)) = omega (arith, agrees_used bs ix h, used_grows b bs) in
    let room : get_or ix 0 0 + length part ≤ length ix = omega (arith, next, ltb-false (length ix) (used_words (indexed (b ∷ bs))) k) in
    sym
    (ap (λ (xs : List ℕ). set xs 0 (get_or ix 0 0 + length part)) (sets-eq part ix (get_or ix 0 0) room)
    ∙ ap (λ (xs : List ℕ). set (xs ++ part ++ drop (get_or ix 0 0 + length part) ix) 0 (get_or ix 0 0 + length part)) first
    ∙ ap (λ (n : ℕ). set (index_words bs ++ part ++ drop n ix) 0 n) next)

pub kept_agrees : {bs : List Block} {ix : List ℕ} → Kept bs ix → index_agrees bs ix ≡ true
unfolding index_agrees used_part index_words fresh_index used_words body_words indexed
kept_agrees (Kept.fresh past) = same_refl (1 ∷ [])
kept_agrees (Kept.fed {bs = bs} {ix = ix} b k h) =
    ap (index_agrees (b ∷ bs)) (sym (index_appends b bs ix (kept_agrees k) h)) ∙ holding_agrees (b ∷ bs) ix

-- 02: "After any list of feeds with it the index equals the one worked out afresh from the store"
pub index_kept : {bs : List Block} {ix : List ℕ} → Kept bs ix → used_part ix ≡ index_words bs
index_kept {bs} {ix} k = same_true (used_part ix) (index_words bs) (unfold index_agrees in kept_agrees k)

-- ---- where each part stands

later_words : (newer older : List Block) → (rest : List ℕ) × (body_words (indexed (newer ++ older)) ≡ body_words (indexed older) ++ rest)
unfolding body_words indexed
later_words [] older = ([], sym (append-nil (body_words (indexed older))))
later_words (b ∷ newer) older =
    let part : List ℕ = part_words (part_in ((b ∷ newer) ++ older) b.reference) in
    let r = later_words newer older in
    (r.0 ++ part, ap (λ (xs : List ℕ). xs ++ part) r.1 ∙ append_assoc (body_words (indexed older)) r.0 part)

-- a block's part begins where those of the blocks before it end
pub part_at_lem : (newer : List Block) (b : Block) (older : List Block)
    → (rest : List ℕ) × (drop (used_words (indexed older)) (index_words (newer ++ b ∷ older)) ≡ part_words (part_in (b ∷ older) b.reference) ++ rest)
unfolding index_words body_words indexed
part_at_lem newer b older =
    let r = later_words newer (b ∷ older) in
    let part : List ℕ = part_words (part_in (b ∷ older) b.reference) in
    let first : List ℕ = used_words (indexed (newer ++ b ∷ older)) ∷ body_words (indexed older) in
    let e : used_words (indexed older) ≡ length first = unfold index_words in used_length older in (
      r.0,
      ap (λ (xs : List ℕ). drop (used_words (indexed older)) (used_words (indexed (newer ++ b ∷ older)) ∷ xs))
          (r.1 ∙ append_assoc (body_words (indexed older)) part r.0)
          ∙ drop_at first (part ++ r.0) (used_words (indexed older)) (sym e),
    )

-- ---- each part is its block's among all the blocks

pub indexed_blocks_lem : (bs : List Block) → map (λ x. x.block) (indexed bs) ≡ bs
unfolding indexed
indexed_blocks_lem [] = refl
indexed_blocks_lem (b ∷ bs) = ap {B = List Block} (λ ds. b ∷ ds) (indexed_blocks_lem bs)

pub block_in_lem : (x : Indexed) (bs : List Block) → x ∈ indexed bs → x.block ∈ bs
block_in_lem x bs m = subst (λ (ds : List Block). x.block ∈ ds) (indexed_blocks_lem bs) (in_map (λ z. z.block) m)

-- a newer block leaves the voters of those before it
pub voters_stay : (b : Block) (older : List Block) → ((d : Block) → d ∈ older → d.reference ≡ b.reference → ⊥) → (d : Block) → d ∈ older →
    (l : TransactionLocator)
    → voters older l d.reference ≡ voters (b ∷ older) l d.reference
unfolding spoken
voters_stay b older new d m l = rw (other_reference b.reference d.reference (λ e. new d m (sym e)))

runs_same : {f g : TransactionLocator → AuthoritySet} (xs : List Run) → ((l : TransactionLocator) → f l ≡ g l) → RunsOf f xs → RunsOf g xs
runs_same {g = g} xs e r = chain_runs g xs (runs_chain xs r) (λ l. runs_told xs r l ∙ e l)

pub index_parts : {bs : List Block} → WellStored bs → (x : Indexed) → x ∈ indexed bs → PartOf bs x.block x.runs
unfolding indexed
index_parts fresh x m = absurd (in_empty m)
index_parts (stored {b = b} {older = older} new found w) x m = split (in_cases m) (index_parts w x)
  where
    split : (x ≡ record { block = b; runs = part_in (b ∷ older) b.reference }) ⊎ (x ∈ indexed older) →
        (x ∈ indexed older → PartOf older x.block x.runs) → PartOf (b ∷ older) x.block x.runs
    split (inl e) ih = subst (λ (z : Indexed). PartOf (b ∷ older) z.block z.runs) (sym e) (part_runs (b ∷ older) b.reference)
    split (inr n) ih = runs_same x.runs (voters_stay b older new x.block (block_in_lem x older n)) (ih n)
