-- Marks that are left where those of some locators are taken away. Assumes nothing.
use mathlib.Core.Path.{◌≡◌, refl, sym, ap, subst, ◌∙◌}
use mathlib.Core.Bool.{Bool, true, false, ◌||◌}
use mathlib.Core.List.{List, [], ◌++◌}
use Prim.Native.Nat.{ℕ, zero, suc, ◌+◌, ◌≤◌, ◌<◌}
use native.Mathlib.Decide.{ℕ_discrete, dec_lt}
use native.Mathlib.Omega.{arith}
use lib.ListN.{length, get_or, set, length-set}
use lib.Seq.{get_or-set_same, get_or-set_other}
use Rattle.base.specs.Lists.{pick, any_of, ◌∈◌}
use Rattle.base.specs.Le.{Bytes}
use Rattle.base.proofs.Tests.{fails}
use Rattle.base.proofs.Lists.{any_append}
use Rattle.base.proofs.Members.{any_in, in_any}
use Rattle.record_spec.specs.Reference.{BlockReference, TransactionLocator, TransactionLocatorRange, locator, same_locator, locators}
use Rattle.record_spec.proofs.References.{locator_same, same_locator_lem, reference_irrefl}
use Rattle.store_spec.proofs.Search.{reference_in, order_rises}
use Rattle.final_spec.proofs.FinalList.{covered_in}
use Rattle.list_ordinary_spec.proofs.Ranges.{locators_in}
use Rattle.final_block_votes.specs.Walk.{SortedStore, block_at_place}
use Rattle.load_mark_words.specs.Marks.{mark_left, Cleared}

-- ---- one block's mark

left_none : (r : BlockReference) (m : ℕ) → m ≡ mark_left [] r m
unfolding mark_left any_of
left_none r zero = refl
left_none r (suc o) = refl

left_append : (xs ys : List TransactionLocator) (r : BlockReference) (m : ℕ) → mark_left ys r (mark_left xs r m) ≡ mark_left (xs ++ ys) r m
unfolding mark_left
left_append xs ys r zero = refl
left_append xs ys r (suc o) = go (any_of (same_locator (locator r o)) xs) (any_append (same_locator (locator r o)) xs ys)
  where
    go : (t : Bool) → any_of (same_locator (locator r o)) (xs ++ ys) ≡ t || any_of (same_locator (locator r o)) ys
        → mark_left ys r (pick t 0 (suc o)) ≡ pick (any_of (same_locator (locator r o)) (xs ++ ys)) 0 (suc o)
    go true e = rw e
    go false e = rw e

left_gone : (ls : List TransactionLocator) (r : BlockReference) (o : ℕ) → locator r o ∈ ls → 0 ≡ mark_left ls r (suc o)
unfolding mark_left
left_gone ls r o m = rw (in_any (same_locator (locator r o)) m (same_locator_lem refl))

left_stays : (ls : List TransactionLocator) (r : BlockReference) (m : ℕ) → ((o : ℕ) → m ≡ suc o → locator r o ∈ ls → ⊥) → m ≡ mark_left ls r m
unfolding mark_left
left_stays ls r zero f = refl
left_stays ls r (suc o) f =
    rw (fails (any_of (same_locator (locator r o)) ls) (λ h. let x = any_in (same_locator (locator r o)) ls h in f o refl
    (subst (λ (l : TransactionLocator). l ∈ ls) (sym (locator_same (locator r o) x.0 x.2)) x.1)))

-- a mark that is left is of no locator among them, and a mark that is not is of one
pub left_some : (ls : List TransactionLocator) (r : BlockReference) (m : ℕ) → (mark_left ls r m ≡ 0 → ⊥) → (o : ℕ) × (m ≡ suc o) × (locator r o ∈ ls → ⊥)
unfolding mark_left
left_some ls r zero h = absurd (h refl)
left_some ls r (suc o) h = (o, refl, λ m. h (sym (left_gone ls r o m)))

pub left_zero : (ls : List TransactionLocator) (r : BlockReference) (o : ℕ) → mark_left ls r (suc o) ≡ 0 → locator r o ∈ ls
unfolding mark_left
left_zero ls r o h = go (any_of (same_locator (locator r o)) ls) refl
  where
    go : (t : Bool) → any_of (same_locator (locator r o)) ls ≡ t → locator r o ∈ ls
    go true e = let x = any_in (same_locator (locator r o)) ls e in subst (λ (l : TransactionLocator). l ∈ ls) (sym (locator_same (locator r o) x.0 x.2))
        x.1
    go false e = absurd (let z : suc o ≡ 0 = rw e at h in omega arith)

-- ---- the marks of a stretch

module _ (s : Bytes) (order : List ℕ) (w : SortedStore s order) (q : TransactionLocatorRange) (marks : List ℕ) (place : ℕ) (inside : place < length order)
    (fits : length order ≤ length marks)
    (block : (block_at_place s order place).reference ≡ q.block) where
  -- another block has another reference
  only_place : (j : ℕ) → j < length order → (block_at_place s order j).reference ≡ q.block → j ≡ place
  unfolding SortedStore block_at_place
  only_place j h e = go (dec_lt j place) (dec_lt place j)
    where
      never : (i k : ℕ) → i < k → k < length order → reference_in s order i ≡ reference_in s order k → ⊥
      never i k a b f = reference_irrefl (reference_in s order k) (rw f at (order_rises s w.1.laid order w.1.places i k a b))

      go : Dec (j < place) → Dec (place < j) → j ≡ place
      go (yes a) d = absurd (never j place a inside (unfold reference_in in (e ∙ sym block)))
      go (no a) (yes b) = absurd (never place j b h (unfold reference_in in (block ∙ sym e)))
      go (no a) (no b) = omega arith

  stays_other : (j : ℕ) → j < length order → (j ≡ place → ⊥) → get_or marks j 0 ≡ mark_left (locators q) (block_at_place s order j).reference (get_or marks j 0)
  unfolding locator
  stays_other j h d = left_stays (locators q) (block_at_place s order j).reference (get_or marks j 0)
      (λ o e m. d (only_place j h (sym (locators_in q (locator (block_at_place s order j).reference o) m).of)))

  pub stretch_past : ((o : ℕ) → get_or marks place 0 ≡ suc o → q.start ≤ o → o < q.end → ⊥) → Cleared s order (locators q) marks marks
  unfolding locator
  stretch_past f =
      record {
        long = refl;
        each = λ j h. go j h (ℕ_discrete j place);
      }
    where
      go : (j : ℕ) → j < length order → Dec (j ≡ place) → get_or marks j 0 ≡ mark_left (locators q) (block_at_place s order j).reference (get_or marks j 0)
      go j h (no d) = stays_other j h d
      go j h (yes e) =
          left_stays (locators q) (block_at_place s order j).reference (get_or marks j 0)
          (λ o k m. let x = locators_in q (locator (block_at_place s order j).reference o) m in f o (ap (λ (i : ℕ). get_or marks i 0) (sym e) ∙ k) x.from
          x.below)

  pub stretch_cleared : (o : ℕ) → get_or marks place 0 ≡ suc o → q.start ≤ o → o < q.end → Cleared s order (locators q) marks (set marks place 0)
  unfolding locator
  stretch_cleared o k a b =
      record {
        long = length-set marks place 0;
        each = λ j h. go j h (ℕ_discrete j place);
      }
    where
      covered : locator (block_at_place s order place).reference o ∈ locators q
      covered = covered_in q (locator (block_at_place s order place).reference o) (record { of = sym block; from = a; below = b })

      go : (j : ℕ) → j < length order → Dec (j ≡ place) → get_or (set marks place 0) j 0 ≡ mark_left (locators q) (block_at_place s order j).reference
          (get_or marks j 0)
      go j h (no d) = get_or-set_other marks place j 0 0 d ∙ stays_other j h d
      go j h (yes e) =
          subst (λ (i : ℕ). get_or (set marks place 0) i 0 ≡ mark_left (locators q) (block_at_place s order i).reference (get_or marks i 0)) (sym e)
          (get_or-set_same marks place 0 0 (omega arith) ∙ left_gone (locators q) (block_at_place s order place).reference o covered ∙ ap
          (mark_left (locators q) (block_at_place s order place).reference) (sym k))

  pub stretch_taken : q.start < get_or marks place 0 → get_or marks place 0 ≤ q.end → Cleared s order (locators q) marks (set marks place 0)
  stretch_taken a b = go (get_or marks place 0) refl
    where
      go : (m : ℕ) → get_or marks place 0 ≡ m → Cleared s order (locators q) marks (set marks place 0)
      go zero e = absurd (omega arith)
      go (suc o) e = stretch_cleared o e (omega arith) (omega arith)

-- ---- none is left

pub none_more : (marks : List ℕ) (k : ℕ) → ((j : ℕ) → j < k → get_or marks j 0 ≡ 0) → get_or marks k 0 ≡ 0 → (j : ℕ) → j < k + 1 → get_or marks j 0 ≡ 0
none_more marks k f e j h = go (ℕ_discrete j k)
  where
    go : Dec (j ≡ k) → get_or marks j 0 ≡ 0
    go (yes d) = ap (λ (i : ℕ). get_or marks i 0) d ∙ e
    go (no d) = f j (omega arith)

-- ---- one stretch after the other

module _ (s : Bytes) (order : List ℕ) where
  pub cleared_none : (marks : List ℕ) → Cleared s order [] marks marks
  cleared_none marks = record { long = refl; each = λ k h. left_none (block_at_place s order k).reference (get_or marks k 0) }

  pub cleared_more : (xs ys : List TransactionLocator) (marks between after : List ℕ) → Cleared s order xs marks between → Cleared s order ys between after →
      Cleared s order (xs ++ ys) marks after
  cleared_more xs ys marks between after f g =
      record {
        long = g.long ∙ f.long;
        each = λ k h.
            g.each k h
            ∙ ap (mark_left ys (block_at_place s order k).reference) (f.each k h)
            ∙ left_append xs ys (block_at_place s order k).reference (get_or marks k 0);
      }
