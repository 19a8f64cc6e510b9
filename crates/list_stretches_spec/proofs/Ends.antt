-- Where a stretch ends, whatever the edges between which nothing changes. Assumes nothing.
use mathlib.Core.Path.{◌≡◌, refl, sym, ap, ap₂, ◌∙◌}
use mathlib.Core.Logic.{◌⊎◌, inl, inr}
use mathlib.Core.Bool.{Bool, true, false, not, ◌&&◌}
use mathlib.Core.List.{List, [], ◌∷◌}
use Prim.Native.Nat.{ℕ, zero, suc, ◌+◌, ◌-◌, ◌≤◌, ◌<◌}
use native.Mathlib.Omega.{arith}
use native.Mathlib.Decide.{dec_lt}
use lib.Dec.{eqb}
use borrow.Author.Tests.{eqb-true, eq-eqb, not-true}
use Rattle.base.specs.Lists.{all_of, any_of, keep, ◌∈◌, here, there}
use Rattle.base.proofs.Tests.{not_both, holds_or_not, and_both}
use Rattle.base.proofs.Members.{in_keep, keep_in, any_in, in_any, in_all}
use Rattle.record_spec.specs.Reference.{TransactionLocator, locator}
use Rattle.record_spec.specs.Block.{Block}
use Rattle.list_stretches_spec.specs.Stretches.{Listing, agree, certified_alike, goes_on, EndsAt, nearest, end_among, stretch_end}
use Rattle.list_stretches_spec.specs.Claims.{Edges, Lawful, EndMeant, StretchEndMeant}
use Rattle.list_stretches_spec.proofs.Nearest.{Nearest, nearest_is}

-- ---- a test that changes at edges only

module _ (p : ℕ → Bool) (es : List ℕ) (same : (o : ℕ) → (o + 1 ∈ es → ⊥) → p (o + 1) ≡ p o) (a : ℕ) (start : p a ≡ true) where
  -- it holds as far as it holds at the edges
  pub holds_on : (n : ℕ) → ((e : ℕ) → e ∈ es → a < e → e ≤ a + n → p e ≡ true) → p (a + n) ≡ true
  holds_on zero h = let z : a + 0 ≡ a = omega arith in rw z start
  holds_on (suc n) h = let z : a + suc n ≡ a + n + 1 = omega arith in rw z
      (split (holds_or_not (any_of (eqb (a + n + 1)) es)) (holds_on n (λ e m i k. h e m i (omega arith))))
    where
      split : (any_of (eqb (a + n + 1)) es ≡ true) ⊎ (any_of (eqb (a + n + 1)) es ≡ false) → p (a + n) ≡ true → p (a + n + 1) ≡ true
      split (inl t) ih =
          let x = any_in (eqb (a + n + 1)) es t in
          let e : a + n + 1 ≡ x.0 = eqb-true _ _ x.2 in
          rw e (h x.0 x.1 (omega arith) (omega arith))
      split (inr t) ih = same (a + n) (λ m. not_both (in_any (eqb (a + n + 1)) m (eq-eqb (a + n + 1) (a + n + 1) refl)) t) ∙ ih

  pub holds_upto : (o : ℕ) → a ≤ o → ((e : ℕ) → e ∈ es → a < e → e ≤ o → p e ≡ true) → p o ≡ true
  holds_upto o h f = let z : a + (o - a) ≡ o = omega arith in rw (← z) (holds_on (o - a) (λ e m i (k : e ≤ a + (o - a)). f e m i (omega arith)))

  -- the least edge at which it fails, where it fails somewhere
  module _ (far : ℕ) (above : a ≤ far) (off : p far ≡ false) where
    pub record Left (e : ℕ) : Type 0 where
      pub longer : a < e
      pub on : (o : ℕ) → a ≤ o → o < e → p o ≡ true
      pub stops : p e ≡ false

    pub left_at : Left (nearest a 0 (keep (λ o. not (p o)) es))
    left_at = go (nearest_is a 0 (keep (λ o. not (p o)) es))
      where
        kept : (e : ℕ) → e ∈ es → p e ≡ false → e ∈ keep (λ o. not (p o)) es
        kept e m k = in_keep (λ o. not (p o)) es m (ap not k)

        before : {r : ℕ} → Nearest a 0 (keep (λ o. not (p o)) es) r → (o : ℕ) → a ≤ o → (0 < r → o < r) → p o ≡ true
        before n o h u = holds_upto o h (λ e m i k. at_edge e m i k (holds_or_not (p e)))
          where
            at_edge : (e : ℕ) → e ∈ es → a < e → e ≤ o → (p e ≡ true) ⊎ (p e ≡ false) → p e ≡ true
            at_edge e m i k (inl t) = t
            at_edge e m i k (inr t) = let x = n.least e (kept e m t) i in absurd (omega (arith, x, u x.0))

        go : {r : ℕ} → Nearest a 0 (keep (λ o. not (p o)) es) r → Left r
        go {r} n = split n.stands
          where
            split : (r ≡ 0) ⊎ ((a < r) × (r ∈ keep (λ o. not (p o)) es)) → Left r
            split (inl z) = absurd (not_both (before n far above (λ h. absurd (omega arith))) off)
            split (inr x) = record { longer = x.0; on = λ o h k. before n o h (λ z. k); stops = not-true (p r) (keep_in (λ o. not (p o)) es x.1).1 }

-- ---- the end of a stretch

agree_self : (t : Bool) → agree t t ≡ true
unfolding agree
agree_self true = refl
agree_self false = refl

pub agrees : (t u : Bool) → agree t u ≡ true → u ≡ t
unfolding agree
agrees true u h = h
agrees false true h = sym h
agrees false false h = refl

pub agree_same : (t u : Bool) → u ≡ t → agree t u ≡ true
unfolding agree
agree_same true u h = h
agree_same false true h = sym h
agree_same false false h = refl

all_same : {A : Type 0} (p q : A → Bool) (xs : List A) → ((x : A) → x ∈ xs → p x ≡ q x) → all_of p xs ≡ all_of q xs
unfolding all_of
all_same p q [] f = refl
all_same p q (x ∷ xs) f = ap₂ {C = Bool} (λ t u. t && u) (f x here) (all_same p q xs (λ y m. f y (there m)))

module _ (bs : List Block) (k : Listing) (l : TransactionLocator) where
  pub goes_at : k.shows l ≡ true → goes_on bs k l l.offset ≡ true
  unfolding goes_on certified_alike locator
  goes_at h = and_both _ _ h (in_all (λ b. agree (k.certifies l b) (k.certifies l b)) bs (λ b m. agree_self (k.certifies l b)))

  -- between edges it goes on alike
  pub goes_same : (es : List ℕ) → Edges bs k l.block es → (o : ℕ) → (o + 1 ∈ es → ⊥) → goes_on bs k l (o + 1) ≡ goes_on bs k l o
  unfolding goes_on certified_alike
  goes_same es f o n =
      let x = f o n in
      ap₂ {C = Bool} (λ t u. t && u) x.shows
      (all_same (λ b. agree (k.certifies l b) (k.certifies (locator l.block (o + 1)) b))
      (λ b. agree (k.certifies l b) (k.certifies (locator l.block o) b)) bs
      (λ b m. ap (agree (k.certifies l b)) (x.certifies b m)))

  -- past the bound it does not
  goes_not : (o : ℕ) → k.shows (locator l.block o) ≡ false → goes_on bs k l o ≡ false
  unfolding goes_on
  goes_not o h = rw h

  module _ (law : Lawful bs k) (shown : k.shows l ≡ true) where
    abbrev far : ℕ
    far = l.offset + law.bound l.block

    off : goes_on bs k l far ≡ false
    off = goes_not far (law.bounded l.block far (omega arith))

    -- any edges between which nothing changes give the end
    pub ends_among : (es : List ℕ) → Edges bs k l.block es → EndsAt bs k l (end_among bs k l es)
    unfolding end_among
    ends_among es f =
        let x = left_at (goes_on bs k l) es (goes_same es f) l.offset (goes_at shown) far (omega arith) off in
        record { longer = x.longer; goes = x.on; stops = x.stops }

  -- there is one end
  pub one_end : (e d : ℕ) → EndsAt bs k l e → EndsAt bs k l d → e ≡ d
  one_end e d x y = go (dec_lt e d) (dec_lt d e)
    where
      go : Dec (e < d) → Dec (d < e) → e ≡ d
      go (yes h) q = absurd (not_both (y.goes e (omega (arith, x.longer)) h) x.stops)
      go (no h) (yes q) = absurd (not_both (x.goes d (omega (arith, y.longer)) q) y.stops)
      go (no h) (no q) = omega arith

  pub end_meant : Lawful bs k → k.shows l ≡ true → EndMeant bs k l
  unfolding stretch_end
  end_meant law h =
      let x = ends_among law h (k.edges l.block) (law.edges l.block) in
      record { ends = x; only = λ e y. one_end e _ y x; among = λ es f. one_end _ _ (ends_among law h es f) x }

pub stretch_end_meant : StretchEndMeant
unfolding StretchEndMeant
stretch_end_meant bs k law l h = end_meant bs k l law h
