-- Runs are told apart by whom they name: there is one list of longest stretches. Assumes nothing.
use mathlib.Core.Path.{◌≡◌, refl, sym, ap, ◌∙◌}
use mathlib.Core.Logic.{◌⊎◌, inl, inr}
use mathlib.Core.Bool.{true, false}
use mathlib.Core.List.{List, [], ◌∷◌}
use Prim.Native.Nat.{ℕ, ◌+◌, ◌<◌}
use native.Mathlib.Omega.{arith}
use native.Mathlib.Decide.{dec_lt}
use Rattle.base.proofs.Tests.{holds_or_not, not_both}
use Rattle.record_spec.specs.Reference.{BlockReference, TransactionLocator, locator, reference_before}
use Rattle.record_spec.proofs.References.{reference_total}
use Rattle.index_spec.specs.Runs.{Run, run_covers, voters_in}
use Rattle.index_spec.specs.Walk.{Past, by_block, by_offset, Place, anywhere, beyond}
use Rattle.index_spec.proofs.Chain.{touching, Covered, covered, is_covered, Good, Chain, end, link, Differs, other, past_head, nobody_before}
use Rattle.index_spec.proofs.Chain.{rest_nobody, at_head}

-- where a run begins it names its voters
pub starts : (x : Run) → Good x → Covered x (locator x.reference x.start)
unfolding locator
starts x g = record { of = refl; from = omega arith; below = g.full }

-- two places: one is past the other, or they are one
pub data PlaceOrder (q : BlockReference) (e : ℕ) (r : BlockReference) (o : ℕ) : Type 0 where
  earlier : Past q (e + 1) r o → PlaceOrder q e r o
  later : Past r (o + 1) q e → PlaceOrder q e r o
  alike : q ≡ r → e ≡ o → PlaceOrder q e r o

pub place_order : (q : BlockReference) (e : ℕ) (r : BlockReference) (o : ℕ) → PlaceOrder q e r o
place_order q e r o = split (holds_or_not (reference_before q r)) (holds_or_not (reference_before r q)) (dec_lt e o) (dec_lt o e)
  where
    split : (reference_before q r ≡ true) ⊎ (reference_before q r ≡ false) → (reference_before r q ≡ true) ⊎ (reference_before r q ≡ false)
        → Dec (e < o) → Dec (o < e) → PlaceOrder q e r o
    split (inl h) k m n = earlier (by_block h)
    split (inr h) (inl k) m n = later (by_block k)
    split (inr h) (inr k) (yes m) n = earlier (by_offset (reference_total q r h k) (omega arith))
    split (inr h) (inr k) (no m) (yes n) = later (by_offset (sym (reference_total q r h k)) (omega arith))
    split (inr h) (inr k) (no m) (no n) = alike (reference_total q r h k) (omega arith)

module _ {p : Place} where
  -- of two lists that name the same, neither begins before the other
  no_earlier : {x y : Run} {xs ys : List Run} → Chain Differs p (x ∷ xs) → {q : Place} → Chain Differs q (y ∷ ys)
      → ((l : TransactionLocator) → voters_in (x ∷ xs) l ≡ voters_in (y ∷ ys) l) → Past x.reference (x.start + 1) y.reference y.start → ⊥
  no_earlier {x} {y} {xs} {ys} (link a g d h) (link b k e m) f n =
      g.voted
      (sym (at_head x xs h (locator x.reference x.start) (starts x g))
      ∙ f (locator x.reference x.start)
      ∙ nobody_before x.reference x.start (y ∷ ys) (link n k e m))

-- right after a run stands not its voters
pub at_end : (x : Run) (xs : List Run) → Good x → Differs x xs → Chain Differs (beyond x.reference x.end) xs
    → voters_in xs (locator x.reference x.end) ≡ x.votes → ⊥
unfolding voters_in
at_end x [] g d end e = g.voted (sym e)
at_end x (y ∷ ys) g (other d) (link a k m h) e = split a (dec_lt x.end y.start)
  where
    away : Past x.reference (x.end + 1) y.reference y.start → ⊥
    away n = g.voted (sym e ∙ nobody_before x.reference x.end (y ∷ ys) (link n k m h))

    split : Past x.reference x.end y.reference y.start → Dec (x.end < y.start) → ⊥
    split (by_block b) n = away (by_block b)
    split (by_offset b c) (yes n) = away (by_offset b (omega arith))
    split (by_offset b c) (no n) =
        let z : x.end ≡ y.start = omega arith in
        d (touching x y b z)
        (sym e ∙ ap (voters_in (y ∷ ys)) (same_place b z) ∙ at_head y ys h (locator y.reference y.start) (starts y k))
      where
        same_place : x.reference ≡ y.reference → x.end ≡ y.start → locator x.reference x.end ≡ locator y.reference y.start
        same_place u v = λ i. locator (u i) (v i)

-- a run that ends before another of the same start and voters is not the longest
shorter : (x y : Run) (xs ys : List Run) → x.reference ≡ y.reference → x.start ≡ y.start → x.votes ≡ y.votes
    → {p q : Place} → Chain Differs p (x ∷ xs) → Chain Differs q (y ∷ ys)
    → ((l : TransactionLocator) → voters_in (x ∷ xs) l ≡ voters_in (y ∷ ys) l) → x.end < y.end → ⊥
unfolding locator
shorter x y xs ys r s v (link a g d h) (link b k e m) f n =
    at_end x xs g d h
    (sym (past_head x xs (locator x.reference x.end) (λ c. omega (arith, c.below)))
    ∙ f (locator x.reference x.end)
    ∙ at_head y ys m (locator x.reference x.end) (record { of = sym r; from = omega (arith, g.full); below = n })
    ∙ sym v)

-- one list of runs for each way of naming voters
pub chains_equal : (xs ys : List Run) {p q : Place} → Chain Differs p xs → Chain Differs q ys → ((l : TransactionLocator) → voters_in xs l ≡ voters_in ys l) →
    xs ≡ ys
unfolding voters_in
chains_equal [] [] h k f = refl
chains_equal [] (y ∷ ys) h (link b g e m) f =
    absurd (g.voted (sym (at_head y ys m (locator y.reference y.start) (starts y g)) ∙ sym (f (locator y.reference y.start))))
chains_equal (x ∷ xs) [] (link a g d h) k f =
    absurd (g.voted (sym (at_head x xs h (locator x.reference x.start) (starts x g)) ∙ f (locator x.reference x.start)))
chains_equal (x ∷ xs) (y ∷ ys) (link a g d h) (link b k e m) f = split (place_order x.reference x.start y.reference y.start)
    (chains_equal xs ys h m)
  where
    left : Chain Differs anywhere (x ∷ xs)
    left = link {p = anywhere} tt g d h

    right : Chain Differs anywhere (y ∷ ys)
    right = link {p = anywhere} tt k e m

    named : x.reference ≡ y.reference → x.start ≡ y.start → x.votes ≡ y.votes
    named r s =
        sym (at_head x xs h (locator x.reference x.start) (starts x g))
        ∙ f (locator x.reference x.start)
        ∙ ap (voters_in (y ∷ ys)) (λ i. locator (r i) (s i))
        ∙ at_head y ys m (locator y.reference y.start) (starts y k)

    ends : x.reference ≡ y.reference → x.start ≡ y.start → x.votes ≡ y.votes → x.end ≡ y.end
    ends r s v =
        let no_less : ¬ (x.end < y.end) = shorter x y xs ys r s v left right f in
        let no_more : ¬ (y.end < x.end) = shorter y x ys xs (sym r) (sym s) (sym v) right left (λ l. sym (f l)) in
        omega (arith, no_less, no_more)

    one : x.reference ≡ y.reference → x.start ≡ y.start → x.votes ≡ y.votes → x.end ≡ y.end → x ≡ y
    one r s v n = λ i. record { reference = r i; start = s i; end = n i; votes = v i }

    others : x ≡ y → (l : TransactionLocator) → voters_in xs l ≡ voters_in ys l
    others z l = go (holds_or_not (run_covers x l)) (holds_or_not (run_covers y l))
      where
        go : (run_covers x l ≡ true) ⊎ (run_covers x l ≡ false) → (run_covers y l ≡ true) ⊎ (run_covers y l ≡ false) → voters_in xs l ≡ voters_in ys l
        go (inl u) (inl v) = rest_nobody x xs h l (covered x l u) ∙ sym (rest_nobody y ys m l (covered y l v))
        go (inl u) (inr v) = absurd (not_both (ap (λ (w : Run). run_covers w l) (sym z) ∙ u) v)
        go (inr u) (inl v) = absurd (not_both (ap (λ (w : Run). run_covers w l) z ∙ v) u)
        go (inr u) (inr v) =
            sym (past_head x xs l (λ c. not_both (is_covered x l c) u)) ∙ f l ∙ past_head y ys l (λ c. not_both (is_covered y l c) v)

    split : PlaceOrder x.reference x.start y.reference y.start → (((l : TransactionLocator) → voters_in xs l ≡ voters_in ys l) → xs ≡ ys) → x ∷ xs ≡
        y ∷ ys
    split (earlier n) ih = absurd (no_earlier left right f n)
    split (later n) ih = absurd (no_earlier right left (λ l. sym (f l)) n)
    split (alike r s) ih =
        let v = named r s in
        let z = one r s v (ends r s v) in
        let rest = ih (others z) in
        λ i. z i ∷ rest i
