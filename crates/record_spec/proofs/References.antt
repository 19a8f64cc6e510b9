-- Equality and order of references and locators. Assumes nothing.
use mathlib.Core.Path.{◌≡◌, sym, ap, ◌∙◌, subst}
use mathlib.Core.Logic.{◌⊎◌, inl, inr}
use mathlib.Core.Bool.{true, false, ◌&&◌}
use mathlib.Core.List.{List}
use Prim.Native.Nat.{ℕ, ◌<◌}
use native.Mathlib.Omega.{arith}
use lib.Dec.{eqb, ltb}
use borrow.Author.Tests.{eq-eqb, eqb-true, lt-ltb, ltb-true}
use Rattle.base.specs.Lists.{same, before}
use Rattle.base.proofs.Tests.{and_both, and_left, and_right, or_cases, or_left, or_right, fails, not_both, holds_or_not}
use Rattle.base.proofs.Orders.{same_refl, same_true, before_irrefl, before_trans, before_total}
use Rattle.record_spec.specs.Reference.{BlockReference, TransactionLocator, reference_key, same_reference, reference_before, same_locator, locator_before}

pub reference_refl : (r : BlockReference) → same_reference r r ≡ true
unfolding same_reference
reference_refl r = same_refl (reference_key r)

-- references that the test takes for the same are equal
pub reference_same : (r q : BlockReference) → same_reference r q ≡ true → r ≡ q
unfolding same_reference reference_key same
reference_same r q h =
    let rest = and_right (eqb r.round q.round) _ h in
    let e : r.round ≡ q.round = eqb-true r.round q.round (and_left _ _ h) in
    let f : r.authority ≡ q.authority = eqb-true r.authority q.authority (and_left _ _ rest) in
    let g : r.digest ≡ q.digest = same_true r.digest q.digest (and_right (eqb r.authority q.authority) _ rest) in
    λ i. record { authority = f i; round = e i; digest = g i }

-- equal references pass the test
pub same_reference_lem : {r q : BlockReference} → r ≡ q → same_reference r q ≡ true
same_reference_lem {r} {q} e = subst (λ (x : BlockReference). same_reference r x ≡ true) e (reference_refl r)

-- others do not
pub other_reference : (r q : BlockReference) → (r ≡ q → ⊥) → same_reference r q ≡ false
other_reference r q h = fails (same_reference r q) (λ e. h (reference_same r q e))

-- no reference comes before itself
pub reference_irrefl : (r : BlockReference) → reference_before r r ≡ true → ⊥
unfolding reference_before
reference_irrefl r = before_irrefl (reference_key r)

pub reference_trans : (r q p : BlockReference) → reference_before r q ≡ true → reference_before q p ≡ true → reference_before r p ≡ true
unfolding reference_before
reference_trans r q p = before_trans (reference_key r) (reference_key q) (reference_key p)

-- of two references one comes first or they are equal
pub reference_total : (r q : BlockReference) → reference_before r q ≡ false → reference_before q r ≡ false → r ≡ q
unfolding reference_before same_reference
reference_total r q h k =
    reference_same r q (subst (λ (x : List ℕ). same (reference_key r) x ≡ true) (before_total (reference_key r) (reference_key q) h k)
    (same_refl (reference_key r)))

-- of two references only one comes first
pub reference_asymmetric : (r q : BlockReference) → reference_before r q ≡ true → reference_before q r ≡ false
reference_asymmetric r q h = fails (reference_before q r) (λ k. reference_irrefl r (reference_trans r q r h k))

-- of two references that differ one comes first
pub reference_other : (r q : BlockReference) → same_reference r q ≡ false → reference_before r q ≡ false → reference_before q r ≡ true
reference_other r q h k = split (holds_or_not (reference_before q r))
  where
    split : (reference_before q r ≡ true) ⊎ (reference_before q r ≡ false) → reference_before q r ≡ true
    split (inl e) = e
    split (inr e) = absurd (not_both (same_reference_lem (reference_total r q k e)) h)

pub differ_other : (r q : BlockReference) → same_reference r q ≡ false → same_reference q r ≡ false
differ_other r q h = fails (same_reference q r) (λ e. not_both (same_reference_lem (sym (reference_same q r e))) h)

-- ---- locators
pub locator_same : (l m : TransactionLocator) → same_locator l m ≡ true → l ≡ m
unfolding same_locator
locator_same l m h =
    let e : l.block ≡ m.block = reference_same l.block m.block (and_left _ _ h) in
    let f : l.offset ≡ m.offset = eqb-true l.offset m.offset (and_right (same_reference l.block m.block) _ h) in
    λ i. record { block = e i; offset = f i }

pub same_locator_lem : {l m : TransactionLocator} → l ≡ m → same_locator l m ≡ true
unfolding same_locator
same_locator_lem {l} {m} e = and_both (same_reference l.block m.block) (eqb l.offset m.offset) (same_reference_lem (ap (λ x. x.block) e))
    (eq-eqb l.offset m.offset (ap (λ x. x.offset) e))

-- a locator comes before another by its block or, in one block, by its offset
pub data Precedes (l m : TransactionLocator) : Type 0 where
  by_block : reference_before l.block m.block ≡ true → Precedes l m
  by_offset : l.block ≡ m.block → l.offset < m.offset → Precedes l m

pub precedes : (l m : TransactionLocator) → locator_before l m ≡ true → Precedes l m
unfolding locator_before
precedes l m h = split (or_cases (reference_before l.block m.block) (same_reference l.block m.block && ltb l.offset m.offset) h)
  where
    split : (reference_before l.block m.block ≡ true) ⊎ (same_reference l.block m.block && ltb l.offset m.offset ≡ true) → Precedes l m
    split (inl k) = by_block k
    split (inr k) = by_offset (reference_same l.block m.block (and_left _ _ k))
        (ltb-true l.offset m.offset (and_right (same_reference l.block m.block) _ k))

pub is_before : (l m : TransactionLocator) → Precedes l m → locator_before l m ≡ true
unfolding locator_before
is_before l m (by_block h) = or_left (reference_before l.block m.block) _ h
is_before l m (by_offset e h) = or_right (reference_before l.block m.block) _ (and_both _ _ (same_reference_lem e) (lt-ltb l.offset m.offset h))

-- no locator comes before itself
-- of two rounds the lower comes first, in references and in locators
pub round_before : (r q : BlockReference) → r.round < q.round → reference_before r q ≡ true
unfolding reference_before reference_key before
round_before r q h = or_left _ _ (lt-ltb r.round q.round h)

pub lower_round : (l m : TransactionLocator) → l.block.round < m.block.round → locator_before l m ≡ true
lower_round l m h = is_before l m (by_block (round_before l.block m.block h))

pub locator_irrefl : (l : TransactionLocator) → locator_before l l ≡ true → ⊥
locator_irrefl l h = split (precedes l l h)
  where
    split : Precedes l l → ⊥
    split (by_block k) = reference_irrefl l.block k
    split (by_offset e k) = omega arith

pub locator_trans : (l m n : TransactionLocator) → locator_before l m ≡ true → locator_before m n ≡ true → locator_before l n ≡ true
locator_trans l m n h k = is_before l n (split (precedes l m h) (precedes m n k))
  where
    split : Precedes l m → Precedes m n → Precedes l n
    split (by_block a) (by_block b) = by_block (reference_trans l.block m.block n.block a b)
    split (by_block a) (by_offset e b) = by_block (subst (λ (r : BlockReference). reference_before l.block r ≡ true) e a)
    split (by_offset e a) (by_block b) = by_block (subst (λ (r : BlockReference). reference_before r n.block ≡ true) (sym e) b)
    split (by_offset e a) (by_offset f b) = by_offset (e ∙ f) (omega arith)

-- of two locators one comes first or they are equal
pub locator_total : (l m : TransactionLocator) → locator_before l m ≡ false → locator_before m l ≡ false → l ≡ m
locator_total l m h k = λ i. record { block = blocks i; offset = offsets i }
  where
    never : {x y : TransactionLocator} → locator_before x y ≡ false → Precedes x y → ⊥
    never {x} {y} e p = not_both (is_before x y p) e

    blocks : l.block ≡ m.block
    blocks = reference_total l.block m.block (fails _ (λ e. never h (by_block e))) (fails _ (λ e. never k (by_block e)))

    not_less : ¬ (l.offset < m.offset)
    not_less a = never h (by_offset blocks a)

    not_more : ¬ (m.offset < l.offset)
    not_more a = never k (by_offset (sym blocks) a)

    offsets : l.offset ≡ m.offset
    offsets = omega (arith, not_less, not_more)

-- of three, the later is not before the first
pub not_before_trans : (l m n : TransactionLocator) → locator_before m l ≡ false → locator_before n m ≡ false → locator_before n l ≡ false
not_before_trans l m n h k = fails (locator_before n l) (λ t. go t (holds_or_not (locator_before m n)))
  where
    go : locator_before n l ≡ true → (locator_before m n ≡ true) ⊎ (locator_before m n ≡ false) → ⊥
    go t (inl e) = not_both (locator_trans m n l e t) h
    go t (inr e) = not_both (subst (λ (x : TransactionLocator). locator_before x l ≡ true) (locator_total n m k e) t) h
