-- Looking a share up among ascending places. Assumes nothing.
use mathlib.Core.Path.{◌≡◌, refl, sym, subst, ◌∙◌}
use mathlib.Core.Logic.{◌⊎◌, inl, inr}
use mathlib.Core.Bool.{Bool, true, false}
use mathlib.Core.List.{List}
use Prim.Native.Nat.{ℕ, zero, suc, ◌+◌, ◌*◌, ◌≤◌, ◌<◌}
use native.Mathlib.Omega.{arith}
use lib.ListN.{get_or, drop}
use lib.Seq.{get_or-drop}
use Rattle.base.specs.Lists.{any_of, ◌∈◌, here, there}
use Rattle.base.specs.Le.{Bytes}
use Rattle.base.proofs.Tests.{fails, not_both}
use Rattle.base.proofs.Members.{in_empty, in_cases, any_in, in_any}
use Rattle.base.proofs.Narrowed.{Narrowed, narrowed_all}
use Rattle.record_spec.specs.Reference.{TransactionLocator, locator, same_locator, locator_before}
use Rattle.record_spec.proofs.References.{locator_same, same_locator_lem, locator_irrefl, locator_total}
use Rattle.types.specs.Values.{locator_order}
use Rattle.std.specs.declared.cmp.Ordering.TheVariants.{Less, Equal, Greater}
use Rattle.store_spec.specs.Entry.{block_at}
use Rattle.types.proofs.Words.{order_less, order_equal, order_greater}
use Rattle.load_spec.specs.Question.{named_by}
use Rattle.load_places.specs.Listed.{place_at}

-- ---- what a comparison says

module _ (l m : TransactionLocator) where
  pub compared_equal : locator_order l m ≡ Equal → l ≡ m
  unfolding locator_order
  compared_equal h = locator_same l m (order_equal _ _ h)

  pub compared_less : locator_order l m ≡ Less → locator_before l m ≡ true
  unfolding locator_order
  compared_less h = (order_less _ _ h).1

  pub compared_greater : locator_order l m ≡ Greater → locator_before m l ≡ true
  unfolding locator_order
  compared_greater h = let x = order_greater _ _ h in go (locator_before m l) refl x.0 x.1
    where
      go : (u : Bool) → locator_before m l ≡ u → same_locator l m ≡ false → locator_before l m ≡ false → locator_before m l ≡ true
      go true e d k = e
      go false e d k = absurd (not_both (same_locator_lem (locator_total l m k e)) d)

-- ---- places by their index

pub next_place : (s : Bytes) (ps : List ℕ) (i : ℕ) → place_at s (drop 2 ps) i ≡ place_at s ps (suc i)
unfolding place_at
next_place s ps i =
    let e : 2 + 2 * i ≡ 2 * suc i = omega arith in
    let f : 2 + (2 * i + 1) ≡ 2 * suc i + 1 = omega arith in
    rw (get_or-drop, get_or-drop, e, f)

pub named_in : (s : Bytes) (n : ℕ) (ps : List ℕ) (i : ℕ) → i < n → place_at s ps i ∈ named_by s n ps
unfolding named_by place_at
named_in s zero ps i h = absurd (omega arith)
named_in s (suc n) ps zero h = here
named_in s (suc n) ps (suc i) h = there (subst (λ (l : TransactionLocator). l ∈ named_by s n (drop 2 ps)) (next_place s ps i)
    (named_in s n (drop 2 ps) i (omega arith)))

pub in_named : (s : Bytes) (n : ℕ) (ps : List ℕ) (l : TransactionLocator) → l ∈ named_by s n ps → (i : ℕ) × (i < n) × (place_at s ps i ≡ l)
unfolding named_by place_at
in_named s zero ps l m = absurd (in_empty m)
in_named s (suc n) ps l m = split (λ k. in_named s n (drop 2 ps) l k) (in_cases m)
  where
    split : (l ∈ named_by s n (drop 2 ps) → (i : ℕ) × (i < n) × (place_at s (drop 2 ps) i ≡ l))
        → (l ≡ locator (block_at s (get_or ps 0 0)).reference (get_or ps 1 0)) ⊎ (l ∈ named_by s n (drop 2 ps)) → (i : ℕ) × (i < suc n) × (place_at s ps i ≡ l)
    split later (inl e) = (0, omega arith, sym e)
    split later (inr k) = let x = later k in (suc x.0, omega (arith, x.1), sym (next_place s ps x.0) ∙ x.2)

-- ---- what halving finds

module _ (s : Bytes) (ps : List ℕ) (n : ℕ) (l : TransactionLocator) where
  -- every place from the stretch that is left names a lesser share or a greater one
  unfoldable pub Around : ℕ → ℕ → Type 0
  Around low high = Narrowed n (λ j. locator_before (place_at s ps j) l ≡ true) (λ j. locator_before l (place_at s ps j) ≡ true) low high

  pub listed_there : (i : ℕ) → i < n → place_at s ps i ≡ l → any_of (same_locator l) (named_by s n ps) ≡ true
  listed_there i h e = in_any (same_locator l) (named_in s n ps i h) (same_locator_lem (sym e))

  pub listed_nowhere : (low high : ℕ) → high ≤ low → Around low high → any_of (same_locator l) (named_by s n ps) ≡ false
  unfolding Around
  listed_nowhere low high h a = fails (any_of (same_locator l) (named_by s n ps)) (λ k. found (any_in (same_locator l) (named_by s n ps) k))
    where
      beside : (x : TransactionLocator) → x ≡ l → (locator_before x l ≡ true) ⊎ (locator_before l x ≡ true) → ⊥
      beside x e (inl k) = locator_irrefl l (rw e at k)
      beside x e (inr k) = locator_irrefl l (rw e at k)

      found : (x : TransactionLocator) × (x ∈ named_by s n ps) × (same_locator l x ≡ true) → ⊥
      found q =
          let i = in_named s n ps q.0 q.1 in
          beside (place_at s ps i.0) (i.2 ∙ sym (locator_same l q.0 q.2)) (narrowed_all n _ _ low high h a i.0 i.1)
