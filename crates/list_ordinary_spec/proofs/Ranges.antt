-- The locators of ranges, and of runs of shares. Assumes nothing.
use mathlib.Core.Path.{◌≡◌, refl, sym, ap, subst, ◌∙◌}
use mathlib.Core.Bool.{Bool, true, false}
use mathlib.Core.List.{List, [], ◌∷◌, map, flatten}
use Prim.Native.Nat.{ℕ, zero, suc, ◌+◌, ◌-◌, ◌≤◌}
use native.Mathlib.Omega.{arith}
use lib.Dec.{eqb}
use Rattle.base.specs.Lists.{pick, count_from, ◌∈◌}
use Rattle.base.proofs.Lists.{Every, none_of, and, Pairs, no_pairs, with_later, every_in}
use Rattle.base.proofs.Members.{map_in, flatten_in, count_from_in}
use Rattle.record_spec.specs.Reference.{BlockReference, TransactionLocator, TransactionLocatorRange, locator, new_range, offsets, locators, locator_before}
use Rattle.record_spec.specs.Block.{Statement, Block, is_share, joined, runs_from, shared_ranges}
use Rattle.record_spec.proofs.References.{by_offset, is_before}
use Rattle.final_spec.proofs.Votes.{Covered}
use Rattle.final_spec.proofs.FinalList.{Ascending, none_left, and_then}
use Rattle.list_ordinary_spec.proofs.Orders.{ascending_append}

-- ---- the locators of a range

pub locators_in : (t : TransactionLocatorRange) (l : TransactionLocator) → l ∈ locators t → Covered t l
unfolding locators offsets locator
locators_in t l m =
    let x = map_in (locator t.block) (count_from t.start (t.end - t.start)) m in
    let k = count_from_in t.start (t.end - t.start) x.1 in
    let o : x.0 ≡ l.offset = ap (λ (y : TransactionLocator). y.offset) x.2 in
    record { of = ap (λ (y : TransactionLocator). y.block) x.2; from = omega (arith, k.0); below = omega (arith, k.0, k.1) }

pub counted_ascending : (r : BlockReference) (i n : ℕ) → Ascending (map (locator r) (count_from i n))
unfolding count_from locator
counted_ascending r i zero = none_left
counted_ascending r i (suc n) = and_then later (counted_ascending r (i + 1) n)
  where
    later : (m : TransactionLocator) → m ∈ map (locator r) (count_from (i + 1) n) → locator_before (locator r i) m ≡ true
    later m k =
        let x = map_in (locator r) (count_from (i + 1) n) k in
        let q = count_from_in (i + 1) n x.1 in
        subst (λ (y : TransactionLocator). locator_before (locator r i) y ≡ true) x.2
        (is_before (locator r i) (locator r x.0) (by_offset refl (omega (arith, q.0))))

pub locators_ascending : (t : TransactionLocatorRange) → Ascending (locators t)
unfolding locators offsets
locators_ascending t = counted_ascending t.block t.start (t.end - t.start)

-- ranges of one block, one after the other
unfoldable pub After : TransactionLocatorRange → TransactionLocatorRange → Type 0
After x y = (x.block ≡ y.block) × (x.end ≤ y.start)

pub after_ascending : (xs : List TransactionLocatorRange) → Pairs After xs → Ascending (flatten (map locators xs))
unfolding flatten After
after_ascending [] no_pairs = none_left
after_ascending (x ∷ xs) (with_later h p) = ascending_append (locators_ascending x) (after_ascending xs p) apart
  where
    apart : (l m : TransactionLocator) → l ∈ locators x → m ∈ flatten (map locators xs) → locator_before l m ≡ true
    apart l m i j =
        let y = flatten_in (map locators xs) j in
        let z = map_in locators xs y.2 in
        let k = locators_in x l i in
        let q = locators_in z.0 m (subst (λ (ls : List TransactionLocator). m ∈ ls) (sym z.2) y.1) in
        let a = every_in xs z.0 h z.1 in
        is_before l m (by_offset (sym k.of ∙ a.0 ∙ q.of) (omega (arith, a.1, k.below, q.from)))

-- ---- runs of shares

-- a run is of its block
joined_of : (r : BlockReference) (o : ℕ) (xs : List TransactionLocatorRange) → Every (λ x. x.block ≡ r) xs → Every (λ x. x.block ≡ r) (joined r o xs)
unfolding joined new_range
joined_of r o [] none_of = and refl none_of
joined_of r o (x ∷ xs) (and h hs) = go (eqb (o + 1) x.start)
  where
    go : (t : Bool) → Every (λ (y : TransactionLocatorRange). y.block ≡ r) (pick t (new_range r o x.end ∷ xs) (new_range r o (o + 1) ∷ x ∷ xs))
    go true = and refl hs
    go false = and refl (and h hs)

runs_of : (r : BlockReference) (o : ℕ) (ss : List Statement) → Every (λ x. x.block ≡ r) (runs_from r o ss)
unfolding runs_from
runs_of r o [] = none_of
runs_of r o (s ∷ ss) = go (is_share s) (runs_of r (o + 1) ss)
  where
    go : (t : Bool) → Every (λ (x : TransactionLocatorRange). x.block ≡ r) (runs_from r (o + 1) ss)
        → Every (λ (x : TransactionLocatorRange). x.block ≡ r) (pick t (joined r o (runs_from r (o + 1) ss)) (runs_from r (o + 1) ss))
    go true h = joined_of r o (runs_from r (o + 1) ss) h
    go false h = h

pub shared_of : (b : Block) → Every (λ x. x.block ≡ b.reference) (shared_ranges b)
unfolding shared_ranges
shared_of b = runs_of b.reference 0 b.statements
