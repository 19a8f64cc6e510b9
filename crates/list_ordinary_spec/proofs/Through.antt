-- All stored shares, entry by entry in ascending reference order, and run by run in a block. Assumes nothing.
use mathlib.Core.Path.{◌≡◌, refl, sym, ap, subst, ◌∙◌}
use mathlib.Core.Bool.{Bool, true, false}
use mathlib.Core.List.{List, [], ◌∷◌, map, flatten}
use Prim.Native.Nat.{ℕ}
use native.Mathlib.Omega.{arith}
use lib.ListN.{length, length-append}
use Rattle.base.specs.Lists.{pick, keep, sum_of, count_from, ◌∈◌}
use Rattle.base.specs.Le.{Bytes}
use Rattle.base.proofs.Lists.{Every, none_of, and, Pairs, no_pairs, with_later, every_in}
use Rattle.base.proofs.Members.{any_in, in_map, map_in, in_flatten, flatten_in}
use Rattle.committee.specs.Committee.{Committee}
use Rattle.record_spec.specs.Reference.{BlockReference, TransactionLocator, TransactionLocatorRange, locator, within, locators, locator_before}
use Rattle.record_spec.specs.Reference.{reference_before}
use Rattle.record_spec.specs.Block.{Block, is_share_at, shared_ranges}
use Rattle.record_spec.proofs.References.{by_block, is_before}
use Rattle.record_spec.proofs.Ranges.{within_true}
use Rattle.record_spec.proofs.Runs.{Below, shared_runs, shared_below, shared_cover}
use Rattle.store_spec.specs.Layout.{Entry, reference_of, entries, ascending}
use Rattle.store_spec.specs.Store.{records_of, store_in_order}
use Rattle.store_spec.proofs.Store.{in_order_lem}
use Rattle.store_spec.proofs.Chain as chain
use Rattle.store_spec.proofs.Visit.{ascending_in, in_ascending}
use Rattle.final_spec.specs.Finality.{blocks_of}
use Rattle.final_spec.proofs.FinalList.{Ascending, none_left, ascending_unique, keep_ascending, covered_in}
use Rattle.store_spec.proofs.Lookups.{entry_block, block_entry}
use Rattle.list_ordinary_spec.specs.Shares.{shares_of, stored_shares}
use Rattle.list_ordinary_spec.proofs.Orders.{ascending_append}
use Rattle.list_ordinary_spec.proofs.Shares.{shares_in, in_shares, all_ascending, all_in, in_all_shares}
use Rattle.list_ordinary_spec.proofs.Ranges.{After, counted_ascending, locators_in, after_ascending, shared_of}

-- ---- the shares of one block

kept_map : (r : BlockReference) (p : ℕ → Bool) (os : List ℕ) → map (locator r) (keep p os) ≡ keep (λ l. p l.offset) (map (locator r) os)
unfolding keep locator
kept_map r p [] = refl
kept_map r p (o ∷ os) = go (p o) (kept_map r p os)
  where
    go : (t : Bool) → map (locator r) (keep p os) ≡ keep (λ (l : TransactionLocator). p l.offset) (map (locator r) os)
        → map (locator r) (pick t (o ∷ keep p os) (keep p os))
        ≡ pick t (locator r o ∷ keep (λ (l : TransactionLocator). p l.offset) (map (locator r) os))
        (keep (λ (l : TransactionLocator). p l.offset) (map (locator r) os))
    go true h = ap {B = List TransactionLocator} (λ ls. locator r o ∷ ls) h
    go false h = h

shares_ascending : (b : Block) → Ascending (shares_of b)
unfolding shares_of
shares_ascending b =
    rw (kept_map b.reference (is_share_at b) (count_from 0 (length b.statements)))
    (keep_ascending (λ (l : TransactionLocator). is_share_at b l.offset) (counted_ascending b.reference 0 (length b.statements)))

runs_after : (r : BlockReference) (xs : List TransactionLocatorRange) → Every (λ x. x.block ≡ r) xs → Pairs Below xs → Pairs After xs
unfolding After
runs_after r [] none_of no_pairs = no_pairs
runs_after r (x ∷ xs) (and h hs) (with_later b p) = with_later (each xs hs b) (runs_after r xs hs p)
  where
    each : (ys : List TransactionLocatorRange) → Every (λ y. y.block ≡ r) ys → Every (Below x) ys → Every (After x) ys
    each [] none_of none_of = none_of
    each (y ∷ ys) (and k ks) (and c cs) = and (h ∙ sym k, c) (each ys ks cs)

pub by_shared_ranges : (b : Block) → shares_of b ≡ flatten (map locators (shared_ranges b))
by_shared_ranges b =
    ascending_unique (shares_ascending b) (after_ascending (shared_ranges b) (runs_after b.reference (shared_ranges b) (shared_of b) (shared_below b))) to from
  where
    to : (l : TransactionLocator) → l ∈ shares_of b → l ∈ flatten (map locators (shared_ranges b))
    to l m =
        let k = shares_in b l m in
        let x = any_in (λ y. within y.start y.end l.offset) (shared_ranges b) (shared_cover b l.offset ∙ k.1) in
        let q = within_true x.0.start x.0.end l.offset x.2 in
        in_flatten (covered_in x.0 l (record { of = every_in (shared_ranges b) x.0 (shared_of b) x.1 ∙ k.0; from = q.0; below = q.1 }))
        (in_map locators x.1)

    from : (l : TransactionLocator) → l ∈ flatten (map locators (shared_ranges b)) → l ∈ shares_of b
    from l m =
        let y = flatten_in (map locators (shared_ranges b)) m in
        let x = map_in locators (shared_ranges b) y.2 in
        let q = locators_in x.0 l (subst (λ (ls : List TransactionLocator). l ∈ ls) (sym x.2) y.1) in
        in_shares b l (sym (every_in (shared_ranges b) x.0 (shared_of b) x.1) ∙ q.of)
        ((every_in (shared_ranges b) x.0 (shared_runs b) x.1).shares l.offset q.from q.below)

-- ---- the entries in ascending order

abbrev shares_at : Entry → List TransactionLocator
shares_at e = shares_of e.block

entries_ascending : (es : List Entry) → chain.Ascending es → Ascending (flatten (map shares_at es))
unfolding flatten
entries_ascending [] no_pairs = none_left
entries_ascending (e ∷ es) (with_later h p) = ascending_append (shares_ascending e.block) (entries_ascending es p) apart
  where
    apart : (l m : TransactionLocator) → l ∈ shares_at e → m ∈ flatten (map shares_at es) → locator_before l m ≡ true
    apart l m i j =
        let y = flatten_in (map shares_at es) j in
        let x = map_in shares_at es y.2 in
        let k = shares_in e.block l i in
        let q = shares_in x.0.block m (subst (λ (ls : List TransactionLocator). m ∈ ls) (sym x.2) y.1) in
        is_before l m
        (by_block
        (subst (λ (r : BlockReference). reference_before r m.block ≡ true) k.0
        (subst (λ (r : BlockReference). reference_before (reference_of e) r ≡ true) q.0 (every_in es x.0 h x.1))))

pub through_entries : (c : Committee) (s : Bytes) → store_in_order c s ≡ true → stored_shares (blocks_of s) ≡ flatten
    (map (λ e. shares_of e.block) (ascending (entries (records_of s))))
unfolding blocks_of
through_entries c s h =
    ascending_unique (all_ascending (blocks_of s)) (entries_ascending (ascending es)
    (chain.ascending_ascends es (chain.distinct c (records_of s) (in_order_lem c s h).accepted))) to from
  where
    es : List Entry
    es = entries (records_of s)

    to : (l : TransactionLocator) → l ∈ stored_shares (blocks_of s) → l ∈ flatten (map shares_at (ascending es))
    to l m =
        let x = all_in (blocks_of s) l m in
        let y = block_entry (records_of s) x.block x.stored in
        let i : l ∈ shares_at y.0 = subst (λ (b : Block). l ∈ shares_of b) (sym y.2) (in_shares x.block l x.named x.shared) in
        in_flatten i (in_map shares_at (in_ascending es y.0 y.1))

    from : (l : TransactionLocator) → l ∈ flatten (map shares_at (ascending es)) → l ∈ stored_shares (blocks_of s)
    from l m =
        let y = flatten_in (map shares_at (ascending es)) m in
        let x = map_in shares_at (ascending es) y.2 in
        let k = shares_in x.0.block l (subst (λ (ls : List TransactionLocator). l ∈ ls) (sym x.2) y.1) in
        in_all_shares (blocks_of s) l (record {
          block = x.0.block;
          stored = entry_block (records_of s) x.0 (ascending_in es x.0 x.1);
          named = k.0;
          shared = k.1;
        })

-- ---- how many there are

length_flat : {A B : Type 0} (f : A → List B) (xs : List A) → length (flatten (map f xs)) ≡ sum_of (map (λ x. length (f x)) xs)
unfolding flatten sum_of
length_flat f [] = refl
length_flat f (x ∷ xs) = omega (arith, length-append (f x) (flatten (map f xs)), length_flat f xs)

pub counted_shares : (c : Committee) (s : Bytes) → store_in_order c s ≡ true
    → length (stored_shares (blocks_of s)) ≡ sum_of (map (λ e. length (shares_of e.block)) (ascending (entries (records_of s))))
counted_shares c s h = ap (λ (ls : List TransactionLocator). length ls) (through_entries c s h) ∙ length_flat shares_at (ascending (entries (records_of s)))
