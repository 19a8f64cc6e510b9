-- The places of the list. Assumes nothing.
use mathlib.Core.Path.{◌≡◌, refl, sym, ap, ap₂, ◌∙◌}
use mathlib.Core.Bool.{Bool, true, false}
use mathlib.Core.List.{List, [], ◌∷◌, ◌++◌, map, flatten}
use mathlib.Core.Option.{Option, some}
use Prim.Native.Nat.{ℕ, ◌*◌, ◌/◌, ◌≤◌}
use native.Mathlib.Nat.{mul-div-le}
use native.Mathlib.Omega.{arith}
use lib.ListN.{length, drop, length-append, length-drop}
use borrow.Author.Tests.{ltb-false, not-false}
use Rattle.base.specs.Lists.{pick, ◌∈◌, here, there}
use Rattle.base.specs.Le.{Bytes}
use Rattle.base.specs.Checks.{passes}
use Rattle.base.proofs.Members.{keep_in}
use Rattle.base.proofs.Lists.{holds_some, length_keep}
use Rattle.base.proofs.Checks.{passes_first, passes_others}
use Rattle.committee.specs.Committee.{Committee}
use Rattle.record_spec.specs.Reference.{TransactionLocator, locator}
use Rattle.record_spec.specs.Block.{Block, is_share_at}
use Rattle.store_spec.specs.Layout.{Entry, entries, position_of, lookup}
use Rattle.store_spec.specs.Store.{records_of, store_in_order}
use Rattle.store_spec.proofs.Store.{in_order_lem}
use Rattle.store_spec.specs.Entry.{block_at}
use Rattle.store_spec.proofs.Lookups.{lookup_in}
use Rattle.store_spec.proofs.Check.{order_laid}
use Rattle.store_spec.proofs.Search.{laid_out_lem}
use Rattle.store_spec.proofs.Loops.{block_of_entry}
use Rattle.final_spec.specs.Finality.{blocks_of}
use Rattle.final_readings_spec.specs.Readings.{Reading}
use Rattle.list_ordinary_spec.specs.Shares.{stored_shares}
use Rattle.store_spec.specs.Shares.{is_stored_share}
use Rattle.store_spec.proofs.Chain.{distinct}
use Rattle.store_spec.proofs.Shares.{share_stored, blocks_entered, share_looked_up}
use Rattle.list_ordinary_spec.proofs.Shares.{all_in}
use Rattle.load_spec.specs.Loadable.{is_loadable_in, loadable_list_in}
use Rattle.load_spec.specs.Question.{place_words, named_by, list_checks, loadable_questions_in}
use Rattle.load_spec.specs.Claims.{PlaceNames}

-- the entry of a stored share
pub found_entry : (c : Committee) (s : Bytes) → store_in_order c s ≡ true → (l : TransactionLocator) → l ∈ stored_shares (blocks_of s)
    → (e : Entry) × (lookup (entries (records_of s)) l.block ≡ some e) × (is_share_at e.block l.offset ≡ true)
unfolding blocks_of
found_entry c s h l m =
    holds_some (λ e. is_share_at e.block l.offset) (lookup (entries (records_of s)) l.block)
    (sym (share_looked_up (entries (records_of s)) (distinct c (records_of s) (in_order_lem c s h).accepted) l)
    ∙ ap (λ (bs : List Block). is_stored_share bs l) (blocks_entered (records_of s))
    ∙ share_stored (blocks_of s) l (all_in (blocks_of s) l m))

pub place_names : (c : Committee) (s : Bytes) → store_in_order c s ≡ true → (l : TransactionLocator) → l ∈ stored_shares (blocks_of s) → PlaceNames s l
unfolding place_words position_of
place_names c s h l m =
    let x = found_entry c s h l m in
    let y = lookup_in (entries (records_of s)) l.block x.0 x.1 in
    record { entry = x.0; stands = y.0; words = ap (λ (o : Option Entry). position_of o ∷ l.offset ∷ []) x.1; named = y.1; shared = x.2 }

-- ---- read back

place_block : (c : Committee) (s : Bytes) → store_in_order c s ≡ true → (l : TransactionLocator) → l ∈ stored_shares (blocks_of s)
    → (block_at s (position_of (lookup (entries (records_of s)) l.block))).reference ≡ l.block
unfolding position_of
place_block c s h l m =
    let x = found_entry c s h l m in
    let y = lookup_in (entries (records_of s)) l.block x.0 x.1 in
    ap (λ (o : Option Entry). (block_at s (position_of o)).reference) x.1
    ∙ ap (λ (b : Block). b.reference) (block_of_entry s (laid_out_lem s (order_laid c s h)).reads x.0 y.0)
    ∙ y.1

pub read_back : (c : Committee) (s : Bytes) → store_in_order c s ≡ true → (ls : List TransactionLocator) →
    ((l : TransactionLocator) → l ∈ ls → l ∈ stored_shares (blocks_of s))
    → (rest : List ℕ) → named_by s (length ls) (flatten (map (place_words (entries (records_of s))) ls) ++ rest) ≡ ls
unfolding named_by flatten place_words locator
read_back c s h [] f rest = refl
read_back c s h (l ∷ ls) f rest =
    let e = place_block c s h l (f l here) in
    ap₂ {C = List TransactionLocator} (λ x xs. x ∷ xs) (λ i. record { block = e i; offset = l.offset }) (read_back c s h ls (λ x m. f x (there m)) rest)

pub places_read_lem : (reading : Reading) (c : Committee) (s : Bytes) (ps : List ℕ) → passes (list_checks c s ps) ≡ true
    → named_by s (length (loadable_list_in reading c (blocks_of s))) (loadable_questions_in reading c s ps).places ≡ loadable_list_in reading c (blocks_of s)
unfolding loadable_questions_in
places_read_lem reading c s ps h =
    rw h
    (read_back c s (in_order_too h) (loadable_list_in reading c (blocks_of s))
    (λ l m. unfold loadable_list_in in (keep_in (is_loadable_in reading c (blocks_of s)) (stored_shares (blocks_of s)) m).0)
    (drop (2 * length (loadable_list_in reading c (blocks_of s))) ps))
  where
    in_order_too : passes (list_checks c s ps) ≡ true → store_in_order c s ≡ true
    in_order_too k = unfold list_checks in not-false (store_in_order c s) (passes_first _ _ (passes_others _ _ k))

-- ---- how long they are

pub length_places : (es : List Entry) (ls : List TransactionLocator) → length (flatten (map (place_words es) ls)) ≡ 2 * length ls
unfolding flatten place_words
length_places es [] = omega arith
length_places es (l ∷ ls) = omega (arith, length_places es ls)

enough : (reading : Reading) (c : Committee) (s : Bytes) (ps : List ℕ) → passes (list_checks c s ps) ≡ true → 2 * length
    (loadable_list_in reading c (blocks_of s)) ≤ length ps
unfolding list_checks loadable_list_in
enough reading c s ps h =
    let k = ltb-false (length ps / 2) (length (stored_shares (blocks_of s))) (passes_first _ _ (passes_others _ _ (passes_others _ _ h))) in
    omega (arith, k, mul-div-le (length ps) 2, length_keep (is_loadable_in reading c (blocks_of s)) (stored_shares (blocks_of s)))

pub places_fit_lem : (reading : Reading) (c : Committee) (s : Bytes) (ps : List ℕ) → length (loadable_questions_in reading c s ps).places ≡ length ps
unfolding loadable_questions_in
places_fit_lem reading c s ps = go (passes (list_checks c s ps)) refl
  where
    found : List TransactionLocator
    found = loadable_list_in reading c (blocks_of s)

    go : (t : Bool) → passes (list_checks c s ps) ≡ t
        → length (pick t (flatten (map (place_words (entries (records_of s))) found) ++ drop (2 * length found) ps) ps) ≡ length ps
    go false e = refl
    go true e =
        omega (
          arith,
          enough reading c s ps e,
          length-append (flatten (map (place_words (entries (records_of s))) found)) (drop (2 * length found) ps),
          length_places (entries (records_of s)) found,
          length-drop (2 * length found) ps,
        )
