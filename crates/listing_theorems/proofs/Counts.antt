-- The numbers of the last line fit words of 64 bits. Assumes nothing.
use mathlib.Core.Path.{◌≡◌, ap}
use mathlib.Core.Bool.{true}
use mathlib.Core.List.{List, [], ◌∷◌, map, flatten}
use Prim.Native.Nat.{ℕ, ◌-◌, ◌*◌, ◌≤◌, ◌<◌}
use native.Mathlib.Omega.{arith}
use lib.ListN.{length, replicate, length-map, length-append}
use Rattle.base.specs.Lists.{keep, count_from, sum_of, ◌∈◌, here, there}
use Rattle.base.specs.Le.{Bytes}
use Rattle.base.proofs.Le.{AllBytes}
use Rattle.base.proofs.Lists.{every_in, find_in, length_keep, length_count_from}
use Rattle.committee.specs.Committee.{Committee}
use Rattle.record_spec.specs.Reference.{locator}
use Rattle.record_spec.specs.Block.{is_share_at}
use Rattle.store_spec.specs.Layout.{Entry, entries, ascending}
use Rattle.store_spec.specs.Store.{records_of, store_in_order}
use Rattle.store_spec.proofs.Store.{in_order_lem}
use Rattle.store_spec.proofs.Lookups.{entry_block}
use Rattle.store_spec.proofs.Visit.{ascending_in, length_ascending, length_entries}
use Rattle.pending_spec.specs.Items.{Item}
use Rattle.pending_spec.specs.Table.{item_words, table_of, items_of}
use Rattle.pending_spec.proofs.Table.{length_words}
use Rattle.pending_spec.proofs.Order.{Pending}
use Rattle.pending_spec.proofs.Order as tables
use Rattle.final_spec.specs.Voters.{is_final}
use Rattle.final_spec.specs.Finality.{blocks_of}
use Rattle.final_spec.proofs.Fits.{block_fits}
use Rattle.list_ordinary_spec.specs.Shares.{shares_of, stored_shares}
use Rattle.list_ordinary_spec.specs.FinalShares.{final_shares}
use Rattle.list_ordinary_spec.proofs.Lists.{final_shares_through}
use Rattle.list_ordinary_spec.proofs.Through.{counted_shares}
use Rattle.load_along.proofs.Fitting.{share_inside}
use Rattle.listing_counts.specs.Pending.{item_offsets, pending_offsets}

sum_most : {A : Type 0} (f : A → ℕ) (xs : List A) → ((x : A) → x ∈ xs → f x ≤ 1024) → sum_of (map f xs) ≤ 1024 * length xs
unfolding sum_of
sum_most f [] h = omega arith
sum_most f (x ∷ xs) h = omega (arith, h x here, sum_most f xs (λ y m. h y (there m)))

module _ (c : Committee) (s : Bytes) (h : store_in_order c s ≡ true) (bytes : AllBytes s) where
  -- a stored block has at most 1,024 statements
  few_statements_lem : (e : Entry) → e ∈ entries (records_of s) → length e.block.statements ≤ 1024
  unfolding blocks_of
  few_statements_lem e m = (block_fits s bytes e.block (entry_block (records_of s) e m)).few_statements

  few_shares : (e : Entry) → e ∈ entries (records_of s) → length (shares_of e.block) ≤ 1024
  unfolding shares_of
  few_shares e m =
      let all = count_from 0 (length e.block.statements) in
      omega (
        arith,
        length-map (keep (is_share_at e.block) all) (locator e.block.reference),
        length_keep (is_share_at e.block) all,
        length_count_from 0 (length e.block.statements),
        few_statements_lem e m,
      )

  pub few_finals : length (final_shares c (blocks_of s)) < 18446744073709551616
  few_finals =
      let es = entries (records_of s) in
      omega (
        arith,
        ap length (final_shares_through c (blocks_of s)),
        length_keep (is_final c (blocks_of s)) (stored_shares (blocks_of s)),
        counted_shares c s h,
        sum_most (λ e. length (shares_of e.block)) (ascending es) (λ e m. few_shares e (ascending_in es e m)),
        length_ascending es,
        length_entries (records_of s),
        (in_order_lem c s h).few,
      )

  few_offsets : (x : Item) → Pending c (entries (records_of s)) x → item_offsets x ≤ 1024
  unfolding item_offsets is_share_at
  few_offsets x p =
      let e : Entry = p.entry in
      let inside = share_inside e.block.statements (x.end - 1) (p.shares (x.end - 1) (omega (arith, p.full)) (omega (arith, p.full))) in
      omega (arith, inside, few_statements_lem e (find_in _ (entries (records_of s)) e p.found))

few_items : (c : Committee) (es : List Entry) (t : List ℕ) → tables.InOrder c es t → length (items_of t) ≤ length t
unfolding table_of
few_items c es t o =
    let xs = items_of t in
    let words = flatten (map item_words xs) in
    omega (arith, ap length o.laid, length-append words (replicate (length t - 1 - 6 * length xs) 0), length_words xs)

pub few_pending : (c : Committee) (s : Bytes) (t : List ℕ) → store_in_order c s ≡ true → AllBytes s → tables.InOrder c (entries (records_of s)) t → length t
    ≡ 6145
    → pending_offsets (items_of t) < 18446744073709551616
unfolding pending_offsets
few_pending c s t h bytes o n =
    omega (
      arith,
      sum_most item_offsets (items_of t) (λ x m. few_offsets c s h bytes x (every_in (items_of t) x o.items m)),
      few_items c (entries (records_of s)) t o,
    )
