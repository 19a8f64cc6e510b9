-- The voted block: where it stands, and whether it has a share at an offset. Assumes nothing.
use mathlib.Core.Path.{◌≡◌, refl, sym, ap, ◌∙◌}
use mathlib.Core.Logic.{◌⊎◌, inl, inr}
use mathlib.Core.Bool.{Bool, true, false}
use mathlib.Core.List.{List, [], ◌∷◌}
use mathlib.Core.Option.{Option, none, some}
use Prim.Native.Nat.{ℕ, ◌≤◌}
use native.Mathlib.Omega.{arith}
use Rattle.base.specs.Lists.{pick, find, holds, ◌∈◌}
use Rattle.base.specs.Le.{Bytes}
use Rattle.base.proofs.Members.{in_cases}
use Rattle.base.proofs.Lists.{every_in}
use Rattle.record_spec.specs.Reference.{BlockReference, locator, same_reference}
use Rattle.record_spec.specs.Block.{is_share_at}
use Rattle.record_spec.specs.Record.{block_in}
use Rattle.types.specs.Values.{order_of, reference_order}
use Rattle.std.specs.declared.cmp.Ordering.{Ordering}
use Rattle.std.specs.declared.cmp.Ordering.TheVariants.{Less, Equal, Greater}
use Rattle.store_spec.specs.Layout.{Record, used_by, Entry, entries, position_of, lookup}
use Rattle.store_spec.specs.Accept.{is_stored}
use Rattle.store_spec.specs.Store.{records_of, record_in}
use Rattle.store_spec.specs.Entry.{readable, laid_out, is_entry, block_at}
use Rattle.store_spec.proofs.Store.{entries_below, entries_within}
use Rattle.store_spec.proofs.Loops.{EntryAt, entry_at, is_entry_lem, block_at_lem}
use Rattle.store_spec.proofs.Chain.{distinct_new}
use Rattle.store_spec.proofs.Lookups.{lookup_in}
use Rattle.store_spec.proofs.Search.{laid_out_lem}
use Rattle.store_spec.proofs.Shares.{share_looked_up}
use Rattle.store_spec.proofs.Visit.{one_position}
use Rattle.record_spec.proofs.References.{reference_same}
use Rattle.types.proofs.Words.{compared_equal}
use Rattle.feed_spec.specs.ProcessBlock.{missed}
use Rattle.feed_missed.specs.Kinds.{with_new}
use Rattle.feed_spec.proofs.ProcessBlock.{lookup_new}

used_least : (rs : List Record) → 16 ≤ used_by rs
unfolding used_by
used_least [] = omega arith
used_least (r ∷ rs) = omega (arith, used_least rs)

not_equal : (s t : Bool) (o : Ordering) → order_of s t ≡ o → (o ≡ Equal → ⊥) → s ≡ false
unfolding order_of
not_equal true t o e h = absurd (h (sym e))
not_equal false t o e h = refl

less_equal : Less ≡ Equal → ⊥
less_equal h = let z : ◌≡◌ {A = ℕ} 0 1 = cc in omega arith

greater_equal : Greater ≡ Equal → ⊥
greater_equal h = let z : ◌≡◌ {A = ℕ} 0 1 = cc in omega arith

module _ (s rec : Bytes) (r : BlockReference) where
  new : Entry
  new = record { position = used_by (records_of s); bytes = rec; block = block_in rec }

  with_new_lem : with_new s rec ≡ new ∷ entries (records_of s)
  unfolding entries record_in new
  with_new_lem = refl

  -- ---- where it stands

  pub position_own : reference_order (block_in rec).reference r ≡ Equal → position_of (lookup (with_new s rec) r) ≡ used_by (records_of s)
  unfolding position_of new
  position_own h = rw (
    with_new_lem,
    ← reference_same (block_in rec).reference r (compared_equal (block_in rec).reference r h),
    lookup_new (entries (records_of s))
        new,
  )

  other : same_reference (block_in rec).reference r ≡ false → position_of (lookup (with_new s rec) r) ≡ position_of (lookup (entries (records_of s)) r)
  unfolding lookup find new
  other h = rw (with_new_lem, h)

  pub position_less : reference_order (block_in rec).reference r ≡ Less → position_of (lookup (with_new s rec) r)
      ≡ position_of (lookup (entries (records_of s)) r)
  unfolding reference_order
  position_less h = other (not_equal _ _ Less h less_equal)

  pub position_greater : reference_order (block_in rec).reference r ≡ Greater → position_of (lookup (with_new s rec) r) ≡ position_of
      (lookup (entries (records_of s)) r)
  unfolding reference_order
  position_greater h = other (not_equal _ _ Greater h greater_equal)

  -- ---- its shares

  -- of a store that is laid out and a block that is not stored yet: by the entry that is found
  missed_found : laid_out s ≡ true → is_stored (records_of s) (block_in rec).reference ≡ false → (o : ℕ)
      → missed (with_new s rec) r o ≡ pick (holds (λ e. is_share_at e.block o) (lookup (with_new s rec) r)) 2 3
  unfolding missed locator record_in
  missed_found laid fresh o =
      ap (λ (t : Bool). pick t 2 3) (share_looked_up (with_new s rec) (distinct_new (records_of s) (record_in rec) (laid_out_lem s laid).chain.distinct fresh)
      (locator r o))

  -- a block that is not stored has none
  pub missed_unknown : laid_out s ≡ true → is_stored (records_of s) (block_in rec).reference ≡ false → 0 ≡ position_of (lookup (with_new s rec) r) → (o : ℕ) →
      missed (with_new s rec) r o ≡ 3
  unfolding holds position_of
  missed_unknown laid fresh h o = missed_found laid fresh o ∙ go (lookup (with_new s rec) r) refl h
    where
      go : (d : Option Entry) → lookup (with_new s rec) r ≡ d → 0 ≡ position_of d → ◌≡◌ {A = ℕ} (pick (holds (λ e. is_share_at e.block o) d) 2 3) 3
      go none q z = refl
      go (some e) q z = absurd (omega (
        arith,
        (every_in (with_new s rec) e (entries_within (record_in rec ∷ records_of s)) (lookup_in (with_new s rec) r e q).0
            ).from,
      ))

  -- the block being fed
  pub missed_own : laid_out s ≡ true → is_stored (records_of s) (block_in rec).reference ≡ false → used_by (records_of s)
      ≡ position_of (lookup (with_new s rec) r) →
      (o : ℕ)
      → missed (with_new s rec) r o ≡ pick (is_share_at (block_in rec) o) 2 3
  unfolding holds position_of new
  missed_own laid fresh h o = missed_found laid fresh o ∙ go (lookup (with_new s rec) r) refl h
    where
      own : (e : Entry) → (e ≡ new) ⊎ (e ∈ entries (records_of s)) → e.position ≡ used_by (records_of s) → e.block ≡ block_in rec
      own e (inl q) z = ap (λ (x : Entry). x.block) q
      own e (inr m) z = absurd (omega (arith, every_in (entries (records_of s)) e (entries_below (records_of s)) m))

      go : (d : Option Entry) → lookup (with_new s rec) r ≡ d → used_by (records_of s) ≡ position_of d
          → ◌≡◌ {A = ℕ} (pick (holds (λ e. is_share_at e.block o) d) 2 3) (pick (is_share_at (block_in rec) o) 2 3)
      go none q z = absurd (omega (arith, used_least (records_of s)))
      go (some e) q z = rw (own e (in_cases (rw with_new_lem at (lookup_in (with_new s rec) r e q).0)) (sym z))

  -- another stored block
  module _ (p : ℕ) (at : p ≡ position_of (lookup (with_new s rec) r)) (some-where : p ≡ 0 → ⊥) (earlier : p ≡ used_by (records_of s) → ⊥)
      (ok : readable s ≡ true)
    where
      record Stood : Type 0 where
        entry : Entry
        looked : lookup (with_new s rec) r ≡ some entry
        stands : entry ∈ entries (records_of s)
        place : p ≡ entry.position

      stood : Stood
      unfolding position_of new
      stood = go (lookup (with_new s rec) r) refl
        where
          older : (e : Entry) → (e ≡ new) ⊎ (e ∈ entries (records_of s)) → p ≡ e.position → e ∈ entries (records_of s)
          older e (inl q) z = absurd (earlier (z ∙ ap (λ (x : Entry). x.position) q))
          older e (inr m) z = m

          go : (d : Option Entry) → lookup (with_new s rec) r ≡ d → Stood
          go none q = absurd (some-where (at ∙ ap position_of q))
          go (some e) q =
              let z : p ≡ e.position = at ∙ ap position_of q in
              record { entry = e; looked = q; stands = older e (in_cases (rw with_new_lem at (lookup_in (with_new s rec) r e q).0)) z; place = z }

      pub stored_at : is_entry s p ≡ true
      stored_at = rw stood.place (is_entry_lem s stood.entry ok stood.stands)

      pub missed_stored : laid_out s ≡ true → is_stored (records_of s) (block_in rec).reference ≡ false → (o : ℕ) → missed (with_new s rec) r o ≡ pick
          (is_share_at (block_at s p) o) 2 3
      unfolding holds
      missed_stored laid fresh o =
          missed_found laid fresh o ∙
          let x : EntryAt s p = entry_at s p stored_at in
          let d : x.entry ≡ stood.entry = one_position (records_of s) x.entry stood.entry x.stored stood.stands (x.place ∙ stood.place) in
          rw (stood.looked, block_at_lem s p (record { bytes = x.entry.bytes; block = x.entry.block }) x.stands, d)
