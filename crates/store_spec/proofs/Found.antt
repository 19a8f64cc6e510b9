-- The entry that a reference is found at. Assumes nothing.
use mathlib.Core.Path.{◌≡◌, refl, sym, ap, ◌∙◌}
use mathlib.Core.Bool.{true}
use mathlib.Core.Option.{Option, none, some}
use Prim.Native.Nat.{ℕ}
use native.Mathlib.Omega.{arith}
use Rattle.base.specs.Lists.{◌∈◌}
use Rattle.base.specs.Le.{Bytes}
use Rattle.base.proofs.Lists.{every_in}
use Rattle.record_spec.specs.Reference.{BlockReference}
use Rattle.store_spec.specs.Layout.{Entry, entries, position_of, lookup}
use Rattle.store_spec.specs.Store.{records_of}
use Rattle.store_spec.specs.Entry.{record_at, laid_out, is_entry}
use Rattle.store_spec.proofs.Store.{entries_within}
use Rattle.store_spec.proofs.Loops.{is_entry_lem, record-of-entry}
use Rattle.store_spec.proofs.Lookups.{lookup_in}
use Rattle.store_spec.proofs.Search.{laid_out_lem}

pub record FoundEntry (s : Bytes) (r : BlockReference) (at : ℕ) : Type 0 where
  pub entry : Entry
  pub is : lookup (entries (records_of s)) r ≡ some entry
  pub stored : entry ∈ entries (records_of s)
  pub place : entry.position ≡ at

module _ (s : Bytes) (laid : laid_out s ≡ true) (r : BlockReference) (at : ℕ) (found : at ≡ position_of (lookup (entries (records_of s)) r)) where
  -- position 0 is none
  pub found_none : at ≡ 0 → lookup (entries (records_of s)) r ≡ none
  unfolding position_of
  found_none z = go (lookup (entries (records_of s)) r) refl (sym found ∙ z)
    where
      go : (o : Option Entry) → lookup (entries (records_of s)) r ≡ o → position_of o ≡ 0 → o ≡ none
      go none q k = refl
      go (some e) q k = absurd (omega (
        arith,
        (every_in (entries (records_of s)) e (entries_within (records_of s)) (lookup_in (entries (records_of s)) r e q).0
            ).from,
      ))

  pub found_entry : (at ≡ 0 → ⊥) → FoundEntry s r at
  unfolding position_of
  found_entry f = go (lookup (entries (records_of s)) r) refl found
    where
      go : (o : Option Entry) → lookup (entries (records_of s)) r ≡ o → at ≡ position_of o → FoundEntry s r at
      go none q k = absurd (f k)
      go (some e) q k = record { entry = e; is = q; stored = (lookup_in (entries (records_of s)) r e q).0; place = sym k }

  -- an entry stands there, and its record is the one that was found
  pub found_stands : (at ≡ 0 → ⊥) → is_entry s at ≡ true
  found_stands f = let e : FoundEntry s r at = found_entry f in rw (← e.place) (is_entry_lem s e.entry (laid_out_lem s laid).tested e.stored)

  pub found_record : (f : at ≡ 0 → ⊥) → record_at s at ≡ (found_entry f).entry.bytes
  found_record f =
      let e : FoundEntry s r at = found_entry f in
      ap (λ (n : ℕ). record_at s n) (sym e.place) ∙ record-of-entry s (laid_out_lem s laid).reads e.entry e.stored
