-- The claims about times hold. Assumes nothing.
use mathlib.Core.Path.{◌≡◌, refl}
use mathlib.Core.Bool.{true, false}
use mathlib.Core.List.{List, ◌∷◌}
use mathlib.Core.Option.{none}
use Prim.Native.Nat.{ℕ}
use Rattle.base.specs.Lists.{◌∈◌, here, there}
use Rattle.base.specs.Le.{Bytes}
use Rattle.committee.specs.Committee.{Committee}
use Rattle.record_spec.specs.Reference.{BlockReference}
use Rattle.record_spec.specs.Record.{time_in}
use Rattle.store_spec.specs.Layout.{Record, entries}
use Rattle.store_spec.specs.Accept.{is_stored}
use Rattle.store_spec.specs.Store.{records_of, store_in_order}
use Rattle.store_spec.proofs.Store.{in_order_lem}
use Rattle.store_spec.proofs.Chain.{distinct}
use Rattle.store_spec.proofs.Lookups.{lookup_hit, not_stored_none}
use Rattle.store_time.specs.Times.{entry_time, creation_time}
use Rattle.store_time.specs.Claims.{Claims}

-- a record has an entry
record-entry : (rs : List Record) (r : Record) → r ∈ rs → (p : ℕ) × (record { position = p; bytes = r.bytes; block = r.block } ∈ entries rs)
unfolding entries
record-entry mathlib.Core.List.[] q x' = elim x' [ ]
record-entry (r ∷ rs) q here = (_, here)
record-entry (r ∷ rs) q (there m) = let e = record-entry rs q m in (e.0, there e.1)

time_stored : (c : Committee) (s : Bytes) → store_in_order c s ≡ true → (r : Record) → r ∈ records_of s → creation_time s r.block.reference ≡ time_in r.bytes
unfolding creation_time entry_time
time_stored c s h r m =
    let e = record-entry (records_of s) r m in
    rw (lookup_hit (entries (records_of s)) (distinct c (records_of s) (in_order_lem c s h).accepted)
    (record { position = e.0; bytes = r.bytes; block = r.block }) e.1 r.block.reference refl)

time_absent : (s : Bytes) (i : BlockReference) → is_stored (records_of s) i ≡ false → creation_time s i ≡ none
unfolding creation_time entry_time
time_absent s i h = rw (not_stored_none (records_of s) i h)

pub claimed : Claims
claimed = record { stored = time_stored; absent = time_absent }
