-- References of a record that stands in the store. Assumes nothing.
use mathlib.Core.Path.{◌≡◌, sym, ap, ◌∙◌}
use mathlib.Core.List.{List}
use Prim.Native.Nat.{ℕ, ◌+◌, ◌≤◌}
use native.Mathlib.Omega.{arith}
use lib.ListN.{length, take, drop, length-drop, length-take}
use lib.Seq.{drop-drop}
use Rattle.base.specs.Le.{Bytes, le_at}
use Rattle.base.proofs.Lists.{every}
use Rattle.base.proofs.Parts.{part_of_front}
use Rattle.record_spec.specs.Reference.{BlockReference, TransactionLocatorRange}
use Rattle.record_reference_bytes.specs.Step.{reference_at}
use Rattle.record_reader.proofs.Shape.{shape_in}
use Rattle.list_own_ranges.specs.Own.{Recorded}
use Rattle.list_kind_ranges.specs.Next.{StandsAt, AllStand}

module _ (s : Bytes) (start : ℕ) (r : Bytes) (w : Recorded s start r) where
  pub record-inside : start + length r ≤ length s
  record-inside = omega (arith, ap length w.stands, length-take (length r) (drop start s), length-drop start s, (shape_in r w.formed).long)

  stands_later : (at : ℕ) (q : BlockReference) → StandsAt r at q → StandsAt s (start + at) q
  unfolding StandsAt reference_at le_at
  stands_later at q h = (omega (arith, h.0, record-inside), sym same ∙ h.1)
    where
      piece : (n m : ℕ) → m + n ≤ length r → take n (drop m r) ≡ take n (drop (start + m) s)
      piece n m k = ap (λ (x : Bytes). take n (drop m x)) (sym w.stands) ∙ part_of_front n m (length r) (drop start s) k ∙ ap (take n) (drop-drop m start s)

      same : reference_at r at ≡ reference_at s (start + at)
      same =
          let e : start + (at + 8) ≡ start + at + 8 = omega arith in
          let f : start + (at + 16) ≡ start + at + 16 = omega arith in
          rw (piece 8 at (omega (arith, h.0)), piece 8 (at + 8) (omega (arith, h.0)), piece 32 (at + 16) (omega (arith, h.0)), e, f)

  pub all_later : (at : ℕ) (qs : List TransactionLocatorRange) → AllStand r at qs → AllStand s (start + at) qs
  unfolding AllStand
  all_later at qs h = every (λ q k. stands_later at q.block k) qs h
