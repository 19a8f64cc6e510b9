use Prim.Native.Nat.{ℕ, ◌≤◌}
use mathlib.Core.Path.{ap, ◌∙◌}
use native.Mathlib.Omega.{arith}
use lib.ListN.{length, length-replicate}
use Rattle.base.proofs.Le.{bytes_of}
use Rattle.base.proofs.Lists.{zeros_at}
use Rattle.types.specs.Values.{as_locator}
use Rattle.record_reference_bytes.proofs.Written.{length_locator_bytes}
use Rattle.final_readings_spec.specs.Answers.{as_reading}
use Rattle.slip_spec.specs.Slip.{reading_byte}
use Rattle.slip_spec.specs.Writing.{Written}
use Rattle.slip_write_distances.proofs.Reading.{fresh_tables}
use Rattle.slip_write_table.specs.Table.{place_in}
use Rattle.slip_write_bytes.specs.Answers.{as_slip_answer}
use Rattle.slip_write_parts.specs.Listed.{Voted, listed_bytes}
use Rattle.slip_write_parts.proofs.Over.{listed_length}
use Rattle.slip_write_bytes.proofs.Fitting.{over_short, over_long}
use Rattle.slip_write_bytes.proofs.write_listed.Goals as goal

pub find_distances-requires : goal.find_distances-requires
find_distances-requires c = let a = c.args in
    let q = c.requires in (
      (q.0.0, q.0.1),
      fresh_tables a.store.now a.order.now (as_locator a.locator) _ _ (length-replicate {A = ℕ} 131072 0)
          (length-replicate {A = ℕ} 131072 0) (zeros_at 131072),
    )

pub parts_size-size-requires : goal.parts_size-size-requires
unfolding Voted place_in
parts_size-size-requires c = let q = c.requires in
    let d = c.find_distances.ensures in
    ((d.long, q.1.0.0), (q.1.0.1, λ i h. omega (arith, (q.1.1 i h).0, q.0.1)))

pub returns-then-out-size : goal.returns-then-out-size
unfolding as_slip_answer
returns-then-out-size c = let a = c.args in
    let q = c.requires in
    let s = a.store.now in
    let o = a.order.now in
    let l = as_locator a.locator in
    let first = reading_byte (as_reading a.reading) in
    let d = c.find_distances.ensures in
    let bytes = bytes_of s (λ j h. omega (
      arith,
      c.shared_slice_known-1.given j,
    )) in
    let size = listed_length s o l _ _ d a.certifiers.now a.n q.1.1 q.0.0 bytes (length_locator_bytes a.locator) first in
    let e = over_short (listed_bytes s o l first a.certifiers.now a.n) a.out.now
    (omega (arith, size, c.parts_size-size.ensures, c.if-out-size.true)) in
    record { result_value = ap (λ (w : Written). w.answer) e; out_after = ap (λ (w : Written). w.out) e }

pub write_parts-requires : goal.write_parts-requires
write_parts-requires c = let q = c.requires in (
  (q.0, c.find_distances.ensures),
  (q.1, omega (arith, c.parts_size-size.ensures, c.if-out-size.false)),
)

pub returns : goal.returns
unfolding as_slip_answer
returns c = let a = c.args in
    let q = c.requires in
    let s = a.store.now in
    let o = a.order.now in
    let l = as_locator a.locator in
    let first = reading_byte (as_reading a.reading) in
    let d = c.find_distances.ensures in
    let bytes = bytes_of s (λ j h. omega (
      arith,
      c.shared_slice_known-1.given j,
    )) in
    let size = listed_length s o l _ _ d a.certifiers.now a.n q.1.1 q.0.0 bytes (length_locator_bytes a.locator) first in
    let r = c.parts_size-size.ensures in
    let h : length (listed_bytes s o l first a.certifiers.now a.n) ≤ length a.out.now = omega
    (arith, size, r, c.if-out-size.false) in
    let e = over_long (listed_bytes s o l first a.certifiers.now a.n) a.out.now h
    c.parts_size-size.result (omega (arith, size, r)) in record {
      result_value = ap (λ (x : Written). x.answer) e;
      out_after = rw c.reading_byte-first.ensures at
          c.write_parts.ensures ∙ ap (λ (x : Written). x.out) e;
    }
