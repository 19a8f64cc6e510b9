use Prim.Native.Nat.{ℕ, ◌+◌, ◌*◌}
use mathlib.Core.Path.{◌≡◌, subst}
use native.Mathlib.Omega.{arith}
use lib.ListN.{get_or, take, drop}
use Rattle.types.specs.Values.{be_bytes}
use Rattle.record_reference_bytes.proofs.Read.{read_single, read_double}
use Rattle.record_reference_bytes.proofs.read_high_u32.Goals as goal

pub overflow_cast-result : goal.overflow_cast-result
overflow_cast-result c = omega (arith, c.shared_slice_known-1.given c.args.at)

pub overflow_mul-result : goal.overflow_mul-result
overflow_mul-result c = omega (arith, c.shared_slice_known-1.given c.args.at)

pub overflow_cast-result-2 : goal.overflow_cast-result-2
overflow_cast-result-2 c = omega (arith, c.shared_slice_known-2-1.given (c.args.at + 1))

pub overflow_mul-result-2 : goal.overflow_mul-result-2
overflow_mul-result-2 c = omega (arith, c.shared_slice_known-2-1.given (c.args.at + 1))

pub overflow_add-result-2 : goal.overflow_add-result-2
overflow_add-result-2 c = omega (arith, c.shared_slice_known-2-1.given c.args.at, c.shared_slice_known-2-1.given (c.args.at + 1))

pub overflow_cast-result-3 : goal.overflow_cast-result-3
overflow_cast-result-3 c = omega (arith, c.shared_slice_known-3-1.given (c.args.at + 2))

pub overflow_mul-result-3 : goal.overflow_mul-result-3
overflow_mul-result-3 c = omega (arith, c.shared_slice_known-3-1.given (c.args.at + 2))

pub overflow_add-result-4 : goal.overflow_add-result-4
overflow_add-result-4 c = omega (
  arith,
  c.shared_slice_known-3-1.given c.args.at,
  c.shared_slice_known-3-1.given
      (c.args.at + 1),
  c.shared_slice_known-3-1.given (c.args.at + 2),
)

pub overflow_cast-result-4 : goal.overflow_cast-result-4
overflow_cast-result-4 c = omega (arith, c.shared_slice_known-4-1.given (c.args.at + 3))

pub overflow_add-result-6 : goal.overflow_add-result-6
overflow_add-result-6 c = omega (
  arith,
  c.shared_slice_known-4-1.given c.args.at,
  c.shared_slice_known-4-1.given
      (c.args.at + 1),
  c.shared_slice_known-4-1.given (c.args.at + 2),
  c.shared_slice_known-4-1.given (c.args.at + 3),
)

pub returns : goal.returns
returns c =
    let s = c.args.s.now in
    let at = c.args.at in
    let byte = c.shared_slice_known-4-1.given in
    let last : at + 2 + 1 ≡ at + 3 = omega arith in
    let high = read_double 1 s at (get_or s at 0) (get_or s (at + 1) 0) (omega (arith, byte (at + 1))) (read_single s at (omega arith) (omega (arith, byte at)))
    (read_single s (at + 1) (omega arith) (omega (arith, byte (at + 1)))) in
    let low = read_double 1 s (at + 2) (get_or s (at + 2) 0) (get_or s (at + 2 + 1) 0) (omega (arith, byte (at + 2 + 1)))
    (read_single s (at + 2) (omega arith) (omega (arith, byte (at + 2)))) (read_single s (at + 2 + 1) (omega arith) (omega (arith, byte (at + 2 + 1)))) in
    let both = read_double 2 s at (get_or s at 0 * 256 + get_or s (at + 1) 0) (get_or s (at + 2) 0 * 256 + get_or s (at + 2 + 1) 0)
    (omega (arith, byte (at + 2), byte (at + 2 + 1))) high low in
    subst (λ (v : ℕ). be_bytes 4 v ≡ take 4 (drop at s)) (rw last (omega arith)) both
