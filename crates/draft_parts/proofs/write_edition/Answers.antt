use mathlib.Core.Path.{◌≡◌, ap, ◌∙◌}
use native.Mathlib.Omega.{arith}
use Prim.Native.Nat.{◌≤◌}
use lib.ListN.{length, length-set}
use Rattle.base.proofs.Le.{length_le_bytes}
use Rattle.record_spec.specs.Record.{time_bytes}
use Rattle.record_reader.specs.Values.{as_time}
use Rattle.draft_parts.proofs.PartsWritten.{old_written, time_written}
use Rattle.draft_parts.proofs.write_edition.Goals as goal
use Rattle.std.specs.Prelude.{Option}
use Rattle.std.specs.Prelude.{ℕ}

pub bounds-out-54 : goal.bounds-out-54
bounds-out-54 c = simp length-set (omega arith)

pub bounds-out-55 : goal.bounds-out-55
bounds-out-55 c = simp length-set (omega arith)

pub returns-in_default : goal.returns-in_default
unfolding as_time
returns-in_default c = rw c.in_default.is (old_written c.args.out.now)

pub bounds-out-54-2 : goal.bounds-out-54-2
bounds-out-54-2 c = simp length-set (omega arith)

pub bounds-out-55-2 : goal.bounds-out-55-2
bounds-out-55-2 c = simp length-set (omega arith)

pub write_u64-requires : goal.write_u64-requires
unfolding as_time time_bytes
write_u64-requires c =
    let a = c.args in
    let long : 72 ≤ length a.out.now = omega (
      arith,
      c.requires,
      ap
          (λ (x : Option ℕ). length (time_bytes (as_time x))) c.in-Some.is ∙ length_le_bytes 16 c.in-Some.nanoseconds,
    ) in
    simp length-set (omega (arith, long))

pub write_u64-requires-2 : goal.write_u64-requires-2
unfolding as_time time_bytes
write_u64-requires-2 c =
    let a = c.args in
    let long : 72 ≤ length a.out.now = omega (
      arith,
      c.requires,
      ap
          (λ (x : Option ℕ). length (time_bytes (as_time x))) c.in-Some.is ∙ length_le_bytes 16
          c.in-Some.nanoseconds,
    ) in
    let kept : length c.write_u64.new.s ≡ length a.out.now = c.write_u64.auto.s ∙ simp length-set
    in
    omega (arith, long, kept)

pub shape_of-out : goal.shape_of-out
shape_of-out c = c.write_u64-2.auto.s ∙ c.write_u64.auto.s ∙ simp length-set

pub returns : goal.returns
unfolding as_time
returns c =
    let a = c.args in
    let x = c.in-Some.nanoseconds in
    c.write_u64-2.ensures ∙ rw (
      c.write_u64.ensures,
      c.in-Some.is,
    ) (time_written a.out.now x (omega arith))
