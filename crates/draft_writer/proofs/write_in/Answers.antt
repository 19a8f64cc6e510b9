use mathlib.Core.Path.{refl, sym, ap, ◌∙◌}
use Prim.Native.Nat.{◌+◌, ◌/◌, ◌≤◌}
use native.Mathlib.Omega.{arith}
use lib.ListN.{length}
use Rattle.base.proofs.Le.{bytes_of}
use Rattle.record_spec.specs.Record.{time_bytes}
use Rattle.record_reader.specs.Values.{as_time}
use Rattle.draft_spec.specs.Writing.{Written}
use Rattle.draft_joined.specs.Step.{joined_from}
use Rattle.draft_size.specs.Asked.{requested}
use Rattle.draft_writer.specs.Answers.{as_write_answer}
use Rattle.draft_size.specs.Step.{bytes_in, front_bytes, count_bytes, part_bytes}
use Rattle.draft_size.proofs.Sizing.{Plan, planned, length_front, length_counts, length_part}
use Rattle.draft_writer.proofs.Recorded.{record-written, refuses_form, refuses_short, writes_record}
use borrow.Author.Rules.{rules}
use Rattle.draft_writer.proofs.write_in.Goals as goal

pub returns-in_default : goal.returns-in_default
unfolding as_write_answer
returns-in_default c =
    let a = c.args in
    let q = requested a.author.0 a.round.0 a.digest.now a.mark a.includes.now a.statements.now in
    let e = refuses_form (as_time a.time) q a.out.now (sym (c.measure_record.ensures a.author.0 a.round.0) ∙ c.in_default.is) in
    record { result_value = sym (ap (λ (w : Written). w.answer) e); out_after = sym (ap (λ (w : Written). w.out) e) }

pub returns-then-out-bytes : goal.returns-then-out-bytes
unfolding as_write_answer requested
returns-then-out-bytes c =
    let a = c.args in
    let q = requested a.author.0 a.round.0 a.digest.now a.mark a.includes.now a.statements.now in
    let count = c.in-Some.count in
    let bytes = c.in-Some.bytes in
    let all = bytes_of a.includes.now (λ j h. omega (
      arith,
      c.shared_slice_known-2-1.given
          j,
    )) in
    let plan : Plan q count bytes = planned q all count bytes (sym
    (c.measure_record.ensures a.author.0 a.round.0) ∙ c.in-Some.is) in
    let e = refuses_short (as_time a.time) q a.out.now count bytes plan (omega (arith, c.if-out-bytes.true)) in
    record { result_value = sym (ap (λ (w : Written). w.answer) e); out_after = sym (ap (λ (w : Written). w.out) e) }

pub returns-then-out-bytes-2 : goal.returns-then-out-bytes-2
unfolding as_write_answer requested
returns-then-out-bytes-2 c =
    let a = c.args in
    let q = requested a.author.0 a.round.0 a.digest.now a.mark a.includes.now a.statements.now in
    let count = c.in-Some.count in
    let bytes = c.in-Some.bytes in
    let all = bytes_of a.includes.now (λ j h. omega (
      arith,
      c.shared_slice_known-2-1.given j,
    )) in
    let plan : Plan q count bytes = planned q all count bytes (sym
    (c.measure_record.ensures a.author.0 a.round.0) ∙ c.in-Some.is) in
    let e = refuses_short (as_time a.time) q a.out.now count bytes plan
    (omega (arith, c.if-out-bytes-2.true, c.if-out-bytes.false, c.time_size-extra.ensures)) in
    record { result_value = sym (ap (λ (w : Written). w.answer) e); out_after = sym (ap (λ (w : Written). w.out) e) }

pub write_front-requires : goal.write_front-requires
unfolding requested
write_front-requires c =
    let a = c.args in
    let q = requested a.author.0 a.round.0 a.digest.now a.mark a.includes.now a.statements.now in
    let count = c.in-Some.count in
    let bytes = c.in-Some.bytes in
    let all = bytes_of a.includes.now (λ j h. omega (
      arith,
      c.shared_slice_known-2-1.given j,
    )) in
    let plan : Plan q count bytes = planned q all count bytes (sym
    (c.measure_record.ensures a.author.0 a.round.0) ∙ c.in-Some.is) in
    (plan.digest, omega (arith, plan.size, c.if-out-bytes.false))

pub overflow_cast-mark : goal.overflow_cast-mark
unfolding requested
overflow_cast-mark c =
    let a = c.args in
    let q = requested a.author.0 a.round.0 a.digest.now a.mark a.includes.now a.statements.now in
    let count = c.in-Some.count in
    let bytes = c.in-Some.bytes in
    let all = bytes_of a.includes.now (λ j h. omega (
      arith,
      c.shared_slice_known-2-1.given j,
    )) in
    let plan : Plan q count bytes = planned q all count bytes (sym
    (c.measure_record.ensures a.author.0 a.round.0) ∙ c.in-Some.is) in
    omega (arith, plan.mark)

pub overflow_cast-includes : goal.overflow_cast-includes
unfolding requested
overflow_cast-includes c =
    let a = c.args in
    let q = requested a.author.0 a.round.0 a.digest.now a.mark a.includes.now a.statements.now in
    let count = c.in-Some.count in
    let bytes = c.in-Some.bytes in
    let all = bytes_of a.includes.now (λ j h. omega (
      arith,
      c.shared_slice_known-2-1.given j,
    )) in
    let plan : Plan q count bytes = planned q all count bytes (sym
    (c.measure_record.ensures a.author.0 a.round.0) ∙ c.in-Some.is) in
    omega (arith, plan.includes)

pub overflow_cast-count : goal.overflow_cast-count
unfolding requested
overflow_cast-count c =
    let a = c.args in
    let q = requested a.author.0 a.round.0 a.digest.now a.mark a.includes.now a.statements.now in
    let count = c.in-Some.count in
    let bytes = c.in-Some.bytes in
    let all = bytes_of a.includes.now (λ j h. omega (
      arith,
      c.shared_slice_known-2-1.given j,
    )) in
    let plan : Plan q count bytes = planned q all count bytes (sym
    (c.measure_record.ensures a.author.0 a.round.0) ∙ c.in-Some.is) in
    omega (arith, plan.few)

pub write_counts-requires : goal.write_counts-requires
unfolding requested
write_counts-requires c =
    let a = c.args in
    let q = requested a.author.0 a.round.0 a.digest.now a.mark a.includes.now a.statements.now in
    let count = c.in-Some.count in
    let bytes = c.in-Some.bytes in
    let all = bytes_of a.includes.now (λ j h. omega (
      arith,
      c.shared_slice_known-2-1.given j,
    )) in
    let plan : Plan q count bytes = planned q all count bytes (sym
    (c.measure_record.ensures a.author.0 a.round.0) ∙ c.in-Some.is) in
    omega (arith, plan.size, c.if-out-bytes.false, c.write_front.auto.out)

pub write_edition-requires : goal.write_edition-requires
unfolding requested
write_edition-requires c =
    let a = c.args in
    let q = requested a.author.0 a.round.0 a.digest.now a.mark a.includes.now a.statements.now in
    let count = c.in-Some.count in
    let bytes = c.in-Some.bytes in
    let all = bytes_of a.includes.now (λ j h. omega (
      arith,
      c.shared_slice_known-2-1.given j,
    )) in
    let plan : Plan q count bytes = planned q all count bytes (sym
    (c.measure_record.ensures
    a.author.0 a.round.0) ∙ c.in-Some.is) in
    omega (
      arith,
      plan.size,
      c.time_size-extra.ensures,
      c.if-out-bytes.false,
      c.if-out-bytes-2.false,
      c.write_counts.auto.out,
      c.write_front.auto.out,
    )

pub overflow_add-extra : goal.overflow_add-extra
unfolding requested
overflow_add-extra c =
    let a = c.args in
    let q = requested a.author.0 a.round.0 a.digest.now a.mark a.includes.now a.statements.now in
    let count = c.in-Some.count in
    let bytes = c.in-Some.bytes in
    let all = bytes_of a.includes.now (λ j h. omega (
      arith,
      c.shared_slice_known-2-1.given j,
    )) in
    let plan : Plan q count bytes = planned q all count bytes (sym
    (c.measure_record.ensures a.author.0 a.round.0) ∙ c.in-Some.is) in
    omega (
      arith,
      plan.size,
      c.well_formed.1.1.1.1.1.1.1.0.0,
      c.if-out-bytes.false,
      c.if-out-bytes-2.false,
    )

pub copy_to-requires : goal.copy_to-requires
unfolding requested
copy_to-requires c =
    let a = c.args in
    let q = requested a.author.0 a.round.0 a.digest.now a.mark a.includes.now a.statements.now in
    let count = c.in-Some.count in
    let bytes = c.in-Some.bytes in
    let all = bytes_of a.includes.now (λ j h. omega (
      arith,
      c.shared_slice_known-2-1.given j,
    )) in
    let plan : Plan q count bytes = planned q all count bytes (sym
    (c.measure_record.ensures a.author.0 a.round.0) ∙ c.in-Some.is) in
    omega (
      arith,
      plan.size,
      c.time_size-extra.ensures,
      c.if-out-bytes.false,
      c.if-out-bytes-2.false,
      c.write_edition.auto.out,
      c.write_counts.auto.out,
      c.write_front.auto.out,
    )

pub overflow_add-extra-2 : goal.overflow_add-extra-2
unfolding requested
overflow_add-extra-2 c =
    let a = c.args in
    let q = requested a.author.0 a.round.0 a.digest.now a.mark a.includes.now a.statements.now in
    let count = c.in-Some.count in
    let bytes = c.in-Some.bytes in
    let all = bytes_of a.includes.now (λ j h. omega (
      arith,
      c.shared_slice_known-2-1.given
          j,
    )) in
    let plan : Plan q count bytes = planned q all count bytes (sym
    (c.measure_record.ensures a.author.0 a.round.0) ∙ c.in-Some.is) in
    omega (
      arith,
      plan.size,
      c.well_formed.1.1.1.1.1.1.1.0.0,
      c.if-out-bytes.false,
      c.if-out-bytes-2.false,
    )

pub overflow_add-extra-3 : goal.overflow_add-extra-3
unfolding requested
overflow_add-extra-3 c =
    let a = c.args in
    let q = requested a.author.0 a.round.0 a.digest.now a.mark a.includes.now a.statements.now in
    let count = c.in-Some.count in
    let bytes = c.in-Some.bytes in
    let all = bytes_of a.includes.now (λ j h. omega (
      arith,
      c.shared_slice_known-2-1.given
          j,
    )) in
    let plan : Plan q count bytes = planned q all count bytes (sym
    (c.measure_record.ensures a.author.0 a.round.0) ∙ c.in-Some.is) in
    omega (
      arith,
      plan.size,
      c.well_formed.1.1.1.1.1.1.1.0.0,
      c.if-out-bytes.false,
      c.if-out-bytes-2.false,
    )

pub write_statements-requires : goal.write_statements-requires
unfolding requested
write_statements-requires c =
    let a = c.args in
    let q = requested a.author.0 a.round.0 a.digest.now a.mark a.includes.now a.statements.now in
    let count = c.in-Some.count in
    let bytes = c.in-Some.bytes in
    let all = bytes_of a.includes.now (λ j h. omega (
      arith,
      c.shared_slice_known-2-1.given
          j,
    )) in
    let plan : Plan q count bytes = planned q all count bytes (sym
    (c.measure_record.ensures a.author.0 a.round.0) ∙ c.in-Some.is) in (
      plan.writes,
      omega (
        arith,
        plan.size,
        c.time_size-extra.ensures,
        c.if-out-bytes.false,
        c.if-out-bytes-2.false,
        c.copy_to.auto.s,
        c.write_edition.auto.out,
        c.write_counts.auto.out,
        c.write_front.auto.out,
      ),
    )

pub overflow_add-result : goal.overflow_add-result
unfolding requested
overflow_add-result c =
    let a = c.args in
    let q = requested a.author.0 a.round.0 a.digest.now a.mark a.includes.now a.statements.now in
    let count = c.in-Some.count in
    let bytes = c.in-Some.bytes in
    let all = bytes_of a.includes.now (λ j h. omega (
      arith,
      c.shared_slice_known-2-1.given j,
    )) in
    let plan : Plan q count bytes = planned q all count bytes (sym
    (c.measure_record.ensures a.author.0 a.round.0) ∙ c.in-Some.is) in
    omega (
      arith,
      plan.size,
      c.well_formed.1.1.1.1.1.1.1.0.0,
      c.if-out-bytes.false,
      c.if-out-bytes-2.false,
    )

pub returns : goal.returns
unfolding as_write_answer requested
returns c =
    let a = c.args in
    let q = requested a.author.0 a.round.0 a.digest.now a.mark a.includes.now a.statements.now in
    let count = c.in-Some.count in
    let bytes = c.in-Some.bytes in
    let all = bytes_of a.includes.now (λ j h. omega (
      arith,
      c.shared_slice_known-2-1.given j,
    )) in
    let plan : Plan q count bytes = planned q all count bytes (sym
    (c.measure_record.ensures a.author.0 a.round.0) ∙ c.in-Some.is) in
    let o = as_time a.time in
    let out = a.out.now in
    let extra = c.time_size-extra.ensures in
    let room : bytes + length (time_bytes o) ≤ length out = omega (
      arith,
      c.time_size-extra.ensures,
      c.if-out-bytes.false,
      c.if-out-bytes-2.false,
      plan.size,
    ) in
    let e = rw (plan.are o) at (writes_record o q out count bytes plan room) in
    let front = front_bytes a.author.0 a.round.0 a.digest.now in
    let counts = count_bytes a.mark (length a.includes.now / 48) count in
    let body = bytes_in (joined_from a.statements.now 0) in
    let parts = record-written out front counts (part_bytes o) a.includes.now body (length (time_bytes o)) (length a.includes.now)
    (length_front a.author.0 a.round.0 a.digest.now plan.digest) (length_counts a.mark (length a.includes.now / 48) count)
    (length_part o) refl (omega (
      arith,
      plan.size,
      c.time_size-extra.ensures,
      c.if-out-bytes.false,
      c.if-out-bytes-2.false,
    )) in record {
      result_value = rw extra (sym (ap (λ (w : Written). w.answer) e));
      out_after = c.write_statements.ensures
          ∙ rw (
            c.copy_to.ensures,
            c.write_edition.ensures,
            c.write_counts.ensures,
            c.write_front.ensures,
            extra,
          ) parts
          ∙ sym (ap (λ (w : Written). w.out) e);
    }
