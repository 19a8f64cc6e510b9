use lib.Seq.{length-take-le}
use mathlib.Core.Path.{refl, sym, ap, subst, ◌∙◌}
use native.Mathlib.Omega.{arith}
use Rattle.committee.specs.Answers.{as_new_committee}
use Rattle.committee.proofs.Answers.{broken_sound, taken_sound}
use Rattle.slip_read_records.specs.Step.{SortedAs}
use Rattle.slip_read_body.proofs.Certifying.{short_slip}
use Rattle.slip_read_call.specs.Answers.{as_slip_answer}
use Rattle.slip_read_call.specs.Step.{Showed}
use Rattle.slip_read_call.proofs.Answering.{answer_broken, answer_reading, answer_form, answer_records, answer_missing, answer_fails, answer_holds}
use Rattle.slip_read_call.proofs.Answering.{named_head, right_of}
use Rattle.slip_read_call.proofs.read_slip.Goals as goal

pub returns-in_default : goal.returns-in_default
unfolding as_slip_answer
returns-in_default c = answer_broken _ _ _ (broken_sound _ _ (ap as_new_committee (sym c.in_default.is) ∙ c.new_committee.ensures))

pub returns-then-not-names_reading : goal.returns-then-not-names_reading
unfolding as_slip_answer
returns-then-not-names_reading c = answer_reading _ _ _ (taken_sound _ _ (ap as_new_committee (sym c.in-Ok.is) ∙ c.new_committee.ensures)).0
    (sym c.names_reading.ensures ∙ c.if-not-names_reading.true)

pub returns-then-slip-lt59 : goal.returns-then-slip-lt59
unfolding as_slip_answer
returns-then-slip-lt59 c = answer_form _ _ _ (taken_sound _ _ (ap as_new_committee (sym c.in-Ok.is) ∙ c.new_committee.ensures)).0
    (sym c.names_reading.ensures ∙ c.if-not-names_reading.false) (short_slip _ (omega (arith, c.if-slip-lt59.true)))

pub sort_records-requires : goal.sort_records-requires
sort_records-requires c = (
  (taken_sound _ _ (ap as_new_committee (sym c.in-Ok.is) ∙ c.new_committee.ensures)).0,
  refl,
)

pub returns-in_default-sort_records : goal.returns-in_default-sort_records
unfolding as_slip_answer SortedAs
returns-in_default-sort_records c = answer_records _ _ _ (taken_sound _ _ (ap as_new_committee
    (sym c.in-Ok.is) ∙ c.new_committee.ensures)).0
    (sym c.names_reading.ensures ∙ c.if-not-names_reading.false)
    (subst (SortedAs _ _ _) c.in_default-sort_records.is c.sort_records.ensures)

pub slice_bounds-order-end : goal.slice_bounds-order-end
unfolding SortedAs
slice_bounds-order-end c = (subst (SortedAs _ _ _) c.in-Some.is c.sort_records.ensures).1.0

pub slice_bounds-show_slip-end : goal.slice_bounds-show_slip-end
unfolding SortedAs
slice_bounds-show_slip-end c = sym (length-take-le _ _ (subst (SortedAs _ _ _) c.in-Some.is
    c.sort_records.ensures).1.0)

pub show_slip-requires : goal.show_slip-requires
unfolding SortedAs
show_slip-requires c =
    let sorted = subst (SortedAs _ _ _) c.in-Some.is c.sort_records.ensures in
    let t = taken_sound _ _ (ap as_new_committee (sym c.in-Ok.is) ∙ c.new_committee.ensures) in (
      (
        named_head c.args.slip.now (sym c.names_reading.ensures ∙ c.if-not-names_reading.false)
            (omega (arith, c.if-slip-lt59.false)),
        (t.0, t.1),
      ),
      (
        (sorted.1.1, right_of _ _ t.0 sorted.0),
        omega (
          arith,
          length-take-le c.in-Some.count
              c.sort_records.new.order sorted.1.0,
          sorted.1.0,
          c.sort_records.auto.order,
        ),
      ),
    )

pub returns-in_default-show_slip : goal.returns-in_default-show_slip
unfolding as_slip_answer Showed
returns-in_default-show_slip c = answer_form _ _ _ (taken_sound _ _ (ap as_new_committee
    (sym c.in-Ok.is) ∙ c.new_committee.ensures)).0
    (sym c.names_reading.ensures ∙ c.if-not-names_reading.false)
    (subst (Showed _ _ _) c.in_default-show_slip.is c.show_slip.ensures)

pub returns-then-shown-eq2 : goal.returns-then-shown-eq2
unfolding as_slip_answer Showed SortedAs
returns-then-shown-eq2 c =
    let sorted = subst (SortedAs _ _ _) c.in-Some.is
    c.sort_records.ensures in
    let read = subst (Showed _ _ _) c.in-Some-show_slip.is c.show_slip.ensures in
    answer_missing _ _ _ (taken_sound _ _ (ap as_new_committee (sym
    c.in-Ok.is)
    ∙ c.new_committee.ensures)).0 (sym c.names_reading.ensures ∙ c.if-not-names_reading.false) sorted.0 read.slip read.reads _ read.shows c.if-shown-eq2.true

pub returns-then-shown-eq1 : goal.returns-then-shown-eq1
unfolding as_slip_answer Showed SortedAs
returns-then-shown-eq1 c =
    let sorted = subst (SortedAs _ _ _) c.in-Some.is
    c.sort_records.ensures in
    let read = subst (Showed _ _ _) c.in-Some-show_slip.is c.show_slip.ensures in
    answer_fails _ _ _ (taken_sound _ _ (ap as_new_committee (sym c.in-Ok.is) ∙ c.new_committee.ensures)).0
    (sym c.names_reading.ensures ∙ c.if-not-names_reading.false) sorted.0 read.slip read.reads _ read.shows c.if-shown-eq1.true

pub returns : goal.returns
unfolding as_slip_answer Showed SortedAs
returns c =
    let sorted = subst (SortedAs _ _ _) c.in-Some.is
    c.sort_records.ensures in
    let read = subst (Showed _ _ _) c.in-Some-show_slip.is
    c.show_slip.ensures in
    answer_holds _ _ _ (taken_sound _ _ (ap as_new_committee (sym c.in-Ok.is) ∙ c.new_committee.ensures)).0
    (sym c.names_reading.ensures ∙ c.if-not-names_reading.false) sorted.0 read.slip read.reads _ read.shows _ c.if-shown-eq2.false c.if-shown-eq1.false
    (read.many ∙ sym c.read_u16.ensures)
