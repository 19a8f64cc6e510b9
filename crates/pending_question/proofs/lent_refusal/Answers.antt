use mathlib.Core.Path.{◌≡◌, sym, ap, ◌∙◌}
use Prim.Native.Nat.{ℕ}
use native.Mathlib.Omega.{arith}
use Rattle.base.proofs.Le.{bytes_of}
use Rattle.committee.specs.Answers.{as_new_committee}
use Rattle.committee.proofs.Answers.{taken_sound, broken_sound}
use Rattle.pending_question.proofs.Lending.{order_laid, laid_readable, refuses_committee, refuses_store, refuses_table, refuses_none}
use Rattle.pending_question.proofs.lent_refusal.Goals as goal

pub returns-in_default : goal.returns-in_default
returns-in_default c = record {
  first = sym (refuses_committee _ _ _
      (broken_sound _ c.in_default.field-0 (ap as_new_committee (sym c.in_default.is) ∙ c.new_committee.ensures)));
  laid = λ (z : ◌≡◌ {A = ℕ} 5 0). absurd
      (omega arith);
}

pub in_order-requires : goal.in_order-requires
in_order-requires c = (taken_sound _ c.in-Ok.field-0
    (ap as_new_committee (sym c.in-Ok.is) ∙ c.new_committee.ensures)).0

pub returns-then-not-in_order : goal.returns-then-not-in_order
returns-then-not-in_order c = record {
  first = sym (refuses_store _ _ _ (taken_sound _ c.in-Ok.field-0
      (ap as_new_committee (sym c.in-Ok.is) ∙ c.new_committee.ensures)).0
      (sym c.in_order.ensures ∙ c.if-not-in_order.true));
  laid = λ (z : ◌≡◌ {A = ℕ} 10 0). absurd (omega arith);
}

pub table_in_order-requires : goal.table_in_order-requires
table_in_order-requires c =
    let s = c.args.store.now in
    let order = sym c.in_order.ensures ∙ c.if-not-in_order.false in (
      (taken_sound _ c.in-Ok.field-0 (ap as_new_committee (sym c.in-Ok.is) ∙ c.new_committee.ensures)).0,
      laid_readable s (order_laid
          c.args.stakes.now s
          (bytes_of s (λ i h. omega (arith, c.type_inv.store i))) order),
    )

pub returns-then-not-table_in_order : goal.returns-then-not-table_in_order
returns-then-not-table_in_order c = record {
  first = sym (refuses_table _ _ _ (taken_sound _ c.in-Ok.field-0
      (ap as_new_committee (sym c.in-Ok.is) ∙ c.new_committee.ensures)).0 (sym c.in_order.ensures ∙ c.if-not-in_order.false)
      (sym c.table_in_order.ensures ∙ c.if-not-table_in_order.true));
  laid = λ (z : ◌≡◌ {A = ℕ} 11 0). absurd (omega arith);
}

pub returns : goal.returns
returns c =
    let s = c.args.store.now in record {
      first = sym (refuses_none _ _ _ (taken_sound _ c.in-Ok.field-0
          (ap as_new_committee (sym c.in-Ok.is) ∙ c.new_committee.ensures)).0 (sym c.in_order.ensures ∙ c.if-not-in_order.false)
          (sym c.table_in_order.ensures ∙ c.if-not-table_in_order.false));
      laid = λ _. order_laid
          c.args.stakes.now s
          (bytes_of s (λ i h. omega (arith, c.type_inv.store i)))
          (sym c.in_order.ensures ∙ c.if-not-in_order.false);
    }
