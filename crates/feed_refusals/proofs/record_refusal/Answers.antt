use mathlib.Core.Path.{◌≡◌, refl, sym, ◌∙◌}
use Prim.Native.Nat.{ℕ}
use native.Mathlib.Omega.{arith}
use Rattle.std.proofs.lemmas.Result.{err_from_is_err_and}
use Rattle.base.proofs.Refusals.{number_not_zero}
use Rattle.store_spec.specs.Layout.{read_record}
use Rattle.store_spec.specs.Store.{record_in}
use Rattle.feed_spec.specs.Feed.{Lent, lent_of, processed}
use Rattle.pending_question.proofs.Lending.{lying}
use Rattle.feed_refusals.proofs.Order.{feeds_work, feeds_record, feeds_asked, accepted, feeding, feeds_crowded, feeds_none}
use Rattle.feed_refusals.proofs.record_refusal.Goals as goal

pub returns-then-work-table : goal.returns-then-work-table
returns-then-work-table c =
    let o = c in
    let a = o.args in
    let k = a.stakes.now in
    let r = a.rec.now in
    let m : Lent = lent_of a.store.now a.table.now a.work.now a.events.now in
    record {
      first = sym (feeds_work k m (read_record r) o.requires.0 c.if-work-table.true);
      accepting = λ (z : ◌≡◌ {A = ℕ} 12 0). absurd (omega arith);
      kept =
          refl;
    }

pub record_refusal-requires : goal.record_refusal-requires
record_refusal-requires c =
    let o = c in
    let a = o.args in
    ((lying a.stakes.now a.store.now a.table.now o.requires.0).committee, o.requires.1, o.requires.2)

pub returns-in_err-record_refusal : goal.returns-in_err-record_refusal
returns-in_err-record_refusal c =
    let w = c in
    let o = w in
    let a = o.args in
    let k = a.stakes.now in
    let r = a.rec.now in
    let m : Lent = lent_of a.store.now a.table.now a.work.now a.events.now in
    let e = c.in_err-record_refusal.ensures in
    let p = err_from_is_err_and c.from_residual.result c.from_residual.ensures.1 in
    let some = number_not_zero c.in_err-record_refusal.field-0.0 in
    let first = feeds_record k m (read_record r) o.requires.0 (omega (arith, w.if-work-table.false)) in record {
      first = rw (p.1, p.2) (e ∙ sym (first ∙ feeds_asked k m (read_record r) (λ z. some (e ∙ z))));
      accepting = rw (p.1, p.2) (λ z. absurd (some z));
      kept = refl;
    }

pub items_fit-requires : goal.items_fit-requires
items_fit-requires c =
    let q = c in
    let w = q in
    let o = w in
    let a = o.args in
    let k = a.stakes.now in
    let r = a.rec.now in
    let m : Lent = lent_of a.store.now a.table.now a.work.now a.events.now in
    let asked = sym q.in_ok-record_refusal.ensures in
    record { lent = feeding k m r asked o.requires.0 o.requires.1; work = omega (arith, w.if-work-table.false); order = o.requires.2 }

pub returns-then-not-items_fit : goal.returns-then-not-items_fit
unfolding processed record_in
returns-then-not-items_fit c =
    let f = c in
    let q = f in
    let w = q in
    let o = w in
    let a = o.args in
    let k = a.stakes.now in
    let r = a.rec.now in
    let m : Lent = lent_of a.store.now a.table.now a.work.now a.events.now in
    let fit = f.items_fit.ensures in
    let asked = sym q.in_ok-record_refusal.ensures in record {
      first = sym (feeds_crowded k m r o.requires.0 (omega (arith, w.if-work-table.false)) asked (sym fit.value ∙ c.if-not-items_fit.true));
      accepting =
          λ (z : ◌≡◌ {A = ℕ} 14 0). absurd (omega arith);
      kept = fit.events_unchanged;
    }

pub returns : goal.returns
unfolding processed record_in
returns c =
    let f = c in
    let q = f in
    let w = q in
    let o = w in
    let a = o.args in
    let k = a.stakes.now in
    let r = a.rec.now in
    let m : Lent = lent_of a.store.now a.table.now a.work.now a.events.now in
    let fit = f.items_fit.ensures in
    let fits = sym fit.value ∙ c.if-not-items_fit.false in
    let asked = sym q.in_ok-record_refusal.ensures in
    let ok = (accepted k m r asked).1 in
    let checked = feeding k m r asked o.requires.0 o.requires.1 in record {
      first = sym (feeds_none k m r o.requires.0 (omega (arith, w.if-work-table.false)) asked fits);
      accepting = λ z. record
          { checked = checked; events = ok.events; store = ok.stored; items = fits };
      kept = fit.events_unchanged;
    }
