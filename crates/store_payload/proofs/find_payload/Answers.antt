use mathlib.Core.Path.{refl, sym, ap, ◌∙◌}
use Rattle.committee.specs.Answers.{as_new_committee}
use Rattle.committee.proofs.Answers.{taken_sound, broken_sound}
use Rattle.types.specs.Values.{as_locator}
use Rattle.store_payload.specs.Answers.{as_share, share_within, as_place, place_within}
use Rattle.store_spec.proofs.Check.{order_laid}
use Rattle.store_payload.proofs.Located.{place_broken, place_disordered, place_none, place_some}
use Rattle.store_payload.proofs.find_payload.Goals as goal

pub returns-in_default : goal.returns-in_default
unfolding as_place place_within
returns-in_default c =
    let a = c.args in
    record {
      result_value = place_broken a.stakes.now a.store.now (as_locator a.locator)
          (broken_sound a.stakes.now c.in_default.field-0 (ap as_new_committee (sym c.in_default.is) ∙ c.new_committee.ensures));
      result_value_2 = refl;
    }

pub in_order-requires : goal.in_order-requires
in_order-requires c =
    (taken_sound c.args.stakes.now c.in-Ok.field-0 c.in-Ok.ensures).0

pub returns-then-not-in_order : goal.returns-then-not-in_order
unfolding as_place place_within
returns-then-not-in_order c =
    let a = c.args in
    let sound = (taken_sound a.stakes.now c.in-Ok.field-0 c.in-Ok.ensures).0 in
    record {
      result_value = place_disordered a.stakes.now a.store.now (as_locator a.locator) sound (sym c.in_order.ensures ∙ c.if-not-in_order.true);
      result_value_2 = refl;
    }

pub stored_payload-requires : goal.stored_payload-requires
stored_payload-requires c =
    let a = c.args in
    order_laid a.stakes.now a.store.now (sym c.in_order.ensures ∙ c.if-not-in_order.false)

pub returns-in_default-stored_payload : goal.returns-in_default-stored_payload
unfolding as_place place_within as_share
returns-in_default-stored_payload c =
    let a = c.args in
    let sound = (taken_sound a.stakes.now c.in-Ok.field-0 c.in-Ok.ensures).0 in
    let order = sym c.in_order.ensures ∙ c.if-not-in_order.false in record {
      result_value = place_none a.stakes.now a.store.now (as_locator a.locator) sound order
          (sym c.stored_payload.ensures.result_value ∙ ap as_share c.in_default-stored_payload.is);
      result_value_2 = refl;
    }

pub returns : goal.returns
unfolding as_place place_within as_share share_within
returns c =
    let a = c.args in
    let sound = (taken_sound a.stakes.now c.in-Ok.field-0 c.in-Ok.ensures).0 in
    let order = sym c.in_order.ensures ∙ c.if-not-in_order.false in
    let inside = c.in-Some.ensures.result_value_2 in record {
      result_value = place_some a.stakes.now a.store.now (as_locator a.locator) sound order (record { start = c.in-Some.start; count = c.in-Some.len })
          (sym c.in-Some.ensures.result_value);
      result_value_2 = inside;
    }
