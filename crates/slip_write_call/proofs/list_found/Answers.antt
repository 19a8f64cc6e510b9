use Prim.Native.Nat.{ℕ, ◌<◌}
use mathlib.Core.Path.{◌≡◌, sym, ap, subst, ◌∙◌}
use mathlib.Core.List.{List}
use native.Mathlib.Omega.{arith}
use lib.ListN.{length, get_or, take}
use Rattle.base.specs.Lists.{◌∈◌}
use Rattle.types.specs.Values.{as_locator}
use Rattle.final_readings_spec.specs.Answers.{as_reading}
use Rattle.final_readings_spec.specs.Finality.{certifying_positions_in}
use Rattle.final_block_votes.proofs.Sorting.{some_committee}
use Rattle.final_voters.proofs.Halves.{both_nothing}
use Rattle.slip_write_call.proofs.Answered.{certifying_few, certifying_place, front, table_of}
use Rattle.slip_write_call.proofs.list_found.Goals as goal

pub find_certifying_blocks-found-requires : goal.find_certifying_blocks-found-requires
find_certifying_blocks-found-requires c = let a = c.args in
    let p = c.requires in
    (p.0, (p.1.0, both_nothing a.store.now a.order.now (as_locator a.locator) p.1.0))

pub slice_bounds-positions-end : goal.slice_bounds-positions-end
slice_bounds-positions-end c = let a = c.args in
    let p = c.requires in
    let few = certifying_few (as_reading a.reading) a.stakes.now a.store.now (as_locator a.locator) a.order.now p.0.0 in
    omega (arith, c.find_certifying_blocks-found.ensures.blocks_value, few, p.1.0)

pub slice_bounds-list_certifiers-end : goal.slice_bounds-list_certifiers-end
slice_bounds-list_certifiers-end c = let a = c.args in
    let v = c.find_certifying_blocks-found in
    let r = v.ensures in
    let m = v.result.blocks in
    let are : take m v.new.positions ≡ certifying_positions_in (as_reading a.reading) a.stakes.now a.store.now
    (as_locator a.locator) = ap (take m) r.positions_after ∙ front _ _ m r.blocks_value in
    r.blocks_value ∙ sym (ap length are)

pub list_certifiers-requires : goal.list_certifiers-requires
list_certifiers-requires c = let a = c.args in
    let p = c.requires in
    let l = as_locator a.locator in
    let v = c.find_certifying_blocks-found in
    let r = v.ensures in
    let m = v.result.blocks in
    let are : take m v.new.positions ≡ certifying_positions_in (as_reading a.reading) a.stakes.now a.store.now l = ap (take m)
    r.positions_after ∙ front _ _ m r.blocks_value in
    let few = certifying_few (as_reading a.reading) a.stakes.now a.store.now l a.order.now p.0.0 in (
      (some_committee p.0.0, r.remembers_both),
      (
        λ i h. subst (λ (ps : List ℕ). get_or ps i 0 ∈ a.order.now) (sym are)
            (certifying_place (as_reading a.reading) a.stakes.now a.store.now l a.order.now p.0.0 i
            (subst (λ (ps : List ℕ). i < length ps) are h)),
        omega (arith, ap length are, few, p.1.0, p.1.1),
      ),
    )

pub returns : goal.returns
returns c = let a = c.args in
    let l = as_locator a.locator in
    let v = c.find_certifying_blocks-found in
    let r = v.ensures in
    let m = v.result.blocks in
    let are : take m v.new.positions ≡ certifying_positions_in (as_reading a.reading) a.stakes.now a.store.now l = ap (take m)
    r.positions_after ∙ front _ _ m r.blocks_value in record {
      blocks_value = r.blocks_value;
      authors_value = r.authors_value;
      listed = table_of (as_reading a.reading) a.store.now a.order.now l _ _ m r.blocks_value _ are
          c.list_certifiers.ensures;
    }
