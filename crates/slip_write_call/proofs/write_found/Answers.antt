use mathlib.Core.Path.{◌≡◌, sym, ap, ◌∙◌}
use mathlib.Core.Bool.{true, false}
use native.Mathlib.Omega.{arith}
use Rattle.base.specs.Le.{Bytes}
use Rattle.committee.specs.Committee.{quorum_of}
use Rattle.committee_set.specs.AuthoritySet.{stake_of}
use Rattle.types.specs.Values.{as_locator}
use Rattle.final_readings_spec.specs.Answers.{as_reading}
use Rattle.final_readings_spec.specs.Finality.{certifying_positions_in}
use Rattle.final_block_votes.proofs.Sorting.{some_committee}
use Rattle.final_certifying.proofs.Finals.{final_in_by}
use Rattle.slip_spec.specs.Writing.{Written}
use Rattle.slip_write_bytes.specs.Answers.{as_slip_answer}
use Rattle.slip_write_bytes.specs.Listed.{written_over}
use Rattle.slip_write_call.proofs.Answered.{slip_not_final, slip_final, certifying_few, table_voted, table_bytes}
use Rattle.slip_write_call.proofs.write_found.Goals as goal

pub returns-then-not-is_quorum : goal.returns-then-not-is_quorum
unfolding as_slip_answer
returns-then-not-is_quorum c = let a = c.args in
    let q = c.requires.0 in
    let l = as_locator a.locator in
    let r = c.list_found-found.ensures in
    let v = c.list_found-found.result.authors in
    let f = final_in_by (as_reading a.reading) a.stakes.now a.store.now l a.total.0 v q.1 r.authors_value in
    let g : false ≡ quorum_of a.total.0 (stake_of a.stakes.now v) = rw (← c.stake_of.ensures)
    (sym (c.if-not-is_quorum.true) ∙ c.is_quorum.ensures) in
    let e = slip_not_final (as_reading a.reading) a.stakes.now a.store.now a.out.now l q.0.sound q.0.in_order (sym (g ∙ f)) in
    record { result_value = ap (λ (x : Written). x.answer) e; out_after = ap (λ (x : Written). x.out) e }

pub write_listed-requires : goal.write_listed-requires
write_listed-requires c = let a = c.args in
    let p = c.requires in
    let reading = as_reading a.reading in
    let s = a.store.now in
    let o = a.order.now in
    let l = as_locator a.locator in
    let v = c.list_found-found in
    let r = v.ensures in
    let ps = certifying_positions_in reading a.stakes.now s l in
    let few = certifying_few reading a.stakes.now s l o p.0.0 in (
      (some_committee p.0.0, p.1),
      (
        (omega (arith, r.blocks_value, few, p.1), omega (arith, r.blocks_value, few, p.1, v.auto.certifiers)),
        table_voted reading s o l ps _ v.result.blocks r.blocks_value r.listed (some_committee p.0.0),
      ),
    )

pub returns : goal.returns
returns c = let a = c.args in
    let q = c.requires.0 in
    let reading = as_reading a.reading in
    let s = a.store.now in
    let o = a.order.now in
    let l = as_locator a.locator in
    let r = c.list_found-found.ensures in
    let v = c.list_found-found.result.authors in
    let ps = certifying_positions_in reading a.stakes.now s l in
    let same = table_bytes reading s o l ps _ c.list_found-found.result.blocks r.blocks_value
    r.listed in
    let f = final_in_by reading a.stakes.now s l a.total.0 v q.1 r.authors_value in
    let g : true ≡ quorum_of a.total.0 (stake_of a.stakes.now v) = rw (← c.stake_of.ensures)
    (sym (c.if-not-is_quorum.false) ∙ c.is_quorum.ensures) in
    let x = c.write_listed.ensures in
    let e = ap (λ (bytes : Bytes). written_over bytes a.out.now) same ∙ slip_final reading a.stakes.now s a.out.now l q.0.sound q.0.in_order
    (sym (g ∙ f)) in
    record { result_value = x.result_value ∙ ap (λ (z : Written). z.answer) e; out_after = x.out_after ∙ ap (λ (z : Written). z.out) e }
