use mathlib.Core.Path.{◌≡◌, sym, ◌∙◌}
use mathlib.Core.Bool.{true, false}
use lib.ListN.{get_or}
use Rattle.committee_set.specs.AuthoritySet.{without}
use Rattle.committee.specs.Committee.{is_quorum}
use Rattle.types.specs.Values.{as_locator}
use Rattle.store_spec.specs.Entry.{block_at}
use Rattle.final_spec.specs.Finality.{blocks_of}
use Rattle.final_block_votes.proofs.Sorting.{some_committee, place_entry}
use Rattle.final_readings_spec.specs.Readings.{old, withdrawing, certifies_in}
use Rattle.final_readings_spec.specs.Answers.{as_reading, is_rejecting}
use Rattle.final_certificates.proofs.Readings.{certifies_old, certifies_neither, certifies_new}
use Rattle.final_certificates.proofs.certifies_at.Goals as goal

pub speakers_at-voting-requires : goal.speakers_at-voting-requires
speakers_at-voting-requires c = let p = c.requires in ((some_committee p.0.0.0, p.0.1), p.1)

pub certifies-requires : goal.certifies-requires
certifies-requires c = let p = c.requires in
    let a = c.args in
    ((p.0.0.0.sound, p.0.0.1), place_entry a.store.now a.order.now (some_committee p.0.0.0) a.k p.0.1)

pub returns-then-not-certifies : goal.returns-then-not-certifies
unfolding is_rejecting
returns-then-not-certifies c = let a = c.args in
    let l = as_locator a.locator in
    let v = c.speakers_at-voting in
    let e : certifies_in old a.stakes.now (blocks_of a.store.now) l (block_at a.store.now (get_or a.order.now a.k 0)) ≡ false =
    certifies_old a.stakes.now a.store.now a.order.now l a.k v.result v.ensures.value ∙ sym c.certifies.ensures ∙ c.if-not-certifies.true in
    record { value = sym (certifies_neither a.stakes.now a.store.now a.order.now l a.k (as_reading a.reading) e); remembers_both = v.ensures.remembers_both }

pub returns-in-Old : goal.returns-in-Old
unfolding as_reading is_rejecting
returns-in-Old c = let a = c.args in
    let l = as_locator a.locator in
    let v = c.speakers_at-voting in
    let e : certifies_in old a.stakes.now (blocks_of a.store.now) l (block_at a.store.now (get_or a.order.now a.k 0)) ≡ true =
    certifies_old a.stakes.now a.store.now a.order.now l a.k v.result v.ensures.value ∙ sym c.certifies.ensures
    ∙ c.if-not-certifies.false in
    record { value = rw c.in-Old.is (sym e); remembers_both = v.ensures.remembers_both }

pub speakers_at-rejecting-requires : goal.speakers_at-rejecting-requires
speakers_at-rejecting-requires c = let p = c.requires
    in ((some_committee p.0.0.0, p.0.1), c.speakers_at-voting.ensures.remembers_both)

pub stake_of-requires : goal.stake_of-requires
stake_of-requires c = c.requires.0.0.0.sound

pub returns : goal.returns
unfolding is_quorum as_reading is_rejecting
returns c = let a = c.args in
    let l = as_locator a.locator in
    let v = c.speakers_at-voting in
    let e : certifies_in old a.stakes.now (blocks_of a.store.now) l (block_at a.store.now (get_or a.order.now a.k 0)) ≡ true =
    certifies_old a.stakes.now a.store.now a.order.now l a.k v.result v.ensures.value ∙ sym
    c.certifies.ensures ∙ c.if-not-certifies.false in
    let w = c.speakers_at-rejecting in
    let f = certifies_new a.stakes.now a.store.now a.order.now l a.k v.result w.result v.ensures.value w.ensures.value e in
    let u : c.less-standing.result ≡ without v.result w.result = c.less-standing.ensures in
    let q : c.is_quorum.result ≡ certifies_in withdrawing a.stakes.now (blocks_of a.store.now) l
    (block_at a.store.now (get_or a.order.now a.k 0)) =
    rw (
      f,
      ← u,
      ← c.requires.0.0.1,
      ← c.stake_of.ensures,
    ) c.is_quorum.ensures in
    record { value = rw c.in_default.is q; remembers_both = w.ensures.remembers_both }
