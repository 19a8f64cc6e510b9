use Rattle.std.proofs.Common.{◌≡◌, ◌<◌, ◌≤◌, length, get_or, refl, sym, ap, ◌∙◌, arith}
use Rattle.record_spec.specs.Record.{no_reference}
use Rattle.types.specs.Values.{as_locator}
use Rattle.final_spec.specs.Voters.{spoken}
use Rattle.final_spec.specs.Finality.{blocks_of}
use Rattle.final_block_votes.specs.Walk.{block_at_place}
use Rattle.final_readings_spec.specs.Answers.{is_rejecting}
use Rattle.final_block_rejects.specs.Speeches.{speech_of}
use Rattle.final_voters.specs.Walk.{spoken_at, Remembers}
use Rattle.final_block_votes.proofs.Sorting.{place_entry, place_author, include_found, include_lower}
use Rattle.final_voters.proofs.Remembering.{remembers_more, unions_start, unions_on, unions_end}
use Rattle.final_voters.proofs.Visiting.{place_spoken}
use borrow.Author.Tests.{eqb-true}
use Rattle.final_voters.proofs.+visit_visit_includes.Goals as goal

pub visit-is_known-requires : goal.visit-is_known-requires
visit-is_known-requires t c = omega (arith, c.requires)

pub visit-recall-requires : goal.visit-recall-requires
visit-recall-requires t c = omega (arith, c.requires)

pub visit-returns-then-is_known : goal.visit-returns-then-is_known
unfolding Remembers
visit-returns-then-is_known t c = let p = c.requires in record {
  value = c.recall.ensures ∙ p.1.1 c.args.k p.0.1 (eqb-true _ _ (sym c.is_known.ensures ∙ c.if-is_known.true));
  remembers = p.1.1;
}

pub visit-visit_includes-below-requires : goal.visit-visit_includes-below-requires
visit-visit_includes-below-requires t c = (omega (arith, c.decreases), c.requires)

pub visit-own_at-own-requires : goal.visit-own_at-own-requires
unfolding block_at_place
visit-own_at-own-requires t c = let p = c.requires in
    let a = c.args in
    (place_entry a.store.now a.order.now p.0.0 a.k p.0.1, place_author a.store.now a.order.now p.0.0 a.k p.0.1)

pub visit-remember-requires : goal.visit-remember-requires
visit-remember-requires t c = omega (arith, c.requires, c.visit_includes-below.auto.memo)

pub visit-shape_of-memo : goal.visit-shape_of-memo
visit-shape_of-memo t c = c.remember.auto.memo ∙ c.visit_includes-below.auto.memo

pub visit-returns : goal.visit-returns
unfolding block_at_place
visit-returns t c = let p = c.requires in
    let a = c.args in
    let s = a.store.now in
    let o = a.order.now in
    let l = as_locator a.locator in
    let e : c.union-all.result ≡ spoken_at (speech_of (is_rejecting a.speech)) s o l a.k =
    c.union-all.ensures ∙ rw (
      c.own_at-own.ensures,
      c.visit_includes-below.ensures.value,
    )
    (sym (place_spoken (speech_of (is_rejecting a.speech)) s o p.0.0 a.k p.0.1 l)) in record {
      value = e;
      remembers = rw c.remember.ensures (remembers_more (speech_of (is_rejecting a.speech)) s o l _ a.k _
          (omega (arith, p, c.visit_includes-below.auto.memo)) e
          c.visit_includes-below.ensures.remembers);
    }

pub visit_includes-include_count_at-count-requires : goal.visit_includes-include_count_at-count-requires
visit_includes-include_count_at-count-requires t c = let p = c.requires in
    place_entry c.args.store.now c.args.order.now p.0.0 c.args.k p.0.1

pub visit_includes-loop-j-init : goal.visit_includes-loop-j-init
visit_includes-loop-j-init t c = let p = c.requires in
    let a = c.args in
    record {
      some_read = omega arith;
      long = refl;
      remembers = p.1.1;
      together = rw c.new-found.ensures (unions_start (spoken (speech_of (is_rejecting a.speech)) (blocks_of a.store.now) (as_locator a.locator))
          (block_at_place a.store.now a.order.now a.k).includes);
    }

pub visit_includes-include_at-requires : goal.visit_includes-include_at-requires
unfolding block_at_place
visit_includes-include_at-requires t c = let p = c.requires in (
  place_entry c.args.store.now c.args.order.now p.0.0 c.args.k p.0.1,
  omega (arith, c.loop-j-test.true, c.include_count_at-count.ensures),
)

pub visit_includes-place_of-i-requires : goal.visit_includes-place_of-i-requires
unfolding block_at_place
visit_includes-place_of-i-requires t c = let p = c.requires in
    let a = c.args in (
      p.0.0,
      rw c.include_at.ensures (include_found a.store.now a.order.now p.0.0 a.k p.0.1 c.loop-j.j
          (omega (arith, c.loop-j-test.true, c.include_count_at-count.ensures))),
    )

pub visit_includes-visit-requires : goal.visit_includes-visit-requires
unfolding block_at_place
visit_includes-visit-requires t c = let p = c.requires in
    let a = c.args in
    let i = c.place_of-i.result in
    let e = c.place_of-i.ensures in
    let low : i < a.k = include_lower a.store.now a.order.now p.0.0 a.k p.0.1 c.loop-j.j
    (omega (arith, c.loop-j-test.true, c.include_count_at-count.ensures)) i e.0
    (e.1 ∙ c.include_at.ensures) in (
      omega (arith, low, c.decreases),
      (
        (p.0.0, e.0),
        (
          omega (arith, p.1.0, c.loop-j.invariant.long),
          c.loop-j.invariant.remembers,
        ),
      ),
    )

pub visit_includes-loop-j-preserved : goal.visit_includes-loop-j-preserved
unfolding block_at_place spoken_at
visit_includes-loop-j-preserved t c = let a = c.args in
    let j = c.loop-j.j in
    let is = (block_at_place a.store.now a.order.now a.k).includes in
    let h : j < length is = omega (
      arith,
      c.loop-j-test.true,
      c.include_count_at-count.ensures,
    ) in
    let e : c.visit.result ≡ spoken (speech_of (is_rejecting a.speech)) (blocks_of a.store.now) (as_locator a.locator)
    (get_or is j no_reference) =
    c.visit.ensures.value ∙ ap (spoken (speech_of (is_rejecting a.speech)) (blocks_of a.store.now) (as_locator a.locator))
    (c.place_of-i.ensures.1 ∙ c.include_at.ensures) in
    record {
      some_read = omega arith;
      long = c.visit.auto.memo ∙ c.loop-j.invariant.long;
      remembers = c.visit.ensures.remembers;
      together = rw (c.union-found.ensures, e) (sym (unions_on (spoken (speech_of (is_rejecting a.speech)) (blocks_of a.store.now) (as_locator a.locator))
          is j c.loop-j.found h) ∙ c.loop-j.invariant.together);
    }

pub visit_includes-returns : goal.visit_includes-returns
unfolding block_at_place
visit_includes-returns t c = let a = c.args in
    let is = (block_at_place a.store.now a.order.now a.k).includes in
    let l = c.loop-j in
    let h : length is ≤ l.j = omega (arith, c.loop-j-test.false, c.include_count_at-count.ensures) in record {
      value = sym (unions_end (spoken (speech_of (is_rejecting a.speech)) (blocks_of a.store.now) (as_locator a.locator)) is l.j l.found h)
          ∙ l.invariant.together;
      remembers = l.invariant.remembers;
    }
