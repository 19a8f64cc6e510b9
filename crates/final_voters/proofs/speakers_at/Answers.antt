use native.Mathlib.Omega.{arith}
use borrow.Rule.Slice.PartMut.{mid_len}
use Rattle.types.specs.Values.{as_locator}
use Rattle.final_readings_spec.specs.Answers.{is_rejecting}
use Rattle.final_voters.proofs.Halves.{votes_back, rejects_back}
use Rattle.final_voters.proofs.speakers_at.Goals as goal

pub slice_bounds-visit-end : goal.slice_bounds-visit-end
slice_bounds-visit-end c = omega (arith, c.requires.1.long)

pub visit-requires : goal.visit-requires
unfolding is_rejecting
visit-requires c = let p = c.requires in (
  p.0,
  (
    omega (arith, p.1.few, mid_len 0 3072 c.args.memo.now (omega (arith, p.1.long))),
    rw
        c.in-Votes.is p.1.votes,
  ),
)

pub slice_bounds-visit-end-in-Rejects : goal.slice_bounds-visit-end-in-Rejects
slice_bounds-visit-end-in-Rejects c = omega (arith, c.requires.1.long)

pub visit-requires-in-Rejects : goal.visit-requires-in-Rejects
unfolding is_rejecting
visit-requires-in-Rejects c = let p = c.requires in (
  p.0,
  (
    omega (arith, p.1.few, mid_len 3072 6144 c.args.memo.now (omega (arith, p.1.long))),
    rw
        c.in-Rejects.is p.1.rejects,
  ),
)

pub returns-in-Votes : goal.returns-in-Votes
unfolding is_rejecting
returns-in-Votes c = let a = c.args in
    let v = c.visit in record {
      value = v.ensures.value;
      remembers_both = votes_back a.store.now a.order.now (as_locator a.locator) a.memo.now
          c.requires.1 _ v.auto.memo
          (rw c.in-Votes.is at v.ensures.remembers);
    }

pub returns-in-Rejects : goal.returns-in-Rejects
unfolding is_rejecting
returns-in-Rejects c = let a = c.args in
    let v = c.visit-in-Rejects in record {
      value = v.ensures.value;
      remembers_both = rejects_back a.store.now a.order.now (as_locator a.locator) a.memo.now
          c.requires.1 _ v.auto.memo
          (rw c.in-Rejects.is at v.ensures.remembers);
    }
