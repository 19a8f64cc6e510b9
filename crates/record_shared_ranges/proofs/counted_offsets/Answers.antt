use mathlib.Core.Path.{sym, ap}
use mathlib.Core.List.{[]}
use native.Mathlib.Omega.{arith}
use Rattle.record_spec.specs.Reference.{new_range, one_range}
use Rattle.record_spec.specs.Block.{counted_offsets}
use Rattle.types.specs.Values.{as_range}
use Rattle.record_statement_votes.specs.Votes.{as_vote}
use Rattle.record_shared_ranges.proofs.Walk.{voted_passes}
use Rattle.record_shared_ranges.proofs.counted_offsets.Goals as goal

pub overflow_sub-result : goal.overflow_sub-result
unfolding as_vote as_range new_range
overflow_sub-result c =
    let v = c in
    voted_passes _ v.requires _ (sym (rw c.in-Range.is at (v.vote_of-vote.ensures [])))

pub returns-in-Locator : goal.returns-in-Locator
unfolding as_vote counted_offsets one_range new_range
returns-in-Locator c rec = omega (arith, ap counted_offsets (rw c.in-Locator.is at (c.vote_of-vote.ensures rec)))

pub returns-in-Range : goal.returns-in-Range
unfolding as_vote as_range new_range counted_offsets
returns-in-Range c rec = ap counted_offsets (rw c.in-Range.is at (c.vote_of-vote.ensures rec))

pub returns-in-Nothing : goal.returns-in-Nothing
unfolding as_vote counted_offsets
returns-in-Nothing c rec = ap counted_offsets (rw c.in-Nothing.is at (c.vote_of-vote.ensures rec))
