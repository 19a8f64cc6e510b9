use Rattle.slip_read_paths.proofs.Noting.{noted_none, noted_more, byte_of}
use Rattle.final_spec.specs.Voters.{votes_for}
use Rattle.record_spec.specs.Record.{block_in}
use mathlib.Core.Path.{◌≡◌, refl, ap, ◌∙◌}
use native.Mathlib.Omega.{arith}
use lib.ListN.{length, length-set}
use Rattle.base.specs.Le.{Bytes}
use Rattle.types.specs.Values.{as_locator}
use Rattle.slip_read_records.specs.Places.{block_from, block_at_place}
use Rattle.slip_read_records.proofs.Frames.{record-part}
use Rattle.slip_read_paths.proofs.note_votes.Goals as goal

pub loop-j-init : goal.loop-j-init
loop-j-init c = (noted_none _ _ _ _, (refl, omega arith))

pub overflow_add-from : goal.overflow_add-from
overflow_add-from c = omega (arith, (c.requires.0.framed c.loop-j.j c.loop-j-test.true).inside)

pub record_end-end-requires : goal.record_end-end-requires
record_end-end-requires c = c.requires.0.framed c.loop-j.j c.loop-j-test.true

pub slice_bounds-votes_for-end : goal.slice_bounds-votes_for-end
slice_bounds-votes_for-end c = omega (
  arith,
  (c.requires.0.framed c.loop-j.j
      c.loop-j-test.true).inside,
  c.record_end-end.ensures,
)

pub votes_for-voting-requires : goal.votes_for-voting-requires
votes_for-voting-requires c = rw (record-part _ _ c.record_end-end.result c.record_end-end.ensures)
    (c.requires.0.framed c.loop-j.j
    c.loop-j-test.true).formed

pub loop-j-preserved : goal.loop-j-preserved
unfolding block_at_place block_from
loop-j-preserved c =
    let l = c.loop-j in
    let a = c.args in (
      noted_more _ _ _ _ _ _ l.invariant.0 (omega (arith, l.invariant.1.0, c.requires.1))
          (byte_of _ _ (c.votes_for-voting.ensures ∙ ap (λ (x : Bytes). votes_for (block_in x) (as_locator a.locator))
          (record-part _ _ c.record_end-end.result c.record_end-end.ensures))),
      (simp length-set l.invariant.1.0, omega arith),
    )

pub shape_of-votes : goal.shape_of-votes
shape_of-votes c = c.loop-j.invariant.1.0

pub returns : goal.returns
returns c = let e : c.loop-j.j ≡ length c.args.order.now = omega (arith, c.loop-j.invariant.1.1) in
    rw (← e) c.loop-j.invariant.0
