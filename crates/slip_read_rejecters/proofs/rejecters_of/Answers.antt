use mathlib.Core.Path.{ap, ◌∙◌}
use Prim.Native.Nat.{◌-◌}
use native.Mathlib.Omega.{arith}
use Rattle.committee_set.specs.AuthoritySet.{united}
use Rattle.types.specs.Values.{as_locator}
use Rattle.slip_read_paths.proofs.Walks.{in_place}
use Rattle.slip_read_ancestry.proofs.Places.{right_falls, right_small}
use Rattle.slip_read_rejecters.proofs.Rejecters.{joined_none, joined_more, joined_all, in_table}
use Rattle.slip_read_rejecters.proofs.rejecters_of.Goals as goal

pub include_count_at-count-requires : goal.include_count_at-count-requires
include_count_at-count-requires c = (c.requires.0.0.sorted, c.requires.1.0.0)

pub own_reject-found-requires : goal.own_reject-found-requires
own_reject-found-requires c = (
  (c.requires.0.0.sorted, c.requires.1.0.0),
  right_small
      c.args.records.now c.requires.0.1 _
      (c.requires.0.0.only c.args.place c.requires.1.0.0),
)

pub loop-k-init : goal.loop-k-init
loop-k-init c = joined_none _ _ c.requires.0.0 (right_falls _ c.requires.0.1) _
    _ _

pub step-include-requires : goal.step-include-requires
step-include-requires c = (
  c.requires.0.0,
  c.requires.1.0.0,
)

pub rejecters_at-requires : goal.rejecters_at-requires
rejecters_at-requires c = in_table _ _ _ c.requires.1.0.1
    (in_place _ _ _ _ c.step-include.ensures)

pub loop-k-preserved : goal.loop-k-preserved
loop-k-preserved c =
    let q = c.requires in
    joined_more _ _ q.0.0 (right_falls _ q.0.1) _ _ q.1.0.0 _ _ _ c.loop-k.invariant _
    c.step-include.result (omega (
      arith,
      c.include_count_at-count.ensures,
      c.loop-k-test.true,
    )) c.step-include.ensures
    (c.union-found.ensures ∙ ap (united c.loop-k.found) c.rejecters_at.ensures)

pub returns : goal.returns
returns c =
    let q = c.requires in
    joined_all _ _ q.0.0 (right_falls _ q.0.1) _ _ q.1.0.0 _ _ _ c.loop-k.invariant
    (as_locator c.args.locator) c.own_reject-found.ensures
    (omega (arith, c.include_count_at-count.ensures, c.loop-k-test.false)) q.1.1
