use mathlib.Core.Path.{◌≡◌, refl, sym, ◌∙◌}
use native.Mathlib.Omega.{arith}
use lib.ListN.{get_or, length-set}
use Rattle.stakes_file.specs.Load.{stake_at, members_at}
use Rattle.stakes_file.proofs.Fills.{fill_next, member_at, length_members, members_filled}
use Rattle.stakes_file.proofs.stakes_along.Goals as goal

pub loop-k-init : goal.loop-k-init
loop-k-init c = (omega arith, (refl, refl))

pub place-requires : goal.place-requires
place-requires c = c.requires.0.above c.loop-k.k (omega arith)

pub overflow_add-place : goal.overflow_add-place
overflow_add-place c = omega (
  arith,
  c.place.ensures,
  c.requires.0.below
      c.loop-k.k (omega arith),
)

pub read_u64-requires : goal.read_u64-requires
read_u64-requires c = omega (
  arith,
  c.place.ensures,
  c.requires.0.below
      c.loop-k.k (omega arith),
)

pub loop-k-preserved : goal.loop-k-preserved
unfolding stake_at
loop-k-preserved c =
    let start = c.args in
    let b = c.loop-k in
    let is = start.indexes.now in
    let e : stake_at start.file.now (get_or is b.k 0) ≡ c.read_u64.result = sym (c.read_u64.ensures ∙ (rw c.place.ensures)) in (
      omega arith,
      (
        simp length-set b.invariant.1.0,
        rw (b.invariant.1.1, ← e, ← member_at start.file.now is b.k (omega arith))
            (fill_next start.stakes.now (members_at start.file.now is) b.k (omega (arith, length_members start.file.now is))),
      ),
    )

pub shape_of-stakes : goal.shape_of-stakes
shape_of-stakes c = c.loop-k.invariant.1.0

pub returns : goal.returns
returns c =
    let start = c.args in
    rw c.loop-k.invariant.1.1 (members_filled start.file.now start.stakes.now start.indexes.now c.loop-k.k
    c.requires.1 (omega arith))
