use Prim.Native.Nat.{ℕ}
use mathlib.Core.Path.{ap, sym, ◌∙◌}
use native.Mathlib.Omega.{arith}
use lib.ListN.{replicate}
use Rattle.base.proofs.Le.{bytes_of}
use Rattle.sorted_walk.proofs.Lists.{listed}
use Rattle.sorted_walk.proofs.Arriving.{counted, headed}
use Rattle.sorted_walk.proofs.Answering.{answered_all}
use Rattle.sorted_walk.proofs.replies_of.Goals as goal

pub read_u16-count-requires : goal.read_u16-count-requires
read_u16-count-requires c =
    let a = c.args in
    let k = c.requires in
    let bytes = bytes_of a.store.now (λ i h. omega (arith, c.shared_slice_known-2-1.given i)) in
    omega (arith, headed a.stakes.now a.store.now a.index.now k.0.0.0 k.0.1.0 bytes k.0.1.1)

pub step_all-requires : goal.step_all-requires
step_all-requires c =
    let a = c.args in
    let k = c.requires in
    let bytes = bytes_of a.store.now (λ i h. omega (
      arith,
      c.shared_slice_known-2-1.given i,
    )) in
    let n = counted a.stakes.now a.store.now a.index.now k.0.0.0 k.0.1.0 bytes k.0.1.1 in (
      k.0,
      (
        (listed a.locators.now k.1.0, omega (arith, n, c.read_u16-count.ensures)),
        c.clear.ensures ∙ ap (λ (m : ℕ). replicate m 0) k.1.1,
      ),
    )

pub returns : goal.returns
returns c =
    let a = c.args in
    let k = c.requires in
    let bytes = bytes_of a.store.now (λ i h. omega (
      arith,
      c.shared_slice_known-2-1.given i,
    )) in
    let n = counted a.stakes.now a.store.now a.index.now k.0.0.0 k.0.1.0 bytes k.0.1.1 in
    c.step_all.ensures
    ∙ answered_all a.stakes.now a.store.now a.locators.now k.0.0.0 k.0.1.0 _
    (c.read_u16-count.ensures ∙ sym n)
