use mathlib.Core.Path.{◌∙◌}
use native.Mathlib.Omega.{arith}
use Rattle.ring_owners.proofs.Scans.{scan_start, scan_better, scan_worse, scan_end}
use Rattle.ring_owners.proofs.next_to_ring.Goals.{then-most-stake, else-most-stake}
use Rattle.ring_owners.proofs.next_to_ring.Goals as goal

pub loop-i-init : goal.loop-i-init
loop-i-init c = (omega arith, scan_start _ _ _)

pub loop-i-preserved : goal.loop-i-preserved
loop-i-preserved c =
    let at = c.loop-i in
    let start = c in
    elim c.if-most-stake.branch [
      | then-most-stake w ↦ (
        omega arith,
        rw (w.best-is, w.most-is ∙ c.gain-stake.ensures)
            (scan_better _ _ _ at.i at.best at.most (rw c.gain-stake.ensures at w.if-most-stake.true) at.invariant.1),
      )
      | else-most-stake w ↦ (
        omega arith,
        rw (w.best-is, w.most-is) (scan_worse _ _ _ at.i at.best at.most start.requires.0 c.loop-i-test.true
            (rw c.gain-stake.ensures at w.if-most-stake.false) at.invariant.1),
      )
    ]

pub returns : goal.returns
returns c =
    let start = c in
    let at = c.loop-i in
    scan_end _ _ _ at.i at.best at.most start.requires.0 (omega arith) start.requires.1 at.invariant.1
