use mathlib.Core.Path.{refl, ◌∙◌}
use Rattle.calendar_windows.proofs.Steps.{free_on, free_end, good_even, good_in_order}
use borrow.Author.Rules.{rules}
use native.Mathlib.Omega.{arith}
use Rattle.calendar_windows.specs.Calendar.{windows}
use Rattle.calendar_windows.proofs.Freed.{freed}
use Rattle.calendar_windows.proofs.free_from.Goals as goal

pub loop-i-init : goal.loop-i-init
loop-i-init c = (search rules, (search rules, refl))

pub bounds-calendar-i-in-loop-i : goal.bounds-calendar-i-in-loop-i
bounds-calendar-i-in-loop-i c = omega (arith, good_even _ c.requires)

pub loop-i-preserved : goal.loop-i-preserved
loop-i-preserved c =
    let ns = c.args.calendar.now in
    let b = c.loop-i in
    let even = good_even ns c.requires in
    (omega arith, (omega arith, b.invariant.1.1 ∙ free_on ns b.i b.free (omega arith) ∙ rw c.past-free.ensures))

pub returns : goal.returns
returns c =
    let a = c.args in
    let ns = a.calendar.now in
    let b = c.loop-i in
    let same = b.invariant.1.1 ∙ free_end ns b.i b.free (omega arith) in
    rw (← same) (freed (windows ns) (good_in_order ns c.requires) a.second)
