use mathlib.Core.Path.{sym, ap}
use mathlib.Core.Bool.{Bool, ◌&&◌}
use lib.Dec.{eqb}
use borrow.Author.Tests.{eq-eqb, ne_eqb}
use Rattle.index_spec.specs.Runs.{same_voters}
use Rattle.index_meeting.proofs.same_voters.Goals as goal

pub returns-then-v-w : goal.returns-then-v-w
unfolding same_voters
returns-then-v-w c = sym (ap (λ (t : Bool). t && eqb c.args.v.high c.args.w.high)
    (ne_eqb c.args.v.low c.args.w.low c.if-v-w.true))

pub returns : goal.returns
unfolding same_voters
returns c = sym (ap (λ (t : Bool). t && eqb c.args.v.high
    c.args.w.high)
    (eq-eqb c.args.v.low c.args.w.low c.if-v-w.false))
