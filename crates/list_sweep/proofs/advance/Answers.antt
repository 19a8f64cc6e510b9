use Rattle.list_sweep.specs.Step.{Gone}
use Rattle.list_sweep.proofs.advance.Goals as goal

pub returns : goal.returns
unfolding Gone
returns c = c.go_on.ensures _
    c.requires.1
