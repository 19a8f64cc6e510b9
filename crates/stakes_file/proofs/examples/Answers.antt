use Rattle.stakes_file.proofs.Evaluated.{evaluated}
use Rattle.stakes_file.proofs.examples.Goals as goal

pub returns : goal.returns
returns c = evaluated
