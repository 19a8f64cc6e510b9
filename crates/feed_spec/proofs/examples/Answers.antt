use Rattle.feed_spec.proofs.Worked.{examples}
use Rattle.feed_spec.proofs.examples.Goals as goal

pub returns : goal.returns
returns c = examples
