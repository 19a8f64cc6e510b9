use Rattle.host_add.proofs.Added.{three_written}
use Rattle.host_add.specs.Add.{aggregator_bytes}
use mathlib.Core.Path.{◌∙◌}
use Rattle.host_add.proofs.write_aggregator.Goals as goal

pub returns : goal.returns
unfolding aggregator_bytes
returns c = c.write_u64-3.ensures ∙ rw (
  c.write_u64-2.ensures,
  c.write_u64.ensures,
)
    (three_written _ _ _ c.args.bytes.now
    c.requires)
