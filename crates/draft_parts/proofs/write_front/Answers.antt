use mathlib.Core.Path.{◌∙◌}
use Rattle.draft_size.specs.Step.{front_bytes}
use Rattle.draft_parts.proofs.PartsWritten.{front_written}
use Rattle.draft_parts.proofs.write_front.Goals as goal

-- src/lib.rt:84:5

-- src/lib.rt:85:5

-- src/lib.rt:86:5

-- src/lib.rt:80:1

-- src/lib.rt:80:1

pub returns : goal.returns
unfolding front_bytes
returns c =
    let a = c.args in
    c.copy_to.ensures
    ∙ rw (
      c.write_u64-2.ensures,
      c.write_u64.ensures,
    ) (front_written a.out.now a.author.0 a.round.0 a.digest.now)
