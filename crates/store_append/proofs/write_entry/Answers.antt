use mathlib.Core.Path.{◌∙◌}
use lib.ListN.{length}
use Rattle.store_append.proofs.Appended.{entry_written}
use Rattle.store_append.proofs.write_entry.Goals as goal

pub returns : goal.returns
returns c =
    let a = c.args in
    c.copy_to.ensures ∙ rw (
      c.write_u32-2.ensures,
      c.write_u32.ensures,
    )
    (entry_written a.store.now a.rec.now a.at a.next (length a.rec.now))
