use mathlib.Core.Path.{◌≡◌}
use mathlib.Core.List.{List}
use Prim.Native.Nat.{◌-◌, ◌≤◌}
use lib.ListN.{length}
use Rattle.record_spec.specs.Block.{Block}
use Rattle.record_spec.specs.Record.{block_in}
use Rattle.index_check.specs.Known.{Known, Rooted}
use Rattle.index_check.proofs.Opening.{Opening}
use Rattle.index_check.proofs.open_sources.Given as goal

abbrev pub invariant-loop-j : goal.invariant-loop-j
invariant-loop-j l = (length l.cursors ≡ length l.initial.cursors) × ((l.j ≤ length (block_in l.rec).includes) × ((bs :
    List Block) → Known l.store l.order l.index l.starts bs → Rooted l.store bs (block_in l.rec) → Opening bs (block_in l.rec) l.index l.cursors l.j))
