use mathlib.Core.Path.{◌≡◌}
use Prim.Native.Nat.{◌-◌, ◌<◌}
use lib.ListN.{length}
use Rattle.store_spec.specs.Store.{records_of}
use Rattle.index_check.proofs.Agreeing.{Agreeing}
use Rattle.index_check.proofs.parts_agree.Given as goal

abbrev pub invariant-loop-i : goal.invariant-loop-i
invariant-loop-i l = ((0 < length l.index) ×
    ((length l.rows ≡ length l.initial.rows) × (length l.own ≡ length l.initial.own)))
    × Agreeing l.store l.order l.index l.initial.starts l.starts l.at l.pos l.i
