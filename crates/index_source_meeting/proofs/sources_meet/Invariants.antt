use mathlib.Core.Path.{◌≡◌}
use Prim.Native.Nat.{◌-◌, ◌≤◌, ◌<◌}
use lib.ListN.{length, drop}
use Rattle.index_spec.specs.Walk.{run_from}
use Rattle.index_source_meeting.proofs.Moving.{Going}
use Rattle.index_source_meeting.proofs.sources_meet.Given as goal

abbrev pub invariant-loop-k : goal.invariant-loop-k
invariant-loop-k l = (l.k ≤ l.n) ×
    ((length l.ahead ≡ length l.cursors) ×
    ((run_from (drop l.pos l.index)).start < (run_from (drop l.pos l.index)).end
    → Going (run_from (drop l.pos l.index)) l.words l.cursors l.ahead l.k l.votes l.after))
