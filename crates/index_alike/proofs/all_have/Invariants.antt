use Prim.Native.Nat.{◌-◌}
use Rattle.index_alike.specs.Alike.{AllHave}
use Rattle.index_alike.proofs.all_have.Given as goal

abbrev pub invariant-loop-j : goal.invariant-loop-j
invariant-loop-j l = AllHave l.index l.cursors l.j l.pos l.k
