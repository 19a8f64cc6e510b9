use Prim.Native.Nat.{◌-◌}
use mathlib.Core.Path.{◌≡◌}
use mathlib.Core.Bool.{not}
use mathlib.Core.List.{map}
use lib.ListN.{length, drop}
use Rattle.base.specs.Lists.{all_of, same}
use Rattle.stakes_names.specs.Names.{name_at}
use Rattle.stakes_names.proofs.differs.Given as goal

abbrev pub invariant-loop-j : goal.invariant-loop-j
invariant-loop-j l =
    all_of (λ n. not (same l.name n)) (map (name_at l.file) l.indexes) ≡ all_of (λ n. not (same l.name n)) (map (name_at l.file) (drop l.j l.indexes))
