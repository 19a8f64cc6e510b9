use Prim.Native.Nat.{◌-◌}
use lib.ListN.{length}
use Rattle.types.specs.Values.{as_locator}
use Rattle.final_spec.specs.Finality.{blocks_of}
use Rattle.final_readings_spec.specs.Readings.{certifies_in}
use Rattle.final_readings_spec.specs.Answers.{as_reading}
use Rattle.final_voters.specs.Walk.{RemembersBoth}
use Rattle.final_certifying.proofs.Finding.{Walked}
use Rattle.final_certifying.proofs.find_certifying_blocks.Given as goal

abbrev pub invariant-loop-k : goal.invariant-loop-k
invariant-loop-k l =
    RemembersBoth l.store l.order (as_locator l.locator) l.memo
    × Walked (certifies_in (as_reading l.reading) l.stakes (blocks_of l.store) (as_locator l.locator)) l.store l.order
    l.initial.positions l.positions l.authors l.blocks l.k
