-- What the finality question promises of a refusal. Assumes nothing: these are definitions.
use Rattle.std.specs.Prelude.{ℕ, ◌≡◌, true}
use Rattle.base.specs.Le.{Bytes}
use Rattle.base.specs.Checks.{refused}
use Rattle.committee.specs.Committee.{Committee}
use Rattle.record_spec.specs.Reference.{TransactionLocator}
use Rattle.record_spec.specs.Claims.{are_bytes}
use Rattle.final_readings_spec.specs.Readings.{Reading}
use Rattle.host_finality.specs.Finality.{finality_of}

pub record Claims : Type 0 where
  -- 01: "A refusal writes nothing": the positions of a refused question are as they were
  pub refused_finality : (reading : Reading) (c : Committee) (s ps : Bytes) (l : TransactionLocator) (n : ℕ) → are_bytes ps ≡ true
      → (finality_of reading c s ps l).answer ≡ refused n → (finality_of reading c s ps l).positions ≡ ps
