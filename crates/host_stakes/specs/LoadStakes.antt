-- A network's own stakes, loaded for a host. Assumes nothing: these are definitions.
use Rattle.std.specs.Prelude.{ℕ, eqb, length}
use Rattle.std.proofs.lemmas.List.Edits.{sets}
use Rattle.base.specs.Lists.{pick}
use Rattle.base.specs.Le.{Bytes}
use Rattle.base.specs.Checks.{Answer, refused, answered}
use Rattle.committee.specs.Committee.{Committee}
use Rattle.words.specs.Words.{bytes_of}
use Rattle.stakes_file.specs.Load.{load}

-- what the call answers, and the bytes that it was lent for the stakes afterwards
pub record LoadStakesCall : Type 0 where
  pub answer : Answer ℕ
  pub stakes : Bytes

-- the number of members, their stakes in front as 8 bytes each; 40, after all other numbers, for bytes that are not of 128 words
unfoldable pub loaded_bytes : Answer Committee → Bytes → LoadStakesCall
loaded_bytes (refused n) b = record { answer = refused n; stakes = b }
loaded_bytes (answered c) b =
    pick (eqb (length b) 1024)
    (record { answer = answered (length c); stakes = sets b 0 (bytes_of c) })
    (record { answer = refused 40; stakes = b })

unfoldable pub load_stakes_call : Bytes → Bytes → LoadStakesCall
load_stakes_call file b = loaded_bytes (load file) b
