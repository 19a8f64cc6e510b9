-- Small files of stakes with what they load. Assumes nothing: these are definitions.
use Rattle.std.specs.Prelude.{ℕ, ◌≡◌, [], ◌∷◌, ◌++◌, replicate}
use Rattle.base.specs.Checks.{refused, answered}
use Rattle.base.specs.Le.{Bytes, le_bytes}
use Rattle.stakes_file.specs.Load.{load}

-- a record of a name of two bytes
unfoldable pub entry : ℕ → ℕ → ℕ → ℕ → Bytes
entry next letter second stake = le_bytes 2 next ++ (letter ∷ second ∷ replicate 14 0) ++ le_bytes 8 stake

unfoldable pub file : ℕ → Bytes → Bytes
file first rest = le_bytes 2 first ++ rest

pub record Examples : Type 0 where
  -- the second record first, then the first; the third is off the chain and has a bad name
  pub chain_order : load (file 2 (entry 0 98 0 3 ++ entry 1 97 0 500 ++ entry 9 0 7 0)) ≡ answered (500 ∷ 3 ∷ [])
  -- 56: an index past the last record; a second visit; a stray byte; the index cut; before 57
  pub past_the_end : load (file 2 (entry 0 97 0 3)) ≡ refused 56
  pub again : load (file 1 (entry 2 97 0 3 ++ entry 1 98 0 3)) ≡ refused 56
  pub stray : load (file 0 (7 ∷ [])) ≡ refused 56
  pub cut : load (7 ∷ []) ≡ refused 56
  pub broken_first : load (file 1 (entry 2 0 0 3)) ≡ refused 56
  -- 57: no name; a byte after a zero; two equal names; before 2
  pub nameless : load (file 1 (entry 0 0 0 3)) ≡ refused 57
  pub not_padded : load (file 1 (entry 0 0 97 3)) ≡ refused 57
  pub twice : load (file 1 (entry 2 97 0 3 ++ entry 0 97 0 4)) ≡ refused 57
  pub names_first : load (file 1 (entry 2 97 0 0 ++ entry 0 97 0 3)) ≡ refused 57
  -- 1: a zero index alone; 2: a zero stake
  pub nobody : load (file 0 []) ≡ refused 1
  pub no_stake : load (file 1 (entry 0 97 0 0)) ≡ refused 2
