-- A list with one locator withdrawn: worked examples. Assumes nothing: these are definitions.
use Rattle.std.specs.Prelude.{ℕ, ◌≡◌, Bool, true, false, List, [], ◌∷◌, ◌++◌, map}
use Rattle.std.proofs.Math.Option.{none, some}
use Rattle.record_spec.specs.Reference.{TransactionLocator}
use Rattle.record_spec.specs.Block.{share, reject, Block}
use Rattle.list_stretches_spec.specs.Stretches.{FinalStretch, stretches}
use Rattle.final_readings_spec.specs.Readings.{Reading, old, withdrawing}
use Rattle.final_readings_spec.specs.Examples.{ref, block, unknown, alone}
use Rattle.list_readings_spec.specs.Lists.{least_listed, listing, all_listed}

-- a stretch of the sole owner's block, certified by that block
abbrev pub run : ℕ → ℕ → FinalStretch
run first end = record { block = ref 7 9; first = first; end = end; blocks = 1; stake = 1 }

abbrev pub in_bulk : Bool → Reading → List Block → List FinalStretch
in_bulk shared reading bs = stretches (1 ∷ []) bs (listing shared reading (1 ∷ []) bs) 5 none

-- the same owner shares twice and rejects his first share
abbrev pub own : ℕ → TransactionLocator
own o = record { block = ref 0 0; offset = o }

abbrev pub shares : List Block
shares = block 0 0 [] (share [] ∷ share [] ∷ reject (own 0) none ∷ []) ∷ []

pub record Examples : Type 0 where
  -- a range 0..10 with offset 3 withdrawn is 0 to 2 and 4 to 9
  pub withdrawn : all_listed false withdrawing (1 ∷ []) alone ≡ map unknown (0 ∷ 1 ∷ 2 ∷ []) ++ map unknown (4 ∷ 5 ∷ 6 ∷ 7 ∷ 8 ∷ 9 ∷ [])
  pub in_bulk_lem : in_bulk false withdrawing alone ≡ run 0 3 ∷ run 4 10 ∷ []
  pub in_bulk_old : in_bulk false old alone ≡ run 0 10 ∷ []
  pub asked : least_listed false withdrawing (1 ∷ []) alone (some (unknown 2)) ≡ some (unknown 4)
  -- of a block that nobody sent the ordinary list shows nothing
  pub none_stored : in_bulk true withdrawing alone ≡ []
  -- a withdrawn share is off the ordinary list too
  pub taken : all_listed true withdrawing (1 ∷ []) shares ≡ own 1 ∷ []
  pub kept : all_listed true old (1 ∷ []) shares ≡ own 0 ∷ own 1 ∷ []
