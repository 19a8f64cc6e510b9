-- The inclusive ancestry of a block among the blocks that are given, which come in any order. Assumes nothing: these are definitions.
use Rattle.std.specs.Prelude.{ℕ, zero, suc, Bool, false, ◌&&◌, ◌||◌, List, eqb}
use Rattle.base.specs.Lists.{any_of, is_none, holds}
use Rattle.committee.specs.Committee.{AuthorityIndex}
use Rattle.record_spec.specs.Reference.{TransactionLocator}
use Rattle.record_spec.specs.Block.{Block, author, round}
use Rattle.final_readings_spec.specs.Rejecting.{rejects}
use Rattle.final_readings_spec.specs.Readings.{Reading, old, withdrawing}
use Rattle.slip_spec.specs.Paths.{named}

-- a block, or one that at most n includes lead to, passes a test
unfoldable pub passes_within : (Block → Bool) → List Block → ℕ → Block → Bool
passes_within test bs zero b = test b
passes_within test bs (suc n) b = test b || any_of (λ i. holds (passes_within test bs n) (named bs i)) b.includes

-- 01: "A block's inclusive ancestry is itself, its includes, theirs and so on, marked ones too": one of it passes a test. Rounds fall with every
-- include, so none is more includes away than the block's round says
unfoldable pub in_ancestry : (Block → Bool) → List Block → Block → Bool
in_ancestry test bs b = passes_within test bs (round b) b

-- an include of the block is not among those given
unfoldable pub lacks : List Block → Block → Bool
lacks bs b = any_of (λ i. is_none (named bs i)) b.includes

-- 02: "a new slip must come with every block of each certifier's ancestry": here one is missing
unfoldable pub lacks_ancestor : Reading → List Block → Block → Bool
lacks_ancestor old bs b = false
lacks_ancestor withdrawing bs b = in_ancestry (lacks bs) bs b

-- the block is one of the author that rejects the locator
unfoldable pub rejects_as : TransactionLocator → AuthorityIndex → Block → Bool
rejects_as l a d = eqb (author d) a && rejects d l

-- 02: "if a listed voter rejects there", of the new reading alone
unfoldable pub has_rejected : Reading → List Block → TransactionLocator → Block → AuthorityIndex → Bool
has_rejected old bs l b a = false
has_rejected withdrawing bs l b a = in_ancestry (rejects_as l a) bs b
