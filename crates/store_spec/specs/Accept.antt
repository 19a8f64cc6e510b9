-- Which record is accepted after which others: 20 to 30. Assumes nothing: these are definitions.
use Rattle.std.specs.Prelude.{ℕ, ◌+◌, Bool, true, not, ◌&&◌, List, [], ◌∷◌, ◌++◌}
use Rattle.base.specs.Lists.{pick, any_of}
use Rattle.base.specs.Checks.{Check, ◌⇒◌, passes}
use Rattle.committee.specs.Committee.{Committee}
use Rattle.record_spec.specs.Reference.{BlockReference, same_reference}
use Rattle.record_spec.specs.Block.{Block}
use Rattle.record_spec.specs.Verify.{head_checks, body_checks}
use Rattle.store_spec.specs.Layout.{Record}

-- a block of that reference is among the records
unfoldable pub is_stored : List Record → BlockReference → Bool
is_stored rs i = any_of (λ r. same_reference r.block.reference i) rs

-- 01: "Number 30 is for the first include that the store does not hold": how many stand before it, all where there is none
unfoldable pub first_missing : List Record → List BlockReference → ℕ
first_missing rs [] = 0
first_missing rs (i ∷ is) = pick (is_stored rs i) (first_missing rs is + 1) 0

-- 01: 21 to 30 ascending, with "23 reference stored already" and "30 include not stored"
unfoldable pub block_checks : Committee → List Record → Block → List Check
block_checks c rs b =
    head_checks c b
    ++ ((is_stored rs b.reference ⇒ 23)
    ∷ body_checks c b
    ++ ((any_of (λ i. not (is_stored rs i)) b.includes ⇒ 30)
    ∷ []))

-- every record was accepted after those before it
unfoldable pub all_accepted : Committee → List Record → Bool
all_accepted c [] = true
all_accepted c (r ∷ older) = passes (block_checks c older r.block) && all_accepted c older
