-- The finality question. Assumes nothing: these are definitions.
use Rattle.std.specs.Prelude.{ℕ, Bool, not, List, [], ◌∷◌, ◌++◌, map, ltb, length, drop}
use Rattle.base.specs.Lists.{pick, keep}
use Rattle.base.specs.Le.{Bytes}
use Rattle.base.specs.Checks.{Check, ◌⇒◌, passes, Answer, checked}
use Rattle.committee.specs.Committee.{Committee, broken}
use Rattle.record_spec.specs.Reference.{TransactionLocator}
use Rattle.record_spec.specs.Block.{Block}
use Rattle.store_spec.specs.Layout.{entries, ascending}
use Rattle.store_spec.specs.Store.{records_of, store_in_order}
use Rattle.final_spec.specs.Voters.{certifies, is_final}

-- the stored blocks, the newest first
unfoldable pub blocks_of : Bytes → List Block
blocks_of s = map (λ r. r.block) (records_of s)

-- 01: "certifying blocks and their positions, one word each, in ascending reference order"
unfoldable pub certifying_positions : Committee → Bytes → TransactionLocator → List ℕ
certifying_positions c s l = map (λ e. e.position) (keep (λ e. certifies c (blocks_of s) l e.block) (ascending (entries (records_of s))))

-- 01: "final or not, in both cases with the number of certifying blocks"
pub record Finality : Type 0 where
  pub final : Bool
  pub certifying : ℕ

-- what the question answers, and the position slice that it was lent afterwards
pub record Asked : Type 0 where
  pub answer : Answer Finality
  pub positions : List ℕ

-- 01: "Queries check 5, 10, .. 40 (finality only)", "40 position slice shorter than the block count"
unfoldable pub finality_checks : Committee → Bytes → List ℕ → List Check
finality_checks c s ps =
    (broken c ⇒ 5)
    ∷ (not (store_in_order c s) ⇒ 10)
    ∷ (ltb (length ps) (length (records_of s)) ⇒ 40)
    ∷ []

-- 01: "words past the positions that a query writes" keep their content
unfoldable pub finality : Committee → Bytes → List ℕ → TransactionLocator → Asked
finality c s ps l =
    let found : List ℕ = certifying_positions c s l in
    record {
      answer = checked (finality_checks c s ps) (record { final = is_final c (blocks_of s) l; certifying = length found });
      positions = pick (passes (finality_checks c s ps)) (found ++ drop (length found) ps) ps;
    }
