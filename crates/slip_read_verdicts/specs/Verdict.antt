-- What was found of a slip so far, as one number: 0 that it holds, 1 that it does not, 2 that a record is missing. Assumes nothing: these are definitions.
use Rattle.std.specs.Prelude.{ℕ, Bool, List, ltb}
use Rattle.std.proofs.Math.Option.{Option}
use Rattle.base.specs.Lists.{pick}
use Rattle.committee.specs.Committee.{AuthorityIndex}
use Rattle.record_spec.specs.Reference.{TransactionLocator}
use Rattle.record_spec.specs.Block.{Block}
use Rattle.slip_spec.specs.Paths.{on_from, leads}
use Rattle.slip_spec.specs.Reading.{is_not_given, ends_at_vote}

-- 02: "53 for one named, also by path, but not supplied; then 52 for a slip that does not hold"
unfoldable pub verdict : Bool → Bool → ℕ
verdict missing held = pick missing 2 (pick held 0 1)

unfoldable pub worse : ℕ → ℕ → ℕ
worse a b = pick (ltb a b) b a

-- of a voter, by its path from the certifier, if that is given
unfoldable pub voter_verdict : List Block → TransactionLocator → AuthorityIndex → List ℕ → Option Block → ℕ
voter_verdict bs l a ps o = verdict (is_not_given (on_from (leads bs ps) o)) (ends_at_vote l a (on_from (leads bs ps) o))
