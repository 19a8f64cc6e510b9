-- What a certifying block of a slip shows, by itself, by its ancestry and in all. Assumes nothing: these are definitions.
use Rattle.std.specs.Prelude.{ℕ, not, List}
use Rattle.std.proofs.Math.Option.{Option, none, some}
use Rattle.base.specs.Lists.{all_of, is_none, holds}
use Rattle.committee.specs.Committee.{Committee}
use Rattle.record_spec.specs.Reference.{TransactionLocator}
use Rattle.record_spec.specs.Block.{Block}
use Rattle.final_readings_spec.specs.Readings.{Reading}
use Rattle.slip_spec.specs.Slip.{SlipVoter}
use Rattle.slip_spec.specs.Ancestry.{lacks_ancestor, has_rejected}
use Rattle.slip_spec.specs.Reading.{missing_from, certifier_holds}
use Rattle.slip_read_verdicts.specs.Verdict.{verdict}

-- by itself: it is given, and unmarked
unfoldable pub own_verdict : Option Block → ℕ
own_verdict o = verdict (is_none o) (holds (λ b. not b.marked) o)

-- by its ancestry, where it is given: that is whole, and no listed voter rejects there
unfoldable pub standing_verdict : Reading → List Block → TransactionLocator → List SlipVoter → Option Block → ℕ
standing_verdict reading bs l vs none = 0
standing_verdict reading bs l vs (some b) = verdict (lacks_ancestor reading bs b) (all_of (λ v. not (has_rejected reading bs l b v.author)) vs)

-- with its voters
unfoldable pub certifier_verdict : Reading → Committee → List Block → TransactionLocator → List SlipVoter → Option Block → ℕ
certifier_verdict reading c bs l vs o = verdict (missing_from reading bs vs o) (holds (certifier_holds reading c bs l vs) o)
