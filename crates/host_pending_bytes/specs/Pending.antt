-- The pending question of a host. Assumes nothing: these are definitions.
use Rattle.std.specs.Prelude.{ℕ, true, List, [], ◌∷◌, ◌++◌, eqb, length}
use Rattle.std.proofs.Math.Option.{Option, none, some}
use Rattle.base.specs.Lists.{pick}
use Rattle.base.specs.Le.{Bytes}
use Rattle.base.specs.Checks.{◌⇒◌, refusal, Answer, refused, answered}
use Rattle.committee.specs.Committee.{Committee}
use Rattle.record_spec.specs.Reference.{TransactionLocator}
use Rattle.words.specs.Words.{words_of}
use Rattle.feed_spec.specs.Pending.{Standing, pending_checks, pending}
use Rattle.host_calls.specs.Calls.{committee_of}
use Rattle.host_locators.specs.Locators.{locator_of, refusal_before}

-- bytes that are no locator are malformed, 20, after 5, 10, 11
unfoldable pub pending_in : Committee → Bytes → List ℕ → Option TransactionLocator → Answer Standing
pending_in c s t none = refused (refusal (pending_checks c s t ++ ((true ⇒ 20) ∷ [])))
pending_in c s t (some l) = pending c s t l

-- 01: "a table, events or positions (1,024) not of `listing`'s size 11, 15 or 40 in place": a table is 6,145 words
unfoldable pub asked_pending : Committee → Bytes → Bytes → Option TransactionLocator → Answer Standing
asked_pending c s t o = pick (eqb (length t) 49160) (pending_in c s (words_of t) o) (refused (refusal_before 11 c s))

unfoldable pub stake_of : Answer Standing → Answer ℕ
stake_of (answered x) = answered x.stake
stake_of (refused n) = refused n

unfoldable pub voters_of : Answer Standing → Answer ℕ
voters_of (answered x) = answered x.voters
voters_of (refused n) = refused n

-- 01: "Asking for a pending locator gives its stake and its number of voters, or 42": one call for each of the two
unfoldable pub pending_stake_call : Bytes → Bytes → Bytes → Bytes → Answer ℕ
pending_stake_call stakes s t b = stake_of (asked_pending (committee_of stakes) s t (locator_of b))

unfoldable pub pending_voters_call : Bytes → Bytes → Bytes → Bytes → Answer ℕ
pending_voters_call stakes s t b = voters_of (asked_pending (committee_of stakes) s t (locator_of b))
