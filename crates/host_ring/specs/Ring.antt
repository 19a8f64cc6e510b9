-- Whom to ring, for a host. Assumes nothing: these are definitions.
use Rattle.std.specs.Prelude.{ℕ, true, List, [], ◌∷◌, ◌++◌, eqb, length}
use Rattle.std.proofs.Math.Option.{Option, none, some}
use Rattle.base.specs.Lists.{pick}
use Rattle.base.specs.Le.{Bytes}
use Rattle.base.specs.Checks.{◌⇒◌, refusal, Answer, refused, answered}
use Rattle.committee.specs.Committee.{Committee, broken}
use Rattle.committee_set.specs.AuthoritySet.{AuthoritySet, number_of_voters}
use Rattle.ring_owners.specs.Ranked.{Ring, ring}
use Rattle.record_spec.specs.Reference.{TransactionLocator}
use Rattle.words.specs.Words.{words_of, bytes_of}
use Rattle.feed_spec.specs.Pending.{pending_checks}
use Rattle.ring_pending.specs.WhomToRing.{whom_to_ring}
use Rattle.host_calls.specs.Calls.{committee_of}
use Rattle.host_locators.specs.Locators.{locator_of, refusal_before}

-- bytes that are no locator are malformed, 20, and a slice of n bytes that are not three words is 40, both after 5, 10, 11 and before 42, 60
unfoldable pub ring_in : Committee → Bytes → List ℕ → AuthoritySet → Option TransactionLocator → ℕ → Answer Ring
ring_in c s t r none n = refused (refusal (pending_checks c s t ++ ((true ⇒ 20) ∷ [])))
ring_in c s t r (some l) n = pick (eqb n 24) (whom_to_ring c s t r l) (refused (refusal (pending_checks c s t ++ ((true ⇒ 40) ∷ []))))

-- 01: "a table, events or positions (1,024) not of `listing`'s size 11, 15 or 40 in place": a table is 6,145 words
unfoldable pub asked_ring : Committee → Bytes → Bytes → AuthoritySet → Option TransactionLocator → ℕ → Answer Ring
asked_ring c s t r o n = pick (eqb (length t) 49160) (ring_in c s (words_of t) r o n) (refused (refusal_before 11 c s))

-- what the call answers, and the bytes of `found` afterwards
pub record RingCall : Type 0 where
  pub answer : Answer ℕ
  pub found : Bytes

-- the number of owners; three words, the set's two and the stake. A refusal writes nothing
unfoldable pub ring_told : Answer Ring → Bytes → RingCall
ring_told (answered g) f = record { answer = answered (number_of_voters g.owners); found = bytes_of (g.owners.low ∷ g.owners.high ∷ g.stake ∷ []) }
ring_told (refused n) f = record { answer = refused n; found = f }

-- 02: "For a pending locator and a set of owners who can be reached .., give the fewest further owners .., and their stake"
unfoldable pub whom_to_ring_call : Bytes → Bytes → Bytes → ℕ → ℕ → Bytes → Bytes → RingCall
whom_to_ring_call stakes s t low high b f = ring_told (asked_ring (committee_of stakes) s t (record { low = low; high = high }) (locator_of b) (length f)) f

-- the same for any set of voters: a slice of n bytes that are not three words is 40, after 5 and before 60
unfoldable pub fewest_in : Committee → AuthoritySet → AuthoritySet → ℕ → Answer Ring
fewest_in c v r n = pick (eqb n 24) (ring c v r) (refused (refusal ((broken c ⇒ 5) ∷ (true ⇒ 40) ∷ [])))

unfoldable pub fewest_owners_call : Bytes → ℕ → ℕ → ℕ → ℕ → Bytes → RingCall
fewest_owners_call stakes vl vh rl rh f =
    ring_told (fewest_in (committee_of stakes) (record { low = vl; high = vh }) (record { low = rl; high = rh }) (length f)) f
