-- Whom to ring for a pending locator. Assumes nothing: these are definitions.
use Rattle.std.specs.Prelude.{ℕ, ◌≡◌, List}
use Rattle.std.proofs.Math.Option.{Option, none, some}
use Rattle.base.specs.Lists.{pick}
use Rattle.base.specs.Le.{Bytes}
use Rattle.base.specs.Checks.{refusal, passes, Answer, refused}
use Rattle.committee.specs.Committee.{Committee}
use Rattle.committee_set.specs.AuthoritySet.{AuthoritySet}
use Rattle.ring_owners.specs.Ranked.{Ring, ring}
use Rattle.record_spec.specs.Reference.{TransactionLocator}
use Rattle.store_spec.specs.Layout.{entries, position_of, lookup}
use Rattle.store_spec.specs.Store.{records_of}
use Rattle.pending_spec.specs.Items.{Item, item_at}
use Rattle.pending_spec.specs.Table.{items_of}
use Rattle.feed_spec.specs.Pending.{pending_checks, pending}

-- 02: "A locator that is not pending gets 42 first"; of a pending one the votes counted are its item's
unfoldable pub ring_for : Committee → AuthoritySet → Option Item → Answer Ring
ring_for c r none = refused 42
ring_for c r (some x) = ring c x.aggregator.votes r

-- of a store and a table in order
unfoldable pub ring_at : Committee → Bytes → List ℕ → AuthoritySet → TransactionLocator → Answer Ring
ring_at c s t r l = ring_for c r (item_at (items_of t) (position_of (lookup (entries (records_of s)) l.block)) l.offset)

-- 02: "For a pending locator and a set of owners who can be reached .., give the fewest further owners .., and their stake": 5, 10, 11 as in the
-- pending question, then 42, then 60
unfoldable pub whom_to_ring : Committee → Bytes → List ℕ → AuthoritySet → TransactionLocator → Answer Ring
whom_to_ring c s t r l = pick (passes (pending_checks c s t)) (ring_at c s t r l) (refused (refusal (pending_checks c s t)))

pub record Claims : Type 0 where
  -- what refuses the pending question refuses this one, with the same number and before 60
  pub refused_alike : (c : Committee) (s : Bytes) (t : List ℕ) (r : AuthoritySet) (l : TransactionLocator) (n : ℕ) → pending c s t l ≡ refused n
      → whom_to_ring c
      s t r l ≡ refused n
