-- Runs: stretches of offsets of one block with the same voters, and many of them made one ascending list. Assumes nothing: these are definitions.
use Rattle.std.specs.Prelude.{ℕ, Bool, not, ◌&&◌, ◌||◌, List, [], ◌∷◌, ◌++◌, ltb, leb, eqb}
use Rattle.base.specs.Lists.{pick}
use Rattle.committee_set.specs.AuthoritySet.{AuthoritySet, nobody, united}
use Rattle.record_spec.specs.Reference.{BlockReference, TransactionLocator, new_range, same_reference, reference_before, covers}

-- 02: "runs ..: author, round, digest, start, end, votes low, votes high"; the end is excluded
pub record Run : Type 0 where
  pub reference : BlockReference
  pub start : ℕ
  pub end : ℕ
  pub votes : AuthoritySet

unfoldable pub run : BlockReference → ℕ → ℕ → AuthoritySet → Run
run r start end v = record { reference = r; start = start; end = end; votes = v }

unfoldable pub run_covers : Run → TransactionLocator → Bool
run_covers x l = covers (new_range x.reference x.start x.end) l

-- whom a run names at a locator
unfoldable pub votes_at : Run → TransactionLocator → AuthoritySet
votes_at x l = pick (run_covers x l) x.votes nobody

-- whom some runs name together at a locator
unfoldable pub voters_in : List Run → TransactionLocator → AuthoritySet
voters_in [] l = nobody
voters_in (x ∷ xs) l = united (votes_at x l) (voters_in xs l)

unfoldable pub same_voters : AuthoritySet → AuthoritySet → Bool
same_voters v w = eqb v.low w.low && eqb v.high w.high

-- one run ends where, or before, the other begins: "ascending" by reference, then start, and disjoint
unfoldable pub run_before : Run → Run → Bool
run_before x y =
    reference_before x.reference y.reference
    || (same_reference x.reference y.reference && leb x.end y.start)

-- one run ends exactly where the other begins
unfoldable pub touches : Run → Run → Bool
touches x y = same_reference x.reference y.reference && eqb x.end y.start

-- ---- one run more among ascending ones: both are cut at the other's edges

-- a run in front, unless it is empty
unfoldable pub unless_empty : Run → List Run → List Run
unless_empty x xs = pick (ltb x.start x.end) (x ∷ xs) xs

-- from offset s on the runs y and x of block r overlap: both together up to the nearer end, then what is left of the other
unfoldable pub overlaid : BlockReference → ℕ → Run → Run → List Run → (Run → List Run) → List Run
overlaid r s y x xs further =
    pick (ltb x.end y.end)
    (run r s x.end (united y.votes x.votes) ∷ further (run r x.end y.end y.votes))
    (run r s y.end (united y.votes x.votes) ∷ unless_empty (run r y.end x.end x.votes) xs)

-- of two runs of block r that overlap, first what stands before the later start
unfoldable pub overlapping : BlockReference → Run → Run → List Run → (Run → List Run) → List Run
overlapping r y x xs further =
    pick (ltb y.start x.start)
    (run r y.start x.start y.votes ∷ overlaid r x.start y x xs further)
    (unless_empty (run r x.start y.start x.votes) (overlaid r y.start y x xs further))

unfoldable pub added : Run → List Run → List Run
added y [] = y ∷ []
added y (x ∷ xs) =
    pick (run_before y x) (y ∷ x ∷ xs)
    (pick (run_before x y) (x ∷ added y xs)
    (overlapping x.reference y x xs (λ z. added z xs)))

-- 02: "at least one" voter, and at least one offset
unfoldable pub says : Run → Bool
says x = ltb x.start x.end && not (same_voters x.votes nobody)

-- any runs, made ascending and disjoint
unfoldable pub gathered : List Run → List Run
gathered [] = []
gathered (x ∷ xs) = pick (says x) (added x (gathered xs)) (gathered xs)

-- ---- neighbours made one

unfoldable pub joined_to : Run → List Run → List Run
joined_to x [] = x ∷ []
joined_to x (y ∷ ys) = pick (touches x y && same_voters x.votes y.votes) (run x.reference x.start y.end x.votes ∷ ys) (x ∷ y ∷ ys)

unfoldable pub joined : List Run → List Run
joined [] = []
joined (x ∷ xs) = joined_to x (joined xs)

-- 02: "each the longest stretch with the same voters, at least one": what any runs say, in such stretches
unfoldable pub stretched : List Run → List Run
stretched xs = joined (gathered xs)

-- what two lists of runs say together
unfoldable pub merged : List Run → List Run → List Run
merged xs ys = stretched (xs ++ ys)
