-- A block's part of the index, as a relation and computed. Assumes nothing: these are definitions.
use Rattle.std.specs.Prelude.{ℕ, ◌+◌, ◌≤◌, ◌<◌, ◌≡◌, true}
use mathlib.Core.List.{List, [], ◌∷◌, ◌++◌, map, flatten}
use Rattle.base.specs.Lists.{pick, ◌∈◌}
use Rattle.committee_set.specs.AuthoritySet.{AuthoritySet, nobody, inserted}
use Rattle.record_spec.specs.Reference.{BlockReference, TransactionLocator, TransactionLocatorRange, locator, same_reference}
use Rattle.record_spec.specs.Block.{Block, author, spans}
use Rattle.final_spec.specs.Voters.{voters}
use Rattle.index_spec.specs.Runs.{Run, run, run_covers, run_before, touches, stretched}

-- ---- what 02 says of it

-- y stands right after x
pub data Neighbours (x y : Run) : List Run → Type 0 where
  next : {zs : List Run} → Neighbours x y (x ∷ y ∷ zs)
  later : {z : Run} {zs : List Run} → Neighbours x y zs → Neighbours x y (z ∷ zs)

-- 02: "stretch with the same voters, at least one", the voters being those that f tells
pub record Stretch (f : TransactionLocator → AuthoritySet) (x : Run) : Type 0 where
  pub full : x.start < x.end
  pub voted : x.votes ≡ nobody → ⊥
  pub told : (o : ℕ) → x.start ≤ o → o < x.end → f (locator x.reference o) ≡ x.votes

-- 02: "its runs, ascending: .. each the longest stretch with the same voters"; every locator with a voter lies in a run
pub record RunsOf (f : TransactionLocator → AuthoritySet) (runs : List Run) : Type 0 where
  pub stretches : (x : Run) → x ∈ runs → Stretch f x
  pub ascending : (x y : Run) → Neighbours x y runs → run_before x y ≡ true
  pub longest : (x y : Run) → Neighbours x y runs → touches x y ≡ true → x.votes ≡ y.votes → ⊥
  pub complete : (l : TransactionLocator) → (f l ≡ nobody → ⊥) → (x : Run) × (x ∈ runs) × (run_covers x l ≡ true)

-- 02: "for each stored block .. its runs": the part of block b in a store of the blocks bs
abbrev pub PartOf : List Block → Block → List Run → Type 0
PartOf bs b runs = RunsOf (λ l. voters bs l b.reference) runs

-- 02: "each the longest stretch with the same voters": neither the offset after it nor the one before it has the same voters
pub record Longest (f : TransactionLocator → AuthoritySet) (x : Run) : Type 0 where
  pub onward : f (locator x.reference x.end) ≡ x.votes → ⊥
  pub backward : (o : ℕ) → o < x.start → x.start ≤ o + 1 → f (locator x.reference o) ≡ x.votes → ⊥

-- ---- the same, computed

-- the author's vote for a range of locators
unfoldable pub own_run : Block → TransactionLocatorRange → Run
own_run b q = run q.block q.start q.end (inserted nobody (author b))

unfoldable pub own_runs : Block → List Run
own_runs b = map (own_run b) (spans b)

-- the part of a block, from its own votes and the parts of its includes
unfoldable pub part_from : Block → List (List Run) → List Run
part_from b parts = stretched (own_runs b ++ flatten parts)

-- the part of the block of that reference, in a list of blocks, the newest first: the shape of `voters`
unfoldable pub part_in : List Block → BlockReference → List Run
part_in [] r = []
part_in (b ∷ older) r = pick (same_reference b.reference r) (part_from b (map (part_in older) b.includes)) (part_in older r)
