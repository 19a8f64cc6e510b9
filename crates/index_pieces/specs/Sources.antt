-- Machinery for the contracts of private functions: parts of the index as sources, each with a cursor, and what they and a block's own votes name
-- together from a place on. Assumes nothing: these are definitions.
use Rattle.std.specs.Prelude.{ℕ, zero, suc, ◌+◌, ◌*◌, ◌≤◌, ◌<◌, ◌≡◌, List, length, get_or, drop}
use Rattle.std.proofs.Math.Option.{Option}
use Rattle.committee_set.specs.AuthoritySet.{AuthoritySet, nobody, united}
use Rattle.record_spec.specs.Reference.{TransactionLocator}
use Rattle.index_spec.specs.Runs.{Run, run, voters_in}
use Rattle.index_spec.specs.Walk.{Place, anywhere, beyond, At, NextRun, runs_from}
use Rattle.index_spec.proofs.Chain.{Anything, Chain}
use Rattle.index_pieces.specs.Pieces.{Piece, PieceOr}

-- where a source's next run stands, and how many are left
unfoldable pub cursor_at : List ℕ → ℕ → ℕ
cursor_at cs k = get_or cs (2 * k) 0

unfoldable pub cursor_left : List ℕ → ℕ → ℕ
cursor_left cs k = get_or cs (2 * k + 1) 0

-- the runs that are left of a source
unfoldable pub source : List ℕ → List ℕ → ℕ → List Run
source ix cs k = runs_from (cursor_left cs k) (drop (cursor_at cs k) ix)

-- whom the first n sources name together
unfoldable pub named_by : List ℕ → List ℕ → ℕ → TransactionLocator → AuthoritySet
named_by ix cs zero l = nobody
named_by ix cs (suc n) l = united (named_by ix cs n l) (voters_in (source ix cs n) l)

-- n cursors into the index, each before ascending runs
pub record Ready (ix cs : List ℕ) (n : ℕ) : Type 0 where
  pub room : 2 * n ≤ length cs
  pub inside : (k : ℕ) → k < n → cursor_at cs k + 10 * cursor_left cs k ≤ length ix
  pub chains : (k : ℕ) → k < n → Chain Anything anywhere (source ix cs k)

-- cursors that were moved on, and name the same from the place on
pub record Moved (ix : List ℕ) (n : ℕ) (p : Place) (cs₀ cs : List ℕ) : Type 0 where
  pub long : length cs ≡ length cs₀
  pub ready : Ready ix cs n
  pub names : (l : TransactionLocator) → At p l.block l.offset → named_by ix cs n l ≡ named_by ix cs₀ n l

-- whom a source in some words and n in the index name together
unfoldable pub together : List ℕ → List ℕ → List ℕ → List ℕ → ℕ → TransactionLocator → AuthoritySet
together own ms ix cs n l = united (named_by own ms 1 l) (named_by ix cs n l)

-- from the end of a run on they name together whom f names
pub record Merging (f : TransactionLocator → AuthoritySet) (own ms ix cs : List ℕ) (n : ℕ) (x : Run) : Type 0 where
  pub told : (l : TransactionLocator) → At (beyond x.reference x.end) l.block l.offset → together own ms ix cs n l ≡ f l

unfoldable pub ended : Run → ℕ → Run
ended x e = run x.reference x.start e x.votes

-- the run that begins with a piece, and what is known after it
pub record GrownFrom (own ms₀ ms ix : List ℕ) (n : ℕ) (cs₀ cs : List ℕ) (first x : Run) (next : Option Run) : Type 0 where
  pub long : length cs ≡ length cs₀
  pub own_long : length ms ≡ length ms₀
  pub ready : Ready ix cs n
  pub own_ready : Ready own ms 1
  pub merging : (f : TransactionLocator → AuthoritySet) → Merging f own ms₀ ix cs₀ n first → Merging f own ms ix cs n x
  pub piece : (f : TransactionLocator → AuthoritySet) → Merging f own ms₀ ix cs₀ n first → PieceOr f (beyond x.reference x.end) next
  pub run : (f : TransactionLocator → AuthoritySet) (p : Place) → Merging f own ms₀ ix cs₀ n first → Piece f p first → NextRun f p x
