-- Machinery for the contracts of inner functions: a run against one source that has its offsets or begins past it. Assumes nothing: these are
-- definitions.
use Rattle.std.specs.Prelude.{ℕ, ◌+◌, ◌*◌, ◌≤◌, ◌<◌, ◌≡◌, List, length, drop}
use Rattle.committee_set.specs.AuthoritySet.{AuthoritySet, nobody}
use Rattle.record_spec.specs.Reference.{TransactionLocator, locator}
use Rattle.index_spec.specs.Runs.{Run, voters_in}
use Rattle.index_spec.specs.Walk.{Past, anywhere, runs_from}
use Rattle.index_spec.proofs.Chain.{Anything, Chain}
use Rattle.std.specs.Prelude.{None, Some, Option}
use Rattle.index_source_meeting.specs.declared.Onward as onward

-- f names these at every offset of a run, those at its end, and nobody before it
pub record Meets (x : Run) (f : TransactionLocator → AuthoritySet) (votes after : AuthoritySet) : Type 0 where
  pub told : (o : ℕ) → x.start ≤ o → o < x.end → f (locator x.reference o) ≡ votes
  pub end : f (locator x.reference x.end) ≡ after
  pub first : (l : TransactionLocator) → Past l.block (l.offset + 1) x.reference x.start → f l ≡ nobody

-- runs ys meet a run; those that are left past it, zs, name the same from its end on
pub record MetBy (x : Run) (ys zs : List Run) (votes after : AuthoritySet) : Type 0 where
  pub meets : Meets x (voters_in ys) votes after
  pub chain : Chain Anything anywhere zs
  pub names : (l : TransactionLocator) → Past x.reference x.end l.block l.offset → voters_in zs l ≡ voters_in ys l

unfoldable pub SourceMet : Run → List ℕ → ℕ → ℕ → Option onward.Onward → Type 0
SourceMet x ws at left (Some m) =
    (m.at + 10 * m.left ≤ length ws)
    × (x.start < x.end → Chain Anything anywhere (runs_from left (drop at ws)) → MetBy x (runs_from left (drop at ws))
    (runs_from m.left (drop m.at ws)) m.votes m.after)
SourceMet x ws at left None = Unit {0}
