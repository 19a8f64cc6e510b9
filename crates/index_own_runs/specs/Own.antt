-- Machinery for the contracts of inner functions: what a block votes for, as runs in words. Assumes nothing: these are definitions.
use Rattle.std.specs.Prelude.{ℕ, ◌*◌, ◌≤◌, ◌<◌, ◌≡◌, true, List, length}
use Rattle.base.specs.Lists.{◌∈◌}
use Rattle.base.specs.Le.{Bytes}
use Rattle.committee_set.specs.AuthoritySet.{AuthoritySet}
use Rattle.record_spec.specs.Reference.{TransactionLocator, TransactionLocatorRange}
use Rattle.record_spec.specs.Block.{Block, spans}
use Rattle.record_spec.specs.Record.{well_formed, block_in}
use Rattle.record_reference_bytes.specs.Step.{reference_at}
use Rattle.final_spec.specs.Voters.{own_vote}
use Rattle.list_row_sort.specs.Rows.{Row}
use Rattle.index_spec.specs.Runs.{Run, run, voters_in}
use Rattle.index_spec.specs.Walk.{anywhere, runs_from}
use Rattle.index_spec.proofs.Chain.{Anything, Chain}

-- no vote reaches past the last offset
unfoldable pub EndsFit : List TransactionLocatorRange → Type 0
EndsFit qs = (q : TransactionLocatorRange) → q ∈ qs → q.end ≤ 18446744073709551615

-- a well-formed record of a known author whose votes end where offsets end
pub record Voting (r : Bytes) : Type 0 where
  pub formed : well_formed r ≡ true
  pub author : (block_in r).reference.authority < 128
  pub ends : EndsFit (spans (block_in r))

-- a row as a run of these voters
unfoldable pub row_run : Bytes → AuthoritySet → Row → Run
row_run s v r = run (reference_at s r.at) r.offset r.mark v

-- the first m runs of some words ascend, and name the author of a block where it votes
pub record OwnRuns (b : Block) (ws : List ℕ) (m : ℕ) : Type 0 where
  pub inside : 10 * m ≤ length ws
  pub chain : Chain Anything anywhere (runs_from m ws)
  pub names : (l : TransactionLocator) → voters_in (runs_from m ws) l ≡ own_vote b l
