-- Machinery for the contracts of inner functions: what counting a vote needs and leaves. Assumes nothing: these are definitions.
use Rattle.std.specs.Prelude.{ℕ, ◌≡◌, Bool, true, false, List, [], leb, length}
use Rattle.base.specs.Le.{Bytes}
use Rattle.committee.specs.Committee.{Committee, Stake, total_stake, broken, known}
use Rattle.record_spec.specs.Block.{author}
use Rattle.record_spec.specs.Record.{well_formed, block_in}
use Rattle.store_spec.specs.Store.{records_of}
use Rattle.store_spec.specs.Accept.{is_stored}
use Rattle.store_spec.specs.Entry.{laid_out}
use Rattle.pending_spec.specs.Items.{Item}
use Rattle.pending_spec.specs.Table.{table_of, room, table_in_order}
use Rattle.feed_spec.specs.ProcessBlock.{Processing}
use Rattle.feed_counted_vote.specs.declared.Processed.{Processed}
use Rattle.feed_events.specs.Step.{StatedAt, told}
use Rattle.feed_missed.specs.Kinds.{with_new}

-- items before any vote is counted
abbrev pub starting_with : List Item → Processing
starting_with xs = record { items = xs; events = []; most = 0 }

-- what counting a vote needs of the committee, the store, the record and the table
pub record Voting (c : Committee) (s rec : Bytes) (t : List ℕ) (total : Stake) : Type 0 where
  pub committee : broken c ≡ false
  pub stake : total ≡ total_stake c
  pub store : laid_out s ≡ true
  pub formed : well_formed rec ≡ true
  pub new : is_stored (records_of s) (block_in rec).reference ≡ false
  pub author_known : known c (author (block_in rec)) ≡ true
  pub table : table_in_order c (with_new s rec) t ≡ true

-- what counting votes leaves of a table and of events, after n others: v is to be counted, from the items of the table
pub record VotesCounted (v : Processing) (telling : Bool) (n : ℕ) (t ev : List ℕ) (r : Processed) (u after : List ℕ) : Type 0 where
  pub fits : r.fits ≡ leb v.most (room t)
  pub table : r.fits ≡ true → u ≡ table_of (length t) v.items
  pub stated : r.fits ≡ true → StatedAt n (told telling v.events) ev r.events after
  pub silent : telling ≡ false → after ≡ ev
