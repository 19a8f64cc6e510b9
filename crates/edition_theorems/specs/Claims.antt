-- What is counted ignores times and editions, as claims. Assumes nothing: these are definitions.
use Rattle.std.specs.Prelude.{ℕ, ◌≡◌, true, false, List, map, length}
use Rattle.std.proofs.Math.Option.{Option, some}
use Rattle.base.specs.Le.{Bytes}
use Rattle.committee.specs.Committee.{Committee, broken}
use Rattle.record_spec.specs.Reference.{TransactionLocator}
use Rattle.record_spec.specs.Block.{Block}
use Rattle.record_spec.specs.Record.{Edition, Timed, well_formed, block_in, bytes_in, timed_bytes}
use Rattle.record_spec.specs.Claims.{are_bytes, fits_in}
use Rattle.store_spec.specs.Layout.{blocks, Record, read_record}
use Rattle.store_spec.specs.Accept.{block_checks, all_accepted}
use Rattle.feed_spec.specs.ProcessBlock.{Event}
use Rattle.final_spec.specs.Voters.{is_final}
use Rattle.final_spec.specs.Finality.{blocks_of}
use Rattle.final_spec.specs.NextFinal.{FinalList}
use Rattle.list_ordinary_spec.specs.FinalShares.{FinalShareList}
use Rattle.mission_theorems.specs.Feeds.{Feed, Accepted}
use Rattle.mission_theorems.specs.ThirdStatement.{Start, engine_of, accepted_of}

-- ---- 02: "Reading and accepting are shown with the edition as a parameter"

-- accepting looks at blocks alone: records of the same blocks, whatever their bytes
pub record SameAccepted (c : Committee) (rs qs : List Record) : Type 0 where
  pub checks : (b : Block) → block_checks c rs b ≡ block_checks c qs b
  pub accepted : all_accepted c rs ≡ all_accepted c qs

pub record Accepting : Type 0 where
  -- a record of either edition is fed as its block
  pub read : (e : Edition) (t : Timed) → fits_in e t ≡ true → read_record (bytes_in e t) ≡ some (record { bytes = bytes_in e t; block = t.block })
  pub same : (c : Committee) (rs qs : List Record) → blocks rs ≡ blocks qs → SameAccepted c rs qs

-- ---- 02: "everything voted or final ignores the time"

-- the blocks that fed records say
unfoldable pub blocks_said : List Feed → List Block
blocks_said fs = map (λ f. block_in f.bytes) fs

-- 02: "two lists from a fresh engine under one committee that differ in times and editions alone, each record of both accepted"
pub record TimesApart (c : Committee) (t u : Start) : Type 0 where
  pub blocks : blocks_said t.feeds ≡ blocks_said u.feeds
  pub first : length (accepted_of c t) ≡ length t.feeds
  pub second : length (accepted_of c u) ≡ length u.feeds

-- records that say the same block are it, written with one time or none and with another or none
pub record Apart (r q : Bytes) : Type 0 where
  pub block : Block
  pub one : Option ℕ
  pub other : Option ℕ
  pub first : r ≡ timed_bytes (record { block = block; time = one })
  pub second : q ≡ timed_bytes (record { block = block; time = other })

-- the events of each accepted record, the last first
unfoldable pub events_told : List Accepted → List (List Event)
events_told as' = map (λ a. a.events) as'

-- 02: "give the same events and final locators"
pub record SameCounts (c : Committee) (t u : Start) : Type 0 where
  pub events : events_told (accepted_of c t) ≡ events_told (accepted_of c u)
  -- the stored blocks are the same, and with them everything final
  pub blocks : blocks_of (engine_of c t).store ≡ blocks_of (engine_of c u).store
  pub final : (l : TransactionLocator) → is_final c (blocks_of (engine_of c t).store) l ≡ is_final c (blocks_of (engine_of c u).store) l
  -- the wide list, and the ordinary one
  pub list : broken c ≡ false → (ls ms : List TransactionLocator) → FinalList c (engine_of c t).store ls → FinalList c (engine_of c u).store ms → ls ≡ ms
  pub shares : broken c ≡ false → (ls ms : List TransactionLocator) → FinalShareList c (engine_of c t).store ls → FinalShareList c (engine_of c u).store ms →
      ls ≡ ms

pub record Claims : Type 0 where
  pub accepting : Accepting
  pub apart : (r q : Bytes) → are_bytes r ≡ true → are_bytes q ≡ true → well_formed r ≡ true → well_formed q ≡ true → block_in r ≡ block_in q → Apart r q
  pub ignores : (c : Committee) (t u : Start) → TimesApart c t u → SameCounts c t u
