-- The engine with the index keeps its promises. Assumes nothing: these are definitions.
use Rattle.std.specs.Prelude.{◌≡◌, ◌↔◌, true, false, List}
use Rattle.std.proofs.Math.Option.{Option}
use Rattle.base.specs.Lists.{◌∈◌}
use Rattle.base.specs.Le.{Bytes}
use Rattle.base.specs.Checks.{refused}
use Rattle.committee.specs.Committee.{Committee, broken}
use Rattle.record_spec.specs.Reference.{TransactionLocator}
use Rattle.store_spec.specs.Store.{store_in_order}
use Rattle.final_spec.specs.NextFinal.{FinalList}
use Rattle.list_stretches_spec.specs.Stretches.{Listing}
use Rattle.list_stretches_spec.specs.Bulk.{list_stretches}
use Rattle.list_ordinary_spec.specs.FinalShares.{FinalShareList}
use Rattle.index_spec.specs.Index.{index_of, used_part}
use Rattle.index_list_spec.specs.Indexed.{list_stretches_indexed}
use Rattle.final_readings_spec.specs.Readings.{Reading}
use Rattle.mission_theorems.specs.Feeds.{Feed, outcome, stored_records}
use Rattle.mission_theorems.specs.ThirdStatement.{Holds, engine_of, accepted_of}
use Rattle.trust_theorems.specs.Staying.{StillFinal}
use Rattle.index_theorems.specs.Indexed.{IndexedEngine, outcome_indexed, run_indexed, IndexedStart, engine_indexed, accepted_indexed_of, without55}

pub record IndexStatement : Type 0 where
  -- 02: "After any list of feeds with it the index equals the one worked out afresh from the store"
  pub afresh : (c : Committee) (t : IndexedStart) → used_part (engine_indexed c t).index ≡ index_of (engine_indexed c t).engine.store
  -- so 54 never refuses on the way: after any list, a further feed answers, and leaves store, table and events, as one without the index does, wherever
  -- 55 does not refuse
  pub alike : (c : Committee) (t : IndexedStart) (f : Feed) → ((outcome_indexed c (engine_indexed c t) f).fed.answer ≡ refused 55 → ⊥)
      → (outcome_indexed c (engine_indexed c t) f).fed ≡ outcome c (engine_indexed c t).engine f
  -- the whole list leaves store and table as the list without the feeds that 55 refused does, and accepts the same records with the same events
  pub engine : (c : Committee) (t : IndexedStart) → (engine_indexed c t).engine ≡ engine_of c (without55 c t)
  pub accepted : (c : Committee) (t : IndexedStart) → accepted_indexed_of c t ≡ accepted_of c (without55 c t)
  -- 02: "listings with it equal listings without it": every list over the engine that was fed with the index, as many stretches as a slice holds, from
  -- wherever it goes on
  pub lists : (c : Committee) (t : IndexedStart) (k : Listing) (out : Bytes) (after : Option TransactionLocator)
      → list_stretches_indexed c (engine_indexed c t).engine.store (engine_indexed c t).index k out after ≡ list_stretches c (engine_indexed c t).engine.store
      k out after

-- "leaves the same records stored, in whatever order"
abbrev pub SameStored : Committee → IndexedStart → IndexedStart → Type 0
SameStored c t u = (r : Bytes) → (r ∈ stored_records (accepted_indexed_of c t)) ↔ (r ∈ stored_records (accepted_indexed_of c u))

-- the mission's third statement, of the engine with the index
pub record IndexedThird : Type 0 where
  -- "Take a fresh engine under one committee. After every list of feeds from there, records good and bad, refused ones included, this holds."
  pub every : (c : Committee) → broken c ≡ false → (t : IndexedStart) → Holds c (engine_indexed c t).engine (accepted_indexed_of c t)
  -- "Every other list from a fresh engine under that committee that leaves the same records stored, in whatever order, gives the same final list.":
  -- the same wide list
  pub same_list : (c : Committee) → broken c ≡ false → (t u : IndexedStart) → SameStored c t u → (ls ms : List TransactionLocator)
      → FinalList c (engine_indexed c t).engine.store ls → FinalList c (engine_indexed c u).engine.store ms → ls ≡ ms
  -- and the same ordinary one
  pub same_shares : (c : Committee) → broken c ≡ false → (t u : IndexedStart) → SameStored c t u → (ls ms : List TransactionLocator)
      → FinalShareList c (engine_indexed c t).engine.store ls → FinalShareList c (engine_indexed c u).engine.store ms → ls ≡ ms

-- what is final stays final after every further list of feeds with the index, in both readings
pub record IndexedStays : Type 0 where
  -- from any store in order, whatever table and index stand beside it
  pub further : (reading : Reading) (c : Committee) → broken c ≡ false → (g : IndexedEngine) → store_in_order c g.engine.store ≡ true → (fs : List Feed)
      → StillFinal reading c g.engine.store (run_indexed c g fs).engine.store
  -- so from every engine that a list of feeds from fresh left
  pub fed : (reading : Reading) (c : Committee) → broken c ≡ false → (t : IndexedStart) (fs : List Feed)
      → StillFinal reading c (engine_indexed c t).engine.store (run_indexed c (engine_indexed c t) fs).engine.store
