-- What is final stays final while records arrive. Assumes nothing: these are definitions.
use Rattle.std.specs.Prelude.{ℕ, ◌≤◌, ◌≡◌, Bool, true, false, List, length, take}
use Rattle.base.specs.Lists.{keep, ◌∈◌}
use Rattle.base.specs.Le.{Bytes}
use Rattle.base.specs.Checks.{answered}
use Rattle.committee.specs.Committee.{Committee, broken}
use Rattle.record_spec.specs.Reference.{TransactionLocator}
use Rattle.store_spec.specs.Layout.{Entry, entries}
use Rattle.store_spec.specs.Store.{records_of, store_in_order}
use Rattle.store_spec.specs.Shares.{is_stored_share}
use Rattle.final_spec.specs.Finality.{blocks_of}
use Rattle.final_readings_spec.specs.Readings.{Reading, is_final_in}
use Rattle.final_readings_spec.specs.Finality.{finality_in}
use Rattle.final_readings_spec.specs.NextFinal.{FinalListIn}
use Rattle.mission_theorems.specs.Feeds.{Feed, Engine, run}
use Rattle.mission_theorems.specs.ThirdStatement.{Start, engine_of}

-- what holds from a store s to the store t that it has become
pub record StillFinal (reading : Reading) (c : Committee) (s t : Bytes) : Type 0 where
  -- 02: "once a locator is final, it is final after .."
  pub final : (l : TransactionLocator) → is_final_in reading c (blocks_of s) l ≡ true → is_final_in reading c (blocks_of t) l ≡ true
  -- so the question that answered final answers final, in any position slice that is long enough
  pub answered_final : (l : TransactionLocator) (ps qs : List ℕ) (n : ℕ) → (finality_in reading c s ps l).answer ≡ answered
      (record { final = true; certifying = n })
      → length (records_of t) ≤ length qs → (m : ℕ) × ((finality_in reading c t qs l).answer ≡ answered (record { final = true; certifying = m }))
  -- 02: "with all its earlier certifying blocks still named": each position that the question wrote it writes again
  pub named : (l : TransactionLocator) (ps qs : List ℕ) (f g : Bool) (n m : ℕ)
      → (finality_in reading c s ps l).answer ≡ answered (record { final = f; certifying = n })
      → (finality_in reading c t qs l).answer ≡ answered (record { final = g; certifying = m })
      → (p : ℕ) → p ∈ take n (finality_in reading c s ps l).positions → p ∈ take m (finality_in reading c t qs l).positions
  -- and a position names the block that it named
  pub entered : (e : Entry) → e ∈ entries (records_of s) → e ∈ entries (records_of t)
  -- what the list gave, asked on from the start until none, it gives, and of that the stored shares
  pub listed : (ls ms : List TransactionLocator) → FinalListIn reading c s ls → FinalListIn reading c t ms
      → (l : TransactionLocator) → (l ∈ ls → l ∈ ms) × (l ∈ keep (is_stored_share (blocks_of s)) ls → l ∈ keep (is_stored_share (blocks_of t)) ms)

-- 02: "once a locator is final, it is final after every further list of feeds to that store under the same committee, with all its earlier certifying
-- blocks still named. Cover both readings."
pub record StaysFinal : Type 0 where
  -- to any store in order, whatever table stands beside it; records good and bad, refused ones included
  pub further : (reading : Reading) (c : Committee) → broken c ≡ false → (g : Engine) → store_in_order c g.store ≡ true → (fs : List Feed) → StillFinal
      reading c g.store (run c g fs).store
  -- so to every engine that a list of feeds from fresh left
  pub fed : (reading : Reading) (c : Committee) → broken c ≡ false → (t : Start) (fs : List Feed) → StillFinal reading c (engine_of c t).store
      (run c (engine_of c t) fs).store
