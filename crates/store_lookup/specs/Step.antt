-- Where a new block goes in the chain: machinery for the contracts of the functions that accept a record. Assumes nothing: these are definitions.
use Rattle.std.specs.Prelude.{ℕ, ◌≡◌, true, List, [], ◌∷◌, ◌++◌}
use Rattle.base.specs.Lists.{◌∈◌}
use Rattle.base.specs.Le.{Bytes}
use Rattle.record_spec.specs.Reference.{BlockReference, reference_before}
use Rattle.store_spec.specs.Layout.{Entry, reference_of, entries, position_of, ascending}
use Rattle.store_spec.specs.Store.{records_of}
use Rattle.store_spec.specs.Step.{first}

-- the position of the last entry; zero where there is none
pub data LastAt : List Entry → ℕ → Type 0 where
  none_last : LastAt [] 0
  last_at : (es : List Entry) (e : Entry) → LastAt (es ++ (e ∷ [])) e.position

-- of the entries in ascending order those lower than a reference, the last of them at `below`, and those higher, the first of them at `above`
pub record Neighbours (s : Bytes) (r : BlockReference) (below above : ℕ) : Type 0 where
  pub lower : List Entry
  pub higher : List Entry
  pub sorted : ascending (entries (records_of s)) ≡ lower ++ higher
  pub last : LastAt lower below
  pub next : above ≡ position_of (first higher)
  pub low : (e : Entry) → e ∈ lower → reference_before (reference_of e) r ≡ true
  pub high : (e : Entry) → e ∈ higher → reference_before r (reference_of e) ≡ true
