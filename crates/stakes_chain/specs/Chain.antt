-- 02: the chain of records in the file `stakes`. Assumes nothing: these are definitions.
use Rattle.std.specs.Prelude.{ℕ, zero, suc, ◌+◌, ◌<◌, ◌≤◌, ◌≡◌, true, List, [], ◌∷◌, eqb, length, get_or}
use Rattle.std.proofs.Math.Option.{Option, none, some}
use Rattle.base.specs.Lists.{pick, Once}
use Rattle.base.specs.Le.{Bytes}
use Rattle.stakes_chain.specs.Layout.{well_sized, record_count, place, first_index, next_index, in_file}

-- 02: "zero ends the chain": from an index on, the indexes that follow each other
pub data Chain (f : Bytes) : ℕ → List ℕ → Type 0 where
  ends : Chain f 0 []
  links : {i : ℕ} {later : List ℕ} → in_file f i ≡ true → Chain f (next_index f i) later → Chain f i (i ∷ later)

-- 02: "The whole chain is checked: the indexes lie in the file, none occurs a second time"
pub record Chained (f : Bytes) (indexes : List ℕ) : Type 0 where
  pub sized : well_sized f ≡ true
  pub chain : Chain f (first_index f) indexes
  pub once : Once indexes

-- the same, worked out: at most n steps
unfoldable pub linked : ℕ → Option (List ℕ) → Option (List ℕ)
linked i none = none
linked i (some later) = some (i ∷ later)

unfoldable pub chain_from : ℕ → Bytes → ℕ → Option (List ℕ)
chain_from zero f i = pick (eqb i 0) (some []) none
chain_from (suc n) f i = pick (eqb i 0) (some []) (pick (in_file f i) (linked i (chain_from n f (next_index f i))) none)

-- the chain of a file, where it is good: it has no more indexes than the file has records
unfoldable pub chain_of : Bytes → Option (List ℕ)
chain_of f = pick (well_sized f) (chain_from (record_count f) f (first_index f)) none

-- machinery for the contracts of inner functions: the records of these indexes lie in the file
pub record Inside (f : Bytes) (indexes : List ℕ) : Type 0 where
  pub above : (k : ℕ) → k < length indexes → 0 < get_or indexes k 0
  pub below : (k : ℕ) → k < length indexes → place (get_or indexes k 0) + 26 ≤ length f
