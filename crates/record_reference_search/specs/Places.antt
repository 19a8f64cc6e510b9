-- References in ascending order, and where one stands among them. Assumes nothing: these are definitions.
use Rattle.std.specs.Prelude.{ℕ, ◌+◌, ◌≤◌, ◌<◌, ◌≡◌, true, List, length, get_or}
use Rattle.base.specs.Le.{Bytes}
use Rattle.record_spec.specs.Reference.{BlockReference, reference_before}
use Rattle.record_reference_bytes.specs.Step.{reference_at}
use Rattle.std.specs.Prelude.{Err, Ok, Result}

-- the reference that stands `skip` bytes after the position at a place
unfoldable pub reference_from : Bytes → List ℕ → ℕ → ℕ → BlockReference
reference_from s order skip j = reference_at s (get_or order j 0 + skip)

-- of n references each comes before those after it
abbrev pub Rising : ℕ → (ℕ → BlockReference) → Type 0
Rising n at = (i j : ℕ) → i < j → j < n → reference_before (at i) (at j) ≡ true

-- they stand in the bytes, and rise
pub record Ascending (s : Bytes) (order : List ℕ) (skip : ℕ) : Type 0 where
  pub inside : (j : ℕ) → j < length order → get_or order j 0 + skip + 48 ≤ length s
  pub rises : Rising (length order) (reference_from s order skip)

-- of n references those below a place are lower, those from it on higher
pub record Between (n : ℕ) (at : ℕ → BlockReference) (r : BlockReference) (j : ℕ) : Type 0 where
  pub most : j ≤ n
  pub below : (i : ℕ) → i < j → reference_before (at i) r ≡ true
  pub above : (i : ℕ) → j ≤ i → i < n → reference_before r (at i) ≡ true

-- the place of a reference among them, or the one that it would have
unfoldable pub FoundAmong : ℕ → (ℕ → BlockReference) → BlockReference → Result ℕ ℕ → Type 0
FoundAmong n at r (Ok j) = (j < n) × (at j ≡ r)
FoundAmong n at r (Err j) = Between n at r j
