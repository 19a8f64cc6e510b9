-- Paths, one include at a time. Assumes nothing.
use mathlib.Core.Path.{◌≡◌, refl, sym, ap}
use mathlib.Core.List.{List, [], ◌∷◌}
use mathlib.Core.Option.{Option, none, some}
use Prim.Native.Nat.{ℕ, zero, suc, ◌+◌, ◌≤◌, ◌<◌}
use native.Mathlib.Omega.{arith}
use lib.ListN.{length, get_or, get_elem?, drop, drop_of_length-le}
use Rattle.base.specs.Le.{Bytes}
use Rattle.base.proofs.Loops.{drop_next}
use Rattle.record_spec.specs.Reference.{BlockReference}
use Rattle.record_spec.specs.Block.{Block}
use Rattle.record_spec.specs.Record.{no_reference}
use Rattle.slip_spec.specs.Paths.{named, Led, to_block, nowhere, not_given, on_from, on_by, leads}
use Rattle.slip_read_records.specs.Places.{block_at_place}
use Rattle.slip_read_paths.specs.declared.Led as code
use Rattle.slip_read_paths.specs.declared.Led.TheVariants.{To, Nowhere, NotGiven}
use Rattle.slip_read_paths.specs.Walk.{InPlace, LedTo, to_place, ends, missing}

-- ---- an include

-- the block led to differs from the other cases
to_nowhere : (d : Block) → to_block d ≡ nowhere → ⊥
to_nowhere d h = let z : ◌≡◌ {A = ℕ} 0 1 = cc in omega arith

to_missing : (d : Block) → to_block d ≡ not_given → ⊥
to_missing d h = let z : ◌≡◌ {A = ℕ} 0 1 = cc in omega arith

apart : nowhere ≡ not_given → ⊥
apart h = let z : ◌≡◌ {A = ℕ} 0 1 = cc in omega arith

pub from_block : (o : Option Block) (d : Block) → on_from to_block o ≡ to_block d → o ≡ some d
unfolding on_from
from_block none d h = absurd (to_missing d (sym h))
from_block (some b) d h = let e : b ≡ d = cc in ap some e

pub from_none : (o : Option Block) → on_from to_block o ≡ not_given → o ≡ none
unfolding on_from
from_none none h = refl
from_none (some b) h = absurd (to_missing b h)

pub from_somewhere : (o : Option Block) → on_from to_block o ≡ nowhere → ⊥
unfolding on_from
from_somewhere none h = apart (sym h)
from_somewhere (some b) h = to_nowhere b h

module _ (bs : List Block) (f : Block → Led) where
  by_block : (x : Option BlockReference) (d : Block) → on_by bs to_block x ≡ to_block d → on_by bs f x ≡ f d
  unfolding on_by on_from
  by_block none d h = absurd (to_nowhere d (sym h))
  by_block (some r) d h = rw (from_block (named bs r) d h)

  by_nowhere : (x : Option BlockReference) → on_by bs to_block x ≡ nowhere → on_by bs f x ≡ nowhere
  unfolding on_by
  by_nowhere none h = refl
  by_nowhere (some r) h = absurd (from_somewhere (named bs r) h)

  by_missing : (x : Option BlockReference) → on_by bs to_block x ≡ not_given → on_by bs f x ≡ not_given
  unfolding on_by on_from
  by_missing none h = absurd (apart h)
  by_missing (some r) h = rw (from_none (named bs r) h)

-- ---- a path from its index i on

module _ (bs : List Block) (ps : List ℕ) (i : ℕ) (b : Block) where
  abbrev include : Option BlockReference
  include = get_elem? b.includes (get_or ps i 0)

  pub walks_on : (d : Block) → i < length ps → on_by bs to_block include ≡ to_block d → leads bs (drop i ps) b ≡ leads bs (drop (i + 1) ps) d
  unfolding leads
  walks_on d h e = rw (drop_next ps i h) (by_block bs (leads bs (drop (i + 1) ps)) include d e)

  pub walks_nowhere : i < length ps → on_by bs to_block include ≡ nowhere → leads bs (drop i ps) b ≡ nowhere
  unfolding leads
  walks_nowhere h e = rw (drop_next ps i h) (by_nowhere bs (leads bs (drop (i + 1) ps)) include e)

  pub walks_missing : i < length ps → on_by bs to_block include ≡ not_given → leads bs (drop i ps) b ≡ not_given
  unfolding leads
  walks_missing h e = rw (drop_next ps i h) (by_missing bs (leads bs (drop (i + 1) ps)) include e)

  pub walks_end : length ps ≤ i → leads bs (drop i ps) b ≡ to_block b
  unfolding leads
  walks_end h = rw (drop_of_length-le ps h)

-- ---- where the code is led to

module _ (q : Bytes) (order : List ℕ) where
  pub led_block : (r : code.Led) (l : Led) (j : ℕ) → r ≡ To j → LedTo q order r l → (j < length order) × (l ≡ to_block (block_at_place q order j))
  led_block r l j e (to_place k h) = let z : k ≡ j = cc in (rw (← z) h, rw z)
  led_block r l j e ends = absurd (let z : ◌≡◌ {A = ℕ} 0 1 = cc in omega arith)
  led_block r l j e missing = absurd (let z : ◌≡◌ {A = ℕ} 0 1 = cc in omega arith)

  pub led_nowhere : (r : code.Led) (l : Led) → r ≡ Nowhere → LedTo q order r l → l ≡ nowhere
  led_nowhere r l e (to_place k h) = absurd (let z : ◌≡◌ {A = ℕ} 0 1 = cc in omega arith)
  led_nowhere r l e ends = refl
  led_nowhere r l e missing = absurd (let z : ◌≡◌ {A = ℕ} 0 1 = cc in omega arith)

  pub led_missing : (r : code.Led) (l : Led) → r ≡ NotGiven → LedTo q order r l → l ≡ not_given
  led_missing r l e (to_place k h) = absurd (let z : ◌≡◌ {A = ℕ} 0 1 = cc in omega arith)
  led_missing r l e ends = absurd (let z : ◌≡◌ {A = ℕ} 0 1 = cc in omega arith)
  led_missing r l e missing = refl

-- ---- an include at an index

module _ {A : Type 0} (d : A) where
  at_index : (xs : List A) (k : ℕ) → k < length xs → get_elem? xs k ≡ some (get_or xs k d)
  at_index [] k h = absurd (omega arith)
  at_index (x ∷ xs) zero h = refl
  at_index (x ∷ xs) (suc k) h = at_index xs k (omega arith)

  past_index : (xs : List A) (k : ℕ) → length xs ≤ k → get_elem? xs k ≡ none
  past_index [] k h = refl
  past_index (x ∷ xs) zero h = absurd (omega arith)
  past_index (x ∷ xs) (suc k) h = past_index xs k (omega arith)

-- ---- one include on, as the code reads it

module _ (bs : List Block) (b : Block) (k : ℕ) where
  pub step_past : length b.includes ≤ k → on_by bs to_block (get_elem? b.includes k) ≡ nowhere
  unfolding on_by
  step_past h = rw (past_index no_reference b.includes k h)

  pub step_at : k < length b.includes → on_by bs to_block (get_elem? b.includes k) ≡ on_from to_block (named bs (get_or b.includes k no_reference))
  unfolding on_by
  step_at h = rw (at_index no_reference b.includes k h)

pub in_place : (q : Bytes) (order : List ℕ) (r : code.Led) (l : Led) → LedTo q order r l → InPlace order r
unfolding InPlace
in_place q order r l (to_place j h) = h
in_place q order r l ends = tt
in_place q order r l missing = tt
