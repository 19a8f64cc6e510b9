-- A record more: its position stands among those of the others, which keep their order. Assumes nothing.
use mathlib.Core.Path.{◌≡◌, refl, ◌∙◌}
use mathlib.Core.Bool.{Bool, true, false}
use mathlib.Core.List.{List, [], ◌∷◌, map}
use Prim.Native.Nat.{ℕ, zero, suc, ◌+◌, ◌-◌, ◌≤◌, ◌<◌}
use native.Mathlib.Omega.{arith}
use native.Mathlib.Numerals.{sub-one}
use lib.ListN.{length, get_or}
use Rattle.base.specs.Lists.{pick}
use Rattle.record_spec.specs.Reference.{reference_before}
use Rattle.store_spec.specs.Layout.{Record, used_by, Entry, reference_of, entries, placed, ascending}
use Rattle.store_spec.specs.Entry.{sorted_positions}

-- a word stands at a place of the new list, the others as they stood in the old one
pub record Inserted (place word : ℕ) (old new : List ℕ) : Type 0 where
  pub long : length new ≡ length old + 1
  pub within : place ≤ length old
  pub own : get_or new place 0 ≡ word
  pub below : (i : ℕ) → i < place → get_or new i 0 ≡ get_or old i 0
  pub above : (i : ℕ) → place < i → i ≤ length old → get_or new i 0 ≡ get_or old (i - 1) 0

abbrev positions_of : List Entry → List ℕ
positions_of es = map (λ e. e.position) es

first : (x : ℕ) (xs : List ℕ) → Inserted 0 x xs (x ∷ xs)
first x xs = record { long = omega arith; within = omega arith; own = refl; below = λ i h. absurd (omega arith); above = above }
  where
    above : (i : ℕ) → 0 < i → i ≤ length xs → get_or (x ∷ xs) i 0 ≡ get_or xs (i - 1) 0
    above zero h k = absurd (omega arith)
    above (suc i) h k = rw (sub-one (suc i))

later : (place x y : ℕ) (old new : List ℕ) → Inserted place x old new → Inserted (suc place) x (y ∷ old) (y ∷ new)
later place x y old new a =
    record {
      long = omega (arith, a.long);
      within = omega (arith, a.within);
      own = a.own;
      below = below;
      above = above;
    }
  where
    below : (i : ℕ) → i < suc place → get_or (y ∷ new) i 0 ≡ get_or (y ∷ old) i 0
    below zero h = refl
    below (suc i) h = a.below i (omega arith)

    above : (i : ℕ) → suc place < i → i ≤ length (y ∷ old) → get_or (y ∷ new) i 0 ≡ get_or (y ∷ old) (i - 1) 0
    above zero h k = absurd (omega arith)
    above (suc zero) h k = absurd (omega arith)
    above (suc (suc i)) h k =
        let e : suc (suc i) - 1 ≡ suc i = sub-one (suc (suc i)) in
        let f : suc i - 1 ≡ i = sub-one (suc i) in
        a.above (suc i) (omega arith) (omega arith) ∙ rw (e, f)

placed_in : (e : Entry) (ds : List Entry) → (place : ℕ) × Inserted place e.position (positions_of ds) (positions_of (placed e ds))
unfolding placed
placed_in e [] = (0, first e.position [])
placed_in e (d ∷ ds) = go (reference_before (reference_of e) (reference_of d)) (placed_in e ds)
  where
    go : (t : Bool) → ((place : ℕ) × Inserted place e.position (positions_of ds) (positions_of (placed e ds)))
        → (place : ℕ) × Inserted place e.position (positions_of (d ∷ ds)) (positions_of (pick t (e ∷ d ∷ ds) (d ∷ placed e ds)))
    go true k = (0, first e.position (positions_of (d ∷ ds)))
    go false k = (suc k.0, later k.0 e.position d.position (positions_of ds) (positions_of (placed e ds)) k.1)

pub position_in : (r : Record) (rs : List Record) → (place : ℕ) × Inserted place (used_by rs) (sorted_positions rs) (sorted_positions (r ∷ rs))
unfolding sorted_positions ascending entries
position_in r rs = placed_in (record { position = used_by rs; bytes = r.bytes; block = r.block }) (ascending (entries rs))
