-- Words that move up one by one, from the last. Assumes nothing.
use mathlib.Core.Path.{◌≡◌, refl, ◌∙◌}
use mathlib.Core.List.{List}
use Prim.Native.Nat.{ℕ, ◌-◌, ◌≤◌, ◌<◌}
use native.Mathlib.Omega.{arith}
use native.Mathlib.Decide.{ℕ_discrete}
use lib.ListN.{length, get_or, set, length-set}
use lib.Seq.{get_or-set_same, get_or-set_other}
use Rattle.index_part_places.specs.Places.{PutIn}

-- those above j, up to n, have moved
pub record Moving (n place : ℕ) (old new : List ℕ) (j : ℕ) : Type 0 where
  pub long : length new ≡ length old
  pub from : place ≤ j
  pub upto : j ≤ n
  pub below : (i : ℕ) → i ≤ j → get_or new i 0 ≡ get_or old i 0
  pub above : (i : ℕ) → j < i → i ≤ n → get_or new i 0 ≡ get_or old (i - 1) 0

pub moving_none : (n place : ℕ) (ws : List ℕ) → place ≤ n → Moving n place ws ws n
moving_none n place ws h = record { long = refl; from = h; upto = omega arith; below = λ i k. refl; above = λ i k l. absurd (omega arith) }

module _ (n place : ℕ) (old new : List ℕ) (j : ℕ) (m : Moving n place old new j) (room : n < length old) where
  pub moving_on : place < j → Moving n place old (set new j (get_or new (j - 1) 0)) (j - 1)
  moving_on h =
      record {
        long = length-set new j (get_or new (j - 1) 0) ∙ m.long;
        from = omega arith;
        upto = omega (arith, m.upto);
        below = λ i k. get_or-set_other new j i (get_or new (j - 1) 0) 0 (λ (e : i ≡ j). omega arith) ∙ m.below i (omega arith);
        above = above;
      }
    where
      above : (i : ℕ) → j - 1 < i → i ≤ n → get_or (set new j (get_or new (j - 1) 0)) i 0 ≡ get_or old (i - 1) 0
      above i k l = by (ℕ_discrete i j)
        where
          by : Dec (i ≡ j) → get_or (set new j (get_or new (j - 1) 0)) i 0 ≡ get_or old (i - 1) 0
          by (yes e) =
              rw e (get_or-set_same new j (get_or new (j - 1) 0) 0 (omega (arith, m.long, m.upto)) ∙ m.below (j - 1) (omega arith))
          by (no e) = get_or-set_other new j i (get_or new (j - 1) 0) 0 e ∙ m.above i (omega arith) l

  pub moving_put : (word : ℕ) → j ≤ place → PutIn n place word old (set new place word)
  moving_put word h =
      record {
        own = get_or-set_same new place word 0 (omega (arith, m.long, m.upto, m.from));
        below = λ i k. get_or-set_other new place i word 0 (λ (e : i ≡ place). omega arith) ∙ m.below i (omega (arith, m.from));
        above = λ i k l. get_or-set_other new place i word 0 (λ (e : i ≡ place). omega arith) ∙ m.above i (omega arith) l;
        long = length-set new place word ∙ m.long;
      }
