-- Words copied one after the other. Assumes nothing.
use mathlib.Core.Path.{◌≡◌, refl, ap, ◌∙◌}
use mathlib.Core.List.{List, [], ◌∷◌, ◌++◌}
use Prim.Native.Nat.{ℕ, ◌+◌, ◌≤◌, ◌<◌}
use native.Mathlib.Decide.{dec_lt}
use native.Mathlib.Omega.{arith}
use lib.ListN.{length, get_or, take, set, length-set}
use lib.Seq.{ext_get_or, get_or-set_same, get_or-set_other}

-- the first i words are copied
pub record Copied (from to : List ℕ) (i : ℕ) : Type 0 where
  pub long : length from ≡ length to
  pub most : i ≤ length from
  pub same : (j : ℕ) → j < i → get_or to j 0 ≡ get_or from j 0

pub copied_start : (from to : List ℕ) → length from ≡ length to → Copied from to 0
copied_start from to h = record { long = h; most = omega arith; same = λ j (l : j < 0). absurd (omega arith) }

pub copied_on : (from to : List ℕ) (i : ℕ) → Copied from to i → i < length from → Copied from (set to i (get_or from i 0)) (i + 1)
copied_on from to i h l =
    record { long = h.long ∙ simp length-set; most = omega arith; same = λ j u. go j u (dec_lt j i) }
  where
    go : (j : ℕ) → j < i + 1 → Dec (j < i) → get_or (set to i (get_or from i 0)) j 0 ≡ get_or from j 0
    go j u (yes k) = get_or-set_other to i j (get_or from i 0) 0 (λ (e : j ≡ i). omega arith) ∙ h.same j k
    go j u (no k) = let z : j ≡ i = omega arith in rw z (get_or-set_same to i (get_or from i 0) 0 (omega (arith, h.long)))

pub copied_all : (from to : List ℕ) (i : ℕ) → Copied from to i → length from ≤ i → to ≡ from
copied_all from to i h l = ext_get_or 0 to from (omega (arith, h.long)) (λ j (k : j < length to). h.same j (omega (arith, h.long)))

front : (t rest : List ℕ) → take (length t) (t ++ rest) ≡ t
front [] rest = refl
front (x ∷ t) rest = ap (λ (l : List ℕ). x ∷ l) (front t rest)

-- a copy in front of other words
pub copied_front : (t w rest : List ℕ) → w ≡ t → take (length t) (w ++ rest) ≡ t
copied_front t w rest e = rw e (front t rest)
