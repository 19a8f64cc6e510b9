-- 02: the names in the file `stakes`. Assumes nothing: these are definitions.
use Rattle.std.specs.Prelude.{ℕ, ◌+◌, ◌≡◌, Bool, true, false, not, ◌&&◌, List, [], ◌∷◌, ◌++◌, eqb, take, drop, get_or, replicate}
use Rattle.base.specs.Lists.{pick, is_empty, all_of, pairwise, same, ◌∈◌}
use Rattle.base.specs.Le.{Bytes}
use Rattle.stakes_chain.specs.Layout.{place}

-- 02: "records, each holding next index (2 bytes), name (16 bytes, ..)"
unfoldable pub name_at : Bytes → ℕ → Bytes
name_at f i = take 16 (drop (place i + 2) f)

-- 02: "zero padded, not empty": a text without zeros, then zeros
pub record Named (n : Bytes) : Type 0 where
  pub text : Bytes
  pub zeros : ℕ
  pub are : n ≡ text ++ replicate zeros 0
  pub not_empty : is_empty text ≡ false
  pub no_zero : (x : ℕ) → x ∈ text → x ≡ 0 → ⊥

-- the same, worked out: after a zero there are zeros only
unfoldable pub padded : Bytes → Bool
padded [] = true
padded (x ∷ xs) = pick (eqb x 0) (all_of (λ y. eqb y 0) xs) (padded xs)

unfoldable pub good_name : Bytes → Bool
good_name n = not (eqb (get_or n 0 0) 0) && padded n

-- the names of the records with these indexes are good, and 02: "the names differ"
pub record WellNamed (f : Bytes) (indexes : List ℕ) : Type 0 where
  pub named : (i : ℕ) → i ∈ indexes → Named (name_at f i)
  pub differ : (i j : ℕ) → i ∈ indexes → j ∈ indexes → name_at f i ≡ name_at f j → i ≡ j

-- the same, worked out of the names in a list
unfoldable pub good_names : List Bytes → Bool
good_names ns = all_of good_name ns && pairwise (λ m n. not (same m n)) ns
