-- Machinery for the contracts of inner functions: a row of 128 words of a table, and an include taken into it. Assumes nothing: these are definitions.
use Rattle.std.specs.Prelude.{ℕ, ◌+◌, ◌*◌, ◌≤◌, ◌<◌, ◌≡◌, Bool, not, ◌&&◌, ◌||◌, List, eqb, ltb, length, get_or}
use Rattle.base.specs.Lists.{pick}

-- by an include with the one word a vote is nearer than the other word says
unfoldable pub is_nearer : ℕ → ℕ → Bool
is_nearer found held = not (eqb found 0) && (eqb held 0 || ltb (found + 1) held)

-- only words of the row k of a table have changed, of these the first n
pub record Beside (t₀ t : List ℕ) (k n : ℕ) : Type 0 where
  pub long : length t ≡ length t₀
  pub below : (x : ℕ) → x < 128 * k → get_or t x 0 ≡ get_or t₀ x 0
  pub above : (x : ℕ) → 128 * k + n ≤ x → get_or t x 0 ≡ get_or t₀ x 0

-- and these are
pub record Row (t₀ t : List ℕ) (k n : ℕ) (f : ℕ → ℕ) : Type 0 where
  pub beside : Beside t₀ t k n
  pub are : (a : ℕ) → a < n → get_or t (128 * k + a) 0 ≡ f a

-- an include, which stands at place i and has the index j, is taken into the first n words of row k
pub record Folded (near₀ steps₀ : List ℕ) (k i j : ℕ) (near steps : List ℕ) (n : ℕ) : Type 0 where
  pub words : Row near₀ near k n (λ a. pick (is_nearer (get_or near₀ (128 * i + a) 0) (get_or near₀ (128 * k + a) 0)) (get_or near₀ (128 * i + a) 0 + 1)
      (get_or near₀ (128 * k + a) 0))
  pub firsts : Row steps₀ steps k n (λ a. pick (is_nearer (get_or near₀ (128 * i + a) 0) (get_or near₀ (128 * k + a) 0)) j (get_or steps₀ (128 * k + a) 0))
