-- Laws of offsets in a range. Assumes nothing.
use mathlib.Core.Path.{◌≡◌}
use mathlib.Core.Bool.{true, false, ◌&&◌, ◌||◌}
use Prim.Native.Nat.{ℕ, ◌≤◌, ◌<◌}
use native.Mathlib.Omega.{arith}
use native.Mathlib.Decide.{dec_lt, dec_le}
use lib.Dec.{ltb, leb}
use borrow.Author.Tests.{lt-ltb, le-ltb, le-leb, lt-leb, ltb-true, leb-true}
use Rattle.base.proofs.Tests.{and_left, and_right}
use Rattle.record_spec.specs.Reference.{within}

-- the test, from facts
pub within_yes : (s e o : ℕ) → s ≤ o → o < e → within s e o ≡ true
unfolding within
within_yes s e o h k = rw (le-leb s o h, lt-ltb o e k)

pub within_no : (s e o : ℕ) → (s ≤ o → o < e → ⊥) → within s e o ≡ false
unfolding within
within_no s e o f = go (dec_le s o) (dec_lt o e)
  where
    go : Dec (s ≤ o) → Dec (o < e) → leb s o && ltb o e ≡ false
    go (yes h) (yes k) = absurd (f h k)
    go (yes h) (no k) = rw (le-leb s o h) (le-ltb o e (omega arith))
    go (no h) d = rw (lt-leb s o (omega arith))

pub within_true : (s e o : ℕ) → within s e o ≡ true → (s ≤ o) × (o < e)
unfolding within
within_true s e o h = (leb-true s o (and_left (leb s o) _ h), ltb-true o e (and_right (leb s o) _ h))

-- a range in two parts
pub within_parts : (s c e o : ℕ) → s ≤ c → c ≤ e → within s e o ≡ within s c o || within c e o
within_parts s c e o h k = go (dec_le s o) (dec_lt o c) (dec_lt o e)
  where
    go : Dec (s ≤ o) → Dec (o < c) → Dec (o < e) → within s e o ≡ within s c o || within c e o
    go (no a) m n = rw (within_no s e o (λ u v. a u), within_no s c o (λ u v. a u), within_no c e o (λ (u : c ≤ o) v. a (omega arith)))
    go (yes a) (yes m) n = rw (within_yes s e o a (omega arith), within_yes s c o a m)
    go (yes a) (no m) (yes n) = rw (within_yes s e o a n, within_no s c o (λ u v. m v), within_yes c e o (omega arith) n)
    go (yes a) (no m) (no n) = rw (within_no s e o (λ u v. n v), within_no s c o (λ u v. m v), within_no c e o (λ u v. n v))
