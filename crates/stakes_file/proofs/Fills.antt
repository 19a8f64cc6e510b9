-- What the loops write. Assumes nothing.
use mathlib.Core.Path.{◌≡◌, refl}
use mathlib.Core.List.{List, [], ◌∷◌}
use Prim.Native.Nat.{ℕ, zero, suc, ◌+◌, ◌≤◌, ◌<◌}
use native.Mathlib.Nat.{zero-add}
use native.Mathlib.Omega.{arith}
use lib.ListN.{length, take, set, get_or, length-map}
use lib.Seq.{sets, sets-eq, take_all, take_at}
use Rattle.base.specs.Le.{Bytes}
use Rattle.base.proofs.Le.{sets_next}
use Rattle.stakes_file.specs.Load.{stake_at, members_at}

-- the next word
pub fill_next : (l vs : List ℕ) (i : ℕ) → i < length vs → set (sets l 0 (take i vs)) i (get_or vs i 0) ≡ sets l 0 (take (i + 1) vs)
fill_next l vs i h = rw zero-add at (sets_next l vs 0 i h)

-- all of them
pub fill_end : (l vs : List ℕ) (i : ℕ) → length vs ≤ i → sets l 0 (take i vs) ≡ sets l 0 vs
fill_end l vs i h = rw (take_all i vs h)

module _ (f : Bytes) where
  pub member_at : (is : List ℕ) (k : ℕ) → k < length is → get_or (members_at f is) k 0 ≡ stake_at f (get_or is k 0)
  unfolding members_at
  member_at [] k h = absurd (omega arith)
  member_at (i ∷ is) zero h = refl
  member_at (i ∷ is) (suc k) h = member_at is k (omega arith)

  pub length_members : (is : List ℕ) → length (members_at f is) ≡ length is
  unfolding members_at
  length_members is = length-map is (stake_at f)

  pub members_filled : (l is : List ℕ) (k : ℕ) → length is ≤ length l → length is ≤ k → take (length is) (sets l 0 (take k (members_at f is))) ≡ members_at f is
  members_filled l is k e h =
      let n = length_members is in
      rw (fill_end l (members_at f is) k (omega arith), sets-eq (members_at f is) l 0 (omega arith)) (take_at (members_at f is) _ (length is) n)
