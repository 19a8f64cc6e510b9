-- Lists that have every element once. Assumes nothing.
use mathlib.Core.Bool.{Bool, true, false}
use mathlib.Core.List.{List, ◌∷◌}
use Prim.Native.Nat.{ℕ, zero, suc, ◌+◌}
use native.Mathlib.Omega.{arith}
use Rattle.base.specs.Lists.{pick, keep, count_from, Once, empty, also}
use Rattle.base.proofs.Members.{keep_in, count_from_in}

-- the numbers from i on
pub once_count_from : (i n : ℕ) → Once (count_from i n)
unfolding count_from
once_count_from i zero = empty
once_count_from i (suc n) = also {x = i} (λ m. let q = count_from_in (i + 1) n m in omega (arith, q.0)) (once_count_from (i + 1) n)

-- those of which a test holds
pub once_keep : {A : Type 0} (p : A → Bool) {xs : List A} → Once xs → Once (keep p xs)
unfolding keep
once_keep p empty = empty
once_keep p (also {x} {xs} f o) = go (p x) (once_keep p o)
  where
    go : (t : Bool) → Once (keep p xs) → Once (pick t (x ∷ keep p xs) (keep p xs))
    go true k = also (λ m. f (keep_in p xs m).0) k
    go false k = k
