-- The marks of the blocks that speak, and the words that note who does in their ancestry. Assumes nothing.
use mathlib.Core.Path.{◌≡◌, ◌∙◌}
use mathlib.Core.Bool.{false}
use mathlib.Core.List.{List}
use Prim.Native.Nat.{ℕ, ◌+◌, ◌*◌, ◌<◌}
use native.Mathlib.Omega.{arith}
use native.Mathlib.Decide.{ℕ_discrete}
use lib.Dec.{eqb}
use borrow.Author.Tests.{ne_eqb}
use lib.ListN.{length, get_or, set, length-set}
use lib.Seq.{get_or-set_same, get_or-set_other}
use Rattle.committee_set.specs.AuthoritySet.{AuthoritySet}
use Rattle.list_includes_spec.specs.Places.{set_at}
use Rattle.list_ancestry.specs.Heard.{with_set}

-- ---- two words

module _ (memo : List ℕ) (k : ℕ) (v : AuthoritySet) where
  pub with_length : length (with_set memo k v) ≡ length memo
  unfolding with_set
  with_length = simp length-set

  pub with_same : 2 * k + 1 < length memo → set_at (with_set memo k v) k ≡ v
  unfolding with_set set_at
  with_same h =
      let one : List ℕ = set memo (2 * k) v.low in
      let n : length one ≡ length memo = simp length-set in
      let e = get_or-set_other one (2 * k + 1) (2 * k) v.high 0 (λ (q : 2 * k ≡ 2 * k + 1). omega arith) ∙ get_or-set_same memo (2 * k) v.low 0
      (omega arith) in
      let f = get_or-set_same one (2 * k + 1) v.high 0 (omega (arith, n)) in
      λ i. record { low = e i; high = f i }

  pub with_other : (j : ℕ) → (j ≡ k → ⊥) → set_at (with_set memo k v) j ≡ set_at memo j
  unfolding with_set set_at
  with_other j ne =
      let one : List ℕ = set memo (2 * k) v.low in
      let e =
      get_or-set_other one (2 * k + 1) (2 * j) v.high 0 (λ (q : 2 * j ≡ 2 * k + 1). omega arith)
      ∙ get_or-set_other memo (2 * k) (2 * j) v.low 0 (λ (q : 2 * j ≡ 2 * k). ne (omega arith)) in
      let f =
      get_or-set_other one (2 * k + 1) (2 * j + 1) v.high 0 (λ (q : 2 * j + 1 ≡ 2 * k + 1). ne (omega arith))
      ∙ get_or-set_other memo (2 * k) (2 * j + 1) v.low 0 (λ (q : 2 * j + 1 ≡ 2 * k). omega arith) in
      λ i. record { low = e i; high = f i }

-- ---- the marks

-- one place more that is not marked
pub unmarked_more : (own : List ℕ) (k : ℕ) → ((j : ℕ) → j < k → eqb (get_or own j 0) 1 ≡ false) → (get_or own k 0 ≡ 1 → ⊥) → (j : ℕ) → j < k + 1 → eqb
    (get_or own j 0) 1 ≡ false
unmarked_more own k f n j h = go (ℕ_discrete j k)
  where
    go : Dec (j ≡ k) → eqb (get_or own j 0) 1 ≡ false
    go (yes q) = rw q (ne_eqb (get_or own k 0) 1 n)
    go (no q) = f j (omega arith)
