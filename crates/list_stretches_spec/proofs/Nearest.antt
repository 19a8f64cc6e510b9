-- The least edge above an offset. Assumes nothing.
use mathlib.Core.Path.{◌≡◌, refl, ◌∙◌}
use mathlib.Core.Logic.{◌⊎◌, inl, inr}
use mathlib.Core.Bool.{Bool, true, false, ◌&&◌}
use mathlib.Core.List.{List, [], ◌∷◌, map, flatten}
use Prim.Native.Nat.{ℕ, ◌≤◌, ◌<◌}
use native.Mathlib.Omega.{arith}
use native.Mathlib.Decide.{dec_lt, ℕ_discrete}
use lib.Dec.{ltb}
use borrow.Author.Tests.{lt-ltb, le-ltb, eq-eqb, ne_eqb}
use Rattle.base.specs.Lists.{pick, ◌∈◌, here, there}
use Rattle.base.proofs.Members.{in_empty, in_cases, in_first, in_map, in_flatten}
use Rattle.record_spec.specs.Reference.{BlockReference, TransactionLocatorRange}
use Rattle.record_spec.specs.Block.{Block}
use Rattle.record_spec.proofs.References.{same_reference_lem}
use Rattle.list_stretches_spec.specs.Stretches.{edges_of, edges_by, nearer, nearest}

-- ---- the nearer one

pub nearer_below : (o best e : ℕ) → e ≤ o → nearer o best e ≡ best
unfolding nearer
nearer_below o best e h = rw (le-ltb o e h)

pub nearer_first : (o best e : ℕ) → o < e → best ≡ 0 → nearer o best e ≡ e
unfolding nearer
nearer_first o best e h k = rw (lt-ltb o e h, eq-eqb best 0 k)

pub nearer_less : (o best e : ℕ) → o < e → e < best → nearer o best e ≡ e
unfolding nearer
nearer_less o best e h k = rw (lt-ltb o e h, ne_eqb best 0 (λ z. omega arith), lt-ltb e best k)

pub nearer_more : (o best e : ℕ) → 0 < best → best ≤ e → nearer o best e ≡ best
unfolding nearer
nearer_more o best e k h = rw (ne_eqb best 0 (λ z. omega arith), le-ltb e best h) (go (ltb o e))
  where
    go : (t : Bool) → pick (t && false) e best ≡ best
    go true = refl
    go false = refl

-- what the nearest is
pub record Nearest (o best : ℕ) (es : List ℕ) (r : ℕ) : Type 0 where
  pub bound : 0 < best → (0 < r) × (r ≤ best)
  pub stands : (r ≡ best) ⊎ ((o < r) × (r ∈ es))
  pub least : (e : ℕ) → e ∈ es → o < e → (0 < r) × (r ≤ e)

-- one more edge
record Step (o best e m : ℕ) : Type 0 where
  less : 0 < best → (0 < m) × (m ≤ best)
  either : (m ≡ best) ⊎ ((o < m) × (m ≡ e))
  near : o < e → (0 < m) × (m ≤ e)

step : (o best e : ℕ) → Step o best e (nearer o best e)
step o best e = go (dec_lt o e) (ℕ_discrete best 0) (dec_lt e best)
  where
    go : Dec (o < e) → Dec (best ≡ 0) → Dec (e < best) → Step o best e (nearer o best e)
    go (yes h) (yes z) k = rw (nearer_first o best e h z) (record
        { less = λ x. absurd (omega arith); either = inr (h, refl); near = λ x. (omega arith, omega arith) })
    go (yes h) (no z) (yes k) = rw (nearer_less o best e h k) (record
        { less = λ x. (omega arith, omega arith); either = inr (h, refl); near = λ x. (omega arith, omega arith) })
    go (yes h) (no z) (no k) = rw (nearer_more o best e (omega arith) (omega arith))
        (record { less = λ x. (omega arith, omega arith); either = inl refl; near = λ x. (omega arith, omega arith) })
    go (no h) z k = rw (nearer_below o best e (omega arith)) (record { less = λ x. (x, omega arith); either = inl refl; near = λ x. absurd (h x) })

pub nearest_is : (o best : ℕ) (es : List ℕ) → Nearest o best es (nearest o best es)
unfolding nearest
nearest_is o best [] = record { bound = λ x. (x, omega arith); stands = inl refl; least = λ e m. absurd (in_empty m) }
nearest_is o best (e ∷ es) = on (step o best e) (nearest_is o (nearer o best e) es)
  where
    on : {m r : ℕ} → Step o best e m → Nearest o m es r → Nearest o best (e ∷ es) r
    on {m} {r} s n =
        record {
          bound = λ x. under (s.less x);
          stands = stood n.stands s.either;
          least = λ x i h. lesser x h (in_cases i);
        }
      where
        under : {y : ℕ} → (0 < m) × (m ≤ y) → (0 < r) × (r ≤ y)
        under h = let k = n.bound h.0 in (k.0, omega (arith, h, k))

        stood : (r ≡ m) ⊎ ((o < r) × (r ∈ es)) → (m ≡ best) ⊎ ((o < m) × (m ≡ e)) → (r ≡ best) ⊎ ((o < r) × (r ∈ (e ∷ es)))
        stood (inl a) (inl b) = inl (a ∙ b)
        stood (inl a) (inr b) = inr (omega (arith, b.0), in_first (a ∙ b.1))
        stood (inr a) b = inr (a.0, there a.1)

        lesser : (x : ℕ) → o < x → (x ≡ e) ⊎ (x ∈ es) → (0 < r) × (r ≤ x)
        lesser x h (inl a) = under (let k = s.near (omega arith) in (k.0, omega (arith, k)))
        lesser x h (inr a) = n.least x a h

-- ---- the edges of one vote

-- an edge of a block's vote for locators of the block
module _ (f : Block → List TransactionLocatorRange) (bs : List Block) (r : BlockReference) (d : Block) (q : TransactionLocatorRange) (m : d ∈ bs)
    (k : q ∈ f d) (e : q.block ≡ r) where
  edge_in : (n : ℕ) → n ∈ (q.start ∷ q.end ∷ []) → n ∈ edges_by f bs r
  unfolding edges_by edges_of
  edge_in n i =
      let j : n ∈ edges_of r q = rw (same_reference_lem e) i in
      in_flatten (in_flatten j (in_map (edges_of r) k)) (in_map (λ b. flatten (map (edges_of r) (f b))) m)

  pub edge_start : q.start ∈ edges_by f bs r
  edge_start = edge_in q.start here

  pub edge_end : q.end ∈ edges_by f bs r
  edge_end = edge_in q.end (there here)
