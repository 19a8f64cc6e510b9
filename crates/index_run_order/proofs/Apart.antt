-- Two neighbours in words, and runs in a row of which none goes on with the one before it. Assumes nothing.
use mathlib.Core.Path.{◌≡◌, sym, ap, subst, ◌∙◌}
use mathlib.Core.List.{List}
use Prim.Native.Nat.{ℕ, ◌+◌, ◌-◌, ◌*◌, ◌≤◌, ◌<◌}
use native.Mathlib.Omega.{arith}
use native.Mathlib.Decide.{dec_lt}
use lib.ListN.{get_or, drop}
use lib.Seq.{get_or-drop}
use Rattle.committee_set.specs.AuthoritySet.{AuthoritySet}
use Rattle.index_spec.specs.Walk.{run_from}
use Rattle.index_run_order.specs.Apart.{GoesOn, Apart}

-- the words of two neighbours, where the second goes on with the first
module _ (ix : List ℕ) (at : ℕ) (g : GoesOn ix at) where
  word : (i j k : ℕ) → get_or (drop at ix) i 0 ≡ get_or (drop (at + 10) ix) j 0 → at + 10 + j ≡ at + k → get_or ix (at + i) 0 ≡ get_or ix (at + k) 0
  word i j k e s = sym (get_or-drop at ix i 0) ∙ e ∙ get_or-drop (at + 10) ix j 0 ∙ ap (λ (m : ℕ). get_or ix m 0) s

  pub goes_offset : get_or ix (at + 7) 0 ≡ get_or ix (at + 16) 0
  unfolding run_from
  goes_offset = word 7 6 16 g.offset (omega arith)

  pub goes_low : get_or ix (at + 8) 0 ≡ get_or ix (at + 18) 0
  unfolding run_from
  goes_low = word 8 8 18 (ap (λ (v : AuthoritySet). v.low) g.voters) (omega arith)

  pub goes_high : get_or ix (at + 9) 0 ≡ get_or ix (at + 19) 0
  unfolding run_from
  goes_high = word 9 9 19 (ap (λ (v : AuthoritySet). v.high) g.voters) (omega arith)

-- ---- apart

pub apart_one : (ix : List ℕ) (pos : ℕ) → Apart ix pos 1
unfolding Apart
apart_one ix pos i h g = absurd (omega arith)

pub apart_on : (ix : List ℕ) (pos k : ℕ) → 1 ≤ k → Apart ix pos k → (GoesOn ix (pos + 10 * (k - 1)) → ⊥) → Apart ix pos (k + 1)
unfolding Apart
apart_on ix pos k m h e i j g = go (dec_lt (i + 1) k)
  where
    go : Dec (i + 1 < k) → ⊥
    go (yes l) = h i l g
    go (no l) = let q : i ≡ k - 1 = omega arith in e (subst (λ (z : ℕ). GoesOn ix (pos + 10 * z)) q g)

pub apart_fewer : (ix : List ℕ) (pos k m : ℕ) → k ≤ m → Apart ix pos m → Apart ix pos k
unfolding Apart
apart_fewer ix pos k m l h i j g = h i (omega arith) g
