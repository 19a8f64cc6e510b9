-- The place after some runs, and the spot after them. Assumes nothing.
use mathlib.Core.Path.{◌≡◌, sym, ap, ◌∙◌}
use mathlib.Core.List.{List}
use Prim.Native.Nat.{ℕ, zero, suc, ◌+◌, ◌-◌, ◌*◌, ◌<◌}
use native.Mathlib.Omega.{arith}
use native.Mathlib.Numerals.{add-one}
use lib.ListN.{drop}
use lib.Seq.{drop-drop}
use Rattle.index_spec.specs.Runs.{Run}
use Rattle.index_spec.specs.Walk.{Place, beyond, run_from, runs_from}
use Rattle.index_runs.specs.Values.{as_place}
use Rattle.index_cursors.specs.Spots.{after, SpotAfter}
use Rattle.index_cursors.specs.declared.Spot.{Spot}

-- the place after k + 1 runs
after_runs : (k : ℕ) (ix : List ℕ) (pos : ℕ) (p : Place) → after p (runs_from (suc k) (drop pos ix)) ≡ beyond (run_from (drop (pos + 10 * k) ix)).reference
    (run_from (drop (pos + 10 * k) ix)).end
unfolding runs_from after
after_runs zero ix pos p = let e : pos ≡ pos + 10 * 0 = omega arith in ap (λ (i : ℕ). beyond (run_from (drop i ix)).reference (run_from (drop i ix)).end) e
after_runs (suc k) ix pos p =
    let e : pos + 10 + 10 * k ≡ pos + 10 * suc k = omega arith in
    ap (λ (ws : List ℕ). after (beyond (run_from (drop pos ix)).reference (run_from (drop pos ix)).end) (runs_from (suc k) ws)) (drop-drop 10 pos ix)
    ∙ after_runs k ix (pos + 10) (beyond (run_from (drop pos ix)).reference (run_from (drop pos ix)).end)
    ∙ ap (λ (i : ℕ). beyond (run_from (drop i ix)).reference (run_from (drop i ix)).end) e

-- the last of k + 1 runs
pub after_last : (k : ℕ) (ix : List ℕ) (pos : ℕ) (p : Place) → after p (runs_from (k + 1) (drop pos ix)) ≡ beyond
    (run_from (drop (pos + 10 * k) ix)).reference (run_from (drop (pos + 10 * k) ix)).end
after_last k ix pos p = ap (λ (i : ℕ). after p (runs_from i (drop pos ix))) (add-one k) ∙ after_runs k ix pos p

pub spot_none : (ix : List ℕ) (s : Spot) (k : ℕ) → k ≡ 0 → SpotAfter ix s k s
unfolding runs_from after
spot_none ix s k e = record { place = rw e; pos = omega arith; left = omega arith }

-- the last of the runs was read
pub spot_some : (ix : List ℕ) (s r : Spot) (k : ℕ) (x : Run) → 0 < k → as_place r.place ≡ beyond x.reference x.end → x ≡ run_from
    (drop (s.pos + 10 * (k - 1)) ix)
    → r.pos ≡ s.pos + 10 * k → r.left + k ≡ s.left → SpotAfter ix s k r
spot_some ix s r k x h p e pos left =
    let d : k - 1 + 1 ≡ k = omega arith in
    record {
      place = p
          ∙ ap (λ (y : Run). beyond y.reference y.end) e
          ∙ sym (after_last (k - 1) ix s.pos (as_place s.place))
          ∙ ap (λ (i : ℕ). after (as_place s.place) (runs_from i (drop s.pos ix))) d;
      pos = pos;
      left = left;
    }
