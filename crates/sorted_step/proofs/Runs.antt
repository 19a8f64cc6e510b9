-- Runs one after the other in words, by the index of each. Assumes nothing.
use mathlib.Core.Path.{◌≡◌, refl, sym, ap, ◌∙◌}
use mathlib.Core.List.{List, ◌∷◌}
use Prim.Native.Nat.{ℕ, zero, suc, ◌+◌, ◌*◌, ◌<◌}
use native.Mathlib.Omega.{arith}
use native.Mathlib.Nat.{suc-add}
use lib.ListN.{length, get_or, drop}
use lib.Seq.{drop-drop}
use Rattle.index_spec.specs.Walk.{run_from, runs_from, part_at}
use Rattle.index_spec.proofs.Reading.{length_runs}

-- the run of an index, and those after it
pub run_next : (n j : ℕ) (ws : List ℕ) → j < n → drop j (runs_from n ws) ≡ run_from (drop (10 * j) ws) ∷ drop (j + 1) (runs_from n ws)
unfolding runs_from
run_next zero j ws h = absurd (omega arith)
run_next (suc n) zero ws h = refl
run_next (suc n) (suc j) ws h =
    let e : 10 + 10 * j ≡ 10 * suc j = omega arith in
    run_next n j (drop 10 ws) (omega arith)
    ∙ ap (λ (xs : List ℕ). run_from xs ∷ drop (j + 1) (runs_from n (drop 10 ws))) (drop-drop (10 * j) 10 ws ∙ ap (λ (k : ℕ). drop k ws) e)
    ∙ ap (λ (k : ℕ). run_from (drop (10 * suc j) ws) ∷ drop k (runs_from (suc n) ws)) (sym (suc-add j 1))

-- the same of a part
pub part_next : (ws : List ℕ) (j : ℕ) → j < get_or ws 0 0 → drop j (part_at ws 0) ≡ run_from (drop (10 * j + 1) ws) ∷ drop (j + 1) (part_at ws 0)
unfolding part_at
part_next ws j h =
    let e : 1 + 10 * j ≡ 10 * j + 1 = omega arith in
    run_next (get_or ws 0 0) j (drop 1 ws) h
    ∙ ap (λ (xs : List ℕ). run_from xs ∷ drop (j + 1) (runs_from (get_or ws 0 0) (drop 1 ws))) (drop-drop (10 * j) 1 ws ∙ ap (λ (k : ℕ). drop k ws) e)

pub length_part : (ws : List ℕ) → length (part_at ws 0) ≡ get_or ws 0 0
unfolding part_at
length_part ws = length_runs (get_or ws 0 0) (drop 1 ws)
