-- Runs read back from the words that they were written as. Assumes nothing.
use mathlib.Core.Path.{◌≡◌, refl, sym, ap, subst, ◌∙◌}
use mathlib.Core.List.{List, [], ◌∷◌, ◌++◌, map, flatten, append-nil}
use Prim.Native.Nat.{ℕ, zero, suc, ◌+◌, ◌*◌, ◌≤◌}
use native.Mathlib.Omega.{arith}
use native.Mathlib.Nat.{add-zero}
use lib.ListN.{length, get_or, take, drop, length-append, length-drop, take-append-drop, drop_of_length-le}
use lib.Seq.{length-take-le, drop-drop, get_or-drop}
use Rattle.base.specs.Lists.{◌∈◌, here, there}
use Rattle.base.specs.Le.{Bytes, le_number, le_bytes}
use Rattle.base.proofs.Le.{AllBytes, bytes_left, bytes_right, le_bytes_le_number}
use Rattle.record_spec.proofs.Records.{ReferenceFits}
use Rattle.index_spec.specs.Runs.{Run}
use Rattle.index_spec.specs.Index.{digest_words, run_words, part_words}
use Rattle.index_spec.specs.Walk.{digest_of, run_from, runs_from, part_at}

-- ten words a run
pub length_run : (x : Run) → length (run_words x) ≡ 10
unfolding run_words digest_words
length_run x = refl

pub runs_length : (xs : List Run) → length (flatten (map run_words xs)) ≡ 10 * length xs
unfolding flatten
runs_length [] = refl
runs_length (x ∷ xs) = omega (arith, length-append (run_words x) (flatten (map run_words xs)), length_run x, runs_length xs)

pub part_length : (xs : List Run) → length (part_words xs) ≡ 1 + 10 * length xs
unfolding part_words
part_length xs = omega (arith, runs_length xs)

-- the first n bytes, through their number
chunk : (n : ℕ) (d : Bytes) → n ≤ length d → AllBytes d → le_bytes n (le_number (take n d)) ++ drop n d ≡ d
chunk n d h k =
    ap (λ (m : ℕ). le_bytes m (le_number (take n d)) ++ drop n d) (sym (length-take-le n d h))
    ∙ ap (λ (s : Bytes). s ++ drop n d) (le_bytes_le_number (take n d) (bytes_left (take n d) (drop n d) (subst AllBytes (sym (take-append-drop n d)) k)))
    ∙ take-append-drop n d

bytes_drop : (n : ℕ) (d : Bytes) → AllBytes d → AllBytes (drop n d)
bytes_drop n d k = bytes_right (take n d) (drop n d) (subst AllBytes (sym (take-append-drop n d)) k)

-- a digest, through its words
digest_back : (d : Bytes) → length d ≡ 32 → AllBytes d
    → digest_of (le_number (take 8 d)) (le_number (take 8 (drop 8 d))) (le_number (take 8 (drop 16 d))) (le_number (take 8 (drop 24 d))) ≡ d
unfolding digest_of
digest_back d h k =
    ap (λ (s : Bytes). word 0 ++ (word 8 ++ (word 16 ++ s))) (sym (append-nil (word 24)) ∙ ap (λ (s : Bytes). word 24 ++ s) (sym none_left) ∙ at 24
    (omega arith))
    ∙ ap (λ (s : Bytes). word 0 ++ (word 8 ++ s)) (at 16 (omega arith))
    ∙ ap (λ (s : Bytes). word 0 ++ s) (at 8 (omega arith))
    ∙ at 0 (omega arith)
  where
    word : ℕ → Bytes
    word m = le_bytes 8 (le_number (take 8 (drop m d)))

    none_left : drop 32 d ≡ []
    none_left = let n : length d ≤ 32 = omega arith in drop_of_length-le d n

    at : (m : ℕ) → m + 8 ≤ 32 → word m ++ drop (m + 8) d ≡ drop m d
    at m n =
        ap (λ (s : Bytes). word m ++ s) (sym (drop-drop 8 m d))
        ∙ chunk 8 (drop m d) (omega (arith, length-drop m d)) (bytes_drop m d k)

-- a run, through its words
run_back : (x : Run) (rest : List ℕ) → ReferenceFits x.reference → run_from (run_words x ++ rest) ≡ x
unfolding run_from run_words digest_words
run_back x rest h =
    let e = digest_back x.reference.digest h.size h.bytes in
    λ i. record {
      reference = record { authority = x.reference.authority; round = x.reference.round; digest = e i };
      start = x.start;
      end = x.end;
      votes = x.votes;
    }

runs_back : (xs : List Run) (rest : List ℕ) → ((x : Run) → x ∈ xs → ReferenceFits x.reference) → runs_from (length xs) (flatten (map run_words xs) ++ rest) ≡
    xs
unfolding runs_from run_words digest_words flatten
runs_back [] rest h = refl
runs_back (x ∷ xs) rest h =
    let e = run_back x (flatten (map run_words xs) ++ rest) (h x here) in
    let f = runs_back xs rest (λ z m. h z (there m)) in
    λ i. e i ∷ f i

-- a part, where its words stand
pub part_back : (ix : List ℕ) (p : ℕ) (xs : List Run) (rest : List ℕ) → drop p ix ≡ part_words xs ++ rest → ((x : Run) → x ∈ xs → ReferenceFits x.reference)
    → part_at ix p ≡ xs
unfolding part_at part_words
part_back ix p xs rest e h =
    ap (λ (n : ℕ). runs_from n (drop (p + 1) ix)) (ap (λ (m : ℕ). get_or ix m 0) (sym (add-zero p)) ∙ sym (get_or-drop p ix 0 0) ∙ ap
    (λ (ws : List ℕ). get_or ws 0 0) e)
    ∙ ap (runs_from (length xs)) (sym (drop-drop 1 p ix) ∙ ap (drop 1) e)
    ∙ runs_back xs rest h

pub length_runs : (n : ℕ) (ws : List ℕ) → length (runs_from n ws) ≡ n
unfolding runs_from
length_runs zero ws = refl
length_runs (suc n) ws = ap suc (length_runs n (drop 10 ws))
