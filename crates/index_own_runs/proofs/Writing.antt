-- Rows written as runs, one after the other. Assumes nothing.
use mathlib.Core.Path.{◌≡◌, refl, sym, ap, subst, ◌∙◌}
use mathlib.Core.List.{List, [], ◌∷◌, ◌++◌, map, flatten, append-nil, map-append}
use Prim.Native.Nat.{ℕ, ◌+◌, ◌*◌, ◌^◌, ◌≤◌, ◌<◌}
use native.Mathlib.Omega.{arith}
use lib.ListN.{length, take, drop, length-map, length-drop, take-append-drop}
use lib.Seq.{sets, length-sets, sets-eq, length-take-le}
use Rattle.base.specs.Lists.{count_from, ◌∈◌}
use Rattle.base.specs.Le.{Bytes, le_number, le_at}
use Rattle.base.proofs.Le.{AllBytes, le_number_lt, sets_append, bytes_left, bytes_right}
use Rattle.base.proofs.Members.{map_in}
use Rattle.base.proofs.Lists.{Every, every_in, flatten_append}
use Rattle.committee_set.specs.AuthoritySet.{AuthoritySet}
use Rattle.record_spec.proofs.Records.{ReferenceFits}
use Rattle.record_reference_bytes.specs.Step.{reference_at}
use Rattle.list_row_sort.specs.Rows.{row_at, rows_from, rows_of}
use Rattle.list_row_sort.proofs.Tables.{length_rows, rows_more}
use Rattle.list_range_rows.specs.Ranges.{Proper}
use Rattle.index_spec.specs.Runs.{Run, run}
use Rattle.index_spec.specs.Index.{run_words, part_words}
use Rattle.index_spec.specs.Walk.{runs_from, part_at}
use Rattle.index_spec.proofs.Reading.{runs_length, part_back}
use Rattle.index_own_runs.specs.Own.{row_run}

abbrev runs_words : List Run → List ℕ
runs_words xs = flatten (map run_words xs)

words_more : (xs : List Run) (y : Run) → runs_words (xs ++ y ∷ []) ≡ runs_words xs ++ run_words y
unfolding flatten
words_more xs y =
    ap flatten (map-append run_words xs (y ∷ []))
    ∙ flatten_append (map run_words xs) (run_words y ∷ [])
    ∙ ap (λ (ws : List ℕ). runs_words xs ++ ws) (append-nil (run_words y))

-- runs read back from words that begin with theirs
words_back : (ws : List ℕ) (xs : List Run) (rest : List ℕ) → ws ≡ runs_words xs ++ rest → ((x : Run) → x ∈ xs → ReferenceFits x.reference) → runs_from
    (length xs) ws ≡ xs
unfolding part_at part_words
words_back ws xs rest e h = part_back (length xs ∷ ws) 0 xs rest (ap (λ (us : List ℕ). length xs ∷ us) e) h

-- the first i rows of a table were written as runs
unfoldable pub RunsPut : Bytes → AuthoritySet → List ℕ → List ℕ → List ℕ → ℕ → Type 0
RunsPut s v rows ws₀ ws i = ws ≡ sets ws₀ 0 (runs_words (map (row_run s v) (rows_of rows i)))

module _ (s : Bytes) (v : AuthoritySet) (rows ws₀ : List ℕ) where
  runs : ℕ → List Run
  runs i = map (row_run s v) (rows_of rows i)

  count : (i : ℕ) → length (runs i) ≡ i
  unfolding runs rows_of
  count i = length-map (rows_of rows i) (row_run s v) ∙ length_rows rows 0 i

  pub put_start : RunsPut s v rows ws₀ ws₀ 0
  unfolding RunsPut rows_of rows_from count_from flatten
  put_start = refl

  pub put_long : (ws : List ℕ) (i : ℕ) → RunsPut s v rows ws₀ ws i → length ws ≡ length ws₀
  unfolding RunsPut
  put_long ws i h = ap length h ∙ length-sets ws₀ 0 (runs_words (map (row_run s v) (rows_of rows i)))

  pub put_on : (ws : List ℕ) (i : ℕ) → RunsPut s v rows ws₀ ws i → RunsPut s v rows ws₀ (sets ws (10 * i) (run_words (row_run s v (row_at rows i)))) (i + 1)
  unfolding RunsPut runs
  put_on ws i h =
      ap (λ (us : List ℕ). sets us (10 * i) (run_words (row_run s v (row_at rows i)))) h
      ∙ ap (λ (n : ℕ). sets (sets ws₀ 0 (runs_words (runs i))) n (run_words (row_run s v (row_at rows i)))) where_next
      ∙ sym (sets_append (runs_words (runs i)) (run_words (row_run s v (row_at rows i))) ws₀ 0)
      ∙ ap (sets ws₀ 0)
      (sym (words_more (runs i) (row_run s v (row_at rows i)))
      ∙ ap runs_words (sym (map-append (row_run s v) (rows_of rows i) (row_at rows i ∷ [])) ∙ ap (map (row_run s v)) (sym (rows_more rows i))))
    where
      where_next : 10 * i ≡ 0 + length (runs_words (runs i))
      where_next = omega (arith, runs_length (runs i), count i)

  module _ (bytes : AllBytes s) where
    part_bytes : (n p : ℕ) → AllBytes (take n (drop p s))
    part_bytes n p = bytes_left (take n (drop p s)) (drop n (drop p s))
        (subst AllBytes (sym (take-append-drop n (drop p s))) (bytes_right (take p s) (drop p s) (subst AllBytes (sym (take-append-drop p s)) bytes)))

    number_fits : (p : ℕ) → p + 8 ≤ length s → le_at 8 s p < 256 ^ 8
    unfolding le_at
    number_fits p h =
        subst (λ (n : ℕ). le_number (take 8 (drop p s)) < 256 ^ n) (length-take-le 8 (drop p s) (omega (arith, length-drop p s)))
        (le_number_lt (take 8 (drop p s)) (part_bytes 8 p))

    reference_fits : (p : ℕ) → p + 48 ≤ length s → ReferenceFits (reference_at s p)
    unfolding reference_at
    reference_fits p h =
        record {
          author = number_fits p (omega arith);
          round = number_fits (p + 8) (omega arith);
          size = length-take-le 32 (drop (p + 16) s) (omega (arith, length-drop (p + 16) s));
          bytes = part_bytes 32 (p + 16);
        }

    pub put_end : (ws : List ℕ) (m : ℕ) → Every (Proper s) (rows_of rows m) → 10 * m ≤ length ws₀ → RunsPut s v rows ws₀ ws m → runs_from m ws ≡ map
        (row_run s v) (rows_of rows m)
    unfolding RunsPut runs row_run run
    put_end ws m f h e =
        ap (λ (n : ℕ). runs_from n ws) (sym (count m))
        ∙ words_back ws (runs m) (drop (0 + length (runs_words (runs m))) ws₀)
        (e ∙ sets-eq (runs_words (runs m)) ws₀ 0 (omega (arith, runs_length (runs m), count m)))
        (λ x i.
        let r = map_in (row_run s v) (rows_of rows m) i in
        subst (λ (y : Run). ReferenceFits y.reference) r.2 (reference_fits r.0.at (every_in (rows_of rows m) r.0 f r.1).inside))
