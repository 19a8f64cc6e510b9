-- A part appended behind the used words, runs in a row at a time. Assumes nothing.
use mathlib.Core.Path.{◌≡◌, refl, sym, ap, subst, ◌∙◌}
use mathlib.Core.List.{List, ◌∷◌}
use mathlib.Core.Option.{Option, none, some}
use Prim.Native.Nat.{ℕ, ◌+◌, ◌*◌, ◌≤◌}
use native.Mathlib.Omega.{arith}
use lib.ListN.{length, take, drop, set}
use lib.Seq.{sets, take-set-le, length-sets}
use Rattle.index_spec.specs.Runs.{Run}
use Rattle.index_spec.specs.Part.{RunsOf}
use Rattle.index_spec.specs.Index.{part_words}
use Rattle.index_spec.specs.Walk.{anywhere, runs_from}
use Rattle.index_spec.proofs.Reading.{part_length}
use Rattle.index_pieces.specs.Pieces.{PieceOr}
use Rattle.index_runs.specs.Values.{as_run, as_maybe}
use Rattle.index_pieces.specs.Sources.{Moved, together}
use Rattle.index_strides.specs.Strides.{stride_runs, Strode}
use Rattle.index_strides.specs.declared.Stride.{Stride}
use Rattle.index_strides.proofs.Words.{runs_words, runs_take}
use Rattle.index_strides.proofs.Writing.{take_sets, Written, written_start, written_over, part_written}
use Rattle.index_strides.proofs.Stepping.{Stepping, stepping_first, runs_moved, standing_none}
use Rattle.index_strides.proofs.Striding.{stride_length, stride_left, stride_are, stepping_over}

-- the first k runs stand behind the used words and the run count, of so many in all
pub record Appending (own ms₀ ms l₀ l : List ℕ) (used count n : ℕ) (cs₀ cs : List ℕ) (next : Option Run) (k : ℕ) : Type 0 where
  pub few : k ≤ count
  pub long : length l ≡ length l₀
  pub kept : take used l ≡ take used l₀
  pub stepping : Stepping own ms₀ ms (take used l₀) n cs₀ cs next k
  pub written : (xs : List Run) → RunsOf (together own ms₀ (take used l₀) cs₀ n) xs → Written l₀ l (used + 1) k xs

-- the run count is written, and the first piece was found
module _ (own ms₀ l₀ : List ℕ) (used count n : ℕ) (cs₀ ms cs : List ℕ) (m : Moved (take used (set l₀ used count)) n anywhere cs₀ cs)
    (w : Moved own 1 anywhere ms₀ ms) where
  abbrev l₁ : List ℕ
  l₁ = set l₀ used count

  pub appending_start : (o : Option Run) → PieceOr (together own ms₀ (take used l₁) cs₀ n) anywhere o → Appending own ms ms l₁ l₁ used count n cs cs o 0
  appending_start o d =
      record {
        few = omega arith;
        long = refl;
        kept = refl;
        stepping = stepping_first own ms₀ (take used l₁) n cs₀ ms cs o d m w;
        written = λ xs r. written_start l₁ (used + 1) xs;
      }

  -- they name the same runs as before
  pub runs_same : (xs : List Run) → RunsOf (together own ms₀ (take used l₀) cs₀ n) xs → RunsOf (together own ms (take used l₁) cs n) xs
  runs_same xs r = runs_moved own ms₀ (take used l₁) n cs₀ ms cs m w xs
      (subst (λ (ws : List ℕ). RunsOf (together own ms₀ ws cs₀ n) xs) (sym (take-set-le used l₀ used count (omega arith))) r)

module _ (own ms₀ l₀ : List ℕ) (used count n : ℕ) (cs₀ ms l cs : List ℕ) (next : Option Run) (k : ℕ)
    (h : Appending own ms₀ ms l₀ l used count n cs₀ cs next k) where
  abbrev ix : List ℕ
  ix = take used l₀

  -- nobody is named any more
  pub appending_none : next ≡ none → (xs : List Run) → RunsOf (together own ms₀ ix cs₀ n) xs → length xs ≡ k
  appending_none e =
      let s = h.stepping in
      standing_none own ms₀ ix n cs₀ ms cs s.place k s.standing next s.piece e

  module _ (x : Run) (e : next ≡ some x) (ms' cs' : List ℕ) (r : Stride) (w : Strode own ms ms' (take used l) n cs cs' x r) where
    strode : Strode own ms ms' ix n cs cs' x r
    strode = subst (λ (ws : List ℕ). Strode own ms ms' ws n cs cs' x r) h.kept w

    pub appending_few : (xs : List Run) → RunsOf (together own ms₀ ix cs₀ n) xs → k + 1 + r.more ≤ length xs
    appending_few xs q = (stride_left own ms₀ ix n cs₀ ms cs next k h.stepping x e ms' cs' r strode xs q).few

    runs_are : stride_runs ix r ≡ stride_runs l r
    unfolding stride_runs
    runs_are = ap (λ (ys : List Run). as_run r.run ∷ ys)
        (ap (λ (ws : List ℕ). runs_from r.more (drop r.pos ws)) (sym h.kept) ∙ sym (runs_take r.more r.pos used l w.inside))

    pub appending_on : k + 1 + r.more ≤ count → (l' : List ℕ) → l' ≡ sets l (used + 1 + 10 * k) (runs_words (stride_runs l r))
        → Appending own ms₀ ms' l₀ l' used count n cs₀ cs' (as_maybe r.next) (k + 1 + r.more)
    appending_on f l' d =
        record {
          few = f;
          long = ap length d ∙ length-sets l (used + 1 + 10 * k) (runs_words (stride_runs l r)) ∙ h.long;
          kept = ap (take used) d ∙ take_sets used l (runs_words (stride_runs l r)) (used + 1 + 10 * k) (omega arith) ∙ h.kept;
          stepping = stepping_over own ms₀ ix n cs₀ ms cs next k h.stepping x e ms' cs' r strode;
          written = λ xs q.
              subst (λ (m : List ℕ). Written l₀ m (used + 1) (k + 1 + r.more) xs)
              (ap (λ (ys : List Run). sets l (used + 1 + 10 * k) (runs_words ys)) runs_are ∙ sym d)
              (subst (λ (j : ℕ). Written l₀ (sets l (used + 1 + 10 * k) (runs_words (stride_runs ix r))) (used + 1) j xs)
              (stride_length own ms₀ ix n cs₀ ms cs next k h.stepping x e ms' cs' r strode)
              (written_over l₀ (used + 1) xs l k (stride_runs ix r) (h.stepping.standing.left xs q).few (h.written xs q)
              (stride_are own ms₀ ix n cs₀ ms cs next k h.stepping x e ms' cs' r strode xs q)));
        }

-- all of them, and the words that are used with them
pub appending_end : (own ms₀ l₀ : List ℕ) (used count n : ℕ) (cs₀ ms l cs : List ℕ) (next : Option Run) (k : ℕ)
    → Appending own ms₀ ms (set l₀ used count) l used count n cs₀ cs next k → count ≤ k
    → (xs : List Run) → RunsOf (together own ms₀ (take used (set l₀ used count)) cs₀ n) xs → length xs ≡ count
    → set l 0 (used + 1 + 10 * count) ≡ set (sets l₀ used (part_words xs)) 0 (used + length (part_words xs))
appending_end own ms₀ l₀ used count n cs₀ ms l cs next k h d xs r e =
    let j : k ≡ count = omega (arith, h.few) in
    let z : used + 1 + 10 * count ≡ used + length (part_words xs) = omega (arith, part_length xs) in
    ap (λ (ws : List ℕ). set ws 0 (used + 1 + 10 * count))
    (part_written l₀ l used count xs e (subst (λ (i : ℕ). Written (set l₀ used count) l (used + 1) i xs) j (h.written xs r)))
    ∙ ap (set (sets l₀ used (part_words xs)) 0) z
