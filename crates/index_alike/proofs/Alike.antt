-- Runs one after the other in words, words that stand at two positions, and runs that sources share. Assumes nothing.
use mathlib.Core.Path.{◌≡◌, refl, sym, ap, subst, ◌∙◌}
use mathlib.Core.List.{List, [], ◌∷◌, ◌++◌}
use Prim.Native.Nat.{ℕ, zero, suc, ◌+◌, ◌-◌, ◌*◌, ◌≤◌, ◌<◌}
use native.Mathlib.Omega.{arith}
use native.Mathlib.Decide.{dec_lt}
use lib.ListN.{get_or, take, drop}
use lib.Seq.{drop-drop, get_or-drop}
use Rattle.index_spec.specs.Runs.{Run}
use Rattle.index_spec.specs.Walk.{digest_of, run_from, runs_from}
use Rattle.index_pieces.specs.Sources.{cursor_at, cursor_left}
use Rattle.index_alike.specs.Alike.{HasRun, ended, there, HasRuns, over, alike, AllHave, Shared}

-- the first k runs, and those after them
pub runs_split : (k m : ℕ) (ix : List ℕ) (at : ℕ) → runs_from (k + m) (drop at ix) ≡ runs_from k (drop at ix) ++ runs_from m (drop (at + 10 * k) ix)
unfolding runs_from
runs_split zero m ix at =
    let s : zero + m ≡ m = omega arith in
    let e : at ≡ at + 10 * zero = omega arith in
    ap (λ (i : ℕ). runs_from i (drop at ix)) s ∙ ap (λ (i : ℕ). runs_from m (drop i ix)) e
runs_split (suc k) m ix at =
    let s : suc k + m ≡ suc (k + m) = omega arith in
    let e : at + 10 + 10 * k ≡ at + 10 * suc k = omega arith in
    ap (λ (i : ℕ). runs_from i (drop at ix)) s
    ∙ ap (λ (ws : List ℕ). run_from (drop at ix) ∷ runs_from (k + m) ws) (drop-drop 10 at ix)
    ∙ ap (λ (xs : List Run). run_from (drop at ix) ∷ xs) (runs_split k m ix (at + 10))
    ∙ ap (λ (i : ℕ). run_from (drop at ix) ∷ (runs_from k (drop (at + 10) ix) ++ runs_from m (drop i ix))) e
    ∙ ap (λ (ws : List ℕ). run_from (drop at ix) ∷ (runs_from k ws ++ runs_from m (drop (at + 10 * suc k) ix))) (sym (drop-drop 10 at ix))

-- the last one of k + 1
pub runs_last : (k : ℕ) (ix : List ℕ) (at : ℕ) → runs_from (k + 1) (drop at ix) ≡ runs_from k (drop at ix) ++ run_from (drop (at + 10 * k) ix) ∷ []
unfolding runs_from
runs_last k ix at = runs_split k 1 ix at

runs_take : (k m : ℕ) (ws : List ℕ) → take k (runs_from (k + m) ws) ≡ runs_from k ws
unfolding runs_from
runs_take zero m ws = refl
runs_take (suc k) m ws =
    let s : suc k + m ≡ suc (k + m) = omega arith in
    ap (λ (i : ℕ). take (suc k) (runs_from i ws)) s ∙ ap (λ (xs : List Run). run_from ws ∷ xs) (runs_take k m (drop 10 ws))

-- fewer of them are the same too
pub runs_fewer : (k m : ℕ) (vs ws : List ℕ) → k ≤ m → runs_from m vs ≡ runs_from m ws → runs_from k vs ≡ runs_from k ws
runs_fewer k m vs ws h e =
    let s : k + (m - k) ≡ m = omega arith in
    sym (runs_take k (m - k) vs)
    ∙ ap (take k) (ap (λ (i : ℕ). runs_from i vs) s ∙ e ∙ sym (ap (λ (i : ℕ). runs_from i ws) s))
    ∙ runs_take k (m - k) ws

-- ---- the same words

module _ (ix : List ℕ) where
  pub run_same : (a b : ℕ) → ((i : ℕ) → i < 10 → get_or ix (a + i) 0 ≡ get_or ix (b + i) 0) → run_from (drop a ix) ≡ run_from (drop b ix)
  unfolding run_from
  run_same a b h =
      let w0 = w 0 (omega arith) in
      let w1 = w 1 (omega arith) in
      let w2 = w 2 (omega arith) in
      let w3 = w 3 (omega arith) in
      let w4 = w 4 (omega arith) in
      let w5 = w 5 (omega arith) in
      let w6 = w 6 (omega arith) in
      let w7 = w 7 (omega arith) in
      let w8 = w 8 (omega arith) in
      let w9 = w 9 (omega arith) in
      λ t.
      record {
        reference = record { authority = w0 t; round = w1 t; digest = digest_of (w2 t) (w3 t) (w4 t) (w5 t) };
        start = w6 t;
        end = w7 t;
        votes = record { low = w8 t; high = w9 t };
      }
    where
      w : (i : ℕ) → i < 10 → get_or (drop a ix) i 0 ≡ get_or (drop b ix) i 0
      w i m = get_or-drop a ix i 0 ∙ h i m ∙ sym (get_or-drop b ix i 0)

  -- one word more is the same
  pub same_more : (a b i : ℕ) → ((j : ℕ) → j < i → get_or ix (a + j) 0 ≡ get_or ix (b + j) 0) → get_or ix (a + i) 0 ≡ get_or ix (b + i) 0
      → (j : ℕ) → j < i + 1 → get_or ix (a + j) 0 ≡ get_or ix (b + j) 0
  same_more a b i h e j m = go (dec_lt j i)
    where
      go : Dec (j < i) → get_or ix (a + j) 0 ≡ get_or ix (b + j) 0
      go (yes k) = h j k
      go (no k) = let q : i ≡ j = omega arith in subst (λ (z : ℕ). get_or ix (a + z) 0 ≡ get_or ix (b + z) 0) q e

-- ---- runs shared one after the other

pub shared_start : (ix cs : List ℕ) (n pos : ℕ) → Shared ix cs n pos 0
unfolding Shared runs_from
shared_start ix cs n pos j h = alike (omega arith) refl

module _ (ix : List ℕ) (pos at left : ℕ) where
  runs_on : (k : ℕ) → HasRuns ix pos k at left → HasRun ix (pos + 10 * k) k at left → HasRuns ix pos (k + 1) at left
  runs_on k h (ended e) = over e
  runs_on k (over e) (there m f) = over e
  runs_on k (alike l e) (there m f) =
      alike (omega arith)
      (runs_last k ix pos
      ∙ ap (λ (xs : List Run). xs ++ run_from (drop (pos + 10 * k) ix) ∷ []) e
      ∙ ap (λ (x : Run). runs_from k (drop at ix) ++ x ∷ []) f
      ∙ sym (runs_last k ix at))

  fewer_runs : (k m : ℕ) → k ≤ m → HasRuns ix pos m at left → HasRuns ix pos k at left
  fewer_runs k m h (over e) = over e
  fewer_runs k m h (alike l e) = alike (omega arith) (runs_fewer k m (drop pos ix) (drop at ix) h e)

-- one source more has a run
module _ (ix cs : List ℕ) (pos k : ℕ) where
  pub have_start : AllHave ix cs 0 pos k
  unfolding AllHave
  have_start j h = absurd (omega arith)

  pub have_on : (n : ℕ) → AllHave ix cs n pos k → HasRun ix pos k (cursor_at cs n) (cursor_left cs n) → AllHave ix cs (n + 1) pos k
  unfolding AllHave
  have_on n s h j i = go (dec_lt j n)
    where
      go : Dec (j < n) → HasRun ix pos k (cursor_at cs j) (cursor_left cs j)
      go (yes m) = s j m
      go (no m) = let e : n ≡ j = omega arith in subst (λ (z : ℕ). HasRun ix pos k (cursor_at cs z) (cursor_left cs z)) e h

  pub have_end : (n m : ℕ) → n ≤ m → AllHave ix cs m pos k → AllHave ix cs n pos k
  unfolding AllHave
  have_end n m l s j i = s j (omega arith)

pub shared_on : (ix cs : List ℕ) (n pos k : ℕ) → Shared ix cs n pos k → AllHave ix cs n (pos + 10 * k) k → Shared ix cs n pos (k + 1)
unfolding Shared AllHave
shared_on ix cs n pos k s h j i = runs_on ix pos (cursor_at cs j) (cursor_left cs j) k (s j i) (h j i)

-- fewer runs are shared too
pub shared_fewer : (ix cs : List ℕ) (n pos k m : ℕ) → k ≤ m → Shared ix cs n pos m → Shared ix cs n pos k
unfolding Shared
shared_fewer ix cs n pos k m h s j i = fewer_runs ix pos (cursor_at cs j) (cursor_left cs j) k m h (s j i)
