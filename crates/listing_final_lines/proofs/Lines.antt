-- The lines of a stretch, one more at a time. Assumes nothing.
use mathlib.Core.Path.{◌≡◌, refl, sym, ap, ◌∙◌}
use mathlib.Core.Logic.{◌⊎◌, inl, inr}
use mathlib.Core.List.{◌++◌, append_assoc, append-nil}
use Prim.Native.Nat.{ℕ, zero, suc, ◌+◌, ◌-◌, ◌≤◌, ◌<◌}
use native.Mathlib.Omega.{arith}
use lib.ListN.{length}
use Rattle.base.specs.Le.{Bytes}
use Rattle.listing_text.specs.Text.{Wrote}
use Rattle.listing_text.proofs.Text.{wrote_none, wrote_on, wrote_same, length_wrote}
use Rattle.listing_final_lines.specs.declared.Stretch.{Stretch}
use Rattle.listing_final_lines.specs.Lines.{line_of, lines_of, PutLines}

-- lines, then the lines after them
pub lines_on : (t : Stretch) (d m n : ℕ) → lines_of t d (m + n) ≡ lines_of t d m ++ lines_of t (d + m) n
unfolding lines_of
lines_on t d zero n =
    let none : 0 + n ≡ n = omega arith in
    let same : d ≡ d + 0 = omega arith in
    ap (λ (k : ℕ). lines_of t d k) none ∙ ap (λ (k : ℕ). lines_of t k n) same
lines_on t d (suc m) n =
    let more : suc m + n ≡ suc (m + n) = omega arith in
    let same : d + 1 + m ≡ d + suc m = omega arith in
    ap (λ (k : ℕ). lines_of t d k) more
    ∙ ap (λ (l : Bytes). line_of t d ++ l) (lines_on t (d + 1) m n ∙ ap (λ (k : ℕ). lines_of t (d + 1) m ++ lines_of t k n) same)
    ∙ sym (append_assoc (line_of t d) (lines_of t (d + 1) m) (lines_of t (d + suc m) n))

one : (t : Stretch) (d : ℕ) → lines_of t d 1 ≡ line_of t d
unfolding lines_of
one t d = append-nil (line_of t d)

-- one line more
lines_next : (t : Stretch) (d e : ℕ) → d ≤ e → lines_of t d (e + 1 - d) ≡ lines_of t d (e - d) ++ line_of t e
lines_next t d e h =
    let more : e + 1 - d ≡ e - d + 1 = omega arith in
    let same : d + (e - d) ≡ e = omega arith in
    ap (λ (k : ℕ). lines_of t d k) more ∙ lines_on t d (e - d) 1 ∙ ap (λ (l : Bytes). lines_of t d (e - d) ++ l)
    (one t (d + (e - d)) ∙ ap (λ (k : ℕ). line_of t k) same)

-- ---- as the loop goes

-- what stands in the buffer once the lines before index e are put
pub record Put (t : Stretch) (d : ℕ) (before after : Bytes) (at e : ℕ) : Type 0 where
  pub lines : Wrote before after 0 at (lines_of t d (e - d))
  pub from : d ≤ e
  pub inside : d ≤ t.lines → e ≤ t.lines
  pub some_put : (at ≡ 0) ⊎ (d < e)
  pub long : length after ≡ length before
  pub room : at ≤ length after

pub put_start : (t : Stretch) (d : ℕ) (l : Bytes) → Put t d l l 0 d
unfolding lines_of
put_start t d l =
    let same : 0 ≡ d - d = omega arith in
    record {
      lines = wrote_same (ap (λ (k : ℕ). lines_of t d k) same) (wrote_none l 0 (omega arith));
      from = omega arith;
      inside = λ h. h;
      some_put = inl refl;
      long = refl;
      room = omega arith;
    }

pub put_next : {t : Stretch} {d : ℕ} {l m n : Bytes} {at to e : ℕ} → Put t d l m at e → Wrote m n at to (line_of t e) → e < t.lines → Put t d l n to (e + 1)
put_next {t} {d} {l} {m} {n} {at} {to} {e} v w h =
    let all : Wrote l n 0 to (lines_of t d (e + 1 - d)) = wrote_same (sym (lines_next t d e v.from)) (wrote_on v.lines w) in
    record {
      lines = all;
      from = omega (arith, v.from);
      inside = λ _. omega arith;
      some_put = inr (omega (arith, v.from));
      long = length_wrote all;
      room = omega (arith, all.fits, length_wrote all);
    }

-- no room is left, or no line
pub put_full : {t : Stretch} {d : ℕ} {l m : Bytes} {at e : ℕ} (v : Put t d l m at e) → length m < at + 128 → PutLines t d (record { put = at; done = e }) l m
put_full {t} {d} {l} {m} {at} {e} v h =
    record { lines = v.lines; from = v.from; inside = v.inside; onward = λ _ k. go k v.some_put }
  where
    go : 128 ≤ length l → (at ≡ 0) ⊎ (d < e) → d < e
    go k (inl z) = omega (arith, v.long)
    go k (inr z) = z

pub put_done : {t : Stretch} {d : ℕ} {l m : Bytes} {at e : ℕ} (v : Put t d l m at e) → t.lines ≤ e → PutLines t d (record { put = at; done = e }) l m
put_done v h = record { lines = v.lines; from = v.from; inside = v.inside; onward = λ k _. omega arith }
