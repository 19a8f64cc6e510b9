-- The parts of a stretch are its lines. Assumes nothing.
use mathlib.Core.Path.{◌≡◌, sym, ap, ◌∙◌}
use mathlib.Core.List.{◌++◌}
use Prim.Native.Nat.{ℕ, ◌+◌, ◌-◌, ◌≤◌}
use native.Mathlib.Omega.{arith}
use Rattle.base.specs.Le.{Bytes}
use Rattle.listing_final_lines.specs.declared.Stretch.{Stretch}
use Rattle.listing_final_lines.specs.Lines.{lines_of}
use Rattle.listing_final_lines.proofs.Lines.{lines_on}
use Rattle.listing_theorems.specs.Whole.{Parts, done, part}

parts_on : (t : Stretch) {d : ℕ} {lines : Bytes} → Parts t d lines → (d ≤ t.lines) × (lines ≡ lines_of t d (t.lines - d))
unfolding lines_of
parts_on t done = let same : 0 ≡ t.lines - t.lines = omega arith in (omega arith, ap (λ (n : ℕ). lines_of t t.lines n) same)
parts_on t (part {d} {e} h on) =
    let others = parts_on t on in
    let here : d + (e - d) ≡ e = omega arith in
    let all : e - d + (t.lines - e) ≡ t.lines - d = omega (arith, others.0) in (
      omega (arith, others.0),
      ap (λ (l : Bytes). lines_of t d (e - d) ++ l) (others.1 ∙ ap (λ (i : ℕ). lines_of t i (t.lines - e)) (sym here))
          ∙ sym (lines_on t d (e - d) (t.lines - e))
          ∙ ap (λ (n : ℕ). lines_of t d n) all,
    )

none_before : (t : Stretch) → t.lines - 0 ≡ t.lines
none_before t = omega arith

pub parts : (t : Stretch) (lines : Bytes) → Parts t 0 lines → lines ≡ lines_of t 0 t.lines
parts t lines on = (parts_on t on).1 ∙ ap (λ (n : ℕ). lines_of t 0 n) (none_before t)
