-- The parts of a record before its includes, as they are written. Assumes nothing.
use mathlib.Core.Path.{◌≡◌, refl, sym, ap, ◌∙◌}
use mathlib.Core.List.{List, ◌++◌}
use mathlib.Core.Option.{none, some}
use Prim.Native.Nat.{ℕ, ◌/◌, ◌^◌, ◌<◌}
use native.Mathlib.Nat.{div-eq_of_lt}
use lib.ListN.{set}
use lib.Seq.{sets}
use Rattle.base.specs.Le.{le_bytes}
use Rattle.base.proofs.Le.{length_le_bytes, sets_append, written_add}
use Rattle.record_spec.specs.Record.{edition_bytes, time_bytes, edition_for}
use Rattle.draft_size.specs.Step.{front_bytes, count_bytes, part_bytes}

pub front_written : (l : List ℕ) (a r : ℕ) (d : List ℕ) → sets (sets (sets l 0 (le_bytes 8 a)) 8 (le_bytes 8 r)) 16 d ≡ sets l 0 (front_bytes a r d)
unfolding front_bytes
front_written l a r d =
    sym (rw (
      sets_append (le_bytes 8 a) (le_bytes 8 r ++ d) l 0,
      length_le_bytes 8 a,
      sets_append (le_bytes 8 r) d (sets l 0 (le_bytes 8 a)) 8,
      length_le_bytes
          8 r,
    ))

pub counts_written : (l : List ℕ) (m i n : ℕ) → sets (sets (set l 48 m) 49 (le_bytes 2 i)) 51 (le_bytes 2 n) ≡ sets l 48 (count_bytes m i n)
unfolding count_bytes
counts_written l m i n = sym (rw (sets_append (le_bytes 2 i) (le_bytes 2 n) (set l 48 m) 49, length_le_bytes 2 i))

pub old_written : (l : List ℕ) → set (set (set l 53 0) 54 0) 55 0 ≡ sets l 53 (part_bytes none)
unfolding part_bytes edition_bytes edition_for time_bytes
old_written l = refl

pub time_written : (l : List ℕ) (x : ℕ) → x < 18446744073709551616 → sets (sets (set (set (set l 53 2) 54 0) 55 0) 56 (le_bytes 8 x)) 64 (le_bytes 8 0) ≡ sets l
    53 (part_bytes (some x))
unfolding part_bytes edition_bytes edition_for time_bytes
time_written l x h =
    let m : List ℕ = set (set (set l 53 2) 54 0) 55 0 in
    let e : 0 ≡ x / 256 ^ 8 = sym (div-eq_of_lt h) in
    ap (λ (y : ℕ). sets (sets m 56 (le_bytes 8 x)) 64 (le_bytes 8 y)) e ∙ written_add 8 8 x m 56
