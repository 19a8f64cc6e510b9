-- A record that is well formed: where each part of its block stands in it. Assumes nothing.
use mathlib.Core.Path.{◌≡◌, sym, ap, ◌∙◌}
use mathlib.Core.List.{List, [], ◌++◌}
use mathlib.Core.Option.{Option, some}
use mathlib.Core.Bool.{true}
use Prim.Native.Nat.{ℕ, ◌+◌, ◌*◌, ◌≤◌, ◌<◌}
use native.Mathlib.Omega.{arith}
use native.Mathlib.Decide.{dec_le}
use lib.Dec.{eqb}
use lib.ListN.{length, get_or, take, drop, length-append, length-drop, take-append-drop}
use lib.Seq.{drop-drop, take-append-le, drop-append-le}
use Rattle.base.specs.Le.{Bytes, le_at}
use Rattle.base.specs.Read.{give, onward, ◌>>=◌, repeated}
use Rattle.base.proofs.Tests.{not_both}
use Rattle.base.proofs.Le.{le_at_byte}
use Rattle.base.proofs.Read.{part}
use Rattle.base.proofs.Fixed.{fixed_repeated, values_of, length_values_of, get_d_values_of, reads_at, map_some, complete_some, repeated_length}
use Rattle.record_spec.specs.Reference.{BlockReference}
use Rattle.record_spec.specs.Block.{Statement, Block}
use Rattle.record_spec.specs.Record.{read_reference, read_statement, Timed, read_in, edition_of, timed_of, time_in, well_formed, no_reference, block_in}
use Rattle.record_spec.specs.Record.{body_start}
use Rattle.record_spec.proofs.Records.{block_of_lem, timed_of_lem}
use Rattle.record_reference_bytes.specs.Step.{reference_at}
use Rattle.record_reference_bytes.proofs.Fixed.{fixed_reference, reference_value}
use Rattle.record_edition.proofs.Editions.{time_read, body_inside}
use Rattle.record_reader.proofs.Formed.{Head, whole_head, block_short, block_rest, block_cut}

pub record Shape (s : List ℕ) (b : Block) : Type 0 where
  pub long : 56 ≤ length s
  pub head : Head s
  pub inside : body_start s + le_at 2 s 49 * 48 ≤ length s
  pub reference : b.reference ≡ reference_at s 0
  pub marked : b.marked ≡ eqb (get_or s 48 0) 1
  pub includes : b.includes ≡ values_of (le_at 2 s 49) 48 fixed_reference.value (drop (body_start s) s)
  pub statements : repeated (le_at 2 s 51) read_statement (drop (body_start s + le_at 2 s 49 * 48) s) ≡ some (part b.statements [])
  pub time : time_in s ≡ (time_read s long head.edition).value

rest_some : (s : List ℕ) (r : BlockReference) (m i n : ℕ) (o : Option ℕ) (t : Timed) → body_start s + i * 48 ≤ length s
    → (repeated i read_reference >>= (λ is. repeated n read_statement >>=
    (λ ss. give (record { block = record { reference = r; marked = eqb m 1; includes = is; statements = ss }; time = o })))) (drop (body_start s) s) ≡ some
    (part t [])
    → (ss : List Statement) × ((repeated n read_statement (drop (body_start s + i * 48) s) ≡ some (part ss []))
    × (record {
      block = record { reference = r; marked = eqb m 1; includes = values_of i 48 fixed_reference.value (drop (body_start s) s); statements = ss };
      time = o;
    } ≡ t))
unfolding ◌>>=◌ onward fixed_repeated
rest_some s r m i n o t k h =
    map_some (repeated n read_statement) (λ ss. record {
      block = record
          { reference = r; marked = eqb m 1; includes = values_of i 48 fixed_reference.value (drop (body_start s) s); statements = ss };
      time = o;
    })
    (drop (body_start s + i * 48) s) t []
    (rw (reads_at (repeated i read_reference) (i * 48) (fixed_repeated read_reference 48 fixed_reference i) s (body_start s) k) at h)

pub shape_in : (s : List ℕ) → well_formed s ≡ true → Shape s (block_in s)
unfolding timed_of
shape_in s well = long? (dec_le 56 (length s))
  where
    t : Timed
    t = record { block = block_in s; time = time_in s }

    read : read_in (edition_of s) s ≡ some (part t [])
    read = complete_some (read_in (edition_of s) s) t (timed_of_lem s (block_in s) (block_of_lem s well))

    parts : (l : 56 ≤ length s) → Head s → body_start s + le_at 2 s 49 * 48 ≤ length s → Shape s (block_in s)
    parts l h i =
        let o : Option ℕ = (time_read s l h.edition).value in
        let (ss, (p, f)) = rest_some s (fixed_reference.value s) (le_at 1 s 48) (le_at 2 s 49) (le_at 2 s 51) o t i (sym (block_rest s l h) ∙ read) in
        record {
          long = l;
          head = h;
          inside = i;
          reference = sym (ap (λ (x : Timed). x.block.reference) f) ∙ reference_value s 0;
          marked = sym (ap (λ (x : Timed). x.block.marked) f) ∙ rw (le_at_byte s 48 (omega arith));
          includes = sym (ap (λ (x : Timed). x.block.includes) f);
          statements = p ∙ ap (λ (x : List Statement). some (part x [])) (ap (λ (x : Timed). x.block.statements) f);
          time = sym (ap (λ (x : Timed). x.time) f);
        }

    inside? : (l : 56 ≤ length s) → Head s → Dec (body_start s + le_at 2 s 49 * 48 ≤ length s) → Shape s (block_in s)
    inside? l h (yes i) = parts l h i
    inside? l h (no i) = absurd (not_both well (block_cut s l h (omega (arith, body_inside s l h.edition))))

    long? : Dec (56 ≤ length s) → Shape s (block_in s)
    long? (yes l) = let h : Head s = whole_head s l well in inside? l h (dec_le (body_start s + le_at 2 s 49 * 48) (length s))
    long? (no l) = absurd (not_both well (block_short s (omega arith)))

module _ (s : List ℕ) (b : Block) (h : Shape s b) where
  pub include_count : length b.includes ≡ le_at 2 s 49
  include_count = ap (λ (x : List BlockReference). length x) h.includes ∙ length_values_of 48 fixed_reference.value (le_at 2 s 49) (drop (body_start s) s)

  pub include_at : (k : ℕ) → k < length b.includes → get_or b.includes k no_reference ≡ reference_at s (body_start s + k * 48)
  include_at k i =
      rw (
        h.includes,
        get_d_values_of 48 fixed_reference.value (le_at 2 s 49) (drop (body_start s) s) k no_reference (omega (arith, include_count)),
        drop-drop
            (k * 48) (body_start s) s,
      )
      (reference_value s (body_start s + k * 48))

  pub statement_count : length b.statements ≡ le_at 2 s 51
  statement_count = repeated_length read_statement (le_at 2 s 51) (drop (body_start s + le_at 2 s 49 * 48) s) (part b.statements []) h.statements

-- ---- a record within other bytes

reference_front : (xs ys : Bytes) → 48 ≤ length xs → reference_at (xs ++ ys) 0 ≡ reference_at xs 0
unfolding reference_at le_at
reference_front xs ys h =
    rw (
      take-append-le 8 xs ys (omega arith),
      drop-append-le 8 xs ys (omega arith),
      take-append-le 8 (drop 8 xs) ys (omega (arith, length-drop 8 xs)),
      drop-append-le 16 xs ys (omega arith),
      take-append-le 32 (drop 16 xs) ys (omega (arith, length-drop 16 xs)),
    )

-- its reference stands where it begins
pub reference_within : (s : Bytes) (p n : ℕ) → well_formed (take n (drop p s)) ≡ true → (p + 48 ≤ length s) ×
    (reference_at s p ≡ (block_in (take n (drop p s))).reference)
reference_within s p n w =
    let h : Shape (take n (drop p s)) (block_in (take n (drop p s))) = shape_in (take n (drop p s)) w in
    let whole : take n (drop p s) ++ drop n (drop p s) ≡ drop p s = take-append-drop n (drop p s) in (
      omega (arith, h.long, ap length whole, length-append (take n (drop p s)) (drop n (drop p s)), length-drop p s),
      sym (reference_value s p) ∙ reference_value (drop p s) 0 ∙ ap (λ (l : Bytes). reference_at l 0) (sym whole) ∙ reference_front (take n (drop p s))
          (drop n (drop p s)) (omega (arith, h.long)) ∙ sym h.reference,
    )
