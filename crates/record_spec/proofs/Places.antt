-- Where a record of either edition has its edition, its time and its statements. Assumes nothing.
use mathlib.Core.Path.{◌≡◌, refl, ap, ◌∙◌}
use mathlib.Core.List.{List, [], ◌∷◌, ◌++◌, map, flatten}
use mathlib.Core.Option.{Option, none, some}
use Prim.Native.Nat.{ℕ, zero, suc, ◌+◌, ◌*◌, ◌<◌}
use native.Mathlib.Nat.{div-eq_of_lt}
use lib.ListN.{length, take, drop, replicate}
use lib.Seq.{take_at, drop-append-add}
use Rattle.base.specs.Lists.{sum_of}
use Rattle.base.specs.Le.{le_bytes}
use Rattle.base.proofs.Le.{AllBytes, length_le_bytes, le_bytes_add}
use Rattle.base.proofs.Read.{One}
use Rattle.record_spec.specs.Record.{statement_bytes, Edition, old, timed, Timed, timed_of, block_of, body_from, body_start, statement_start, time_bytes}
use Rattle.record_spec.specs.Record.{bytes_in, edition_for, timed_bytes}
use Rattle.record_spec.specs.Claims.{StandsIn}
use Rattle.record_spec.proofs.Records.{TimeFits, InFits, past_edition, past_includes, edition_place, edition_said, timed_back, block_in_lem}

drop_written : {A : Type 0} (w : A → List ℕ) (i : ℕ) (xs : List A) → drop (sum_of (map (λ x. length (w x)) (take i xs))) (flatten (map w xs)) ≡ flatten
    (map w (drop i xs))
unfolding sum_of flatten
drop_written w zero xs = refl
drop_written w (suc i) [] = refl
drop_written w (suc i) (x ∷ xs) = drop-append-add (w x) (flatten (map w xs)) (sum_of (map (λ y. length (w y)) (take i xs))) ∙ drop_written w i xs

-- a time of 64 bits has eight zero bytes above
upper_zero : (x : ℕ) → x < 18446744073709551616 → le_bytes 16 x ≡ le_bytes 8 x ++ replicate 8 0
unfolding le_bytes
upper_zero x h = le_bytes_add 8 8 x ∙ rw (div-eq_of_lt h)

time_size : (e : Edition) (x : ℕ) → TimeFits e (some x) → x < 18446744073709551616
time_size old x h = absurd h
time_size timed x h = h

time_place : (e : Edition) (t : Timed) → InFits e t → (x : ℕ) → t.time ≡ some x → take 16 (drop 56 (bytes_in e t)) ≡ le_bytes 8 x ++ replicate 8 0
unfolding time_bytes
time_place e t h x k =
    let small : TimeFits e (some x) = rw k at h.time in
    ap (λ (l : List ℕ). take 16 l) (past_edition e t h.block 0)
    ∙ rw k (take_at (le_bytes 16 x) _ 16 (length_le_bytes 16 x) ∙ upper_zero x (time_size e x small))

-- the includes begin after the time
body_from_lem : (e : Edition) (o : Option ℕ) → TimeFits e o → body_from e ≡ 56 + length (time_bytes o)
unfolding body_from time_bytes
body_from_lem old none h = refl
body_from_lem old (some x) h = absurd h
body_from_lem timed none h = absurd h
body_from_lem timed (some x) h = rw (length_le_bytes 16 x)

start_place : (e : Edition) (t : Timed) → InFits e t → body_start (bytes_in e t) ≡ 56 + length (time_bytes t.time)
unfolding body_start
start_place e t h = rw (edition_said e t h.block) (body_from_lem e t.time h.time)

module _ (r : List ℕ) (t : Timed) (b : AllBytes r) (h : timed_of r ≡ some t) where
  said : block_of r ≡ some t.block
  unfolding block_of
  said = rw h

  one : One timed_bytes (λ u. InFits (edition_for u.time) u) r t
  one = timed_back r t b h

  pub starts : body_start r ≡ 56 + length (time_bytes t.time)
  unfolding timed_bytes
  starts = rw one.are (start_place (edition_for t.time) t one.right)

  pub statements_place : (i : ℕ) → drop (statement_start r i) r ≡ flatten (map statement_bytes (drop i t.block.statements))
  unfolding statement_start timed_bytes
  statements_place i =
      let k : ℕ = sum_of (map (λ s. length (statement_bytes s)) (take i t.block.statements)) in
      rw (block_in_lem r t.block said, starts)
      (ap (λ (l : List ℕ). drop (56 + length (time_bytes t.time) + 48 * length t.block.includes + k) l) one.are
      ∙ past_includes (edition_for t.time) t one.right.block k
      ∙ drop_written statement_bytes i t.block.statements)

  pub stands_in : StandsIn r t
  unfolding timed_bytes
  stands_in =
      record {
        edition = rw one.are (edition_place (edition_for t.time) t one.right.block);
        start = starts;
        time = rw one.are (time_place (edition_for t.time) t one.right);
        statements = statements_place;
      }
