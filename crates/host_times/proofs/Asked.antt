-- The time of a stored block, as a host asks for it. Assumes nothing.
use mathlib.Core.Path.{◌≡◌, ap}
use mathlib.Core.Bool.{Bool}
use mathlib.Core.List.{List}
use mathlib.Core.Option.{Option, none, some}
use Prim.Native.Nat.{ℕ, ◌<◌}
use native.Mathlib.Decide.{dec_lt}
use native.Mathlib.Omega.{arith}
use lib.ListN.{length, drop, length-drop, drop_of_length-le}
use borrow.Author.Tests.{eq-eqb, ne_eqb}
use Rattle.base.specs.Lists.{pick, is_empty}
use Rattle.base.specs.Read.{complete}
use Rattle.base.specs.Checks.{Answer, refused}
use Rattle.base.proofs.Fixed.{reads_at, short_at}
use Rattle.base.proofs.Lists.{is_empty_false}
use Rattle.committee.specs.Committee.{Committee}
use Rattle.record_spec.specs.Record.{read_reference}
use Rattle.record_reference_bytes.specs.Step.{reference_at}
use Rattle.record_reference_bytes.proofs.Fixed.{fixed_reference, reference_value}
use Rattle.store_time.specs.Times.{ask_time}
use Rattle.host_locators.specs.Locators.{refusal_before}
use Rattle.host_times.specs.Times.{reference_of, found_in, asked_time}

-- 48 bytes are a reference
pub reference_read : (b : List ℕ) → length b ≡ 48 → reference_of b ≡ some (reference_at b 0)
unfolding reference_of complete is_empty
reference_read b e = rw (reads_at read_reference 48 fixed_reference b 0 (omega arith), reference_value b 0, drop_of_length-le b {i = 48} (omega arith))

-- bytes of any other length are none
pub reference_none : (b : List ℕ) → (length b ≡ 48 → ⊥) → reference_of b ≡ none
unfolding reference_of complete is_empty
reference_none b h = by (dec_lt (length b) 48)
  where
    by : Dec (length b < 48) → complete (read_reference b) ≡ none
    by (yes k) = rw (short_at read_reference 48 fixed_reference b 0 (omega arith))
    by (no k) = rw (reads_at read_reference 48 fixed_reference b 0 (omega arith))
        (ap (λ (t : Bool). pick t (some (fixed_reference.value b)) none) (is_empty_false (drop 48 b) (omega (arith, length-drop 48 b))))

module _ (c : Committee) (s b out : List ℕ) where
  pub time_malformed : (length b ≡ 48 → ⊥) → asked_time c s (reference_of b) out ≡ record { answer = refused (refusal_before 20 c s); found = out }
  unfolding asked_time
  time_malformed h = rw (reference_none b h)

  pub time_unsized : length b ≡ 48 → (length out ≡ 8 → ⊥) → asked_time c s (reference_of b) out
      ≡ record { answer = refused (refusal_before 40 c s); found = out }
  unfolding asked_time
  time_unsized e h = rw (reference_read b e, ne_eqb (length out) 8 h)

  -- a reference and room for a time: the engine's question
  pub time_asked : (a : Answer (Option ℕ)) → length b ≡ 48 → length out ≡ 8 → ask_time c s (reference_at b 0) ≡ a → asked_time c s (reference_of b) out
      ≡ found_in
      out a
  unfolding asked_time
  time_asked a e h k = rw (reference_read b e, eq-eqb (length out) 8 h, k)
