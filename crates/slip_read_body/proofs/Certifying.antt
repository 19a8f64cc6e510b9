-- The slip's head, and what follows it. Assumes nothing.
use mathlib.Core.Path.{◌≡◌, refl, ◌∙◌}
use mathlib.Core.Bool.{Bool, true, false}
use mathlib.Core.List.{List, [], ◌∷◌}
use mathlib.Core.Option.{Option, none, some}
use Prim.Native.Nat.{ℕ, ◌≤◌, ◌<◌}
use native.Mathlib.Omega.{arith}
use lib.Dec.{ltb, eqb}
use lib.ListN.{length, get_or, drop}
use borrow.Author.Tests.{eq-eqb, ne_eqb, leb-true}
use Rattle.base.specs.Lists.{pick}
use Rattle.base.specs.Le.{Bytes, le_at}
use Rattle.base.specs.Read.{Part, Read, give, fail, onward, ◌>>=◌, number, given, repeated, complete}
use Rattle.base.proofs.Tests.{and_left, and_right, not_both}
use Rattle.base.proofs.Le.{le_at_byte}
use Rattle.base.proofs.Read.{part}
use Rattle.base.proofs.Fixed.{fixed_number, Least, least_zero, least_bind, reads_at, number_at, empty_drop}
use Rattle.record_spec.specs.Record.{read_locator}
use Rattle.final_readings_spec.specs.Readings.{Reading, reading_of}
use Rattle.record_reference_bytes.specs.Step.{locator_at}
use Rattle.record_reference_bytes.proofs.Fixed.{fixed_locator, locator_value}
use Rattle.slip_spec.specs.Slip.{SlipCertifier, Slip, certifiers_ascend, read_certifier, read_body, read_first, names_reading, read_slip}
use Rattle.slip_read_body.specs.Step.{head_right, reading_at}

-- ---- the head

least_given : {A : Type 0} (n : ℕ) (t : Bool) (m : Read A) → Least n m → Least n (given t m)
unfolding given fail
least_given n true m h s k = h s k
least_given n false m h s k = refl

least_body : (reading : Reading) → Least 58 (read_body reading)
unfolding read_body
least_body reading = least_bind read_locator _ 56 2 fixed_locator (λ l. least_bind (number 2) _ 2 0 (fixed_number 2) (λ n. least_zero _))

least_first : Least 59 read_first
unfolding read_first
least_first = least_bind (number 1) _ 1 58 (fixed_number 1) (λ first. least_given 58 (ltb first 2) (read_body (reading_of (eqb first 1)))
    (least_body (reading_of (eqb first 1))))

pub short_slip : (s : Bytes) → length s < 59 → read_slip s ≡ none
unfolding read_slip complete
short_slip s h = rw (least_first s h)

first_on : (s : Bytes) → 59 ≤ length s → read_slip s ≡ complete (given (ltb (get_or s 0 0) 2) (read_body (reading_at s)) (drop 1 s))
unfolding read_slip read_first reading_at ◌>>=◌ onward
first_on s h = rw (number_at 1 s 0 (omega arith), le_at_byte s 0 (omega arith))

first_names : (s : Bytes) → names_reading s ≡ true → ltb (get_or s 0 0) 2 ≡ true
unfolding names_reading
first_names [] h = absurd (not_both h refl)
first_names (first ∷ s) h = h

-- ---- the slip

module _ (s : Bytes) (h : head_right s ≡ true) where
  pub head_long : 59 ≤ length s
  unfolding head_right
  head_long = leb-true 59 (length s) (and_right (names_reading s) _ h)

  abbrev of_certifiers : List SlipCertifier → Read Slip
  of_certifiers ks = given (certifiers_ascend ks) (give (record { reading = reading_at s; locator = locator_at s 1; certifiers = ks }))

  slip_on : read_slip s ≡ complete (onward (repeated (le_at 2 s 57) read_certifier (drop 59 s)) of_certifiers)
  unfolding head_right read_body given ◌>>=◌ onward
  slip_on =
      first_on s head_long
      ∙ rw (
        first_names s (and_left _ _ h),
        reads_at read_locator 56 fixed_locator s 1 (omega (arith, head_long)),
        locator_value s 1,
        number_at 2 s 57 (omega (arith, head_long)),
      )

  pub slip_none : ((r : Part (List SlipCertifier)) → repeated (le_at 2 s 57) read_certifier (drop 59 s) ≡ some r → certifiers_ascend r.value ≡ false) →
      read_slip s ≡ none
  unfolding onward given fail complete
  slip_none f = slip_on ∙ go (repeated (le_at 2 s 57) read_certifier (drop 59 s)) f
    where
      go : (o : Option (Part (List SlipCertifier))) → ((r : Part (List SlipCertifier)) → o ≡ some r → certifiers_ascend r.value ≡ false) → complete
          (onward o of_certifiers) ≡ none
      go none g = refl
      go (some r) g = rw (g r refl)

  module _ (ks : List SlipCertifier) (end : ℕ) (e : repeated (le_at 2 s 57) read_certifier (drop 59 s) ≡ some (part ks (drop end s)))
      (k : certifiers_ascend ks ≡ true) (i : end ≤ length s) where
    slip_whole : read_slip s ≡ pick (eqb end (length s)) (some (record { reading = reading_at s; locator = locator_at s 1; certifiers = ks })) none
    unfolding onward given give complete
    slip_whole = slip_on ∙ rw (e, k, empty_drop s end i)

    pub slip_more : (end ≡ length s → ⊥) → read_slip s ≡ none
    slip_more f = slip_whole ∙ rw (ne_eqb end (length s) f)

    pub slip_reads : end ≡ length s → read_slip s ≡ some (record { reading = reading_at s; locator = locator_at s 1; certifiers = ks })
    slip_reads f = slip_whole ∙ rw (eq-eqb end (length s) f)
