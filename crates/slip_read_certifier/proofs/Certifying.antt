-- A certifier at a position of a slip. Assumes nothing.
use mathlib.Core.Path.{◌≡◌, refl, ◌∙◌}
use mathlib.Core.Bool.{true, false}
use mathlib.Core.List.{List}
use mathlib.Core.Option.{Option, none, some}
use Prim.Native.Nat.{ℕ, ◌+◌, ◌-◌, ◌≤◌, ◌<◌}
use native.Mathlib.Omega.{arith}
use lib.ListN.{length, get_or, drop, length-drop}
use Rattle.base.specs.Le.{Bytes}
use Rattle.base.specs.Read.{Part, Read, give, fail, onward, ◌>>=◌, number, given, repeated}
use Rattle.base.proofs.Le.{le_at_byte}
use Rattle.base.proofs.Read.{part}
use Rattle.base.proofs.Fixed.{fixed_number, least_zero, least_bind, reads_at, number_at}
use Rattle.record_spec.specs.Record.{read_reference}
use Rattle.record_reference_bytes.specs.Step.{reference_at}
use Rattle.record_reference_bytes.proofs.Fixed.{fixed_reference, reference_value}
use Rattle.slip_spec.specs.Slip.{SlipVoter, SlipCertifier, voters_ascend, read_voter, read_certifier}

-- ---- a certifier

module _ (s : Bytes) (p : ℕ) where
  pub certifier_short : length s - p < 49 → read_certifier (drop p s) ≡ none
  unfolding read_certifier
  certifier_short h =
      least_bind read_reference _ 48 1 fixed_reference (λ b. least_bind (number 1) _ 1 0 (fixed_number 1) (λ n. least_zero _)) (drop p s)
      (omega (arith, length-drop p s))

  module _ (h : p + 49 ≤ length s) where
    abbrev of_voters : List SlipVoter → Read SlipCertifier
    of_voters vs = given (voters_ascend vs) (give (record { reference = reference_at s p; voters = vs }))

    certifier_on : read_certifier (drop p s) ≡ onward (repeated (get_or s (p + 48) 0) read_voter (drop (p + 49) s)) of_voters
    unfolding read_certifier ◌>>=◌ onward
    certifier_on =
        let e : p + 48 + 1 ≡ p + 49 = omega arith in
        rw (
          reads_at read_reference 48 fixed_reference s p (omega arith),
          reference_value s p,
          number_at 1 s (p + 48) (omega arith),
          le_at_byte s (p + 48)
              (omega arith),
          e,
        )

    pub certifier_none : ((r : Part (List SlipVoter)) → repeated (get_or s (p + 48) 0) read_voter (drop (p + 49) s) ≡ some r → voters_ascend r.value ≡ false) →
        read_certifier (drop p s) ≡ none
    unfolding onward given fail
    certifier_none f = certifier_on ∙ go (repeated (get_or s (p + 48) 0) read_voter (drop (p + 49) s)) f
      where
        go : (o : Option (Part (List SlipVoter))) → ((r : Part (List SlipVoter)) → o ≡ some r → voters_ascend r.value ≡ false) → onward o of_voters ≡ none
        go none g = refl
        go (some r) g = rw (g r refl)

    pub certifier_reads : (vs : List SlipVoter) (end : ℕ) → repeated (get_or s (p + 48) 0) read_voter (drop (p + 49) s) ≡ some (part vs (drop end s)) →
        voters_ascend vs ≡ true
        → read_certifier (drop p s) ≡ some (part (record { reference = reference_at s p; voters = vs }) (drop end s))
    unfolding onward given give
    certifier_reads vs end e k = certifier_on ∙ rw (e, k)
