-- The finality question of a host. Assumes nothing.
use mathlib.Core.Path.{◌≡◌, refl, sym, ap, ◌∙◌}
use mathlib.Core.Bool.{Bool, true, false}
use mathlib.Core.List.{List, ◌++◌}
use Prim.Native.Nat.{ℕ, ◌≤◌}
use native.Mathlib.Decide.{ℕ_discrete}
use native.Mathlib.Omega.{arith}
use lib.ListN.{length, drop, length-append, length-drop}
use borrow.Author.Tests.{eq-eqb, ne_eqb}
use Rattle.base.specs.Lists.{pick, all_of}
use Rattle.base.specs.Checks.{refusal, passes, Answer, refused, answered, checked}
use Rattle.committee.specs.Committee.{Committee}
use Rattle.record_spec.specs.Reference.{TransactionLocator}
use Rattle.base.proofs.Le.{AllBytes}
use Rattle.words.proofs.Words.{bytes_of_words_in}
use Rattle.words.specs.Words.{words_in, words_of, bytes_of}
use Rattle.final_spec.specs.Finality.{Finality, finality_checks, blocks_of}
use Rattle.final_readings_spec.specs.Readings.{Reading, is_final_in}
use Rattle.final_readings_spec.specs.Finality.{certifying_positions_in, finality_in}
use Rattle.final_question.specs.Answers.{as_finality}
use Rattle.record_reference_bytes.specs.Step.{locator_at}
use Rattle.host_locators.specs.Locators.{locator_of, refusal_before}
use Rattle.host_finality.specs.Finality.{FinalityCall, finality_number, finality_of, asked_finality, numbers_fit}
use Rattle.host_calls.proofs.Numbers.{checked_most}
use Rattle.host_locators.proofs.Locators.{locator_none, locator_read}
use Rattle.std.specs.Prelude.{Err, Ok, Result}
use Rattle.base.specs.declared.refusal.Refusal.{Refusal}
use Rattle.base.specs.Refusals.{refusal_number}
use Rattle.final_question.specs.declared.FinalOrNot.{FinalOrNot}
use Rattle.final_question.specs.declared.FinalOrNot.TheVariants.{Final, NotFinal}

-- the numbers of the question are at most 41 (40 is its greatest)
pub finality_most : (reading : Reading) (c : Committee) (s ps : List ℕ) (l : TransactionLocator) (n : ℕ) → (finality_in reading c s ps l).answer ≡ refused n → n
    ≤ 41
unfolding finality_in finality_checks all_of
finality_most reading c s ps l n e = checked_most 41 (finality_checks c s ps) _ n refl e

-- positions that keep their number hold every certifying block
pub finality_count : (reading : Reading) (c : Committee) (s ps : List ℕ) (l : TransactionLocator) (f : Finality)
    → (finality_in reading c s ps l).answer ≡ answered f → length (finality_in reading c s ps l).positions ≡ length ps → f.certifying ≤ length ps
unfolding finality_in checked
finality_count reading c s ps l f e k = by (passes (finality_checks c s ps)) e k
  where
    found : List ℕ
    found = certifying_positions_in reading c s l

    told : Finality
    told = record { final = is_final_in reading c (blocks_of s) l; certifying = length found }

    by : (t : Bool) → ◌≡◌ {A = Answer Finality} (pick t (answered told) (refused (refusal (finality_checks c s ps)))) (answered f)
        → length (pick t (found ++ drop (length found) ps) ps) ≡ length ps → f.certifying ≤ length ps
    by true e k =
        let z : told ≡ f = cc in
        omega (arith, ap (λ (x : Finality). x.certifying) z, sym (length-append found (drop (length found) ps)) ∙ k, length-drop (length found) ps)
    by false e k = let z : ◌≡◌ {A = ℕ} 0 1 = cc in absurd (omega arith)

-- so its answer leaves room for the word
pub finality_fits : (reading : Reading) (c : Committee) (s ps : List ℕ) (l : TransactionLocator) (r : Result FinalOrNot Refusal) → length ps ≡ 1024
    → as_finality r ≡ (finality_in reading c s ps l).answer → length (finality_in reading c s ps l).positions ≡ length ps → numbers_fit r
unfolding as_finality
finality_fits reading c s ps l (Ok (Final n)) h e k = omega (arith, finality_count reading c s ps l _ (sym e) k)
finality_fits reading c s ps l (Ok (NotFinal n)) h e k = omega (arith, finality_count reading c s ps l _ (sym e) k)
finality_fits reading c s ps l (Err r) h e k = finality_most reading c s ps l (refusal_number r) (sym e)

-- a refused question leaves the words as they were
words_kept : (reading : Reading) (c : Committee) (s ws : List ℕ) (l : TransactionLocator) (n : ℕ) → finality_number (finality_in reading c s ws l).answer ≡
    refused n → (finality_in reading c s ws l).positions ≡ ws
unfolding finality_in checked finality_number
words_kept reading c s ws l n e = by (passes (finality_checks c s ws)) e
  where
    found : List ℕ
    found = certifying_positions_in reading c s l

    told : Finality
    told = record { final = is_final_in reading c (blocks_of s) l; certifying = length found }

    by : (t : Bool) → finality_number (pick t (answered told) (refused (refusal (finality_checks c s ws)))) ≡ refused n → pick t
        (found ++ drop (length found) ws) ws ≡ ws
    by true e = let z : ◌≡◌ {A = ℕ} 0 1 = cc in absurd (omega arith)
    by false e = refl

-- positions of 1,024 words: the engine's question
pub asked_sized : (reading : Reading) (c : Committee) (s ps : List ℕ) (l : TransactionLocator) → length ps ≡ 8192
    → finality_of reading c s ps l ≡ record {
      answer = finality_number (finality_in reading c s (words_in 1024 ps) l).answer;
      positions = bytes_of
          (finality_in reading c s (words_in 1024 ps) l).positions;
    }
unfolding finality_of words_of
asked_sized reading c s ps l h = rw (eq-eqb (length ps) 8192 h, h)

pub asked_other : (reading : Reading) (c : Committee) (s ps : List ℕ) (l : TransactionLocator) → (length ps ≡ 8192 → ⊥)
    → finality_of reading c s ps l ≡ record { answer = refused (refusal_before 40 c s); positions = ps }
unfolding finality_of
asked_other reading c s ps l h = rw (ne_eqb (length ps) 8192 h)

-- bytes that are no locator, positions of another size, and neither
module _ (reading : Reading) (c : Committee) (s ps b : List ℕ) where
  pub asked_none : (length b ≡ 56 → ⊥) → asked_finality reading c s ps (locator_of b) ≡ record { answer = refused (refusal_before 20 c s); positions = ps }
  unfolding asked_finality
  asked_none h = rw (locator_none b h)

  pub asked_ragged : length b ≡ 56 → (length ps ≡ 8192 → ⊥) → asked_finality reading c s ps (locator_of b) ≡ record
      { answer = refused (refusal_before 40 c s); positions = ps }
  unfolding asked_finality
  asked_ragged h k = rw (locator_read b h) (asked_other reading c s ps (locator_at b 0) k)

  pub asked_words : length b ≡ 56 → length ps ≡ 8192
      → asked_finality reading c s ps (locator_of b)
      ≡ record {
        answer = finality_number (finality_in reading c s (words_in 1024 ps) (locator_at b 0)).answer;
        positions = bytes_of
            (finality_in reading c s (words_in 1024 ps) (locator_at b 0)).positions;
      }
  unfolding asked_finality
  asked_words h k = rw (locator_read b h) (asked_sized reading c s ps (locator_at b 0) k)

-- 01: "A refusal writes nothing": the positions of a refused question are as they were
pub refused_kept : (reading : Reading) (c : Committee) (s ps : List ℕ) (l : TransactionLocator) (n : ℕ) → AllBytes ps
    → (finality_of reading c s ps l).answer ≡ refused n → (finality_of reading c s ps l).positions ≡ ps
refused_kept reading c s ps l n bytes e = by (ℕ_discrete (length ps) 8192)
  where
    by : Dec (length ps ≡ 8192) → (finality_of reading c s ps l).positions ≡ ps
    by (no h) = ap (λ (x : FinalityCall). x.positions) (asked_other reading c s ps l h)
    by (yes h) =
        let sized = asked_sized reading c s ps l h in
        ap (λ (x : FinalityCall). x.positions) sized
        ∙ ap bytes_of (words_kept reading c s (words_in 1024 ps) l n (sym (ap (λ (x : FinalityCall). x.answer) sized) ∙ e))
        ∙ bytes_of_words_in 1024 ps bytes h
