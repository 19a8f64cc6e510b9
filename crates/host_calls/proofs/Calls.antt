-- How answers and stakes cross. Assumes nothing.
use mathlib.Core.Path.{◌≡◌, ◌∙◌}
use mathlib.Core.Bool.{Bool, true, false}
use mathlib.Core.List.{List, []}
use Prim.Native.Nat.{ℕ, ◌/◌, ◌%◌, ◌≤◌, ◌<◌}
use native.Mathlib.Omega.{arith}
use lib.Dec.{eqb}
use lib.ListN.{length}
use borrow.Author.Tests.{eq-eqb, ne_eqb, lt-ltb, le-leb, lt-leb}
use Rattle.base.specs.Lists.{any_of, all_of, pick}
use Rattle.base.specs.Checks.{refused, answered, refusal, passes, checked}
use Rattle.committee.specs.Committee.{new_committee, committee_checks}
use Rattle.words.specs.Words.{whole_words, words_in, words_of}
use Rattle.words.proofs.Words.{length_words_in}
use Rattle.host_calls.specs.Calls.{encoded, committee_of, new_committee_call}

-- an answer below 2^63 is taken for no refusal, and the word says which it is
pub encoded_answer : (n m : ℕ) → n < 9223372036854775808 → encoded (answered n) ≡ encoded (refused m) → ⊥
unfolding encoded
encoded_answer n m h e = omega arith

-- ---- stakes

module _ (s : List ℕ) where
  pub committee_ragged : (length s % 8 ≡ 0 → ⊥) → committee_of s ≡ []
  unfolding committee_of whole_words
  committee_ragged h = rw (ne_eqb (length s % 8) 0 h)

  module _ (h : length s % 8 ≡ 0) where
    pub committee_many : 128 < length s / 8 → committee_of s ≡ []
    unfolding committee_of whole_words
    committee_many k = rw (eq-eqb (length s % 8) 0 h, lt-leb (length s / 8) 128 k)

    pub committee_words : length s / 8 ≤ 128 → committee_of s ≡ words_in (length s / 8) s
    unfolding committee_of whole_words words_of
    committee_words k = rw (eq-eqb (length s % 8) 0 h, le-leb (length s / 8) 128 k)

  -- ---- setting a committee

  pub call_ragged : (length s % 8 ≡ 0 → ⊥) → new_committee_call s ≡ refused 5
  unfolding new_committee_call whole_words
  call_ragged h = rw (ne_eqb (length s % 8) 0 h)

  pub call_words : length s % 8 ≡ 0 → new_committee_call s ≡ new_committee (words_of s)
  unfolding new_committee_call whole_words
  call_words h = rw (eq-eqb (length s % 8) 0 h)

  words_many : 128 < length s / 8 → 128 < length (words_of s)
  unfolding words_of
  words_many k = rw (length_words_in (length s / 8) s) k

  -- over 128 words, only a zero stake comes before 3
  pub call_many : length s % 8 ≡ 0 → 128 < length s / 8 → (t : Bool) → any_of (λ w. eqb w 0) (words_of s) ≡ t → new_committee_call s ≡ refused (pick t 2 3)
  unfolding new_committee committee_checks checked passes refusal all_of
  call_many h k true e = call_words h ∙ rw (ne_eqb (length (words_of s)) 0 (λ z. omega (arith, words_many k)), e)
  call_many h k false e = call_words h ∙ rw (
    ne_eqb (length (words_of s)) 0 (λ z. omega (arith, words_many k)),
    e,
    lt-ltb 128 (length (words_of s))
        (words_many k),
  )

  pub call_held : length s % 8 ≡ 0 → length s / 8 ≤ 128 → new_committee_call s ≡ new_committee (committee_of s)
  unfolding words_of
  call_held h k = call_words h ∙ rw (committee_words h k)
