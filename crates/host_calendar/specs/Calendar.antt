-- The blast calendar, asked for by a host. Assumes nothing: these are definitions.
use Rattle.std.specs.Prelude.{ℕ, ◌≤◌, ◌≡◌, Bool, true, false, not, ◌&&◌, List, [], ◌∷◌, ◌++◌, eqb, length, take, None, Some}
use Rattle.std.proofs.Math.Option.{Option, none, some}
use Rattle.base.specs.Le.{Bytes, le_bytes}
use Rattle.base.specs.Checks.{Check, ◌⇒◌, Answer, refused, answered, checked}
use Rattle.words.specs.Words.{whole_words, words_of}
use Rattle.calendar_windows.specs.Calendar.{windows, good_calendar, is_open, first_open}
use Rattle.host_calls.specs.Calls.{flag}
use Rattle.std.specs.declared.option.Option as code

-- a calendar crosses as words; bytes that are not whole words are no calendar: 59
unfoldable pub good_bytes : Bytes → Bool
good_bytes b = whole_words b && good_calendar (words_of b)

unfoldable pub open_checks : Bytes → List Check
open_checks b = (not (good_bytes b) ⇒ 59) ∷ []

-- 1 where loading is open, else 0
unfoldable pub is_open_call : Bytes → ℕ → Answer ℕ
is_open_call b t = checked (open_checks b) (flag (is_open (windows (words_of b)) t))

-- what the question for the first open second answers, and the bytes that it was lent for the second afterwards
pub record NextOpenCall : Type 0 where
  pub answer : Answer ℕ
  pub found : Bytes

-- 1 and the second in eight bytes, or 0 where there is none
unfoldable pub found_in : Bytes → Answer (Option ℕ) → NextOpenCall
found_in out (answered (some r)) = record { answer = answered 1; found = le_bytes 8 r }
found_in out (answered none) = record { answer = answered 0; found = out }
found_in out (refused n) = record { answer = refused n; found = out }

-- 59, then 40 for bytes that do not hold a word
unfoldable pub next_open_checks : Bytes → Bytes → List Check
next_open_checks b out = open_checks b ++ ((not (eqb (length out) 8) ⇒ 40) ∷ [])

unfoldable pub next_open_call : Bytes → ℕ → Bytes → NextOpenCall
next_open_call b t out = found_in out (checked (next_open_checks b out) (first_open (windows (words_of b)) t))

-- ---- machinery for the contract of `words_in`: the words of a good calendar in front, or bytes that are none

abbrev pub holds_words : code.Option ℕ → Bytes → List ℕ → Type 0
holds_words (Some n) b ws = (good_bytes b ≡ true) × ((n ≤ 128) × (take n ws ≡ words_of b))
holds_words None b ws = good_bytes b ≡ false
