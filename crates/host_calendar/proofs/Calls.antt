-- What the calls about the calendar answer. Assumes nothing.
use mathlib.Core.Path.{◌≡◌, ◌∙◌}
use mathlib.Core.Bool.{Bool, true, false}
use mathlib.Core.List.{List}
use mathlib.Core.Option.{Option}
use Prim.Native.Nat.{ℕ, ◌/◌, ◌%◌, ◌<◌}
use native.Mathlib.Omega.{arith}
use borrow.Author.Tests.{eq-eqb, ne_eqb}
use lib.ListN.{length}
use Rattle.base.specs.Lists.{all_of}
use Rattle.base.specs.Checks.{refused, answered, refusal, passes, checked}
use Rattle.base.proofs.Tests.{and_right}
use Rattle.words.specs.Words.{whole_words, words_of}
use Rattle.words.proofs.Words.{length_words_in}
use Rattle.calendar_windows.specs.Calendar.{windows, good_calendar, is_open, first_open, ask_open, ask_next_open}
use Rattle.calendar_windows.proofs.Steps.{good_many}
use Rattle.calendar_windows.proofs.Asked.{open_answered, next_answered}
use Rattle.host_calls.specs.Calls.{flag}
use Rattle.host_calendar.specs.Calendar.{good_bytes, open_checks, is_open_call, found_in, next_open_checks, next_open_call}

-- ---- bytes that are no calendar

module _ (b : List ℕ) where
  pub ragged : (length b % 8 ≡ 0 → ⊥) → good_bytes b ≡ false
  unfolding good_bytes whole_words
  ragged h = rw (ne_eqb (length b % 8) 0 h)

  module _ (h : length b % 8 ≡ 0) where
    pub judged : good_bytes b ≡ good_calendar (words_of b)
    unfolding good_bytes whole_words
    judged = rw (eq-eqb (length b % 8) 0 h)

    pub long : 128 < length b / 8 → good_bytes b ≡ false
    unfolding words_of
    long k = judged ∙ good_many (words_of b) (rw (length_words_in (length b / 8) b) k)

  good_words : good_bytes b ≡ true → good_calendar (words_of b) ≡ true
  unfolding good_bytes
  good_words h = and_right (whole_words b) _ h

-- ---- whether loading is open

module _ (b : List ℕ) (t : ℕ) where
  pub open_refused : good_bytes b ≡ false → is_open_call b t ≡ refused 59
  unfolding is_open_call open_checks checked passes all_of refusal
  open_refused h = rw h

  module _ (h : good_bytes b ≡ true) where
    pub open_told : (x : Bool) → ask_open (words_of b) t ≡ answered x → is_open_call b t ≡ answered (flag x)
    unfolding is_open_call open_checks checked passes all_of
    open_told x e =
        let same : is_open (windows (words_of b)) t ≡ x = cc (open_answered (words_of b) t (good_words b h)) in
        rw (h, same)

    pub open_never : (n : ℕ) → ask_open (words_of b) t ≡ refused n → ⊥
    open_never n e = let z : ◌≡◌ {A = ℕ} 0 1 = cc (open_answered (words_of b) t (good_words b h)) in omega arith

-- ---- the first open second

module _ (b : List ℕ) (t : ℕ) (out : List ℕ) where
  pub next_refused : good_bytes b ≡ false → next_open_call b t out ≡ record { answer = refused 59; found = out }
  unfolding next_open_call found_in next_open_checks open_checks checked passes all_of refusal
  next_refused h = rw h

  module _ (h : good_bytes b ≡ true) where
    pub next_unsized : (length out ≡ 8 → ⊥) → next_open_call b t out ≡ record { answer = refused 40; found = out }
    unfolding next_open_call found_in next_open_checks open_checks checked passes all_of refusal
    next_unsized k = rw (h, ne_eqb (length out) 8 k)

    pub next_told : length out ≡ 8 → (x : Option ℕ) → ask_next_open (words_of b) t ≡ answered x → next_open_call b t out ≡ found_in out (answered x)
    unfolding next_open_call next_open_checks open_checks checked passes all_of
    next_told k x e =
        let same : first_open (windows (words_of b)) t ≡ x = cc (next_answered (words_of b) t (good_words b h)) in
        rw (h, eq-eqb (length out) 8 k, same)

    pub next_never : (n : ℕ) → ask_next_open (words_of b) t ≡ refused n → ⊥
    next_never n e = let z : ◌≡◌ {A = ℕ} 0 1 = cc (next_answered (words_of b) t (good_words b h)) in omega arith
