-- Refusals of checks that code makes one group after the other: the answer 0 goes on, any other ends. Assumes nothing.
use mathlib.Core.Path.{◌≡◌, refl, ◌∙◌}
use mathlib.Core.List.{List, [], ◌∷◌, ◌++◌}
use mathlib.Core.Bool.{Bool, true, false, not, ◌&&◌}
use Prim.Native.Nat.{ℕ, ◌<◌}
use native.Mathlib.Omega.{arith}
use lib.Dec.{lit<}
use borrow.Author.Tests.{eq-eqb}
use Rattle.base.specs.Lists.{pick, all_of}
use Rattle.base.specs.Checks.{Check, refusal, passes}
use Rattle.base.specs.Refusals.{refusal_number, refusal_in}
use Rattle.std.specs.Prelude.{Result, Ok, Err}
use Rattle.std.specs.Result.{is_ok, is_err}
use Rattle.base.specs.declared.refusal.Refusal.{Refusal}
use Rattle.base.specs.declared.refusal.Refusal.TheVariants as refusals
use Rattle.base.proofs.Tests.{not_both}
use Rattle.base.proofs.Lists.{Every}
use Rattle.base.proofs.Checks.{passes_refusal, refusal_append}

-- 0 is no refusal number
abbrev pub Numbered : List Check → Type 0
Numbered ks = Every (λ k. 0 < k.number) ks

pub zero_passes : (ks : List Check) → Numbered ks → refusal ks ≡ 0 → passes ks ≡ true
zero_passes ks n h = passes_refusal ks n ∙ eq-eqb (refusal ks) 0 h

pub passes_zero : (ks : List Check) → passes ks ≡ true → refusal ks ≡ 0
unfolding passes all_of refusal
passes_zero [] h = refl
passes_zero (k ∷ ks) h = go k.applies h (passes_zero ks)
  where
    go : (t : Bool) → not t && passes ks ≡ true → (passes ks ≡ true → refusal ks ≡ 0) → pick t k.number (refusal ks) ≡ 0
    go true e ih = absurd (not_both e refl)
    go false e ih = ih e

-- the first group refuses
pub refusal_first : (xs ys : List Check) → (refusal xs ≡ 0 → ⊥) → refusal (xs ++ ys) ≡ refusal xs
refusal_first xs ys f = refusal_append xs ys ∙ go (passes xs) refl
  where
    go : (t : Bool) → passes xs ≡ t → pick t (refusal ys) (refusal xs) ≡ refusal xs
    go true e = absurd (f (passes_zero xs e))
    go false e = refl

-- it does not
pub refusal_then : (xs ys : List Check) → Numbered xs → refusal xs ≡ 0 → refusal (xs ++ ys) ≡ refusal ys
refusal_then xs ys n h = refusal_append xs ys ∙ rw (zero_passes xs n h)

-- every refusal has a number, and none has the number 0
pub refusal_numbered : (r : Refusal) → 0 < refusal_number r
refusal_numbered refusals.NoStakes = lit< tt
refusal_numbered refusals.ZeroStake = lit< tt
refusal_numbered refusals.TooManyMembers = lit< tt
refusal_numbered refusals.TotalTooLarge = lit< tt
refusal_numbered refusals.BrokenCommittee = lit< tt
refusal_numbered refusals.BrokenAggregator = lit< tt
refusal_numbered refusals.StoreNotInOrder = lit< tt
refusal_numbered refusals.TableNotInOrder = lit< tt
refusal_numbered refusals.WorkTooShort = lit< tt
refusal_numbered refusals.StoreFull = lit< tt
refusal_numbered refusals.TableFull = lit< tt
refusal_numbered refusals.EventsTooShort = lit< tt
refusal_numbered refusals.Malformed = lit< tt
refusal_numbered refusals.UnknownAuthor = lit< tt
refusal_numbered refusals.RoundZeroNotEmpty = lit< tt
refusal_numbered refusals.StoredAlready = lit< tt
refusal_numbered refusals.UnknownIncludeAuthor = lit< tt
refusal_numbered refusals.IncludeRoundNotLower = lit< tt
refusal_numbered refusals.RangeEndBelowStart = lit< tt
refusal_numbered refusals.RangeEndTooLarge = lit< tt
refusal_numbered refusals.AcceptOffsetTooLarge = lit< tt
refusal_numbered refusals.ClockNotMet = lit< tt
refusal_numbered refusals.IncludeNotStored = lit< tt
refusal_numbered refusals.AnswerSlice = lit< tt
refusal_numbered refusals.NoSuchShare = lit< tt
refusal_numbered refusals.NotPending = lit< tt
refusal_numbered refusals.TooShortToWrite = lit< tt
refusal_numbered refusals.NotWritable = lit< tt
refusal_numbered refusals.SlipNotHeld = lit< tt
refusal_numbered refusals.SlipRecordMissing = lit< tt
refusal_numbered refusals.IndexDisagrees = lit< tt
refusal_numbered refusals.IndexTooShort = lit< tt
refusal_numbered refusals.StakesFileBroken = lit< tt
refusal_numbered refusals.StakesFileName = lit< tt
refusal_numbered refusals.PlacesTooShort = lit< tt
refusal_numbered refusals.BrokenCalendar = lit< tt
refusal_numbered refusals.QuorumOutOfReach = lit< tt
refusal_numbered refusals.SlipReadingUnknown = lit< tt
refusal_numbered refusals.LocatorsNotSorted = lit< tt
refusal_numbered refusals.RepliesTooShort = lit< tt
refusal_numbered refusals.OutcomesTooShort = lit< tt

pub number_not_zero : (r : Refusal) → refusal_number r ≡ 0 → ⊥
number_not_zero r e = omega (arith, refusal_numbered r)

-- an answer is a refusal where its number is not 0, and a value where it is
pub err_not_zero : {A : Type 0} (r : Result A Refusal) → is_err r ≡ true → refusal_in r ≡ 0 → ⊥
err_not_zero (Ok a) h e = absurd (let z : ◌≡◌ {A = ℕ} 0 1 = cc in omega arith)
err_not_zero (Err n) h e = number_not_zero n e

pub no_err_zero : {A : Type 0} (r : Result A Refusal) → is_err r ≡ false → refusal_in r ≡ 0
no_err_zero (Ok a) h = refl
no_err_zero (Err n) h = absurd (let z : ◌≡◌ {A = ℕ} 0 1 = cc in omega arith)

pub ok_zero : {A : Type 0} (r : Result A Refusal) → is_ok r ≡ true → refusal_in r ≡ 0
ok_zero (Ok a) h = refl
ok_zero (Err n) h = absurd (let z : ◌≡◌ {A = ℕ} 0 1 = cc in omega arith)

pub no_ok_not_zero : {A : Type 0} (r : Result A Refusal) → is_ok r ≡ false → refusal_in r ≡ 0 → ⊥
no_ok_not_zero (Ok a) h e = absurd (let z : ◌≡◌ {A = ℕ} 0 1 = cc in omega arith)
no_ok_not_zero (Err n) h e = number_not_zero n e
