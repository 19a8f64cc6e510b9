-- The claims about the calendar. Assumes nothing.
use mathlib.Core.Path.{◌≡◌, refl}
use mathlib.Core.Logic.{◌↔◌}
use mathlib.Core.Bool.{Bool, true, false}
use Prim.Native.Nat.{ℕ}
use native.Mathlib.Omega.{arith}
use Rattle.base.specs.Checks.{Answer, refused, answered}
use Rattle.base.proofs.Tests.{not_both}
use Rattle.calendar_windows.specs.Calendar.{good_calendar, ask_open, ask_next_open}
use Rattle.calendar_windows.specs.Claims.{RefusedMeant, Claims}
use Rattle.calendar_windows.proofs.Weeks.{week_meant_lem, open_weekly_lem}
use Rattle.calendar_windows.proofs.First.{found_meant_lem, none_meant_lem, within_week_lem, found_weekly_lem, none_weekly_lem}
use Rattle.calendar_windows.proofs.Asked.{open_refused, open_answered, next_refused, next_answered}

apart : {A : Type 0} {B : Type 0} {x : Answer A} {a : A} {n : ℕ} → x ≡ answered a → x ≡ refused n → B
apart h k = let z : ◌≡◌ {A = ℕ} 0 1 = cc in absurd (omega arith)

-- 59 exactly where the calendar is not good
refused_meant_lem : RefusedMeant
unfolding RefusedMeant
refused_meant_lem ns t = split (good_calendar ns) refl
  where
    split : (b : Bool) → good_calendar ns ≡ b → ((ask_open ns t ≡ refused 59) ↔ (b ≡ false)) × ((ask_next_open ns t ≡ refused 59) ↔ (b ≡ false))
    split true e = ((λ h. apart (open_answered ns t e) h, λ h. absurd (not_both refl h)), (λ h. apart (next_answered ns t e) h, λ h. absurd (not_both refl h)))
    split false e = ((λ h. refl, λ h. open_refused ns t e), (λ h. refl, λ h. next_refused ns t e))

pub claimed : Claims
claimed =
    record {
      week_meant = week_meant_lem;
      found_meant = found_meant_lem;
      none_meant = none_meant_lem;
      within_week = within_week_lem;
      open_weekly = open_weekly_lem;
      found_weekly = found_weekly_lem;
      none_weekly = none_weekly_lem;
      refused_meant = refused_meant_lem;
    }
