-- Where blasting ends: machinery for the contract of `free_from`. Assumes nothing: these are definitions.
use Rattle.std.specs.Prelude.{ℕ, ◌≤◌, ◌<◌, ◌≡◌, true, false, List}
use Rattle.calendar_windows.specs.Calendar.{Window, week, blasting}

-- r is the first second from s on that lies in no window
pub record Free (ws : List Window) (s r : ℕ) : Type 0 where
  pub onward : s ≤ r
  pub blasts : (x : ℕ) → s ≤ x → x < r → blasting ws x ≡ true
  pub quiet : blasting ws r ≡ false
  pub in_week : s ≤ week → r ≤ week
