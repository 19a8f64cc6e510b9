-- A slip that fits into a slice, and one that does not. Assumes nothing.
use mathlib.Core.Path.{◌≡◌}
use mathlib.Core.List.{◌++◌}
use Prim.Native.Nat.{ℕ, ◌≤◌, ◌<◌}
use lib.ListN.{length, drop}
use borrow.Author.Tests.{lt-ltb, le-ltb}
use Rattle.base.specs.Le.{Bytes}
use Rattle.base.specs.Checks.{refused, answered}
use Rattle.slip_write_bytes.specs.Listed.{written_over}

module _ (bytes out : Bytes) where
  pub over_short : length out < length bytes → record { answer = refused 50; out = out } ≡ written_over bytes out
  unfolding written_over
  over_short h = rw (lt-ltb (length out) (length bytes) h)

  pub over_long : length bytes ≤ length out → (n : ℕ) → n ≡ length bytes → record { answer = answered n; out = bytes ++ drop (length bytes) out } ≡
      written_over bytes out
  unfolding written_over
  over_long h n e = rw (e, le-ltb (length out) (length bytes) h)
