use Prim.Native.Nat.{◌^◌}
use native.Mathlib.Nat.{one-mul, mod-eq_of_lt}
use lib.Pow.{pow-lt}
use native.Mathlib.Omega.{arith}
use Rattle.committee_set.proofs.mask.Goals as goal

-- one shifted by i places stays within the word

pub returns : goal.returns
returns c = rw (one-mul (2 ^ c.args.i)) (mod-eq_of_lt (pow-lt {j = 64} (omega arith)))
