use Prim.Native.Nat.{◌^◌}
use native.Mathlib.Nat.{one-mul, mod-eq_of_lt}
use lib.Pow.{pow-lt}
use borrow.Author.Rules.{rules}
use Rattle.list_include_sets.proofs.mask.Goals as goal

-- one shifted by i places stays within the word

pub overflow_shl-result : goal.overflow_shl-result
overflow_shl-result c = search rules

pub returns : goal.returns
returns c = rw (one-mul (2 ^ c.args.i)) (mod-eq_of_lt (pow-lt (overflow_shl-result c)))
