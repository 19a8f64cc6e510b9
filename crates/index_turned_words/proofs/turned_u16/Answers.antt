use mathlib.Core.Path.{refl}
use Prim.Native.Nat.{◌/◌, ◌%◌}
use Rattle.types.specs.Values.{be_bytes}
use Rattle.base.specs.Le.{le_bytes}
use Rattle.index_turned_words.proofs.Turning.{turned_halves}
use native.Mathlib.Omega.{arith}
use Rattle.index_turned_words.proofs.turned_u16.Goals as goal

pub returns : goal.returns
unfolding be_bytes le_bytes
returns c = turned_halves 1 c.args.v (c.args.v % 256) (c.args.v / 256) (omega arith) refl refl
