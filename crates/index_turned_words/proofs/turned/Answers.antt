use Rattle.index_turned_words.proofs.Turning.{turned_halves}
use native.Mathlib.Omega.{arith}
use Rattle.index_turned_words.proofs.turned.Goals as goal

pub returns : goal.returns
returns c = turned_halves 4 c.args.v c.turned_u32.result c.turned_u32-2.result (omega arith)
    c.turned_u32.ensures c.turned_u32-2.ensures
