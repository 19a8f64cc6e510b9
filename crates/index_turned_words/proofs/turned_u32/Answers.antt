use Rattle.index_turned_words.proofs.Turning.{turned_halves}
use native.Mathlib.Omega.{arith}
use Rattle.index_turned_words.proofs.turned_u32.Goals as goal

pub returns : goal.returns
returns c = turned_halves 2 c.args.v c.turned_u16.result c.turned_u16-2.result (omega arith)
    c.turned_u16.ensures c.turned_u16-2.ensures
