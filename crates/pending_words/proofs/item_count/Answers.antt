use native.Mathlib.Omega.{arith}
use Rattle.pending_words.proofs.Slots.{laid_holding}
use Rattle.pending_words.proofs.item_count.Goals as goal

pub bounds-t-0 : goal.bounds-t-0
bounds-t-0 c = omega (arith, (laid_holding c.args.t.now c.requires).fits)

pub returns : goal.returns
returns c = (laid_holding c.args.t.now c.requires).count
