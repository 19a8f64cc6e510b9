use mathlib.Core.Path.{sym}
use Rattle.words.proofs.Words.{last_none}
use Rattle.words.proofs.word_at.Goals as goal

pub returns-then-s-at : goal.returns-then-s-at
returns-then-s-at c = sym (last_none c.args.s.now c.args.at c.if-s-at.true)
