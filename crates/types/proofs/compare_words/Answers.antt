use mathlib.Core.Path.{sym}
use native.Mathlib.Omega.{arith}
use Rattle.types.proofs.Words.{word_same, word_less, word_greater}
use Rattle.types.proofs.compare_words.Goals as goal

pub returns-then-a-b : goal.returns-then-a-b
returns-then-a-b c = sym (word_same _ _ c.if-a-b.true)

pub returns-then-a-b-2 : goal.returns-then-a-b-2
returns-then-a-b-2 c = sym (word_less _ _ c.if-a-b-2.true)

pub returns : goal.returns
returns c = sym (word_greater _ _ (omega arith))
