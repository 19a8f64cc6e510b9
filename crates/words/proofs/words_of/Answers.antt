use Prim.Native.Nat.{◌-◌}
use mathlib.Core.Path.{◌≡◌, refl, ◌∙◌}
use lib.ListN.{length, length-set}
use native.Mathlib.Omega.{arith}
use borrow.Author.Rules.{rules}
use Rattle.words.proofs.Stores.{sets_complete}
use Rattle.words.specs.Words.{words_in}
use Rattle.words.proofs.Words.{length_words_in, words_filled}
use Rattle.words.proofs.words_of.Goals as goal

pub loop-i-init : goal.loop-i-init
unfolding words_in
loop-i-init c = (search rules, (refl, refl))

pub loop-i-preserved : goal.loop-i-preserved
loop-i-preserved c =
    let start = c.args in
    let b = c.loop-i in
    (search rules, (simp length-set (omega arith), rw (c.word_at.ensures, b.invariant.1.1) (words_filled start.words.now b.i start.bytes.now)))

pub shape_of-words : goal.shape_of-words
shape_of-words c = c.loop-i.invariant.1.0

pub returns : goal.returns
returns c =
    let start = c.args in
    let l = start.words.now in
    let s = start.bytes.now in
    let e : c.loop-i.i ≡ length l = omega arith in
    c.loop-i.invariant.1.1 ∙ rw e (sets_complete l (words_in (length l) s) (length_words_in (length l) s))
