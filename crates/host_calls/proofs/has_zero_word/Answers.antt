use mathlib.Core.List.{List}
use Prim.Native.Nat.{ℕ, ◌/◌, ◌<◌, ◌*◌, ◌≤◌}
use mathlib.Core.Path.{◌≡◌, refl, sym, ◌∙◌}
use lib.ListN.{get_or, length}
use lib.Dec.{eqb}
use native.Mathlib.Omega.{arith}
use borrow.Author.Rules.{rules}
use borrow.Author.Tests.{eq-eqb, ne_eqb}
use Rattle.base.specs.Le.{le_at}
use Rattle.words.proofs.Words.{length_words_in, get_d_words_in}
use Rattle.words.specs.Words.{words_of}
use Rattle.base.proofs.Loops.{any_found, any_on, any_end}
use Rattle.host_calls.proofs.has_zero_word.Goals as goal

-- the words are as many as whole words fit, and each is read at its place

within : (s : List ℕ) (i : ℕ) → i < length s / 8 → i < length (words_of s)
unfolding words_of
within s i h = rw (length_words_in (length s / 8) s) h

all : (s : List ℕ) (i : ℕ) → length s / 8 ≤ i → length (words_of s) ≤ i
unfolding words_of
all s i h = rw (length_words_in (length s / 8) s) h

word : (s : List ℕ) (i : ℕ) → i < length s / 8 → get_or (words_of s) i 0 ≡ le_at 8 s (8 * i)
unfolding words_of
word s i h = get_d_words_in (length s / 8) s i h

pub loop-i-init : goal.loop-i-init
loop-i-init c = (search rules, refl)

pub returns-then-word_at-eq0 : goal.returns-then-word_at-eq0
returns-then-word_at-eq0 c =
    let s = c.args.bytes.now in
    let b = c.loop-i in
    let i = b.i in
    sym (b.invariant.1 ∙ any_found (λ w. eqb w 0) (words_of s) i (within s i (omega arith))
    (rw (word s i (omega arith)) (eq-eqb _ 0 (sym c.word_at.ensures ∙ c.if-word_at-eq0.true))))

pub loop-i-preserved : goal.loop-i-preserved
loop-i-preserved c =
    let s = c.args.bytes.now in
    let b = c.loop-i in
    let i = b.i in (
      search rules,
      b.invariant.1 ∙ any_on (λ w. eqb w 0) (words_of s) i (within s i (omega arith))
          (rw (word s i (omega arith)) (ne_eqb _ 0 (λ z. c.if-word_at-eq0.false (c.word_at.ensures ∙ z)))),
    )

pub returns : goal.returns
returns c =
    let s = c.args.bytes.now in
    let b = c.loop-i in
    sym (b.invariant.1 ∙ any_end (λ w. eqb w 0) (words_of s) b.i (all s b.i (omega arith)))
