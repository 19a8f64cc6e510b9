use mathlib.Core.Path.{sym, ◌∙◌}
use borrow.Author.Tests.{eq-eqb, ne_eqb}
use Rattle.types.proofs.Words.{reference_order_lem}
use Rattle.types.proofs.compare.Goals as goal

pub returns-then-a-b : goal.returns-then-a-b
returns-then-a-b c =
    let a = c.args.a in
    let b = c.args.b in
    c.compare_words.ensures ∙ sym (reference_order_lem a b ∙ rw (ne_eqb a.round.0 b.round.0 c.if-a-b.true))

pub returns-then-a-b-2 : goal.returns-then-a-b-2
returns-then-a-b-2 c =
    let e = c in
    let a = e.args.a in
    let b = e.args.b in
    c.compare_words-then-a-b-2.ensures ∙ sym (reference_order_lem a b ∙ rw (
      eq-eqb a.round.0 b.round.0 e.if-a-b.false,
      ne_eqb a.authority.0 b.authority.0
          c.if-a-b-2.true,
    ))

pub returns : goal.returns
returns c =
    let e = c in
    let a = e.args.a in
    let b = e.args.b in
    c.compare_digests.ensures ∙ sym (reference_order_lem a b ∙ rw (
      eq-eqb a.round.0 b.round.0 e.if-a-b.false,
      eq-eqb a.authority.0 b.authority.0
          c.if-a-b-2.false,
    ))
