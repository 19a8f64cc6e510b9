use mathlib.Core.Path.{sym, ◌∙◌}
use borrow.Author.Tests.{eq-eqb, ne_eqb}
use Rattle.types.proofs.Words.{digest_order}
use Rattle.types.proofs.compare_digests.Goals as goal

pub returns-then-a-b : goal.returns-then-a-b
returns-then-a-b c =
    let a = c.args.a in
    let b = c.args.b in
    c.compare_words.ensures ∙ sym (digest_order a b c.struct_known-1.given c.struct_known-2-1.given ∙ rw
    (ne_eqb a.0 b.0 c.if-a-b.true))

pub returns-then-a-b-2 : goal.returns-then-a-b-2
returns-then-a-b-2 c =
    let e = c in
    let a = e.args.a in
    let b = e.args.b in
    c.compare_words-then-a-b-2.ensures ∙ sym (digest_order a b c.struct_known-3-1.given c.struct_known-4-1.given ∙ rw
    (eq-eqb a.0 b.0 e.if-a-b.false, ne_eqb a.1 b.1 c.if-a-b-2.true))

pub returns-then-a-b-3 : goal.returns-then-a-b-3
returns-then-a-b-3 c =
    let f = c in
    let e = f in
    let a = e.args.a in
    let b = e.args.b in
    c.compare_words-then-a-b-3.ensures ∙ sym (digest_order a b c.struct_known-5-1.given c.struct_known-6-1.given ∙ rw
    (eq-eqb a.0 b.0 e.if-a-b.false, eq-eqb a.1 b.1 f.if-a-b-2.false, ne_eqb a.2 b.2 c.if-a-b-3.true))

pub returns : goal.returns
returns c =
    let f = c in
    let e = f in
    let a = e.args.a in
    let b = e.args.b in
    c.compare_words-2.ensures ∙ sym (digest_order a b c.struct_known-5-1.given c.struct_known-6-1.given ∙ rw
    (eq-eqb a.0 b.0 e.if-a-b.false, eq-eqb a.1 b.1 f.if-a-b-2.false, eq-eqb a.2 b.2 c.if-a-b-3.false))
