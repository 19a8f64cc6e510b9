use borrow.Author.Tests.{not-false, not-true}
use mathlib.Core.Path.{sym, ◌∙◌}
use Rattle.store_spec.proofs.Loops.{refuses}
use Rattle.pending_question.proofs.Offsets.{sharing_start, sharing_on, sharing_no, sharing_all}
use Rattle.pending_question.proofs.shares_in.Goals as goal

pub loop-o-init : goal.loop-o-init
loop-o-init c = let o = c in sharing_start _ _ _ _ o.requires.2 o.requires.1

pub share_at-found-requires : goal.share_at-found-requires
share_at-found-requires c = let l = c in (l.requires.0, l.loop-o.invariant.place)

pub returns-then-not-found : goal.returns-then-not-found
returns-then-not-found c =
    let n = c in
    let l = n in
    let missing = sym n.share_at-found.ensures.0 ∙ not-true _ c.if-not-found.true in
    refuses (sharing_no _ _ _ _ _ l.loop-o.invariant n.loop-o-test.true missing)

pub loop-o-preserved : goal.loop-o-preserved
loop-o-preserved c =
    let n = c in
    let l = n in
    sharing_on _ _ _ _ _ _ l.loop-o.invariant n.loop-o-test.true (sym n.share_at-found.ensures.0 ∙ not-false _ c.if-not-found.false) n.share_at-found.ensures.1

pub returns : goal.returns
returns c = let l = c in sharing_all _ _ _ _ _ l.loop-o.invariant c.loop-o-test.false
