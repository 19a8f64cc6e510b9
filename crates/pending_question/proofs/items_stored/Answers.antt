use borrow.Author.Tests.{not-false, not-true}
use Prim.Native.Nat.{◌<◌}
use lib.ListN.{length}
use mathlib.Core.Path.{refl, sym, ap, ◌∙◌}
use native.Mathlib.Omega.{arith}
use Rattle.base.proofs.Places.{every_place}
use Rattle.pending_spec.specs.Items.{no_item}
use Rattle.pending_spec.specs.Table.{items_of}
use Rattle.pending_words.specs.Answers.{as_item}
use Rattle.pending_words.proofs.Slots.{holds_ordered, holds_full}
use Rattle.pending_question.proofs.Checked.{checking_start, checking_on, checking_no, checking_all}
use Rattle.pending_question.proofs.items_stored.Goals as goal

pub item_count-n-requires : goal.item_count-n-requires
item_count-n-requires c = c.requires.1.laid

pub loop-k-init : goal.loop-k-init
loop-k-init c = checking_start _ _ _ c.requires.0 refl refl

pub item_at-x-requires : goal.item_at-x-requires
item_at-x-requires c = let o = c in
    (o.requires.1.laid, omega (arith, c.loop-k-test.true, c.item_count-n.ensures))

pub item_stored-found-requires : goal.item_stored-found-requires
unfolding as_item
item_stored-found-requires c =
    let l = c in
    let o = l in
    let inside : l.loop-k.k < length (items_of o.args.table.now) = omega (arith, c.loop-k-test.true, l.item_count-n.ensures) in
    let e = c.item_at-x.ensures in (
      o.requires.0,
      l.loop-k.invariant.on,
      rw e (l.loop-k.invariant.ahead _ (omega arith) inside),
      rw (ap (λ z. z.start) e, ap (λ z. z.end) e)
          (omega (arith, every_place no_item _ _ (holds_full _ o.requires.1) inside)),
    )

pub returns-then-not-found : goal.returns-then-not-found
returns-then-not-found c =
    let l = c in
    sym (checking_no _ _ _ _ (omega (arith, c.loop-k-test.true, l.item_count-n.ensures))
    c.item_at-x.ensures (sym c.item_stored-found.ensures.0 ∙ not-true _ c.if-not-found.true))

pub loop-k-preserved : goal.loop-k-preserved
loop-k-preserved c =
    let l = c in
    let o = l in
    let t = not-false _ c.if-not-found.false in
    checking_on _ _ _ _ _ _ (holds_ordered _ o.requires.1) l.loop-k.invariant
    (omega (arith, c.loop-k-test.true, l.item_count-n.ensures))
    c.item_at-x.ensures (sym c.item_stored-found.ensures.0 ∙ t)
    (c.item_stored-found.ensures.1 t)

pub returns : goal.returns
returns c = let l = c in sym (checking_all _ _ _ _ l.loop-k.invariant (omega (arith, c.loop-k-test.false, l.item_count-n.ensures)))
