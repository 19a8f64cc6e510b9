use mathlib.Core.Logic.{inl, inr}
use native.Mathlib.Omega.{arith}
use Rattle.store_spec.specs.Store.{used_length}
use Rattle.store_spec.proofs.Check.{is_readable}
use Rattle.pending_question.proofs.Entries.{entry_next, passed_next, inner, ended}
use Rattle.pending_question.proofs.entry_from.Goals as goal

pub read_u32-used-requires : goal.read_u32-used-requires
read_u32-used-requires c = omega (arith, (is_readable _ c.requires.0).header.long)

pub loop-at-init : goal.loop-at-init
loop-at-init c = (c.requires.1, c.requires.2)

pub returns-then-p-at : goal.returns-then-p-at
returns-then-p-at c =
    let l = c in
    record { on = l.loop-at.invariant.0; passed = l.loop-at.invariant.1; reached = inr c.if-p-at.true }

pub record_end-at-requires : goal.record_end-at-requires
unfolding used_length
record_end-at-requires c =
    let l = c in
    inner _ _ l.requires.0 l.loop-at.invariant.0 (omega (arith, l.read_u32-used.ensures, c.loop-at-test.true))

pub loop-at-smaller : goal.loop-at-smaller
loop-at-smaller c = omega (arith, c.record_end-at.ensures, c.loop-at-test.true)

pub loop-at-preserved : goal.loop-at-preserved
unfolding used_length
loop-at-preserved c =
    let l = c in
    let r = l.requires.0 in
    let h = inner _ _ r l.loop-at.invariant.0 (omega (arith, l.read_u32-used.ensures, c.loop-at-test.true)) in
    (entry_next _ _ _ h c.record_end-at.ensures r, passed_next _ _ _ h c.record_end-at.ensures _ c.if-p-at.false l.loop-at.invariant.1)

pub returns : goal.returns
unfolding used_length
returns c = let l = c in record {
  on = l.loop-at.invariant.0;
  passed = l.loop-at.invariant.1;
  reached = inl
      (ended _ _ l.requires.0 l.loop-at.invariant.0 (omega (arith, l.read_u32-used.ensures, c.loop-at-test.false)));
}
