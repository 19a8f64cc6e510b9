use mathlib.Core.Path.{◌≡◌, refl, sym, ap, subst}
use mathlib.Core.List.{List}
use Prim.Native.Nat.{ℕ}
use native.Mathlib.Omega.{arith}
use lib.Dec.{leb}
use lib.ListN.{length, length-take}
use Rattle.base.proofs.Tests.{not_both}
use Rattle.record_spec.specs.Record.{block_in}
use Rattle.pending_spec.specs.Table.{items_of, room}
use Rattle.feed_spec.specs.ProcessBlock.{process_block}
use Rattle.feed_missed.specs.Kinds.{with_new}
use Rattle.feed_aggregator.specs.Step.{Feeding}
use Rattle.feed_items_fit.proofs.Copying.{copied_front}
use Rattle.feed_items_fit.proofs.items_fit.Goals as goal

pub slice_bounds-copy_words-end-2 : goal.slice_bounds-copy_words-end-2
slice_bounds-copy_words-end-2 c = simp length-take (omega (arith, c.requires.work))

pub copy_words-requires : goal.copy_words-requires
copy_words-requires c = simp length-take (omega (arith, c.requires.work))

pub slice_bounds-process_block-end-2 : goal.slice_bounds-process_block-end-2
slice_bounds-process_block-end-2 c = sym (ap (λ (l : List ℕ). length l) (copied_front _ _ _ c.copy_words.ensures))

pub process_block-tried-requires : goal.process_block-tried-requires
process_block-tried-requires c = record {
  lent = subst (λ (t : List ℕ). Feeding
      c.args.stakes.now
      c.args.store.now
      c.args.rec.now t)
      (sym (copied_front _ _ _ c.copy_words.ensures))
      c.requires.lent;
  room = λ q. absurd (not_both q refl);
  order = c.requires.order;
}

pub returns : goal.returns
returns c =
    let a = c.args in
    let s = a.store.now in
    let r = a.rec.now in
    let w = c.process_block-tried.ensures in record {
      value = subst (λ (t : List ℕ). c.process_block-tried.result.fits ≡ leb
          (process_block a.stakes.now (with_new s r) (block_in r) (items_of t)).most (room t))
          (copied_front _ _ _ c.copy_words.ensures) w.fits;
      events_unchanged = w.silent refl;
    }
