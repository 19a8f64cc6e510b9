use mathlib.Core.Path.{refl, sym, ◌∙◌}
use native.Mathlib.Omega.{arith}
use lib.ListN.{length-set}
use Rattle.store_spec.specs.Store.{records_of}
use Rattle.store_spec.proofs.Check.{is_readable}
use Rattle.store_spec.proofs.Loops.{entry_room, positions_ascend, refuses, visiting_start, place_entry, visiting_outside, visiting_falls, visiting_on}
use Rattle.store_spec.proofs.Loops.{visiting_latest, visiting_done}
use Rattle.store_chain.proofs.chain_right.Goals as goal

pub read_u32-at-requires : goal.read_u32-at-requires
read_u32-at-requires c = omega (arith, (is_readable c.args.store.now c.requires.0).header.long)

pub loop-k-init : goal.loop-k-init
loop-k-init c = (
  visiting_start c.args.store.now (records_of c.args.store.now)
      c.read_u32-at.result c.args.order.now c.read_u32-at.ensures,
  (refl, omega arith),
)

pub contains-requires : goal.contains-requires
contains-requires c = rw c.requires.1.0
    (positions_ascend (records_of c.args.store.now))

pub returns-then-not-contains : goal.returns-then-not-contains
returns-then-not-contains c =
    let l = c.loop-k in
    let r = refuses (visiting_outside c.args.store.now
    c.requires.0
    c.args.starts.now
    c.requires.1.0 l.k l.at l.last l.order l.invariant.0
    c.loop-k-test.true (sym c.contains.ensures ∙ c.if-not-contains.true)) in
    record { value = r.0; order_after = r.1 }

pub comes_after-requires : goal.comes_after-requires
comes_after-requires c =
    let l = c.loop-k in (
      visiting_latest c.args.store.now
          c.requires.0
          c.args.starts.now
          c.requires.1.0 l.k l.at l.last l.order l.invariant.0,
      place_entry
          c.args.store.now
          c.requires.0
          c.args.starts.now
          c.requires.1.0 l.at
          (sym c.contains.ensures ∙ c.if-not-contains.false),
    )

pub returns-then-not-comes_after : goal.returns-then-not-comes_after
returns-then-not-comes_after c =
    let l = c.loop-k in
    let r = refuses (visiting_falls c.args.store.now
    c.requires.0
    c.args.starts.now
    c.requires.1.0 l.k l.at l.last l.order l.invariant.0
    c.loop-k-test.true (sym c.comes_after.ensures ∙ c.if-not-comes_after.true)) in
    record { value = r.0; order_after = r.1 }

pub bounds-order-k : goal.bounds-order-k
bounds-order-k c = omega (
  arith,
  c.requires.1.1,
  c.loop-k.invariant.1.0,
)

pub read_u32-at-requires-in-loop-k : goal.read_u32-at-requires-in-loop-k
read_u32-at-requires-in-loop-k c =
    let l = c.loop-k in
    omega (
      arith,
      (entry_room c.args.store.now l.at
          (place_entry c.args.store.now
          c.requires.0
          c.args.starts.now
          c.requires.1.0 l.at
          (sym c.contains.ensures ∙ c.if-not-contains.false))
          ).inside,
    )

pub loop-k-preserved : goal.loop-k-preserved
loop-k-preserved c =
    let l = c.loop-k in (
      visiting_on c.args.store.now
          c.requires.0
          c.args.starts.now
          c.requires.1.0 l.k l.at l.last l.order
          l.invariant.0 c.read_u32-at-in-loop-k.result (omega (
            arith,
            c.requires.1.1,
            l.invariant.1.0,
          ))
          (sym c.contains.ensures ∙ c.if-not-contains.false)
          (sym c.comes_after.ensures ∙ c.if-not-comes_after.false) c.read_u32-at-in-loop-k.ensures,
      (simp length-set l.invariant.1.0, omega arith),
    )

pub returns : goal.returns
returns c =
    let l = c.loop-k in
    let r = visiting_done c.args.store.now c.requires.0
    c.args.starts.now c.requires.1.0 l.k l.at
    l.last l.order l.invariant.0 (omega (arith, l.invariant.1.1)) in
    record { value = r.0; order_after = r.1 }
