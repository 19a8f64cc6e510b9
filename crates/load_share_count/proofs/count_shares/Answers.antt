use mathlib.Core.Path.{◌≡◌, sym, ap, ◌∙◌}
use Prim.Native.Nat.{ℕ}
use native.Mathlib.Omega.{arith}
use lib.ListN.{length, get_or, length-append}
use Rattle.base.specs.Le.{Bytes}
use Rattle.record_spec.specs.Record.{block_in}
use Rattle.store_spec.specs.Entry.{block_at}
use Rattle.store_spec.proofs.Loops.{entry_room, record-part}
use Rattle.final_block_votes.proofs.Sorting.{some_committee, place_entry}
use Rattle.list_ordinary_spec.specs.Shares.{shares_of}
use Rattle.load_share_count.specs.Through.{shares_through}
use Rattle.load_share_count.proofs.Through.{through_none, through_next, through_all}
use Rattle.load_share_count.proofs.count_shares.Goals as goal

pub loop-k-init : goal.loop-k-init
loop-k-init c =
    let a = c.args in
    (omega arith, sym (ap length (through_none a.store.now a.order.now)), omega arith)

pub overflow_add-from : goal.overflow_add-from
overflow_add-from c =
    let a = c.args in
    let k = c.loop-k.k in
    omega (
      arith,
      (entry_room a.store.now (get_or a.order.now k 0)
          (place_entry a.store.now a.order.now (some_committee c.requires.0) k
          c.loop-k-test.true)).inside,
    )

pub record_end-end-requires : goal.record_end-end-requires
record_end-end-requires c =
    let a = c.args in
    let k = c.loop-k.k in
    place_entry a.store.now a.order.now (some_committee c.requires.0) k c.loop-k-test.true

pub slice_bounds-shares_in-count : goal.slice_bounds-shares_in-count
slice_bounds-shares_in-count c = omega (arith, c.record_end-end.ensures)

pub slice_bounds-shares_in-end : goal.slice_bounds-shares_in-end
slice_bounds-shares_in-end c =
    let a = c.args in
    let k = c.loop-k.k in
    omega (
      arith,
      (entry_room a.store.now (get_or a.order.now k 0)
          (place_entry a.store.now a.order.now (some_committee c.requires.0) k
          c.loop-k-test.true)).inside,
      c.record_end-end.ensures,
    )

pub shares_in-n-requires : goal.shares_in-n-requires
shares_in-n-requires c =
    let a = c.args in
    let k = c.loop-k.k in
    let at = get_or a.order.now k 0 in
    rw (record-part a.store.now at c.record_end-end.result c.record_end-end.ensures)
    (entry_room a.store.now at (place_entry a.store.now a.order.now
    (some_committee c.requires.0) k c.loop-k-test.true)).formed

pub overflow_add-n : goal.overflow_add-n
overflow_add-n c = omega (
  arith,
  c.loop-k.invariant.2,
  c.loop-k-test.true,
  c.requires.1,
  c.shares_in-n.ensures.1,
)

pub loop-k-preserved : goal.loop-k-preserved
unfolding block_at
loop-k-preserved c =
    let a = c.args in
    let l = c.loop-k in
    let at = get_or a.order.now l.k 0 in
    let many = c.shares_in-n.ensures.0 ∙ ap (λ (x : Bytes). length (shares_of (block_in x)))
    (record-part a.store.now at c.record_end-end.result c.record_end-end.ensures) in
    let next = ap length (through_next a.stakes.now a.store.now a.order.now
    c.requires.0 l.k c.loop-k-test.true) in (
      omega arith,
      omega (arith, l.invariant.1, many, next, length-append (shares_through a.store.now a.order.now l.k) (shares_of (block_at a.store.now at))),
      omega (arith, l.invariant.2, c.shares_in-n.ensures.1),
    )

pub returns : goal.returns
returns c =
    let a = c.args in
    let l = c.loop-k in
    let all : l.k ≡ length a.order.now = omega (arith, l.invariant.0, c.loop-k-test.false) in
    l.invariant.1 ∙ ap (λ (j : ℕ). length (shares_through a.store.now a.order.now j)) all ∙ ap length
    (sym (through_all a.stakes.now a.store.now a.order.now c.requires.0))
