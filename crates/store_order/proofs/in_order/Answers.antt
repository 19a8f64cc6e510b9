use Prim.Native.Nat.{ℕ}
use mathlib.Core.Path.{◌≡◌, sym, ap, ◌∙◌}
use native.Mathlib.Omega.{arith}
use lib.ListN.{length, take, length-take}
use lib.Seq.{length-take-le}
use Rattle.base.proofs.Le.{bytes_of}
use Rattle.store_spec.specs.Store.{block_count}
use Rattle.store_spec.specs.Entry.{laid_out}
use Rattle.store_spec.proofs.Check.{header_right_lem, order_no_header, order_no_entries, order_no_chain, order_accepted}
use Rattle.store_order.proofs.in_order.Goals as goal

pub returns-then-not-header_right : goal.returns-then-not-header_right
returns-then-not-header_right c = sym (order_no_header c.args.stakes.now c.args.store.now
    (bytes_of c.args.store.now (λ i h. omega (arith, c.shared_slice_known-2-1.given i)))
    (sym c.header_right.ensures ∙ c.if-not-header_right.true))

pub entries_readable-requires : goal.entries_readable-requires
entries_readable-requires c = (
  (sym c.header_right.ensures ∙ c.if-not-header_right.false),
  omega arith,
)

pub returns-then-not-entries_readable : goal.returns-then-not-entries_readable
returns-then-not-entries_readable c = sym (order_no_entries c.args.stakes.now
    c.args.store.now
    (bytes_of c.args.store.now
    (λ i h. omega (arith, c.shared_slice_known-2-1.given i)))
    (sym c.entries_readable.ensures.value ∙ c.if-not-entries_readable.true))

pub read_u16-count-requires : goal.read_u16-count-requires
read_u16-count-requires c = omega (
  arith,
  (header_right_lem c.args.store.now
      (sym c.header_right.ensures ∙ c.if-not-header_right.false)).long,
)

pub slice_bounds-starts-end : goal.slice_bounds-starts-end
unfolding block_count
slice_bounds-starts-end c = omega (
  arith,
  (header_right_lem c.args.store.now
      (sym c.header_right.ensures ∙ c.if-not-header_right.false)).few,
  c.read_u16-count.ensures,
  c.entries_readable.auto.starts,
)

pub slice_bounds-chain_right-end : goal.slice_bounds-chain_right-end
unfolding block_count
slice_bounds-chain_right-end c = sym (length-take-le _ _ (omega (
  arith,
  (header_right_lem c.args.store.now
      (sym c.header_right.ensures ∙ c.if-not-header_right.false)).few,
  c.read_u16-count.ensures,
  c.entries_readable.auto.starts,
)))

pub chain_right-requires : goal.chain_right-requires
unfolding block_count
chain_right-requires c = (
  (sym c.entries_readable.ensures.value ∙ c.if-not-entries_readable.false),
  (
    (ap (λ (k : ℕ). take k c.entries_readable.new.starts) c.read_u16-count.ensures ∙ c.entries_readable.ensures.starts_after
        (c.if-not-entries_readable.false)),
    omega (
      arith,
      length-take c.read_u16-count.result c.entries_readable.new.starts,
      (header_right_lem
          c.args.store.now
          (sym c.header_right.ensures ∙ c.if-not-header_right.false)).few,
      c.read_u16-count.ensures,
    ),
  ),
)

pub returns-then-not-chain_right : goal.returns-then-not-chain_right
returns-then-not-chain_right c = sym (order_no_chain c.args.stakes.now c.args.store.now
    (bytes_of c.args.store.now
    (λ i h. omega (arith, c.shared_slice_known-2-1.given i)))
    (sym c.entries_readable.ensures.value ∙ c.if-not-entries_readable.false)
    (sym c.chain_right.ensures.value ∙ c.if-not-chain_right.true))

pub slice_bounds-starts-end-2 : goal.slice_bounds-starts-end-2
unfolding block_count
slice_bounds-starts-end-2 c = omega (
  arith,
  (header_right_lem c.args.store.now (sym c.header_right.ensures
      ∙ c.if-not-header_right.false)).few,
  c.read_u16-count.ensures,
  c.entries_readable.auto.starts,
)

pub slice_bounds-all_accepted-end : goal.slice_bounds-all_accepted-end
unfolding block_count
slice_bounds-all_accepted-end c = sym (length-take-le _ _ (omega (
  arith,
  (header_right_lem c.args.store.now (sym c.header_right.ensures ∙ c.if-not-header_right.false)).few,
  c.read_u16-count.ensures,
  c.entries_readable.auto.starts,
)))

pub slice_bounds-order-end : goal.slice_bounds-order-end
unfolding block_count
slice_bounds-order-end c = omega (
  arith,
  (header_right_lem c.args.store.now (sym c.header_right.ensures ∙ c.if-not-header_right.false)).few,
  c.read_u16-count.ensures,
  c.chain_right.auto.order,
)

pub slice_bounds-all_accepted-end-2 : goal.slice_bounds-all_accepted-end-2
unfolding block_count
slice_bounds-all_accepted-end-2 c = sym (length-take-le _ _ (omega (
  arith,
  (header_right_lem c.args.store.now (sym c.header_right.ensures
      ∙ c.if-not-header_right.false)).few,
  c.read_u16-count.ensures,
  c.chain_right.auto.order,
)))

pub all_accepted-requires : goal.all_accepted-requires
unfolding block_count laid_out
all_accepted-requires c =
    let many : length (take c.read_u16-count.result
    c.entries_readable.new.starts) ≡ c.read_u16-count.result = length-take-le _ _
    (omega (
      arith,
      (header_right_lem c.args.store.now (sym c.header_right.ensures ∙ c.if-not-header_right.false)).few,
      c.read_u16-count.ensures,
      c.entries_readable.auto.starts,
    )) in (
      c.requires,
      (
        rw (sym c.entries_readable.ensures.value ∙ c.if-not-entries_readable.false)
            (sym c.chain_right.ensures.value ∙ c.if-not-chain_right.false),
        (
          ap (λ (k : ℕ). take k c.chain_right.new.order) (sym many) ∙ c.chain_right.ensures.order_after (c.if-not-chain_right.false),
          (ap (λ (k : ℕ). take k c.entries_readable.new.starts)
              c.read_u16-count.ensures ∙ c.entries_readable.ensures.starts_after (c.if-not-entries_readable.false)),
        ),
      ),
    )

pub returns : goal.returns
returns c = c.all_accepted.ensures ∙ sym (order_accepted
    c.args.stakes.now c.args.store.now (bytes_of c.args.store.now (λ i h. omega (
      arith,
      c.shared_slice_known-2-1.given i,
    ))) (sym c.entries_readable.ensures.value ∙ c.if-not-entries_readable.false)
    (sym c.chain_right.ensures.value ∙ c.if-not-chain_right.false))
