use mathlib.Core.Path.{refl, sym, ◌∙◌}
use native.Mathlib.Omega.{arith}
use native.Mathlib.Nat.{zero-add}
use Rattle.record_spec.specs.Record.{block_in}
use Rattle.types.specs.Values.{as_reference}
use Rattle.store_spec.specs.Layout.{entries, lookup}
use Rattle.store_spec.specs.Store.{records_of}
use Rattle.store_spec.proofs.Lookups.{missing_on, missing_there, missing_none, none_is}
use Rattle.store_spec.proofs.Search.{reference_in, order_entry}
use Rattle.store_lookup.proofs.Ordered.{above_start, above_end, below_hit, below_past, below_on}
use Rattle.store_lookup.proofs.first_missing.Goals as goal

pub includes-init : goal.includes-init
includes-init c = (omega arith, sym (zero-add _))

pub chain-init : goal.chain-init
chain-init c = let o = c in
    (refl, above_start o.args.store.now o.requires.0 o.args.order.now o.requires.1.0 _)

pub bounds-order-left : goal.bounds-order-left
bounds-order-left c = omega (arith, c.chain.invariant.1.within, c.chain-test.true)

pub reference_at-requires : goal.reference_at-requires
reference_at-requires c =
    let o = c in
    order_entry o.args.store.now o.requires.0 o.args.order.now o.requires.1.0 _
    (omega (arith, c.chain.invariant.1.within, c.chain-test.true))

pub includes-preserved : goal.includes-preserved
unfolding reference_in
includes-preserved c =
    let o = c in
    let a = o.args in
    let g = c.chain in
    let ref = c.reference_at in
    let found = below_hit a.store.now o.requires.0 a.order.now o.requires.1.0
    (as_reference c.include-block.result) g.left g.invariant.1
    c.chain-test.true (as_reference ref.result) ref.ensures
    (sym c.compare-compared.ensures ∙ c.in-Equal.is) in
    rw g.invariant.0 (
      omega arith,
      c.includes.invariant.1 ∙ missing_on (records_of a.store.now)
          (block_in a.rec.now).includes c.includes.k
          (omega (
            arith,
            c.includes-test.true,
            c.include_count-count.ensures,
          ))
          (rw c.include-block.ensures at found),
    )

pub chain-preserved : goal.chain-preserved
unfolding reference_in
chain-preserved c =
    let o = c in
    let a = o.args in
    let g = c.chain in
    let ref = c.reference_at in (
      g.invariant.0,
      below_on a.store.now o.requires.0 a.order.now o.requires.1.0
          (as_reference c.include-block.result) g.left g.invariant.1
          c.chain-test.true (as_reference ref.result) ref.ensures
          (sym c.compare-compared.ensures ∙ c.in-Greater.is),
    )

pub returns-after-includes : goal.returns-after-includes
returns-after-includes c = sym (c.includes.invariant.1 ∙ missing_none (records_of c.args.store.now)
    (block_in c.args.rec.now).includes c.includes.k (omega arith))

pub returns-in-Less : goal.returns-in-Less
unfolding reference_in
returns-in-Less c =
    let o = c in
    let a = o.args in
    let g = c.chain in
    let ref = c.reference_at in
    let gone = below_past a.store.now o.requires.0 a.order.now o.requires.1.0
    (as_reference c.include-block.result) g.left g.invariant.1
    c.chain-test.true (as_reference ref.result) ref.ensures
    (sym c.compare-compared.ensures ∙ c.in-Less.is) in
    g.invariant.0
    ∙ sym (c.includes.invariant.1 ∙ missing_there (records_of a.store.now)
    (block_in a.rec.now).includes c.includes.k
    (omega (
      arith,
      c.includes-test.true,
      c.include_count-count.ensures,
    ))
    (none_is (lookup (entries (records_of a.store.now)) _) (rw c.include-block.ensures at gone)))

pub returns-after-chain : goal.returns-after-chain
returns-after-chain c =
    let o = c in
    let a = o.args in
    let g = c.chain in
    let gone = above_end a.store.now o.requires.0 a.order.now o.requires.1.0 (as_reference c.include-block.result) g.left g.invariant.1
    (omega arith) in
    g.invariant.0
    ∙ sym (c.includes.invariant.1 ∙ missing_there (records_of a.store.now) (block_in a.rec.now).includes
    c.includes.k (omega arith)
    (none_is (lookup (entries (records_of a.store.now)) _) (rw c.include-block.ensures at gone)))
