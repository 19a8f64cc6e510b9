use mathlib.Core.Path.{sym, ◌∙◌}
use native.Mathlib.Omega.{arith}
use Rattle.types.specs.Values.{as_reference}
use Rattle.store_spec.specs.Layout.{position_of}
use Rattle.store_spec.specs.Store.{block_count}
use Rattle.store_spec.proofs.Loops.{entry_room}
use Rattle.store_spec.proofs.Search.{laid_out_lem}
use Rattle.store_lookup.proofs.Along.{along_start, along_entry, along_end, met_hit, met_past, met_on}
use Rattle.store_lookup.proofs.lookup.Goals as goal

pub read_u32-at-requires : goal.read_u32-at-requires
read_u32-at-requires c = omega (arith, (laid_out_lem c.args.store.now c.requires).reads.header.long)

pub read_u16-left-requires : goal.read_u16-left-requires
read_u16-left-requires c = omega (arith, (laid_out_lem c.args.store.now c.requires).reads.header.long)

pub loop-left-init : goal.loop-left-init
unfolding block_count
loop-left-init c = along_start c.args.store.now c.requires
    (as_reference c.args.block) c.read_u32-at.result c.read_u16-left.result c.read_u32-at.ensures
    c.read_u16-left.ensures

pub reference_at-requires : goal.reference_at-requires
reference_at-requires c = along_entry c.args.store.now c.requires
    (as_reference c.args.block) c.loop-left.at c.loop-left.left c.loop-left.invariant
    c.loop-left-test.true

pub read_u32-at-requires-in-Less : goal.read_u32-at-requires-in-Less
read_u32-at-requires-in-Less c = omega (
  arith,
  (entry_room c.args.store.now
      c.loop-left.at (along_entry
      c.args.store.now
      c.requires
      (as_reference c.args.block)
      c.loop-left.at c.loop-left.left
      c.loop-left.invariant c.loop-left-test.true)).inside,
)

pub loop-left-preserved : goal.loop-left-preserved
loop-left-preserved c = met_on c.args.store.now
    c.requires
    (as_reference c.args.block)
    c.loop-left.at c.loop-left.left
    c.loop-left.invariant c.loop-left-test.true
    (as_reference c.reference_at.result) c.reference_at.ensures
    c.read_u32-at-in-Less.result (sym c.compare-compared.ensures ∙ c.in-Less.is) c.read_u32-at-in-Less.ensures

pub returns-in-Equal : goal.returns-in-Equal
returns-in-Equal c = met_hit c.args.store.now
    c.requires
    (as_reference c.args.block)
    c.loop-left.at c.loop-left.left
    c.loop-left.invariant c.loop-left-test.true
    (as_reference c.reference_at.result) c.reference_at.ensures
    (sym c.compare-compared.ensures ∙ c.in-Equal.is)

pub returns-in-Greater : goal.returns-in-Greater
unfolding position_of
returns-in-Greater c = rw (met_past c.args.store.now
    c.requires
    (as_reference c.args.block)
    c.loop-left.at c.loop-left.left
    c.loop-left.invariant c.loop-left-test.true
    (as_reference c.reference_at.result) c.reference_at.ensures
    (sym c.compare-compared.ensures ∙ c.in-Greater.is))

pub returns : goal.returns
unfolding position_of
returns c = rw (along_end c.args.store.now c.requires
    (as_reference c.args.block) c.loop-left.at c.loop-left.left c.loop-left.invariant
    (omega arith))
