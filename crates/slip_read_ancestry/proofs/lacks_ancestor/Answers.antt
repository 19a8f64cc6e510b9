use mathlib.Core.Path.{sym, ◌∙◌}
use Prim.Native.Nat.{◌<◌}
use native.Mathlib.Omega.{arith}
use lib.ListN.{length, get_or}
use Rattle.record_spec.specs.Record.{no_reference}
use Rattle.slip_spec.specs.Supplied.{supplied_blocks}
use Rattle.slip_read_records.specs.Places.{block_at_place}
use Rattle.slip_read_paths.proofs.Walks.{in_place}
use Rattle.slip_read_ancestry.proofs.Places.{right_falls}
use Rattle.slip_read_ancestry.proofs.Lost.{lost, noted_lost, lacks_one, lacks_none, none_more, in_longer}
use Rattle.slip_read_ancestry.proofs.lacks_ancestor.Goals as goal

pub include_count_at-count-requires : goal.include_count_at-count-requires
include_count_at-count-requires c = (c.requires.0.0.sorted, c.requires.1.0.0)

pub loop-k-init : goal.loop-k-init
loop-k-init c = λ i h. absurd (omega arith)

pub step-include-requires : goal.step-include-requires
step-include-requires c = (c.requires.0.0, c.requires.1.0.0)

pub is_lost-requires : goal.is_lost-requires
is_lost-requires c = in_longer _ _ _ c.requires.1.0.1 (in_place _ _ _ _ c.step-include.ensures)

pub returns-then-is_lost : goal.returns-then-is_lost
returns-then-is_lost c =
    let a = c.args in
    let q = c.requires in
    let f = right_falls a.records.now q.0.1 in
    let m : c.loop-k.k < length (block_at_place a.records.now a.order.now a.place).includes = omega
    (arith, c.include_count_at-count.ensures, c.loop-k-test.true) in
    let e = noted_lost a.records.now a.order.now q.0.0 f a.lacking.now a.place q.1.0.0 q.1.1
    c.loop-k.k m c.step-include.result c.step-include.ensures in
    lacks_one a.records.now a.order.now q.0.0 f a.lacking.now a.place q.1.0.0 q.1.1 c.loop-k.k m
    (sym e ∙ sym c.is_lost.ensures ∙ c.if-is_lost.true)

pub loop-k-preserved : goal.loop-k-preserved
loop-k-preserved c =
    let a = c.args in
    let q = c.requires in
    let f = right_falls a.records.now q.0.1 in
    let m : c.loop-k.k < length (block_at_place a.records.now a.order.now a.place).includes = omega
    (arith, c.include_count_at-count.ensures, c.loop-k-test.true) in
    let e = noted_lost a.records.now a.order.now q.0.0 f a.lacking.now a.place q.1.0.0 q.1.1
    c.loop-k.k m c.step-include.result c.step-include.ensures in
    none_more (λ i. lost (supplied_blocks a.records.now) (get_or (block_at_place a.records.now a.order.now a.place).includes i no_reference))
    c.loop-k.k c.loop-k.invariant (sym e ∙ sym c.is_lost.ensures ∙ c.if-is_lost.false)

pub returns : goal.returns
returns c =
    let a = c.args in
    let q = c.requires in
    lacks_none a.records.now a.order.now q.0.0 (right_falls a.records.now q.0.1) a.lacking.now a.place q.1.0.0 q.1.1
    (λ k h. c.loop-k.invariant k (omega (arith, h, c.include_count_at-count.ensures, c.loop-k-test.false)))
