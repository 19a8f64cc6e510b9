use mathlib.Core.Path.{◌≡◌, sym, ◌∙◌}
use Prim.Native.Nat.{◌-◌}
use native.Mathlib.Omega.{arith}
use lib.ListN.{get_or}
use Rattle.committee.proofs.Bounds.{few_members}
use Rattle.record_spec.specs.Record.{block_in, no_reference}
use Rattle.types.proofs.References.{as_author, as_round}
use Rattle.record_check_includes.proofs.Includes.{include_passes, authors_on, authors_none}
use Rattle.record_check_includes.proofs.previous_authors.Goals as goal

pub loop-left-init : goal.loop-left-init
loop-left-init c =
    let o = c in
    let b = block_in o.args.rec.now in
    let e = c.include_count-left.ensures in
    (omega (arith, e), c.new-voters.ensures ∙ sym (authors_none b b.includes c.include_count-left.result (omega (arith, e))))

pub include-requires : goal.include-requires
include-requires c =
    let l = c in
    let o = l in
    (o.requires.0, omega (arith, l.loop-left.invariant.0, c.loop-left-test.true))

pub with_include-voters-requires : goal.with_include-voters-requires
with_include-voters-requires c =
    let l = c in
    let r = l in
    let o = r in
    let b = block_in o.args.rec.now in
    let j = l.loop-left.left - 1 in
    let at = get_or b.includes j no_reference in
    let p = include_passes o.args.stakes.now b b.includes j o.requires.1.1 (omega (arith, l.loop-left.invariant.0, c.loop-left-test.true)) in
    let a = as_author c.include.result at c.include.ensures in
    let n = as_round c.include.result at c.include.ensures in
    let m = as_round r.reference-reference.result b.reference r.reference-reference.ensures in
    (omega (arith, a, p.0, few_members o.args.stakes.now o.requires.1.0), omega (arith, n, m, p.1))

pub loop-left-preserved : goal.loop-left-preserved
loop-left-preserved c =
    let i = c in
    let l = i in
    let r = l in
    let o = r in
    let b = block_in o.args.rec.now in
    let left = l.loop-left.left in
    let at = get_or b.includes (left - 1) no_reference in
    let a = as_author i.include.result at i.include.ensures in
    let n = as_round i.include.result at i.include.ensures in
    let m = as_round r.reference-reference.result b.reference r.reference-reference.ensures in (
      omega (arith, l.loop-left.invariant.0),
      c.with_include-voters.ensures ∙ rw (a, n, m, l.loop-left.invariant.1)
          (sym (authors_on b b.includes left i.loop-left-test.true l.loop-left.invariant.0)),
    )

pub returns : goal.returns
returns c =
    let l = c in
    let b = block_in l.args.rec.now in
    let z : l.loop-left.left ≡ 0 = omega (arith, c.loop-left-test.false) in
    l.loop-left.invariant.1 ∙ rw z
