use mathlib.Core.Path.{refl, sym, ◌∙◌}
use Prim.Native.Nat.{◌<◌}
use native.Mathlib.Omega.{arith}
use lib.ListN.{length, get_or}
use Rattle.record_spec.specs.Record.{block_in, no_reference}
use Rattle.types.proofs.References.{as_author, as_round}
use Rattle.record_check_includes.proofs.Includes.{lookup_known, of_includes, include_unknown, include_high, include_on, include_end}
use Rattle.committee.proofs.Answers.{unknown_sound}
use Rattle.record_check_includes.proofs.includes_refusal.Goals as goal

pub loop-k-init : goal.loop-k-init
unfolding of_includes
loop-k-init c = (omega arith, refl)

pub include-include-requires : goal.include-include-requires
include-include-requires c =
    let l = c in
    (l.requires, omega (arith, l.include_count-count.ensures, c.loop-k-test.true))

pub returns-in_default : goal.returns-in_default
unfolding of_includes
returns-in_default c =
    let i = c in
    let l = i in
    let r = l in
    let o = r in
    let stakes = o.args.stakes.now in
    let b = block_in o.args.rec.now in
    let k = l.loop-k.k in
    let at = get_or b.includes k no_reference in
    let inside : k < length b.includes = omega (arith, l.include_count-count.ensures, i.loop-k-test.true) in
    let a = as_author i.include-include.result at i.include-include.ensures in
    let n = as_round i.include-include.result at i.include-include.ensures in
    let m = as_round r.reference-reference.result b.reference r.reference-reference.ensures in
    let no = unknown_sound stakes at.authority (rw a at (sym c.get_stake.ensures ∙ c.in_default.is)) in
    sym (l.loop-k.invariant.1 ∙ include_unknown stakes b b.includes k inside no)

pub returns-then-reference-include : goal.returns-then-reference-include
unfolding of_includes
returns-then-reference-include c =
    let i = c in
    let l = i in
    let r = l in
    let o = r in
    let stakes = o.args.stakes.now in
    let b = block_in o.args.rec.now in
    let k = l.loop-k.k in
    let at = get_or b.includes k no_reference in
    let inside : k < length b.includes = omega (arith, l.include_count-count.ensures, i.loop-k-test.true) in
    let a = as_author i.include-include.result at i.include-include.ensures in
    let n = as_round i.include-include.result at i.include-include.ensures in
    let m = as_round r.reference-reference.result b.reference r.reference-reference.ensures in
    let yes = lookup_known stakes at.authority _ (rw a at (sym c.get_stake.ensures ∙ c.in-Some.is)) in
    sym (l.loop-k.invariant.1 ∙ include_high stakes b b.includes k inside yes (omega (arith, n, m, c.if-reference-include.true)))

pub loop-k-smaller : goal.loop-k-smaller
loop-k-smaller c =
    let l = c in
    omega (arith, l.include_count-count.ensures, c.loop-k-test.true)

pub loop-k-preserved : goal.loop-k-preserved
loop-k-preserved c =
    let i = c in
    let l = i in
    let r = l in
    let o = r in
    let stakes = o.args.stakes.now in
    let b = block_in o.args.rec.now in
    let k = l.loop-k.k in
    let at = get_or b.includes k no_reference in
    let inside : k < length b.includes = omega (arith, l.include_count-count.ensures, i.loop-k-test.true) in
    let a = as_author i.include-include.result at i.include-include.ensures in
    let n = as_round i.include-include.result at i.include-include.ensures in
    let m = as_round r.reference-reference.result b.reference r.reference-reference.ensures in
    let yes = lookup_known stakes at.authority _ (rw a at (sym c.get_stake.ensures ∙ c.in-Some.is)) in
    (omega arith, l.loop-k.invariant.1 ∙ include_on stakes b b.includes k inside yes (omega (arith, n, m, c.if-reference-include.false)))

pub returns : goal.returns
unfolding of_includes
returns c =
    let l = c in
    let o = l in
    let b = block_in o.args.rec.now in
    sym (l.loop-k.invariant.1 ∙ include_end o.args.stakes.now b b.includes l.loop-k.k
    (omega (arith, l.include_count-count.ensures, c.loop-k-test.false)))
