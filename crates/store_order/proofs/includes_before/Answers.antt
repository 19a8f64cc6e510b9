use mathlib.Core.Path.{◌≡◌, sym, ap, ◌∙◌}
use mathlib.Core.List.{List}
use mathlib.Core.Bool.{Bool}
use native.Mathlib.Omega.{arith}
use lib.ListN.{get_or}
use Rattle.record_spec.specs.Record.{block_in, no_reference}
use Rattle.record_spec.specs.Reference.{BlockReference}
use Rattle.store_spec.specs.Layout.{Record, entries, position_of, lookup}
use Rattle.store_spec.specs.Store.{records_of}
use Rattle.store_spec.specs.Check.{stored_before}
use Rattle.store_spec.proofs.Lookups.{before_none, before_late, before_early, all_on, all_stop, all_end}
use Rattle.store_order.proofs.includes_before.Goals as goal

pub returns-then-p-eq0 : goal.returns-then-p-eq0
returns-then-p-eq0 c =
    let a = c.args in
    let l = c.loop-k in
    let rs : List Record = records_of a.store.now in
    let is : List BlockReference = (block_in a.rec.now).includes in
    let i : BlockReference = get_or is l.k no_reference in
    let stored : BlockReference → Bool = stored_before (entries rs) a.at in
    let p : c.find_ordered-p.result ≡ position_of (lookup (entries rs) i) = c.find_ordered-p.ensures ∙ ap
    (λ (x : BlockReference). position_of (lookup (entries rs) x)) c.include.ensures in
    sym (l.invariant.1 ∙ all_stop no_reference stored is l.k (omega arith) (before_none rs a.at i (sym p ∙ c.if-p-eq0.true)))

pub returns-then-at-p : goal.returns-then-at-p
returns-then-at-p c =
    let a = c.args in
    let l = c.loop-k in
    let rs : List Record = records_of a.store.now in
    let is : List BlockReference = (block_in a.rec.now).includes in
    let i : BlockReference = get_or is l.k no_reference in
    let stored : BlockReference → Bool = stored_before (entries rs) a.at in
    let p : c.find_ordered-p.result ≡ position_of (lookup (entries rs) i) = c.find_ordered-p.ensures ∙ ap
    (λ (x : BlockReference). position_of (lookup (entries rs) x)) c.include.ensures in
    sym (l.invariant.1 ∙ all_stop no_reference stored is l.k (omega arith) (before_late rs a.at i (omega arith)))

pub loop-k-preserved : goal.loop-k-preserved
loop-k-preserved c =
    let a = c.args in
    let l = c.loop-k in
    let rs : List Record = records_of a.store.now in
    let is : List BlockReference = (block_in a.rec.now).includes in
    let i : BlockReference = get_or is l.k no_reference in
    let stored : BlockReference → Bool = stored_before (entries rs) a.at in
    let p : c.find_ordered-p.result ≡ position_of (lookup (entries rs) i) = c.find_ordered-p.ensures ∙ ap
    (λ (x : BlockReference). position_of (lookup (entries rs) x)) c.include.ensures in
    (omega arith, l.invariant.1 ∙ all_on no_reference stored is l.k (omega arith) (before_early rs a.at i (λ z. c.if-p-eq0.false (p ∙ z)) (omega arith)))

pub returns : goal.returns
returns c =
    let a = c.args in
    let l = c.loop-k in
    sym (l.invariant.1 ∙ all_end no_reference (stored_before (entries (records_of a.store.now)) a.at) (block_in a.rec.now).includes l.k (omega arith))
