use Prim.Native.Nat.{◌<◌, ◌-◌, ◌+◌, ◌/◌}
use mathlib.Core.Path.{sym}
use mathlib.Core.Logic.{⊎_elim}
use lib.Arith.{lt_of_le-ne}
use native.Mathlib.Omega.{arith}
use lib.ListN.{length, get_or}
use Rattle.base.proofs.Narrowed.{narrowed_start, narrowed_up, narrowed_down, narrowed_all}
use Rattle.store_spec.proofs.Sorted.{sorted_at, is_in_lem, not_in}
use Rattle.store_chain.proofs.contains.Goals as goal

pub loop-low-init : goal.loop-low-init
loop-low-init c = narrowed_start _ _ _

pub returns-then-y-x : goal.returns-then-y-x
returns-then-y-x c =
    let a = c.args in
    let l = c.loop-low in
    sym (is_in_lem a.x a.sorted.now (l.low + (l.high - l.low) / 2) (omega (arith, l.invariant.inside)) c.if-y-x.true)

pub loop-low-preserved-then-y-x-2 : goal.loop-low-preserved-then-y-x-2
loop-low-preserved-then-y-x-2 c =
    let a = c.args in
    let l = c.loop-low in
    let m = l.low + (l.high - l.low) / 2 in
    let s = a.sorted.now in
    narrowed_up (length s) _ _ l.low l.high m
    (λ i (h : i < m). omega (arith, sorted_at s i m c.requires h (omega (arith, l.invariant.inside)), c.if-y-x-2.true))
    c.if-y-x-2.true (omega arith) l.invariant

pub loop-low-preserved : goal.loop-low-preserved
loop-low-preserved c =
    let a = c.args in
    let l = c.loop-low in
    let m = l.low + (l.high - l.low) / 2 in
    let s = a.sorted.now in
    let over : a.x < get_or s m 0 = lt_of_le-ne (omega arith) (λ e. c.if-y-x.false (sym e)) in
    narrowed_down (length s) _ _ l.low l.high m
    (λ i (h : m < i) (k : i < length s). omega (arith, sorted_at s m i c.requires h k, over))
    over (omega arith) (omega arith) l.invariant

pub returns : goal.returns
returns c =
    let a = c.args in
    let l = c.loop-low in
    sym (not_in a.x a.sorted.now
    (λ j h e. ⊎_elim (λ k. omega arith) (λ k. omega arith) (narrowed_all (length a.sorted.now) _ _ l.low l.high (omega arith) l.invariant j h)))
