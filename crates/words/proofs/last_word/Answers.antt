use Prim.Native.Nat.{◌+◌, ◌-◌}
use mathlib.Core.Path.{◌≡◌, sym, ◌∙◌}
use native.Mathlib.Omega.{arith}
use Rattle.base.proofs.Le.{bytes_of}
use Rattle.words.proofs.Words.{last_start, last_next, last_all, last_fits}
use Rattle.words.proofs.last_word.Goals as goal

pub loop-p-init : goal.loop-p-init
loop-p-init c = (omega arith, (omega arith, last_start c.args.s.now))

pub overflow_cast-x : goal.overflow_cast-x
overflow_cast-x c = omega (arith, c.shared_slice_known-1.given (c.loop-p.p - 1))

pub overflow_mul-x : goal.overflow_mul-x
overflow_mul-x c =
    let s = c.args.s.now in
    let p = c.loop-p.p in
    omega (arith, last_fits s p (bytes_of s (λ j h. omega (arith, c.shared_slice_known-1.given j))) (omega arith))

pub overflow_add-x : goal.overflow_add-x
overflow_add-x c =
    let s = c.args.s.now in
    let p = c.loop-p.p in
    omega (arith, last_fits s p (bytes_of s (λ j h. omega (arith, c.shared_slice_known-1.given j))) (omega arith), c.shared_slice_known-1.given (p - 1))

pub loop-p-preserved : goal.loop-p-preserved
loop-p-preserved c =
    let s = c.args.s.now in
    let p = c.loop-p.p in
    let same : p - 1 + 1 ≡ p = omega arith in
    let step = rw same at (last_next s (p - 1) (omega arith)) in
    (omega arith, (omega arith, omega (arith, step)))

pub returns : goal.returns
returns c =
    let s = c.args.s.now in
    let at = c.args.at in
    let end : c.loop-p.p ≡ at = omega arith in
    c.loop-p.invariant.1.1 ∙ rw end (sym (last_all s at (omega arith)))
