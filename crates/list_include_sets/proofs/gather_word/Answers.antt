use Prim.Native.Nat.{ℕ, ◌+◌, ◌-◌, ◌*◌, ◌/◌}
use mathlib.Core.Path.{sym, ap, ◌∙◌}
use native.Mathlib.Nat.{div-one}
use native.Mathlib.Omega.{arith}
use lib.ListN.{get_or}
use Rattle.list_include_sets.specs.Sets.{gathered_to}
use Rattle.list_include_sets.proofs.Gathering.{gathered_more, gathered_word, bits_left, halved}
use Rattle.list_include_sets.proofs.gather_word.Goals as goal

pub loop-w-init : goal.loop-w-init
loop-w-init c = let a = c.args in (
  omega arith,
  (
    sym (div-one _),
    (
      omega (arith, c.shared_slice_known-1.given (17 * a.k + a.i)),
      c.requires.1.1 ∙ ap
          (gathered_to a.sets.now a.memo.now a.k) (omega arith),
    ),
  ),
)

pub overflow_mul-i : goal.overflow_mul-i
overflow_mul-i c = omega (arith, c.requires.0.0)

pub overflow_add-i : goal.overflow_add-i
overflow_add-i c = let l = bits_left (get_or c.args.sets.now
    (17 * c.args.k + c.args.i) 0) c.loop-w.b
    c.loop-w.invariant.1.1.0 (λ e. c.loop-w-test.true (c.loop-w.invariant.1.0 ∙ e)) in
    omega (arith, l, c.requires.0.0)

pub with_place-found-requires : goal.with_place-found-requires
with_place-found-requires c = let l = bits_left (get_or c.args.sets.now
    (17 * c.args.k + c.args.i) 0) c.loop-w.b
    c.loop-w.invariant.1.1.0 (λ e. c.loop-w-test.true (c.loop-w.invariant.1.0 ∙ e)) in
    (omega (arith, l, c.requires.0.0), c.requires.1.0)

pub overflow_add-b : goal.overflow_add-b
overflow_add-b c = let l = bits_left (get_or c.args.sets.now
    (17 * c.args.k + c.args.i) 0)
    c.loop-w.b c.loop-w.invariant.1.1.0 (λ e. c.loop-w-test.true (c.loop-w.invariant.1.0 ∙ e)) in
    omega (arith, l)

pub loop-w-smaller : goal.loop-w-smaller
loop-w-smaller c = let l = bits_left (get_or c.args.sets.now
    (17 * c.args.k + c.args.i) 0)
    c.loop-w.b c.loop-w.invariant.1.1.0 (λ e. c.loop-w-test.true (c.loop-w.invariant.1.0 ∙ e)) in
    omega (arith, l)

pub loop-w-preserved : goal.loop-w-preserved
loop-w-preserved c = let a = c.args in
    let g = c.loop-w in
    let l = bits_left (get_or c.args.sets.now
    (17 * c.args.k + c.args.i) 0)
    c.loop-w.b c.loop-w.invariant.1.1.0 (λ e. c.loop-w-test.true (c.loop-w.invariant.1.0 ∙ e)) in (
      omega (arith, l),
      (
        ap (λ (x : ℕ). x / 2) g.invariant.1.0 ∙ halved _ g.b,
        (
          g.invariant.1.1.0,
          c.with_place-found.ensures ∙ gathered_more a.sets.now a.memo.now a.k a.i g.b g.w g.found l g.invariant.1.0
              g.invariant.1.1.1,
        ),
      ),
    )

pub returns : goal.returns
returns c = let a = c.args in
    let g = c.loop-w in
    g.invariant.1.1.1 ∙ gathered_word a.sets.now a.memo.now a.k a.i g.b g.invariant.0 (sym g.invariant.1.0 ∙ c.loop-w-test.false)
