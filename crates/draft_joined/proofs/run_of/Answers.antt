use mathlib.Core.Path.{◌≡◌, refl, sym, ◌∙◌}
use mathlib.Core.Bool.{true, false}
use Prim.Native.Nat.{◌+◌}
use native.Mathlib.Omega.{arith}
use Rattle.base.proofs.Le.{bytes_of}
use Rattle.record_spec.specs.Reference.{locator, new_range, one_range}
use Rattle.types.specs.Values.{as_reference, as_locator}
use Rattle.draft_spec.specs.Joining.{touches}
use Rattle.draft_joined.specs.Step.{TookAccept}
use Rattle.std.specs.Prelude.{Some, None}
use Rattle.draft_joined.proofs.Runs.{alone_right, longer_right, goes_on_lem, stays_apart}
use Rattle.draft_joined.proofs.run_of.Goals as goal

pub loop-other-init : goal.loop-other-init
unfolding as_locator locator one_range
loop-other-init c = (omega arith, (c.requires, (alone_right (as_locator c.args.first), refl)))

pub next_accept-requires : goal.next_accept-requires
next_accept-requires c = c.loop-other.invariant.1.0

pub returns-in_default : goal.returns-in_default
unfolding TookAccept as_locator locator
returns-in_default c =
    let o = c in
    let l = c.loop-other in
    let s = o.args.s.now in
    let first = o.args.first in
    let told : TookAccept s l.at None = rw c.in_default.is at c.next_accept.ensures in
    record {
      onward = l.invariant.0;
      inside = l.invariant.1.0;
      right = l.invariant.1.1.0;
      says = l.invariant.1.1.1 ∙ told
          (new_range (as_reference first.block) first.offset (l.last + 1));
    }

pub returns-then-not-goes_on : goal.returns-then-not-goes_on
unfolding TookAccept as_locator locator one_range new_range touches
returns-then-not-goes_on c =
    let o = c in
    let l = c.loop-other in
    let s = o.args.s.now in
    let first = o.args.first in
    let other = c.in-Some.other in
    let next = c.in-Some.next in
    let told : TookAccept s l.at (Some (other, next)) = rw c.in-Some.is at
    c.next_accept.ensures in
    let r = new_range (as_reference first.block) first.offset (l.last + 1) in
    let apart : touches r (one_range (as_locator other)) ≡ false = sym c.goes_on.ensures ∙ c.if-not-goes_on.true in
    record {
      onward = l.invariant.0;
      inside = l.invariant.1.0;
      right = l.invariant.1.1.0;
      says = l.invariant.1.1.1 ∙ stays_apart s l.at
          (bytes_of s (λ j h. omega (arith, c.shared_slice_known-1.given j))) next (as_locator other)
          told.0 r apart;
    }

pub loop-other-smaller : goal.loop-other-smaller
unfolding TookAccept
loop-other-smaller c =
    let o = c in
    let l = c.loop-other in
    let s = o.args.s.now in
    let other = c.in-Some.other in
    let next = c.in-Some.next in
    let told : TookAccept s l.at (Some (other, next)) = rw c.in-Some.is at
    c.next_accept.ensures in
    omega (arith, told.1.0, told.1.1)

pub loop-other-preserved : goal.loop-other-preserved
unfolding TookAccept as_locator locator one_range new_range touches
loop-other-preserved c =
    let o = c in
    let l = c.loop-other in
    let s = o.args.s.now in
    let first = o.args.first in
    let other = c.in-Some.other in
    let next = c.in-Some.next in
    let told : TookAccept s l.at (Some (other, next)) = rw c.in-Some.is at
    c.next_accept.ensures in
    let r = new_range (as_reference first.block) first.offset (l.last + 1) in
    let near : touches r (one_range (as_locator other)) ≡ true = sym c.goes_on.ensures ∙ c.if-not-goes_on.false in (
      omega (arith, l.invariant.0, told.1.0),
      (
        told.1.1,
        (
          longer_right r (as_locator other) l.invariant.1.1.0 near,
          l.invariant.1.1.1 ∙ goes_on_lem s l.at
              (bytes_of s (λ j h. omega (arith, c.shared_slice_known-1.given j))) next (as_locator other)
              told.0 r near,
        ),
      ),
    )
