use Prim.Native.Nat.{ℕ}
use mathlib.Core.Path.{ap, ◌∙◌}
use native.Mathlib.Omega.{arith}
use mathlib.Core.List.{List}
use lib.Seq.{sets}
use Rattle.base.proofs.Le.{bytes_of}
use Rattle.types.specs.Values.{as_locator}
use Rattle.record_reference_bytes.proofs.Written.{length_locator_bytes}
use Rattle.slip_write_routes.specs.Reached.{Found}
use Rattle.slip_write_certifiers.specs.Ready.{certifiers_bytes}
use Rattle.slip_write_parts.proofs.Over.{voted_ready, listed_length, listed_written}
use Rattle.slip_write_parts.proofs.write_parts.Goals as goal

pub write_certifiers-requires : goal.write_certifiers-requires
unfolding Found
write_certifiers-requires c = let a = c.args in
    let q = c.requires in
    let l = as_locator a.head.locator in (
      ((q.0.0.0, (l, q.0.1)), q.0.0.1),
      (
        q.1.0.0.1,
        (
          voted_ready a.store.now a.order.now l _ _ q.0.1 a.certifiers.now a.n
              q.1.0.1,
          omega (arith, q.1.1, c.write_head.auto.out),
        ),
      ),
    )

pub returns : goal.returns
returns c = let a = c.args in
    let q = c.requires in
    let s = a.store.now in
    let o = a.order.now in
    let l = as_locator a.head.locator in
    let bytes = bytes_of s (λ j h. omega (
      arith,
      c.shared_slice_known-1.given j,
    )) in
    let size = listed_length s o l _ _ q.0.1 a.certifiers.now a.n q.1.0.1 q.0.0.0 bytes (length_locator_bytes a.head.locator)
    a.head.first in
    c.write_certifiers.ensures l q.0.1 ∙ ap (λ (x : List ℕ). sets x 59 (certifiers_bytes s o l a.certifiers.now a.n))
    c.write_head.ensures
    ∙ listed_written s o l _ _ q.0.1 a.certifiers.now a.n q.1.0.1 q.0.0.0 bytes (length_locator_bytes a.head.locator) a.head.first
    a.out.now (omega (arith, size, q.1.1))
