use mathlib.Core.Path.{refl}
use native.Mathlib.Omega.{arith}
use Rattle.base.proofs.Le.{bytes_of}
use Rattle.list_readings_spec.specs.Answers.{is_ordinary}
use Rattle.types.specs.Values.{as_maybe}
use Rattle.list_shown.proofs.Reaching.{lent_for}
use Rattle.load_along.specs.Along.{tables}
use Rattle.load_along.proofs.Sweeping.{begun_held}
use Rattle.load_along.proofs.at_start.Goals as goal

pub returns : goal.returns
unfolding as_maybe is_ordinary
returns c =
    let a = c.args in
    let b = c.begin-at in
    let bytes = bytes_of a.store.now (λ j h. omega (
      arith,
      c.shared_slice_known-1.given j,
    )) in
    record {
      none_passed = refl;
      held = λ k sets lent.
          let on = lent_for k a.total a.store.now a.order.now sets a.edges.now _ a.marks.now _ lent b.auto.edges
          b.auto.marks in
          record {
            lent = on;
            shares = refl;
            reads = refl;
            stands = begun_held _ k a.total a.store.now (tables a.order.now sets _ _) bytes on b.result b.ensures;
          };
    }
