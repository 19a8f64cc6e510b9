use mathlib.Core.Path.{refl, sym, ◌∙◌}
use native.Mathlib.Omega.{arith}
use Rattle.record_spec.specs.Reference.{locator}
use Rattle.types.specs.Values.{as_locator}
use Rattle.list_row_sort.specs.Rows.{Inside}
use Rattle.list_sweep_start.specs.Begin.{none_there, some_there}
use Rattle.list_sweep_start.proofs.stand_after.Goals as goal

pub returns-then-n-eq0 : goal.returns-then-n-eq0
unfolding as_locator locator
returns-then-n-eq0 c = record { many = refl; bound = refl; here = refl; stood = none_there refl refl (λ h. absurd (omega (arith, c.if-n-eq0.true))) }

pub row_locator-first-requires : goal.row_locator-first-requires
unfolding Inside
row_locator-first-requires c = let p = c.requires.passable (omega (arith, c.if-n-eq0.false)) in
    (omega (arith, p.room, p.below), p.inside _ p.below)

pub returns-then-locator_before : goal.returns-then-locator_before
unfolding as_locator locator
returns-then-locator_before c = record {
  many = refl;
  bound = refl;
  here = refl;
  stood = none_there refl refl
      (λ h. rw c.row_locator-first.ensures at (sym c.locator_before.ensures ∙ c.if-locator_before.true));
}

pub pass_edges-at-requires : goal.pass_edges-at-requires
pass_edges-at-requires c = c.requires.passable
    (omega (arith, c.if-n-eq0.false))

pub returns : goal.returns
unfolding as_locator locator
returns c = record {
  many = refl;
  bound = refl;
  here = refl;
  stood = some_there
      (omega (arith, c.if-n-eq0.false))
      (rw c.row_locator-first.ensures at
      (sym c.locator_before.ensures ∙ c.if-locator_before.false))
      c.pass_edges-at.ensures;
}
