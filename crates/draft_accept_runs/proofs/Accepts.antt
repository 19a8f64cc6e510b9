-- Whether an accept goes on with a run, as code tests it, and runs as they are written. Assumes nothing.
use mathlib.Core.Path.{◌≡◌, sym}
use mathlib.Core.Bool.{true, false}
use Prim.Native.Nat.{ℕ, ◌+◌, ◌≤◌, ◌<◌}
use native.Mathlib.Omega.{arith}
use borrow.Author.Tests.{eq-eqb, ne_eqb}
use Rattle.base.proofs.Tests.{not_both, fails}
use Rattle.record_spec.specs.Reference.{BlockReference, TransactionLocator, locator, new_range, one_range, same_reference}
use Rattle.record_spec.specs.Block.{accept, vote_range}
use Rattle.record_spec.proofs.References.{reference_same, same_reference_lem}
use Rattle.draft_spec.specs.Joining.{run, touches, run_statement, right_piece}
use Rattle.draft_spec.proofs.Joining.{touching, touching_yes, right_run}

-- ---- the test, as code makes it

module _ (l m : TransactionLocator) where
  pub far_high : 1048575 ≤ m.offset → touches (one_range l) (one_range m) ≡ false
  unfolding one_range new_range
  far_high h = fails _ (λ e. let t = touching (one_range l) (one_range m) e in omega (arith, t.low))

  pub far_gap : (m.offset ≡ l.offset + 1 → ⊥) → touches (one_range l) (one_range m) ≡ false
  unfolding one_range new_range
  far_gap h = fails _ (λ e. h (sym (touching (one_range l) (one_range m) e).meets))

  pub far_block : same_reference l.block m.block ≡ false → touches (one_range l) (one_range m) ≡ false
  unfolding one_range new_range
  far_block h = fails _ (λ e. not_both (same_reference_lem (touching (one_range l) (one_range m) e).block) h)

  pub near : m.offset < 1048575 → m.offset ≡ l.offset + 1 → same_reference l.block m.block ≡ true → touches (one_range l) (one_range m) ≡ true
  unfolding one_range new_range
  near h k e = touching_yes (one_range l) (one_range m) (record { block = reference_same l.block m.block e; meets = sym k; low = omega arith })

-- ---- a run as it is written

-- a lone accept stays one
pub run_alone : (r : BlockReference) (first last : ℕ) → first ≡ last → run_statement (new_range r first (last + 1)) ≡ accept (locator r first)
unfolding run_statement new_range
run_alone r first last e = rw (eq-eqb (first + 1) (last + 1) (omega arith))

pub run_longer : (r : BlockReference) (first last : ℕ) → (first ≡ last → ⊥) → run_statement (new_range r first (last + 1)) ≡ vote_range
    (new_range r first (last + 1))
unfolding run_statement new_range
run_longer r first last e = rw (ne_eqb (first + 1) (last + 1) (λ k. e (omega arith)))

-- its end stays below the limit
pub run_low : (r : BlockReference) (first last : ℕ) → (first ≡ last → ⊥) → right_piece (run (new_range r first (last + 1))) ≡ true → last + 1 < 1048576
unfolding new_range
run_low r first last e h =
    let f = right_run (new_range r first (last + 1)) h in
    f.low (omega (arith, f.filled, e))
