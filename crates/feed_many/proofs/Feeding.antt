-- One feed of memory in order leaves memory in order. Assumes nothing.
use mathlib.Core.Path.{◌≡◌}
use mathlib.Core.List.{List}
use Prim.Native.Nat.{ℕ}
use native.Mathlib.Omega.{arith}
use lib.ListN.{length}
use Rattle.base.specs.Le.{Bytes}
use Rattle.committee.specs.Committee.{Committee}
use Rattle.feed_spec.specs.Feed.{Lent, feed}
use Rattle.feed_spec.proofs.Keeping.{State, Kept, feed_keeps}
use Rattle.pending_question.proofs.Lending.{lying, refuses_none}
use Rattle.feed_many.specs.Step.{Ready, FedNext}
use Rattle.feed_many.specs.declared.Told.{Told}

ready_state : {c : Committee} {s : Bytes} {t w : List ℕ} → Ready c s t w → State c s t
ready_state {c} {s} {t} h = let l = lying c s t h.lent in record { store = l.store; table = l.table }

module _ (c : Committee) (m : Lent) (bytes : Bytes) (h : Ready c m.store m.table m.work) where
  keeps : Kept c m (feed c m bytes)
  keeps = feed_keeps c m bytes (ready_state h)

  -- a feed leaves memory in order, with any work slice of that length
  pub ready_fed : (w : List ℕ) → length w ≡ length m.work → Ready c (feed c m bytes).store (feed c m bytes).table w
  ready_fed w e =
      record {
        lent = refuses_none c _ _ (lying c m.store m.table h.lent).committee keeps.state.store keeps.state.table;
        work = omega (arith, e, keeps.table, h.work);
      }

  pub ready_next : (r : Told) (s : Bytes) (t v w : List ℕ) → FedNext (feed c m bytes) r s t v → length w ≡ length m.work → Ready c s t w
  ready_next r s t v w f e = rw (f.store, f.table) (ready_fed w e)
