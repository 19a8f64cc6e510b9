-- One run passed: the next one from a place on, found with a merge and without. Assumes nothing.
use mathlib.Core.Path.{◌≡◌, refl, sym, ap, subst, ◌∙◌}
use mathlib.Core.Bool.{true, false}
use mathlib.Core.List.{List}
use mathlib.Core.Option.{Option, none}
use Prim.Native.Nat.{ℕ}
use native.Mathlib.Omega.{arith}
use Rattle.base.proofs.Tests.{not_both}
use Rattle.committee_set.specs.AuthoritySet.{AuthoritySet, united}
use Rattle.record_spec.specs.Reference.{TransactionLocator, locator}
use Rattle.index_spec.specs.Runs.{Run}
use Rattle.index_spec.specs.Index.{run_words}
use Rattle.index_spec.specs.Walk.{Place, At, NextRun}
use Rattle.index_runs.specs.Values.{starts_with}
use Rattle.index_pieces.specs.Pieces.{NobodyFrom, Piece, PieceOr}
use Rattle.index_pieces.proofs.Pieces.{at_beyond}
use Rattle.index_pieces.specs.Sources.{named_by, Moved, together, GrownFrom}
use Rattle.index_meeting.specs.Step.{Passed}
use Rattle.index_parts.specs.Parts.{RunPassed}
use Rattle.index_strides.proofs.Unfolded.{one_next}
use Rattle.index_strides.proofs.Stepping.{next_same, moved_names}

module _ (own ms ix : List ℕ) (n : ℕ) (cs : List ℕ) (p : Place) where
  abbrev g : TransactionLocator → AuthoritySet
  g = together own ms ix cs n

  -- without a merge
  pub met_passed : (ms' cs' : List ℕ) (x : Run) → Passed own ms ms' ix n cs cs' p x → RunPassed own ms ms' ix n cs cs' p x
  unfolding together
  met_passed ms' cs' x w =
      record {
        next = w.next;
        long = w.parts.long;
        own_long = w.mine.long;
        ready = w.parts.ready;
        own_ready = w.mine.ready;
        told = λ l a. ap (λ (v : AuthoritySet). united v (named_by ix cs' n l)) (w.mine.names l a) ∙ ap (united (named_by own ms 1 l)) (w.parts.names l a);
      }

  -- from its first piece on
  pub grown_passed : (ms' cs' : List ℕ) (first x : Run) (next : Option Run) → Piece g p first → GrownFrom own ms ms' ix n cs cs' first x next → RunPassed
      own ms ms' ix n cs cs' p x
  grown_passed ms' cs' first x next c w =
      record {
        next = w.run g p (record { told = λ l a. refl }) c;
        long = w.long;
        own_long = w.own_long;
        ready = w.ready;
        own_ready = w.own_ready;
        told = λ l a. (w.merging g (record { told = λ m b. refl })).told l a;
      }

  -- after the cursors were moved
  module _ (ms₁ cs₁ : List ℕ) (m : Moved ix n p cs cs₁) (w : Moved own 1 p ms ms₁) where
    abbrev names : (l : TransactionLocator) → At p l.block l.offset → together own ms₁ ix cs₁ n l ≡ g l
    names = moved_names own ms ix n cs p ms₁ cs₁ m w

    pub moved_passed : (ms₂ cs₂ : List ℕ) (x : Run) → RunPassed own ms₁ ms₂ ix n cs₁ cs₂ p x → RunPassed own ms ms₂ ix n cs cs₂ p x
    moved_passed ms₂ cs₂ x r =
        record {
          next = next_same (together own ms₁ ix cs₁ n) g p x names r.next;
          long = r.long ∙ m.long;
          own_long = r.own_long ∙ w.long;
          ready = r.ready;
          own_ready = r.own_ready;
          told = λ l a. r.told l a ∙ names l
              (at_beyond p x.reference x.start x.end r.next.there (omega (arith, r.next.stretch.full)) l.block l.offset a);
        }

  -- nobody is named any more: there is no next run
  pub none_next : (o : Option Run) → PieceOr g p o → o ≡ none → (y : Run) → NextRun g p y → ⊥
  unfolding PieceOr NobodyFrom locator
  none_next o d e y k =
      let h : NobodyFrom g p = subst (PieceOr g p) e d in
      k.stretch.voted (sym (k.stretch.told y.start (omega arith) k.stretch.full) ∙ h (locator y.reference y.start) k.there)

  -- another run stands there
  pub other_next : (x y : Run) (ws : List ℕ) → NextRun g p x → starts_with (run_words x) ws ≡ false → NextRun g p y → starts_with (run_words y) ws ≡ true → ⊥
  other_next x y ws k e m d = not_both d (ap (λ (z : Run). starts_with (run_words z) ws) (sym (one_next p x y k m)) ∙ e)
