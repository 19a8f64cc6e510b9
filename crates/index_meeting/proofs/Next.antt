-- The run that every source meets is the next one, and the cursors past it are copied. Assumes nothing.
use mathlib.Core.Path.{◌≡◌, refl, sym, ap, ◌∙◌}
use mathlib.Core.List.{List, ◌++◌}
use Prim.Native.Nat.{ℕ, zero, suc, ◌+◌, ◌*◌, ◌≤◌, ◌<◌}
use native.Mathlib.Omega.{arith}
use lib.ListN.{length, get_or, take, drop, length-append, length-drop}
use lib.Seq.{get_or-take, take_at, length-take-le}
use Rattle.committee_set.specs.AuthoritySet.{AuthoritySet}
use Rattle.record_spec.specs.Reference.{TransactionLocator}
use Rattle.index_spec.specs.Runs.{Run}
use Rattle.index_spec.specs.Walk.{Place, NextRun}
use Rattle.index_pieces.specs.Sources.{cursor_at, cursor_left, source, named_by, Moved}
use Rattle.index_source_meeting.specs.Source.{Meets}
use Rattle.index_meeting.specs.Step.{NextIf}

module _ (x : Run) where
  pub next_met : (f : TransactionLocator → AuthoritySet) (p : Place) (v w : AuthoritySet) → NextIf x p v w → Meets x f v w → NextRun f p x
  next_met f p v w n m =
      record {
        there = n.there;
        stretch = record { full = n.full; voted = λ e. n.voted (sym n.same ∙ e); told = λ o i j. m.told o i j ∙ sym n.same };
        onward = λ e. n.other (sym m.end ∙ e ∙ n.same);
        first = λ l a q. m.first l q;
      }

-- cursors of which the first n are those that were moved
module _ (ws : List ℕ) (n : ℕ) (p : Place) (cs₀ ahead : List ℕ) (m : Moved ws n p cs₀ ahead) (cs : List ℕ)
    (e : cs ≡ take (2 * n) ahead ++ drop (2 * n) cs₀) where
  front : 2 * n ≤ length ahead
  front = omega (arith, m.ready.room)

  word : (j : ℕ) → j < 2 * n → get_or cs j 0 ≡ get_or ahead j 0
  word j h =
      sym (get_or-take (2 * n) cs j 0 h)
      ∙ ap (λ (l : List ℕ). get_or l j 0) (ap (take (2 * n)) e ∙ take_at (take (2 * n) ahead) (drop (2 * n) cs₀) (2 * n) (length-take-le (2 * n) ahead front))
      ∙ get_or-take (2 * n) ahead j 0 h

  same_at : (j : ℕ) → j < n → cursor_at cs j ≡ cursor_at ahead j
  unfolding cursor_at
  same_at j h = word (2 * j) (omega arith)

  same_left : (j : ℕ) → j < n → cursor_left cs j ≡ cursor_left ahead j
  unfolding cursor_left
  same_left j h = word (2 * j + 1) (omega arith)

  same_source : (j : ℕ) → j < n → source ws cs j ≡ source ws ahead j
  unfolding source
  same_source j h = rw (same_at j h, same_left j h)

  long : length cs ≡ length cs₀
  long = ap length e ∙ length-append (take (2 * n) ahead) (drop (2 * n) cs₀) ∙ omega
      (arith, length-take-le (2 * n) ahead front, length-drop (2 * n) cs₀, m.long, front)

  pub moved_copied : Moved ws n p cs₀ cs
  unfolding named_by
  moved_copied =
      record {
        long = long;
        ready = record {
          room = omega (arith, long, m.long, front);
          inside = λ j h. rw (same_at j h, same_left j h) (m.ready.inside j h);
          chains = λ j h. rw (same_source j h) (m.ready.chains j h);
        };
        names = λ l a. all l n (omega arith) ∙ m.names l a;
      }
    where
      all : (l : TransactionLocator) → (k : ℕ) → k ≤ n → named_by ws cs k l ≡ named_by ws ahead k l
      all l zero h = refl
      all l (suc k) h = rw (all l k (omega arith), same_source k (omega arith))
