-- Cursors over the runs of a part in words. Assumes nothing.
use mathlib.Core.Path.{◌≡◌, refl, sym, ap, subst, ◌∙◌}
use mathlib.Core.List.{List, ◌∷◌}
use mathlib.Core.Option.{Option, none, some}
use Prim.Native.Nat.{ℕ, zero, suc, ◌+◌, ◌-◌, ◌*◌, ◌≤◌, ◌<◌}
use native.Mathlib.Omega.{arith}
use native.Mathlib.Decide.{dec_lt}
use native.Mathlib.Numerals.{add-one, sub-one}
use lib.ListN.{length, get_or, drop, set, length-set}
use lib.Seq.{drop-drop, get_or-set_same, get_or-set_other}
use Rattle.committee_set.specs.AuthoritySet.{AuthoritySet, nobody, united}
use Rattle.committee_set.proofs.Words.{united_nobody, united_assoc}
use Rattle.record_spec.specs.Reference.{TransactionLocator}
use Rattle.index_spec.specs.Runs.{Run, voters_in}
use Rattle.index_spec.specs.Walk.{Place, anywhere, At, run_from, runs_from}
use Rattle.index_spec.proofs.Chain.{Anything, Chain}
use Rattle.index_pieces.specs.Pieces.{PieceOr, from_place, both, or_else, first_piece, kept_if, skipped}
use Rattle.index_pieces.proofs.Pieces.{pieces_same, both_pieces, first_piece_lem, skipped_chain, skipped_names}
use Rattle.index_pieces.specs.Sources.{cursor_at, cursor_left, source, named_by, Ready, Moved}

-- ---- one source

pub runs_next : (n : ℕ) (ws : List ℕ) → 0 < n → runs_from n ws ≡ run_from ws ∷ runs_from (n - 1) (drop 10 ws)
unfolding runs_from
runs_next zero ws h = absurd (omega arith)
runs_next (suc n) ws h = ap (λ (m : ℕ). run_from ws ∷ runs_from m (drop 10 ws)) (sym (sub-one (suc n)))

module _ (p : Place) (ix : List ℕ) (at left : ℕ) (h : 0 < left) where
  pub next : runs_from left (drop at ix) ≡ run_from (drop at ix) ∷ runs_from (left - 1) (drop (at + 10) ix)
  next = runs_next left (drop at ix) h ∙ ap (λ (ws : List ℕ). run_from (drop at ix) ∷ runs_from (left - 1) ws) (drop-drop 10 at ix)

  pub skip_stop : (y : Run) → from_place p (run_from (drop at ix)) ≡ some y → skipped p (runs_from left (drop at ix)) ≡ runs_from left (drop at ix)
  unfolding skipped kept_if
  skip_stop y e = rw (next, e)

  pub skip_on : from_place p (run_from (drop at ix)) ≡ none → skipped p (runs_from left (drop at ix)) ≡ skipped p (runs_from (left - 1) (drop (at + 10) ix))
  unfolding skipped kept_if
  skip_on e = rw (next, e)

  pub piece_stop : (y : Run) → from_place p (run_from (drop at ix)) ≡ some y → first_piece p (runs_from left (drop at ix)) ≡ some y
  unfolding first_piece or_else
  piece_stop y e = rw (next, e)

  pub piece_on : from_place p (run_from (drop at ix)) ≡ none → first_piece p (runs_from left (drop at ix))
      ≡ first_piece p (runs_from (left - 1) (drop (at + 10) ix))
  unfolding first_piece or_else
  piece_on e = rw (next, e)

module _ (p : Place) (ix : List ℕ) (at left : ℕ) (h : left ≤ 0) where
  zero_left : left ≡ 0
  zero_left = omega arith

  pub skip_end : skipped p (runs_from left (drop at ix)) ≡ runs_from left (drop at ix)
  unfolding skipped runs_from
  skip_end = rw zero_left

  pub piece_end : first_piece p (runs_from left (drop at ix)) ≡ none
  unfolding first_piece runs_from
  piece_end = rw zero_left

-- ---- one source after the other

-- the cursors of the first k sources were moved on
pub record Passing (ix : List ℕ) (p : Place) (cs₀ cs : List ℕ) (k : ℕ) : Type 0 where
  pub long : length cs ≡ length cs₀
  pub done : (j : ℕ) → j < k → source ix cs j ≡ skipped p (source ix cs₀ j)
  pub within : (j : ℕ) → j < k → cursor_at cs j + 10 * cursor_left cs j ≤ length ix
  pub rest : (j : ℕ) → k ≤ j → (cursor_at cs j ≡ cursor_at cs₀ j) × (cursor_left cs j ≡ cursor_left cs₀ j)

module _ (ix : List ℕ) (p : Place) (cs₀ : List ℕ) where
  pub passing_start : Passing ix p cs₀ cs₀ 0
  passing_start = record { long = refl; done = λ j h. absurd (omega arith); within = λ j h. absurd (omega arith); rest = λ j h. (refl, refl) }

  -- the source of the next cursor is as it was
  pub passing_source : (cs : List ℕ) (k : ℕ) → Passing ix p cs₀ cs k → source ix cs k ≡ source ix cs₀ k
  unfolding source
  passing_source cs k h = rw ((h.rest k (omega arith)).0, (h.rest k (omega arith)).1)

  pub passing_inside : (cs : List ℕ) (k n : ℕ) → Ready ix cs₀ n → Passing ix p cs₀ cs k → k < n → get_or cs (2 * k) 0 + 10 * get_or cs (2 * k + 1) 0 ≤ length ix
  unfolding cursor_at cursor_left
  passing_inside cs k n r h m = rw ((h.rest k (omega arith)).0, (h.rest k (omega arith)).1) (r.inside k m)

  module _ (cs : List ℕ) (k at left : ℕ) (room : 2 * k + 1 < length cs) where
    abbrev next_cs : List ℕ
    next_cs = set (set cs (2 * k) at) (2 * k + 1) left

    pub at_same : cursor_at next_cs k ≡ at
    unfolding cursor_at
    at_same = get_or-set_other (set cs (2 * k) at) (2 * k + 1) (2 * k) left 0 (λ (e : 2 * k ≡ 2 * k + 1). omega arith) ∙ get_or-set_same cs (2 * k) at 0
        (omega arith)

    pub left_same : cursor_left next_cs k ≡ left
    unfolding cursor_left
    left_same = let h : 2 * k + 1 < length (set cs (2 * k) at) = omega (arith, length-set cs (2 * k) at) in get_or-set_same (set cs (2 * k) at) (2 * k + 1) left
        0 h

    pub at_other : (j : ℕ) → (j ≡ k → ⊥) → cursor_at next_cs j ≡ cursor_at cs j
    unfolding cursor_at
    at_other j n =
        get_or-set_other (set cs (2 * k) at) (2 * k + 1) (2 * j) left 0 (λ (e : 2 * j ≡ 2 * k + 1). omega arith)
        ∙ get_or-set_other cs (2 * k) (2 * j) at 0 (λ (e : 2 * j ≡ 2 * k). n (omega arith))

    pub left_other : (j : ℕ) → (j ≡ k → ⊥) → cursor_left next_cs j ≡ cursor_left cs j
    unfolding cursor_left
    left_other j n =
        get_or-set_other (set cs (2 * k) at) (2 * k + 1) (2 * j + 1) left 0 (λ (e : 2 * j + 1 ≡ 2 * k + 1). n (omega arith))
        ∙ get_or-set_other cs (2 * k) (2 * j + 1) at 0 (λ (e : 2 * j + 1 ≡ 2 * k). omega arith)

    pub source_same : source ix next_cs k ≡ runs_from left (drop at ix)
    unfolding source
    source_same = rw (at_same, left_same)

    pub source_other : (j : ℕ) → (j ≡ k → ⊥) → source ix next_cs j ≡ source ix cs j
    unfolding source
    source_other j n = rw (at_other j n, left_other j n)

    pub passing_step : Passing ix p cs₀ cs k → runs_from left (drop at ix) ≡ skipped p (source ix cs₀ k) → at + 10 * left ≤ length ix
        → Passing ix p cs₀ (set (set cs (2 * k) at) (2 * k + 1) left) (k + 1)
    passing_step h e m =
        record {
          long = length-set (set cs (2 * k) at) (2 * k + 1) left ∙ length-set cs (2 * k) at ∙ h.long;
          done = λ j n. now j (dec_lt j k) n;
          within = λ j n. inside j (dec_lt j k) n;
          rest = λ j n. (
            at_other j (λ (z : j ≡ k). omega arith) ∙ (h.rest j (omega arith)).0,
            left_other j (λ (z : j ≡ k). omega arith) ∙ (h.rest j
                (omega arith)).1,
          );
        }
      where
        now : (j : ℕ) → Dec (j < k) → j < k + 1 → source ix next_cs j ≡ skipped p (source ix cs₀ j)
        now j (yes n) u = source_other j (λ (z : j ≡ k). omega arith) ∙ h.done j n
        now j (no n) u = let z : j ≡ k = omega arith in rw z (source_same ∙ e)

        inside : (j : ℕ) → Dec (j < k) → j < k + 1 → cursor_at next_cs j + 10 * cursor_left next_cs j ≤ length ix
        inside j (yes n) u = rw (at_other j (λ (z : j ≡ k). omega arith), left_other j (λ (z : j ≡ k). omega arith)) (h.within j n)
        inside j (no n) u = let z : j ≡ k = omega arith in rw (z, at_same, left_same) m

  pub passing_end : (cs : List ℕ) (n : ℕ) → Ready ix cs₀ n → Passing ix p cs₀ cs n → Moved ix n p cs₀ cs
  unfolding named_by
  passing_end cs n r h =
      record {
        long = h.long;
        ready = record {
          room = omega (arith, r.room, h.long);
          inside = h.within;
          chains = λ k m. subst (λ (xs : List Run). Chain Anything anywhere xs) (sym (h.done k m)) (skipped_chain p (source ix cs₀ k) (r.chains k m));
        };
        names = λ l a. all l a n (omega arith);
      }
    where
      all : (l : TransactionLocator) → At p l.block l.offset → (k : ℕ) → k ≤ n → named_by ix cs k l ≡ named_by ix cs₀ k l
      all l a zero m = refl
      all l a (suc k) m = rw (all l a k (omega arith), h.done k (omega arith), skipped_names p (source ix cs₀ k) l a)

-- ---- the piece so far

unfoldable pub SoFar : List ℕ → List ℕ → Place → Option Run → ℕ → Option Run → Type 0
SoFar ix cs₀ p other k o = (f : TransactionLocator → AuthoritySet) → PieceOr f p other → PieceOr (λ l. united (f l) (named_by ix cs₀ k l)) p o

module _ (ix cs₀ : List ℕ) (p : Place) (other : Option Run) where
  pub so_far_start : SoFar ix cs₀ p other 0 other
  unfolding SoFar named_by
  so_far_start f h = pieces_same f (λ l. united (f l) nobody) p other (λ l a. sym (united_nobody (f l))) h

  pub so_far_on : (k : ℕ) (o q : Option Run) → Chain Anything anywhere (source ix cs₀ k) → SoFar ix cs₀ p other k o → q ≡ first_piece p (source ix cs₀ k) →
      SoFar ix cs₀ p other (k + 1) (both o q)
  unfolding SoFar named_by
  so_far_on k o q h s e f m =
      rw (add-one k)
      (let g : TransactionLocator → AuthoritySet = λ l. united (f l) (named_by ix cs₀ k l) in
      pieces_same (λ l. united (g l) (voters_in (source ix cs₀ k) l)) (λ l. united (f l) (united (named_by ix cs₀ k l) (voters_in (source ix cs₀ k) l))) p
      (both o q)
      (λ l a. united_assoc (f l) (named_by ix cs₀ k l) (voters_in (source ix cs₀ k) l))
      (both_pieces g (voters_in (source ix cs₀ k)) p o q (s f m)
      (subst (PieceOr (voters_in (source ix cs₀ k)) p) (sym e) (first_piece_lem p (source ix cs₀ k) h))))
