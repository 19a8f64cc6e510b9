-- A run from its first piece on, piece after piece. Assumes nothing.
use mathlib.Core.Path.{◌≡◌, refl, sym, ap, subst, ◌∙◌}
use mathlib.Core.Bool.{true, false, ◌&&◌}
use mathlib.Core.List.{List}
use mathlib.Core.Option.{Option, none, some}
use Prim.Native.Nat.{ℕ, ◌≤◌, ◌<◌}
use native.Mathlib.Omega.{arith}
use native.Mathlib.Decide.{dec_lt}
use lib.ListN.{length}
use Rattle.base.proofs.Tests.{and_both, and_left, and_right, not_both}
use Rattle.committee_set.specs.AuthoritySet.{AuthoritySet, nobody, united}
use Rattle.committee_set.proofs.Words.{nobody_united}
use Rattle.record_spec.specs.Reference.{BlockReference, TransactionLocator, locator}
use Rattle.index_spec.specs.Runs.{Run, run, touches, same_voters}
use Rattle.index_spec.specs.Walk.{Past, Place, beyond, NextRun}
use Rattle.index_spec.proofs.Sets.{same_voters_lem, voters_same}
use Rattle.index_spec.proofs.Chain.{past_itself, past_trans, touching, touched}
use Rattle.index_spec.proofs.Unique.{PlaceOrder, earlier, later, alike, place_order}
use Rattle.index_pieces.specs.Pieces.{Piece, NobodyFrom, PieceOr}
use Rattle.index_pieces.proofs.Pieces.{past_not, pieces_same}
use Rattle.index_pieces.specs.Sources.{named_by, Ready, Moved, together, Merging, ended, GrownFrom}

module _ {f : TransactionLocator → AuthoritySet} where
  -- a piece that touches and has the same voters
  pub grown : (p : Place) (x y : Run) → Piece f p x → Piece f (beyond x.reference x.end) y → touches x y && same_voters x.votes y.votes ≡ true →
      Piece f p (ended x y.end)
  unfolding ended run
  grown p x y c d h =
      record {
        there = c.there;
        ahead = record {
          stretch = record {
            full = omega (arith, c.ahead.stretch.full, d.ahead.stretch.full, t.1);
            voted = c.ahead.stretch.voted;
            told = λ o i j.
                told o i j (dec_lt o x.end);
          };
          first = c.ahead.first;
        };
      }
    where
      t : (x.reference ≡ y.reference) × (x.end ≡ y.start)
      t = touched x y (and_left (touches x y) _ h)

      told : (o : ℕ) → x.start ≤ o → o < y.end → Dec (o < x.end) → f (locator x.reference o) ≡ x.votes
      told o i j (yes m) = c.ahead.stretch.told o i m
      told o i j (no m) =
          ap (λ (r : BlockReference). f (locator r o)) t.0
          ∙ d.ahead.stretch.told o (omega (arith, t.1)) j
          ∙ sym (same_voters_lem x.votes y.votes (and_right (touches x y) _ h))

  -- a piece after which nobody is named, or the next piece does not go on with it, is a run
  pub run_none : (p : Place) (x : Run) → Piece f p x → NobodyFrom f (beyond x.reference x.end) → NextRun f p x
  unfolding NobodyFrom locator
  run_none p x c n =
      record {
        there = c.there;
        stretch = c.ahead.stretch;
        onward = λ e. c.ahead.stretch.voted (sym e ∙ n (locator x.reference x.end) (past_itself x.reference x.end));
        first = c.ahead.first;
      }

  pub run_other : (p : Place) (x y : Run) → Piece f p x → Piece f (beyond x.reference x.end) y → touches x y && same_voters x.votes y.votes ≡ false
      → NextRun f p x
  unfolding locator
  run_other p x y c d h =
      record {
        there = c.there;
        stretch = c.ahead.stretch;
        onward = λ e. split e (place_order x.reference x.end y.reference y.start);
        first = c.ahead.first;
      }
    where
      split : f (locator x.reference x.end) ≡ x.votes → PlaceOrder x.reference x.end y.reference y.start → ⊥
      split e (earlier k) = c.ahead.stretch.voted (sym e ∙ d.ahead.first (locator x.reference x.end) (past_itself x.reference x.end) k)
      split e (later k) = past_not d.there k
      split e (alike r o) =
          let v : x.votes ≡ y.votes = sym e ∙ ap f (λ i. locator (r i) (o i)) ∙ d.ahead.stretch.told y.start (omega arith) d.ahead.stretch.full in
          not_both (and_both (touches x y) (same_voters x.votes y.votes) (touching x y r o) (voters_same x.votes y.votes v)) h

-- ---- all sources

-- the first piece of the source in some words, with none before it, and then that of all
pub together_piece : (own ms ix cs : List ℕ) (n : ℕ) (p : Place) (o next : Option Run)
    → ((f : TransactionLocator → AuthoritySet) → PieceOr f p none → PieceOr (λ l. united (f l) (named_by own ms 1 l)) p o)
    → ((f : TransactionLocator → AuthoritySet) → PieceOr f p o → PieceOr (λ l. united (f l) (named_by ix cs n l)) p next)
    → PieceOr (together own ms ix cs n) p next
unfolding PieceOr NobodyFrom together
together_piece own ms ix cs n p o next h k =
    k (named_by own ms 1)
    (pieces_same (λ l. united nobody (named_by own ms 1 l)) (named_by own ms 1) p o (λ l a. nobody_united (named_by own ms 1 l))
    (h (λ l. nobody) (λ l a. refl)))

-- ---- the loop

-- what is known before the next piece is asked for: the run so far ends at e
pub record Growing (own ms₀ ms ix : List ℕ) (n : ℕ) (cs₀ cs : List ℕ) (first : Run) (e : ℕ) : Type 0 where
  pub long : length cs ≡ length cs₀
  pub own_long : length ms ≡ length ms₀
  pub ready : Ready ix cs n
  pub own_ready : Ready own ms 1
  pub onward : first.end ≤ e
  pub merging : (f : TransactionLocator → AuthoritySet) → Merging f own ms₀ ix cs₀ n first → Merging f own ms ix cs n (ended first e)
  pub piece : (f : TransactionLocator → AuthoritySet) (p : Place) → Merging f own ms₀ ix cs₀ n first → Piece f p first → Piece f p (ended first e)

module _ (own ms₀ ix : List ℕ) (n : ℕ) (cs₀ : List ℕ) (first : Run) where
  pub growing_start : Ready ix cs₀ n → Ready own ms₀ 1 → Growing own ms₀ ms₀ ix n cs₀ cs₀ first first.end
  unfolding ended run
  growing_start r o = record { long = refl; own_long = refl; ready = r; own_ready = o; onward = omega arith; merging = λ f m. m; piece = λ f p m c. c }

  -- the next piece was found
  module _ (ms ms' cs cs' : List ℕ) (e : ℕ) (next : Option Run) (g : Growing own ms₀ ms ix n cs₀ cs first e)
      (d : PieceOr (together own ms ix cs n) (beyond first.reference e) next)
      (m : Moved ix n (beyond first.reference e) cs cs')
      (w : Moved own 1 (beyond first.reference e) ms ms') where
    told_on : (f : TransactionLocator → AuthoritySet) → Merging f own ms₀ ix cs₀ n first → Merging f own ms' ix cs' n (ended first e)
    unfolding ended run together
    told_on f k = record {
      told = λ l a. ap (λ (v : AuthoritySet). united v (named_by ix cs' n l)) (w.names l a) ∙ ap (united (named_by own ms 1 l))
          (m.names l a) ∙ (g.merging f k).told l a;
    }

    next_of : (f : TransactionLocator → AuthoritySet) → Merging f own ms₀ ix cs₀ n first → PieceOr f (beyond first.reference e) next
    unfolding ended run
    next_of f k = pieces_same (together own ms ix cs n) f (beyond first.reference e) next (λ l a. (g.merging f k).told l a) d

    ends : ((f : TransactionLocator → AuthoritySet) (p : Place) → Merging f own ms₀ ix cs₀ n first → Piece f p first → NextRun f p (ended first e))
        → GrownFrom own ms₀ ms' ix n cs₀ cs' first (ended first e) next
    unfolding ended run
    ends h =
        record {
          long = m.long ∙ g.long;
          own_long = w.long ∙ g.own_long;
          ready = m.ready;
          own_ready = w.ready;
          merging = told_on;
          piece = next_of;
          run = h;
        }

    pub grown_none : next ≡ none → GrownFrom own ms₀ ms' ix n cs₀ cs' first (ended first e) next
    unfolding PieceOr ended run
    grown_none z = ends (λ f p k c. run_none p (ended first e) (g.piece f p k c) (subst (PieceOr f (beyond first.reference e)) z (next_of f k)))

    pub grown_other : (y : Run) → next ≡ some y → touches (ended first e) y && same_voters first.votes y.votes ≡ false → GrownFrom own ms₀ ms' ix n cs₀
        cs' first (ended first e) next
    unfolding PieceOr ended run
    grown_other y z t = ends (λ f p k c. run_other p (ended first e) y (g.piece f p k c) (subst (PieceOr f (beyond first.reference e)) z (next_of f k)) t)

    module _ (y : Run) (z : next ≡ some y) (t : touches (ended first e) y && same_voters first.votes y.votes ≡ true) where
      touch : (first.reference ≡ y.reference) × (e ≡ y.start)
      unfolding ended run
      touch = touched (ended first e) y (and_left (touches (ended first e) y) _ t)

      full : y.start < y.end
      unfolding PieceOr
      full = let c = subst (PieceOr (together own ms ix cs n) (beyond first.reference e)) z d in c.ahead.stretch.full

      pub grown_past : e < y.end
      grown_past = omega (arith, touch.1, full)

      later_too : (r : BlockReference) (k : ℕ) → Past first.reference y.end r k → Past first.reference e r k
      later_too r k a = past_trans (past_itself first.reference e) (omega (arith, grown_past)) a

      pub grown_on : Growing own ms₀ ms' ix n cs₀ cs' first y.end
      unfolding PieceOr ended run
      grown_on =
          record {
            long = m.long ∙ g.long;
            own_long = w.long ∙ g.own_long;
            ready = m.ready;
            own_ready = w.ready;
            onward = omega (arith, g.onward, grown_past);
            merging = λ f k. record { told = λ l a. (told_on f k).told l (later_too l.block l.offset a) };
            piece = λ f p k c. grown p (ended first e) y (g.piece f p k c) (subst (PieceOr f (beyond first.reference e)) z (next_of f k)) t;
          }
