-- The runs of a part found one after the other: what is known after k of them. Assumes nothing.
use mathlib.Core.Path.{◌≡◌, refl, sym, ap, subst, ◌∙◌}
use mathlib.Core.List.{List, [], ◌∷◌, ◌++◌}
use mathlib.Core.Option.{Option, none, some}
use Prim.Native.Nat.{ℕ, ◌+◌, ◌≤◌, ◌<◌}
use native.Mathlib.Omega.{arith}
use lib.ListN.{length, drop, length-drop}
use lib.Seq.{drop-drop}
use Rattle.committee_set.specs.AuthoritySet.{AuthoritySet, united}
use Rattle.record_spec.specs.Reference.{TransactionLocator, locator}
use Rattle.index_spec.specs.Runs.{Run}
use Rattle.index_spec.specs.Part.{RunsOf}
use Rattle.index_spec.specs.Walk.{Place, anywhere, beyond, At, NextRun, Unfolded, done, more}
use Rattle.index_spec.proofs.Relation.{runs_chain, runs_told, chain_runs}
use Rattle.index_pieces.specs.Pieces.{NobodyFrom, Piece, PieceOr}
use Rattle.index_pieces.proofs.Pieces.{at_later, at_beyond, pieces_same}
use Rattle.index_pieces.specs.Sources.{named_by, Ready, Moved, together}
use Rattle.index_shared.specs.Shared.{Nexts, here, onward}
use Rattle.index_strides.proofs.Unfolded.{runs_unfolded, none_left, First, next_first}

pub record Left (f : TransactionLocator → AuthoritySet) (p : Place) (k : ℕ) (xs : List Run) : Type 0 where
  pub few : k ≤ length xs
  pub unfolded : Unfolded f p (drop k xs)

-- k runs were found, and the cursors stand at a place
pub record Standing (own ms₀ ms ix : List ℕ) (n : ℕ) (cs₀ cs : List ℕ) (p : Place) (k : ℕ) : Type 0 where
  pub long : length cs ≡ length cs₀
  pub own_long : length ms ≡ length ms₀
  pub ready : Ready ix cs n
  pub own_ready : Ready own ms 1
  pub told : (l : TransactionLocator) → At p l.block l.offset → together own ms ix cs n l ≡ together own ms₀ ix cs₀ n l
  pub left : (xs : List Run) → RunsOf (together own ms₀ ix cs₀ n) xs → Left (together own ms₀ ix cs₀ n) p k xs

-- the same, with the next piece at hand
pub record Stepping (own ms₀ ms ix : List ℕ) (n : ℕ) (cs₀ cs : List ℕ) (next : Option Run) (k : ℕ) : Type 0 where
  pub place : Place
  pub standing : Standing own ms₀ ms ix n cs₀ cs place k
  pub piece : PieceOr (together own ms ix cs n) place next

-- the runs that are left begin with this one
pub record Next (x : Run) (k : ℕ) (xs : List Run) : Type 0 where
  pub more : k < length xs
  pub are : drop k xs ≡ x ∷ drop (k + 1) xs

-- the next run of what names the same from the place on
pub next_same : (f g : TransactionLocator → AuthoritySet) (p : Place) (x : Run) → ((l : TransactionLocator) → At p l.block l.offset → f l ≡ g l) →
    NextRun f p x → NextRun g p x
unfolding locator
next_same f g p x e n =
    record {
      there = n.there;
      stretch = record {
        full = n.stretch.full;
        voted = n.stretch.voted;
        told = λ o i j. sym
            (e (locator x.reference o) (at_later p x.reference x.start o n.there i)) ∙ n.stretch.told o i j;
      };
      onward = λ z. n.onward (e (locator x.reference x.end)
          (at_later p x.reference x.start x.end n.there (omega (arith, n.stretch.full))) ∙ z);
      first = λ l a q. sym (e l a) ∙ n.first l a q;
    }

-- ---- the next run is the first of those that are left

module _ {f : TransactionLocator → AuthoritySet} (p : Place) (k : ℕ) (x : Run) (xs : List Run) (n : NextRun f p x) (l : Left f p k xs) where
  first_left : First f x (drop k xs)
  first_left = next_first p x (drop k xs) n l.unfolded

  rest_left : drop (k + 1) xs ≡ first_left.rest
  rest_left = sym (drop-drop 1 k xs) ∙ ap (drop 1) first_left.are

  pub next_left : Next x k xs
  next_left =
      record {
        more = omega (arith, l.few, length-drop k xs, ap length first_left.are);
        are = first_left.are ∙ ap (λ (ys : List Run). x ∷ ys) (sym rest_left);
      }

  pub left_on : Left f (beyond x.reference x.end) (k + 1) xs
  left_on =
      record {
        few = omega (arith, next_left.more);
        unfolded = subst (Unfolded f (beyond x.reference x.end)) (sym rest_left) first_left.unfolded;
      }

-- ---- the next runs, one after the other

-- the runs that are left begin with these; what is left after them
pub record Begun (f : TransactionLocator → AuthoritySet) (q : Place) (k : ℕ) (ys xs : List Run) : Type 0 where
  pub left : Left f q (k + length ys) xs
  pub are : drop k xs ≡ ys ++ drop (k + length ys) xs

module _ {f : TransactionLocator → AuthoritySet} where
  -- what is at the place after some runs is at the place before them
  pub nexts_at : {p q : Place} {xs : List Run} → Nexts f p xs q → (l : TransactionLocator) → At q l.block l.offset → At p l.block l.offset
  nexts_at here l a = a
  nexts_at {p} (onward {x = x} n h) l a =
      at_beyond p x.reference x.start x.end n.there (omega (arith, n.stretch.full)) l.block l.offset (nexts_at h l a)

  pub nexts_same : {g : TransactionLocator → AuthoritySet} {p q : Place} {xs : List Run}
      → ((l : TransactionLocator) → At p l.block l.offset → f l ≡ g l) → Nexts f p xs q → Nexts g p xs q
  nexts_same e here = here
  nexts_same {g} {p} e (onward {x = x} n h) =
      onward (next_same f g p x e n)
      (nexts_same (λ l a. e l (at_beyond p x.reference x.start x.end n.there (omega (arith, n.stretch.full)) l.block l.offset a)) h)

  pub begun : {p q : Place} {ys : List Run} (k : ℕ) (xs : List Run) → Nexts f p ys q → Left f p k xs → Begun f q k ys xs
  begun {p} k xs here l =
      let e : k ≡ k + 0 = omega arith in
      record { left = subst (λ (m : ℕ). Left f p m xs) e l; are = ap (λ (m : ℕ). drop m xs) e }
  begun {p} {q} k xs (onward {x = x} {xs = ys} n h) l =
      let t = begun (k + 1) xs h (left_on p k x xs n l) in
      let e : k + 1 + length ys ≡ k + length (x ∷ ys) = omega arith in
      record {
        left = subst (λ (m : ℕ). Left f q m xs) e t.left;
        are = (next_left p k x xs n l).are ∙ ap (λ (zs : List Run). x ∷ zs) (t.are ∙ ap (λ (m : ℕ). ys ++ drop m xs) e);
      }

-- ---- cursors moved

module _ (own ms ix : List ℕ) (n : ℕ) (cs : List ℕ) (p : Place) where
  abbrev g : TransactionLocator → AuthoritySet
  g = together own ms ix cs n

  module _ (ms₁ cs₁ : List ℕ) (m : Moved ix n p cs cs₁) (w : Moved own 1 p ms ms₁) where
    pub moved_names : (l : TransactionLocator) → At p l.block l.offset → together own ms₁ ix cs₁ n l ≡ g l
    unfolding together
    moved_names l a = ap (λ (v : AuthoritySet). united v (named_by ix cs₁ n l)) (w.names l a) ∙ ap (united (named_by own ms 1 l)) (m.names l a)

    pub moved_piece : (o : Option Run) → PieceOr g p o → PieceOr (together own ms₁ ix cs₁ n) p o
    moved_piece o d = pieces_same g (together own ms₁ ix cs₁ n) p o (λ l a. sym (moved_names l a)) d

-- ---- all of them

-- the first piece was found, and the cursors were moved
pub stepping_first : (own ms₀ ix : List ℕ) (n : ℕ) (cs₀ ms cs : List ℕ) (o : Option Run) → PieceOr (together own ms₀ ix cs₀ n) anywhere o → Moved ix n
    anywhere cs₀ cs → Moved own 1 anywhere ms₀ ms
    → Stepping own ms ms ix n cs cs o 0
stepping_first own ms₀ ix n cs₀ ms cs o d m w =
    record {
      place = anywhere;
      standing = record {
        long = refl;
        own_long = refl;
        ready = m.ready;
        own_ready = w.ready;
        told = λ l a. refl;
        left = λ xs h. record
            { few = omega arith; unfolded = runs_unfolded xs h };
      };
      piece = moved_piece own ms₀ ix n cs₀ anywhere ms cs m w o d;
    }

module _ (own ms₀ ix : List ℕ) (n : ℕ) (cs₀ : List ℕ) where
  abbrev f : TransactionLocator → AuthoritySet
  f = together own ms₀ ix cs₀ n

  pub standing_start : Ready ix cs₀ n → Ready own ms₀ 1 → Standing own ms₀ ms₀ ix n cs₀ cs₀ anywhere 0
  standing_start r o = record {
    long = refl;
    own_long = refl;
    ready = r;
    own_ready = o;
    told = λ l a. refl;
    left = λ xs h. record
        { few = omega arith; unfolded = runs_unfolded xs h };
  }

  module _ (ms cs : List ℕ) (p : Place) (k : ℕ) (s : Standing own ms₀ ms ix n cs₀ cs p k) where
    module _ (o : Option Run) (d : PieceOr (together own ms ix cs n) p o) where
      all_pieces : PieceOr f p o
      all_pieces = pieces_same (together own ms ix cs n) f p o s.told d

      -- nobody is named any more, so that all runs were found
      pub standing_none : o ≡ none → (xs : List Run) → RunsOf f xs → length xs ≡ k
      unfolding PieceOr NobodyFrom
      standing_none e xs r =
          let l = s.left xs r in
          let z : drop k xs ≡ [] = none_left p (drop k xs) (subst (PieceOr f p) e all_pieces) l.unfolded in
          omega (arith, l.few, length-drop k xs, ap length z)

      -- a piece is left, and so a run
      pub standing_more : (x : Run) → o ≡ some x → (xs : List Run) → RunsOf f xs → k < length xs
      unfolding PieceOr locator
      standing_more x e xs r = go (drop k xs) refl l.unfolded
        where
          here : Piece f p x
          here = subst (PieceOr f p) e all_pieces

          l : Left f p k xs
          l = s.left xs r

          go : (ys : List Run) → drop k xs ≡ ys → Unfolded f p ys → k < length xs
          go [] z (done h) = absurd (here.ahead.stretch.voted
              (sym (here.ahead.stretch.told x.start (omega arith) here.ahead.stretch.full) ∙ h (locator x.reference x.start) here.there))
          go (y ∷ ys) z u = omega (arith, l.few, length-drop k xs, ap length z)

    -- the next of the runs that are left
    pub standing_first : (xs : List Run) → RunsOf f xs → k < length xs → (y : Run) × (NextRun (together own ms ix cs n) p y × (drop k xs ≡ y ∷ drop (k + 1) xs))
    standing_first xs r h = go (drop k xs) refl (s.left xs r).unfolded
      where
        go : (ys : List Run) → drop k xs ≡ ys → Unfolded f p ys → (y : Run) × (NextRun (together own ms ix cs n) p y × (drop k xs ≡ y ∷ drop (k + 1) xs))
        go [] z u = absurd (omega (arith, length-drop k xs, ap length z))
        go (y ∷ ys) z (more m u) = (
          y,
          (
            next_same f (together own ms ix cs n) p y (λ l a. sym (s.told l a)) m,
            z ∙ ap (λ (zs : List Run). y ∷ zs)
                (sym (sym (drop-drop 1 k xs) ∙ ap (drop 1) z)),
          ),
        )

  module _ (ms cs : List ℕ) (m : Moved ix n anywhere cs₀ cs) (w : Moved own 1 anywhere ms₀ ms) where
    -- cursors that were moved name the same
    pub runs_moved : (xs : List Run) → RunsOf f xs → RunsOf (together own ms ix cs n) xs
    runs_moved xs r = chain_runs (together own ms ix cs n) xs (runs_chain xs r)
        (λ l. runs_told xs r l ∙ sym (moved_names own ms₀ ix n cs₀ anywhere ms cs m w l tt))
