-- The first piece from a place on: of one run, of two together, of ascending runs. Assumes nothing.
use mathlib.Core.Path.{◌≡◌, refl, sym, ap, subst, ◌∙◌}
use mathlib.Core.Bool.{Bool, true, false}
use mathlib.Core.List.{List, [], ◌∷◌}
use mathlib.Core.Option.{Option, none, some}
use Prim.Native.Nat.{ℕ, ◌+◌, ◌≤◌, ◌<◌}
use native.Mathlib.Omega.{arith}
use lib.Dec.{ltb, leb}
use borrow.Author.Tests.{ltb-true, ltb-false, leb-true, leb-false}
use Rattle.base.specs.Lists.{pick}
use Rattle.committee_set.specs.AuthoritySet.{AuthoritySet, nobody, united}
use Rattle.committee_set.proofs.Words.{united_nobody, nobody_united}
use Rattle.record_spec.specs.Reference.{BlockReference, TransactionLocator, locator, reference_before}
use Rattle.record_spec.proofs.References.{reference_same, reference_irrefl, reference_trans}
use Rattle.types.specs.Values.{reference_order}
use Rattle.std.specs.declared.cmp.Ordering.{Ordering}
use Rattle.std.specs.declared.cmp.Ordering.TheVariants.{Less, Equal, Greater}
use Rattle.types.proofs.Words.{compared_equal, compared_less, compared_greater}
use Rattle.index_spec.specs.Runs.{Run, run, voters_in}
use Rattle.index_spec.specs.Walk.{Past, by_block, by_offset, Place, anywhere, beyond, At}
use Rattle.index_spec.proofs.Sets.{united_comm, united_nobody_left}
use Rattle.index_spec.proofs.Chain.{past_trans, Covered, Chain, end, link, past_head, nobody_before, at_head}
use Rattle.index_pieces.specs.Pieces.{Ahead, Piece, NobodyFrom, PieceOr, from_offset, from_place, nearer, cut, overlaid_by, overlaid, both, or_else}
use Rattle.index_pieces.specs.Pieces.{first_piece, kept_if, skipped}

-- ---- places

-- no place is past a later one
pub past_not : {q r : BlockReference} {e o : ℕ} → Past q e r o → Past r (o + 1) q e → ⊥
past_not {q} {r} (by_block h) (by_block k) = reference_irrefl q (reference_trans q r q h k)
past_not {q} (by_block h) (by_offset e k) = reference_irrefl q (subst (λ (x : BlockReference). reference_before q x ≡ true) e h)
past_not {q} {r} (by_offset e h) (by_block k) = reference_irrefl q (subst (λ (x : BlockReference). reference_before x q ≡ true) (sym e) k)
past_not (by_offset e h) (by_offset f k) = omega arith

pub at_later : (p : Place) (r : BlockReference) (o k : ℕ) → At p r o → o ≤ k → At p r k
at_later anywhere r o k a m = tt
at_later (beyond q e) r o k (by_block h) m = by_block h
at_later (beyond q e) r o k (by_offset h n) m = by_offset h (omega arith)

-- what holds from a place on holds from the end of a run that begins there
pub at_beyond : (p : Place) (r : BlockReference) (s e : ℕ) → At p r s → s ≤ e → (q : BlockReference) (o : ℕ) → Past r e q o → At p q o
at_beyond anywhere r s e a m q o b = tt
at_beyond (beyond t k) r s e a m q o b = past_trans a m b

-- ---- of one run

-- none is left of a run that ends at the place or before it
PassedBy : Place → Run → Option Run → Type 0
PassedBy p x none = (l : TransactionLocator) → At p l.block l.offset → Covered x l → ⊥
PassedBy p x (some y) = Unit {0}

pub passed : (p : Place) (x : Run) → from_place p x ≡ none → (l : TransactionLocator) → At p l.block l.offset → Covered x l → ⊥
unfolding from_place from_offset PassedBy
passed p x h = subst (PassedBy p x) h (by p)
  where
    by : (q : Place) → PassedBy q x (from_place q x)
    by anywhere = tt
    by (beyond q e) = go (reference_order q x.reference) refl
      where
        not_earlier : (l : TransactionLocator) → reference_before x.reference q ≡ true → Past q e l.block l.offset → Covered x l → ⊥
        not_earlier l h (by_block b) c = reference_irrefl q (reference_trans q x.reference q
            (subst (λ (r : BlockReference). reference_before q r ≡ true) (sym c.of) b) h)
        not_earlier l h (by_offset b k) c = reference_irrefl q (subst (λ (r : BlockReference). reference_before r q ≡ true) (c.of ∙ sym b) h)

        not_past : (l : TransactionLocator) → q ≡ x.reference → x.end ≤ e → Past q e l.block l.offset → Covered x l → ⊥
        not_past l h k (by_block b) c = reference_irrefl q (subst (λ (r : BlockReference). reference_before q r ≡ true) (sym c.of ∙ sym h) b)
        not_past l h k (by_offset b m) c = omega (arith, c.below)

        tested : (t u : Bool) → leb x.end e ≡ t → leb e x.start ≡ u → q ≡ x.reference → PassedBy (beyond q e) x
            (pick t none (pick u (some x) (some (run x.reference e x.end x.votes))))
        tested true u h k r = λ l a c. not_past l r (leb-true x.end e h) a c
        tested false true h k r = tt
        tested false false h k r = tt

        go : (o : Ordering) → reference_order q x.reference ≡ o → PassedBy (beyond q e) x (from_offset o e x)
        go Less h = tt
        go Greater h = λ l a c. not_earlier l (compared_greater q x.reference h).1 a c
        go Equal h = tested (leb x.end e) (leb e x.start) refl refl (reference_same q x.reference (compared_equal q x.reference h))

PieceIf : (TransactionLocator → AuthoritySet) → Place → Option Run → Type 0
PieceIf f p none = Unit {0}
PieceIf f p (some y) = Piece f p y

module _ {f : TransactionLocator → AuthoritySet} where
  -- what is left of a run is a piece
  pub from_piece : (p : Place) (x y : Run) → Ahead f p x → from_place p x ≡ some y → Piece f p y
  unfolding from_place from_offset run PieceIf
  from_piece p x y a h = subst (PieceIf f p) h (by p a)
    where
      by : (q : Place) → Ahead f q x → PieceIf f q (from_place q x)
      by anywhere b = record { there = tt; ahead = b }
      by (beyond q e) b = go (reference_order q x.reference) refl
        where
          later : q ≡ x.reference → x.start < e → e < x.end → Piece f (beyond q e) (run x.reference e x.end x.votes)
          later r m n =
              record {
                there = by_offset r (omega arith);
                ahead = record {
                  stretch = record { full = n; voted = b.stretch.voted; told = λ o k j. b.stretch.told o (omega arith) j };
                  first = λ l i j. absurd (past_not i (subst (λ (z : BlockReference). Past l.block (l.offset + 1) z e) (sym r) j));
                };
              }

          tested : (t u : Bool) → leb x.end e ≡ t → leb e x.start ≡ u → q ≡ x.reference → PieceIf f (beyond q e)
              (pick t none (pick u (some x) (some (run x.reference e x.end x.votes))))
          tested true u i k r = tt
          tested false true i k r = record { there = by_offset r (leb-true e x.start k); ahead = b }
          tested false false i k r = later r (leb-false e x.start k) (leb-false x.end e i)

          go : (o : Ordering) → reference_order q x.reference ≡ o → PieceIf f (beyond q e) (from_offset o e x)
          go Less i = record { there = by_block (compared_less q x.reference i).1; ahead = b }
          go Greater i = tt
          go Equal i = tested (leb x.end e) (leb e x.start) refl refl (reference_same q x.reference (compared_equal q x.reference i))

-- ---- other names for the same voters

pub piece_same : {f g : TransactionLocator → AuthoritySet} (p : Place) (x : Run) → ((l : TransactionLocator) → At p l.block l.offset → f l ≡ g l) →
    Piece f p x → Piece g p x
unfolding locator
piece_same p x e c =
    record {
      there = c.there;
      ahead = record {
        stretch = record {
          full = c.ahead.stretch.full;
          voted = c.ahead.stretch.voted;
          told = λ o i j. sym (e (locator x.reference o) (at_later p x.reference x.start o c.there i)) ∙ c.ahead.stretch.told o i j;
        };
        first = λ l i j. sym (e l i) ∙ c.ahead.first l i j;
      };
    }

pub pieces_same : (f g : TransactionLocator → AuthoritySet) (p : Place) (o : Option Run) →
    ((l : TransactionLocator) → At p l.block l.offset → f l ≡ g l) → PieceOr f p o → PieceOr g p o
unfolding PieceOr NobodyFrom
pieces_same f g p none e h = λ l a. sym (e l a) ∙ h l a
pieces_same f g p (some x) e h = piece_same p x e h

-- ---- of two together

module _ {f g : TransactionLocator → AuthoritySet} where
  -- the other names nobody up to e
  one_piece : (p : Place) (x : Run) (e : ℕ) → Piece f p x → x.start < e → e ≤ x.end
      → ((o : ℕ) → x.start ≤ o → o < e → g (locator x.reference o) ≡ nobody)
      → ((l : TransactionLocator) → At p l.block l.offset → Past l.block (l.offset + 1) x.reference x.start → g l ≡ nobody)
      → Piece (λ l. united (f l) (g l)) p (run x.reference x.start e x.votes)
  unfolding run
  one_piece p x e c m n h k =
      record {
        there = c.there;
        ahead = record {
          stretch = record {
            full = m;
            voted = c.ahead.stretch.voted;
            told = λ o i j. rw (c.ahead.stretch.told o i (omega arith), h o i j) (united_nobody x.votes);
          };
          first = λ l i j. rw (c.ahead.first l i j, k l i j) (united_nobody nobody);
        };
      }

  -- both from the same offset on
  two_piece : (p : Place) (x y : Run) (e : ℕ) → Piece f p x → Piece g p y → x.reference ≡ y.reference → x.start ≡ y.start → x.start < e → e ≤ x.end → e
      ≤ y.end
      → Piece (λ l. united (f l) (g l)) p (run x.reference x.start e (united x.votes y.votes))
  unfolding run
  two_piece p x y e c d r s m n k =
      record {
        there = c.there;
        ahead = record {
          stretch = record {
            full = m;
            voted = λ z. c.ahead.stretch.voted (united_nobody_left x.votes y.votes z);
            told = λ o i j. rw (c.ahead.stretch.told o i (omega arith), other o i j);
          };
          first = λ l i j.
              rw (
                c.ahead.first l i j,
                d.ahead.first l i (subst (λ (z : ℕ). Past l.block (l.offset + 1) y.reference z) s
                    (subst (λ (z : BlockReference). Past l.block (l.offset + 1) z x.start) r j)),
              ) (united_nobody nobody);
        };
      }
    where
      other : (o : ℕ) → x.start ≤ o → o < e → g (locator x.reference o) ≡ y.votes
      other o i j = ap (λ (z : BlockReference). g (locator z o)) r ∙ d.ahead.stretch.told o (omega arith) (omega arith)

-- the one comes before the other
first_piece_of : {f g : TransactionLocator → AuthoritySet} (p : Place) (x y : Run) (e : ℕ) → Piece f p x → Piece g p y → x.start < e → e ≤ x.end
    → ((o : ℕ) → o < e → Past x.reference (o + 1) y.reference y.start)
    → Piece (λ l. united (f l) (g l)) p (run x.reference x.start e x.votes)
unfolding locator
first_piece_of p x y e c d m n h =
    one_piece p x e c m n
    (λ o i j. d.ahead.first (locator x.reference o) (at_later p x.reference x.start o c.there i) (h o j))
    (λ l i j. d.ahead.first l i (past_trans j (omega arith) (h x.start m)))

swapped : (f g : TransactionLocator → AuthoritySet) (p : Place) (x : Run) → Piece (λ l. united (g l) (f l)) p x → Piece (λ l. united (f l) (g l)) p x
swapped f g p x c = piece_same p x (λ l a. united_comm (g l) (f l)) c

pub both_piece : {f g : TransactionLocator → AuthoritySet} (p : Place) (x y : Run) → Piece f p x → Piece g p y → Piece (λ l. united (f l) (g l)) p
    (overlaid x y)
unfolding overlaid overlaid_by cut nearer run
both_piece {f} {g} p x y c d = go (reference_order x.reference y.reference) refl
  where
    U : TransactionLocator → AuthoritySet
    U l = united (f l) (g l)

    nearest : (a b : ℕ) → (pick (ltb a b) a b ≤ a) × (pick (ltb a b) a b ≤ b)
    nearest a b = near (ltb a b) refl
      where
        near : (t : Bool) → ltb a b ≡ t → (pick t a b ≤ a) × (pick t a b ≤ b)
        near true h = (omega arith, omega (arith, ltb-true a b h))
        near false h = (omega (arith, ltb-false a b h), omega arith)

    past_both : (s a b : ℕ) → s < a → s < b → s < pick (ltb a b) a b
    past_both s a b h k = near (ltb a b)
      where
        near : (t : Bool) → s < pick t a b
        near true = h
        near false = k

    tested : (t u : Bool) → ltb x.start y.start ≡ t → ltb y.start x.start ≡ u → x.reference ≡ y.reference
        → Piece U p (pick t (run x.reference x.start (pick (ltb x.end y.start) x.end y.start) x.votes)
        (pick u (run y.reference y.start (pick (ltb y.end x.start) y.end x.start) y.votes)
        (run x.reference x.start (pick (ltb x.end y.end) x.end y.end) (united x.votes y.votes))))
    tested true u h k r =
        let n = nearest x.end y.start in
        first_piece_of p x y (pick (ltb x.end y.start) x.end y.start) c d
        (past_both x.start x.end y.start c.ahead.stretch.full (ltb-true x.start y.start h)) n.0
        (λ o j. by_offset r (omega (arith, n.1)))
    tested false true h k r =
        let n = nearest y.end x.start in
        swapped f g p _
        (first_piece_of p y x (pick (ltb y.end x.start) y.end x.start) d c
        (past_both y.start y.end x.start d.ahead.stretch.full (ltb-true y.start x.start k)) n.0
        (λ o j. by_offset (sym r) (omega (arith, n.1))))
    tested false false h k r =
        let n = nearest x.end y.end in
        let s : x.start ≡ y.start = omega (arith, ltb-false x.start y.start h, ltb-false y.start x.start k) in
        let m : x.start < y.end = omega (arith, d.ahead.stretch.full) in
        two_piece p x y (pick (ltb x.end y.end) x.end y.end) c d r s (past_both x.start x.end y.end c.ahead.stretch.full m) n.0
        n.1

    go : (o : Ordering) → reference_order x.reference y.reference ≡ o → Piece U p (overlaid_by o x y)
    go Less h = first_piece_of p x y x.end c d c.ahead.stretch.full (omega arith) (λ o j. by_block (compared_less x.reference y.reference h).1)
    go Greater h = swapped f g p y (first_piece_of p y x y.end d c d.ahead.stretch.full (omega arith)
        (λ o j. by_block (compared_greater x.reference y.reference h).1))
    go Equal h = tested (ltb x.start y.start) (ltb y.start x.start) refl refl
        (reference_same x.reference y.reference (compared_equal x.reference y.reference h))

pub both_pieces : (f g : TransactionLocator → AuthoritySet) (p : Place) (o q : Option Run) → PieceOr f p o → PieceOr g p q → PieceOr (λ l. united (f l) (g l))
    p (both o q)
unfolding PieceOr NobodyFrom both
both_pieces f g p none none c d = λ l a. rw (c l a, d l a) (united_nobody nobody)
both_pieces f g p none (some y) c d = piece_same p y (λ l a. sym (rw (c l a) (nobody_united (g l)))) d
both_pieces f g p (some x) none c d = piece_same p x (λ l a. sym (rw (d l a) (united_nobody (f l)))) c
both_pieces f g p (some x) (some y) c d = both_piece p x y c d

-- ---- of ascending runs

module _ {D : Run → List Run → Type 0} where
  chain_ahead : (p : Place) {q : Place} (x : Run) (xs : List Run) → Chain D q (x ∷ xs) → Ahead (voters_in (x ∷ xs)) p x
  unfolding locator
  chain_ahead p x xs (link a g d h) =
      record {
        stretch = record {
          full = g.full;
          voted = g.voted;
          told = λ o i j. at_head x xs h (locator x.reference o)
              (record { of = refl; from = i; below = j });
        };
        first = λ l i j. nobody_before l.block l.offset (x ∷ xs) (link j g d h);
      }

  pub first_piece_lem : (p : Place) {q : Place} (xs : List Run) → Chain D q xs → PieceOr (voters_in xs) p (first_piece p xs)
  unfolding first_piece or_else PieceOr NobodyFrom voters_in
  first_piece_lem p [] end = λ l a. refl
  first_piece_lem p {q} (x ∷ xs) (link a g d h) = go (from_place p x) refl (first_piece_lem p xs h)
    where
      go : (o : Option Run) → from_place p x ≡ o → PieceOr (voters_in xs) p (first_piece p xs) → PieceOr (voters_in (x ∷ xs)) p (or_else o (first_piece p xs))
      go (some y) e ih = from_piece p x y (chain_ahead p {q = q} x xs (link a g d h)) e
      go none e ih = pieces_same (voters_in xs) (voters_in (x ∷ xs)) p (first_piece p xs) (λ l b. sym (past_head x xs l (passed p x e l b))) ih

  pub skipped_chain : (p : Place) {q : Place} (xs : List Run) → Chain D q xs → Chain D anywhere (skipped p xs)
  unfolding skipped kept_if
  skipped_chain p [] end = end
  skipped_chain p (x ∷ xs) (link a g d h) = go (from_place p x) (skipped_chain p xs h)
    where
      go : (o : Option Run) → Chain D anywhere (skipped p xs) → Chain D anywhere (kept_if o (x ∷ xs) (skipped p xs))
      go (some y) ih = link tt g d h
      go none ih = ih

pub skipped_names : (p : Place) (xs : List Run) (l : TransactionLocator) → At p l.block l.offset → voters_in (skipped p xs) l ≡ voters_in xs l
unfolding skipped kept_if
skipped_names p [] l a = refl
skipped_names p (x ∷ xs) l a = go (from_place p x) refl (skipped_names p xs l a)
  where
    go : (o : Option Run) → from_place p x ≡ o → voters_in (skipped p xs) l ≡ voters_in xs l → voters_in (kept_if o (x ∷ xs) (skipped p xs)) l
        ≡ voters_in (x ∷ xs) l
    go (some y) e ih = refl
    go none e ih = ih ∙ sym (past_head x xs l (passed p x e l a))
