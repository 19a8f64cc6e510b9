-- Joining accepts divides the statements into the longest runs, and there is no other such division. Assumes nothing.
use mathlib.Core.Path.{◌≡◌, refl, sym, ap, ◌∙◌}
use mathlib.Core.Logic.{◌⊎◌, inl, inr}
use mathlib.Core.List.{List, [], ◌∷◌, ◌++◌, map, flatten}
use mathlib.Core.Bool.{Bool, true, false, not, ◌||◌}
use Prim.Native.Nat.{ℕ, zero, suc, ◌+◌, ◌-◌, ◌<◌}
use native.Mathlib.Omega.{arith}
use native.Mathlib.Decide.{dec_lt}
use lib.Dec.{ltb, eqb}
use borrow.Author.Tests.{lt-ltb, ltb-true, eq-eqb, eqb-true, eqb-false, not-true}
use Rattle.base.specs.Lists.{pick, all_of, count_from, first_is, adjacent}
use Rattle.base.proofs.Tests.{not_both, and_left, and_right, or_cases, or_left, or_right}
use Rattle.record_spec.specs.Reference.{BlockReference, TransactionLocator, TransactionLocatorRange, locator, new_range, one_range, same_reference, offsets}
use Rattle.record_spec.specs.Reference.{locators}
use Rattle.record_spec.specs.Block.{Statement, share, accept, reject, vote_range}
use Rattle.record_spec.proofs.References.{reference_same, same_reference_lem}
use Rattle.draft_spec.specs.Joining.{Piece, apart, run, touches, fronted, attached, pieces, run_statement, piece_statement, joined, is_accept, piece_given}
use Rattle.draft_spec.specs.Joining.{right_piece, joinable}
use Rattle.draft_spec.specs.Claims.{JoiningMeant, Joins, end, stays, range, JoinedInOrder}

-- ---- the tests, as facts

pub record Touching (r q : TransactionLocatorRange) : Type 0 where
  pub block : r.block ≡ q.block
  pub meets : r.end ≡ q.start
  pub low : q.end < 1048576

pub touching : (r q : TransactionLocatorRange) → touches r q ≡ true → Touching r q
unfolding touches
touching r q h =
    let k = and_right (same_reference r.block q.block) _ h in
    record {
      block = reference_same r.block q.block (and_left _ _ h);
      meets = eqb-true r.end q.start (and_left _ _ k);
      low = ltb-true q.end 1048576 (and_right (eqb r.end q.start) _ k);
    }

pub touching_yes : (r q : TransactionLocatorRange) → Touching r q → touches r q ≡ true
unfolding touches
touching_yes r q t = rw (same_reference_lem t.block, eq-eqb r.end q.start t.meets, lt-ltb q.end 1048576 t.low)

pub record RightRun (r : TransactionLocatorRange) : Type 0 where
  pub filled : r.start < r.end
  pub low : r.start + 1 < r.end → r.end < 1048576

pub right_run : (r : TransactionLocatorRange) → right_piece (run r) ≡ true → RightRun r
unfolding right_piece
right_run r h =
    record {
      filled = ltb-true r.start r.end (and_left _ _ h);
      low = λ (k : r.start + 1 < r.end). go k (or_cases _ _ (and_right (ltb r.start r.end) _ h));
    }
  where
    go : r.start + 1 < r.end → (eqb (r.start + 1) r.end ≡ true) ⊎ (ltb r.end 1048576 ≡ true) → r.end < 1048576
    go k (inl e) = let e' : r.start + 1 ≡ r.end = eqb-true (r.start + 1) r.end e in absurd (omega arith)
    go k (inr e) = ltb-true r.end 1048576 e

pub run_right : (r : TransactionLocatorRange) → RightRun r → right_piece (run r) ≡ true
unfolding right_piece
run_right r h = rw (lt-ltb r.start r.end h.filled) (go (dec_lt (r.start + 1) r.end))
  where
    go : Dec (r.start + 1 < r.end) → eqb (r.start + 1) r.end || ltb r.end 1048576 ≡ true
    go (yes k) = or_right (eqb (r.start + 1) r.end) (ltb r.end 1048576) (lt-ltb r.end 1048576 (h.low k))
    go (no k) = or_left (eqb (r.start + 1) r.end) (ltb r.end 1048576) (eq-eqb (r.start + 1) r.end (omega (arith, h.filled)))

-- ---- the locators of a run

pub locators_one : (l : TransactionLocator) → locators (one_range l) ≡ l ∷ []
unfolding locators offsets one_range new_range locator count_from
locators_one l = let e : l.offset + 1 - l.offset ≡ 1 = omega arith in rw e

pub locators_first : (r : BlockReference) (s e : ℕ) → s < e → locators (new_range r s e) ≡ locator r s ∷ locators (new_range r (s + 1) e)
unfolding locators offsets new_range count_from
locators_first r s e h = let k : e - s ≡ suc (e - (s + 1)) = omega arith in rw k

pub one_right : (l : TransactionLocator) → RightRun (one_range l)
unfolding one_range new_range
one_right l = record { filled = omega arith; low = λ (k : l.offset + 1 < l.offset + 1). absurd (omega arith) }

-- ---- an accept in front

module _ (l : TransactionLocator) where
  -- the run that it lengthens
  longer_locators : (r : TransactionLocatorRange) → RightRun r → Touching (one_range l) r → locators (new_range l.block l.offset r.end) ≡ l ∷ locators r
  unfolding one_range new_range locator
  longer_locators r h t =
      locators_first l.block l.offset r.end (omega (arith, t.meets, h.filled)) ∙ rw (t.meets, t.block)

  longer_right : (r : TransactionLocatorRange) → RightRun r → Touching (one_range l) r → RightRun (new_range l.block l.offset r.end)
  unfolding one_range new_range
  longer_right r h t = record { filled = omega (arith, t.meets, h.filled); low = λ k. t.low }

  pub fronted_given : (ps : List Piece) → all_of right_piece ps ≡ true → flatten (map piece_given (fronted (one_range l) ps)) ≡ accept l ∷ flatten
      (map piece_given ps)
  unfolding fronted piece_given flatten all_of one_range new_range
  fronted_given [] h = rw (locators_one l)
  fronted_given (apart s ∷ ps) h = rw (locators_one l)
  fronted_given (run r ∷ ps) h = go (touches (one_range l) r) refl
    where
      go : (t : Bool) → touches (one_range l) r ≡ t
          → flatten (map piece_given (pick t (run (new_range l.block l.offset r.end) ∷ ps) (run (one_range l) ∷ run r ∷ ps)))
          ≡ accept l ∷ (map accept (locators r) ++ flatten (map piece_given ps))
      go true e = rw (longer_locators r (right_run r (and_left _ _ h)) (touching (one_range l) r e))
      go false e = rw (locators_one l)

  pub fronted_right : (ps : List Piece) → all_of right_piece ps ≡ true → all_of right_piece (fronted (one_range l) ps) ≡ true
  unfolding fronted all_of one_range new_range
  fronted_right [] h = rw (run_right (one_range l) (one_right l))
  fronted_right (apart s ∷ ps) h = rw (run_right (one_range l) (one_right l)) h
  fronted_right (run r ∷ ps) h = go (touches (one_range l) r) refl
    where
      go : (t : Bool) → touches (one_range l) r ≡ t → all_of right_piece
          (pick t (run (new_range l.block l.offset r.end) ∷ ps) (run (one_range l) ∷ run r ∷ ps)) ≡ true
      go true e =
          rw (run_right (new_range l.block l.offset r.end) (longer_right r (right_run r (and_left _ _ h)) (touching (one_range l) r e)))
          (and_right (right_piece (run r)) _ h)
      go false e = rw (run_right (one_range l) (one_right l)) h

-- ---- no two neighbours could be one

abbrev pub far : Piece → Piece → Bool
far p q = not (joinable p q)

-- what a run could be joined with depends on its block and its end alone
far_same : (r q : TransactionLocatorRange) (ps : List Piece) → r.block ≡ q.block → r.end ≡ q.end → first_is (far (run r)) ps ≡ true → first_is (far (run q))
    ps ≡ true
unfolding first_is joinable touches
far_same r q [] e k h = refl
far_same r q (apart s ∷ ps) e k h = refl
far_same r q (run p ∷ ps) e k h = rw (← e, ← k) h

module _ (l : TransactionLocator) where
  pub fronted_longest : (ps : List Piece) → adjacent far ps ≡ true → adjacent far (fronted (one_range l) ps) ≡ true
  unfolding fronted adjacent first_is joinable one_range new_range
  fronted_longest [] h = refl
  fronted_longest (apart s ∷ ps) h = h
  fronted_longest (run r ∷ ps) h = go (touches (one_range l) r) refl
    where
      go : (t : Bool) → touches (one_range l) r ≡ t → adjacent far (pick t (run (new_range l.block l.offset r.end) ∷ ps)
          (run (one_range l) ∷ run r ∷ ps)) ≡ true
      go true e =
          rw (far_same r (new_range l.block l.offset r.end) ps (sym (touching (one_range l) r e).block) refl (and_left _ _ h))
          (and_right (first_is (far (run r)) ps) _ h)
      go false e = rw e h

  -- an accept that could be joined with nothing is a run of its own
  pub fronted_far : (ps : List Piece) → first_is (far (run (one_range l))) ps ≡ true → fronted (one_range l) ps ≡ run (one_range l) ∷ ps
  unfolding fronted first_is joinable
  fronted_far [] h = refl
  fronted_far (apart s ∷ ps) h = refl
  fronted_far (run r ∷ ps) h = rw (not-true (touches (one_range l) r) h)

-- ---- the pieces of statements

pub pieces_right : (ss : List Statement) → all_of right_piece (pieces ss) ≡ true
unfolding pieces attached all_of right_piece is_accept
pieces_right [] = refl
pieces_right (share v ∷ ss) = pieces_right ss
pieces_right (accept l ∷ ss) = fronted_right l (pieces ss) (pieces_right ss)
pieces_right (reject l o ∷ ss) = pieces_right ss
pieces_right (vote_range r ∷ ss) = pieces_right ss

pub pieces_given : (ss : List Statement) → flatten (map piece_given (pieces ss)) ≡ ss
unfolding pieces attached flatten piece_given
pieces_given [] = refl
pieces_given (share v ∷ ss) = rw (pieces_given ss)
pieces_given (accept l ∷ ss) = fronted_given l (pieces ss) (pieces_right ss) ∙ rw (pieces_given ss)
pieces_given (reject l o ∷ ss) = rw (pieces_given ss)
pieces_given (vote_range r ∷ ss) = rw (pieces_given ss)

apart_longest : (s : Statement) (ps : List Piece) → adjacent far ps ≡ true → adjacent far (apart s ∷ ps) ≡ true
unfolding adjacent first_is joinable
apart_longest s [] h = refl
apart_longest s (p ∷ ps) h = h

pub pieces_longest : (ss : List Statement) → adjacent far (pieces ss) ≡ true
unfolding pieces attached adjacent
pieces_longest [] = refl
pieces_longest (share v ∷ ss) = apart_longest (share v) (pieces ss) (pieces_longest ss)
pieces_longest (accept l ∷ ss) = fronted_longest l (pieces ss) (pieces_longest ss)
pieces_longest (reject l o ∷ ss) = apart_longest (reject l o) (pieces ss) (pieces_longest ss)
pieces_longest (vote_range r ∷ ss) = apart_longest (vote_range r) (pieces ss) (pieces_longest ss)

-- ---- there is no other division

one_run : (l : TransactionLocator) (ss : List Statement) → first_is (far (run (one_range l))) (pieces ss) ≡ true
    → pieces (map accept (locators (one_range l)) ++ ss) ≡ run (one_range l) ∷ pieces ss
unfolding pieces attached
one_run l ss h = rw (locators_one l) (fronted_far l (pieces ss) h)

-- the accepts of a run of n + 1 in front of statements whose pieces do not go on with it
pieces_run : (n : ℕ) (r : BlockReference) (s e : ℕ) → e ≡ s + (n + 1) → (s + 1 < e → e < 1048576) → (ss : List Statement)
    → first_is (far (run (new_range r s e))) (pieces ss) ≡ true → pieces (map accept (locators (new_range r s e)) ++ ss) ≡ run (new_range r s e) ∷ pieces ss
unfolding pieces attached fronted one_range new_range locator
pieces_run zero r s e k low ss h = let k' : e ≡ s + 1 = omega arith in rw k' (one_run (locator r s) ss (rw k' at h))
pieces_run (suc n) r s e k low ss h =
    let small : e < 1048576 = low (omega arith) in
    let others : pieces (map accept (locators (new_range r (s + 1) e)) ++ ss) ≡ run (new_range r (s + 1) e) ∷ pieces ss = pieces_run n r (s + 1) e (omega arith)
    (λ _. small) ss h' in
    rw (
      locators_first r s e (omega arith),
      others,
      touching_yes (one_range (locator r s)) (new_range r (s + 1) e)
          (record { block = refl; meets = refl; low = small }),
    )
  where
    h' : first_is (far (run (new_range r (s + 1) e))) (pieces ss) ≡ true
    h' = far_same (new_range r s e) (new_range r (s + 1) e) (pieces ss) refl refl h

pub pieces_only : (ps : List Piece) → all_of right_piece ps ≡ true → adjacent far ps ≡ true → pieces (flatten (map piece_given ps)) ≡ ps
unfolding all_of adjacent flatten piece_given right_piece pieces attached is_accept new_range
pieces_only [] h k = refl
pieces_only (apart s ∷ ps) h k = other s (and_left _ _ h) (pieces_only ps (and_right (not (is_accept s)) _ h) (and_right (first_is (far (apart s)) ps) _ k))
  where
    other : (s : Statement) → not (is_accept s) ≡ true → pieces (flatten (map piece_given ps)) ≡ ps → attached s (pieces (flatten (map piece_given ps))) ≡ apart
        s ∷ ps
    other (share v) n ih = rw ih
    other (accept l) n ih = absurd (not_both n refl)
    other (reject l o) n ih = rw ih
    other (vote_range r) n ih = rw ih
pieces_only (run r ∷ ps) h k = go (right_run r (and_left _ _ h))
    (pieces_only ps (and_right (right_piece (run r)) _ h) (and_right (first_is (far (run r)) ps) _ k))
  where
    go : RightRun r → pieces (flatten (map piece_given ps)) ≡ ps → pieces (map accept (locators r) ++ flatten (map piece_given ps)) ≡ run r ∷ ps
    go g ih =
        pieces_run (r.end - r.start - 1) r.block r.start r.end (omega (arith, g.filled)) g.low (flatten (map piece_given ps))
        (rw ih (and_left _ _ k))
        ∙ rw ih

pub joining_meant : JoiningMeant
joining_meant =
    record {
      divided = λ ss. record { given = pieces_given ss; right = pieces_right ss; longest = pieces_longest ss };
      only = λ ss ps d. sym (pieces_only ps d.right d.longest) ∙ ap pieces d.given;
    }

-- ---- what was written for what was given

pieces_joins : (ps : List Piece) → all_of right_piece ps ≡ true → Joins (flatten (map piece_given ps)) (map piece_statement ps)
unfolding all_of flatten piece_given piece_statement run_statement one_range new_range locator
pieces_joins [] h = end
pieces_joins (apart s ∷ ps) h = stays (pieces_joins ps (and_right (right_piece (apart s)) _ h))
pieces_joins (run r ∷ ps) h = go (eqb (r.start + 1) r.end) refl (right_run r (and_left _ _ h)) (pieces_joins ps (and_right (right_piece (run r)) _ h))
  where
    go : (t : Bool) → eqb (r.start + 1) r.end ≡ t → RightRun r → Joins (flatten (map piece_given ps)) (map piece_statement ps)
        → Joins (map accept (locators r) ++ flatten (map piece_given ps)) (run_statement r ∷ map piece_statement ps)
    go true e g ih =
        let k : r.start + 1 ≡ r.end = eqb-true (r.start + 1) r.end e in
        let one : locators r ≡ locator r.block r.start ∷ [] = rw (← k) (locators_one (locator r.block r.start)) in
        rw (e, one) (stays ih)
    go false e g ih =
        let ne : r.start + 1 ≡ r.end → ⊥ = eqb-false (r.start + 1) r.end e in
        let more : r.start + 1 < r.end = omega (arith, g.filled, ne) in
        rw e (range more (g.low more) refl ih)

pub joins : (ss : List Statement) → Joins ss (joined ss)
unfolding joined
joins ss = rw (pieces_given ss) at (pieces_joins (pieces ss) (pieces_right ss))

pub joined_in_order : JoinedInOrder
unfolding JoinedInOrder
joined_in_order = joins
