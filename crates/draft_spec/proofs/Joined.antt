-- What follows from joining in order: the statements spread out, what is checked of them, what fits, and records without neighbours. Assumes nothing.
use mathlib.Core.Path.{◌≡◌, refl, sym, ap, ◌∙◌}
use mathlib.Core.List.{List, [], ◌∷◌, ◌++◌, map, flatten}
use mathlib.Core.Bool.{true, not}
use Prim.Native.Nat.{ℕ, ◌+◌, ◌-◌, ◌<◌}
use native.Mathlib.Omega.{arith}
use borrow.Author.Tests.{le-ltb, lt-leb, eq-eqb, ne_eqb}
use Rattle.base.specs.Lists.{count_from, first_is, adjacent}
use Rattle.base.specs.Checks.{refusal}
use Rattle.base.proofs.Tests.{and_left, and_right}
use Rattle.base.proofs.Lists.{Every, none_of, and, every_map, every_count_from}
use Rattle.base.proofs.Checks.{refusal_append}
use Rattle.record_spec.specs.Reference.{TransactionLocator, TransactionLocatorRange, locator, new_range, one_range, offsets, locators}
use Rattle.record_spec.specs.Block.{Statement, share, accept, reject, vote_range}
use Rattle.record_spec.specs.Verify.{statement_checks}
use Rattle.draft_spec.specs.Joining.{Piece, apart, run, attached, pieces, run_statement, piece_statement, joined, joinable, neighbours, no_neighbours, shown}
use Rattle.draft_spec.specs.Joining.{spread_out}
use Rattle.draft_spec.specs.Claims.{Joins, end, stays, range, JoiningChecked}
use Rattle.draft_spec.proofs.Joining.{locators_first, far, fronted_far, joins}

-- ---- spread out

accepts_shown : (ls : List TransactionLocator) (ss : List Statement) → spread_out (map accept ls ++ ss) ≡ map accept ls ++ spread_out ss
unfolding spread_out flatten shown
accepts_shown [] ss = refl
accepts_shown (l ∷ ls) ss = ap {B = List Statement} (λ xs. accept l ∷ xs) (accepts_shown ls ss)

pub joins_spread : {ss ws : List Statement} → Joins ss ws → spread_out ws ≡ spread_out ss
unfolding spread_out flatten shown
joins_spread end = refl
joins_spread (stays {s = s} j) = ap {B = List Statement} (λ xs. shown s ++ xs) (joins_spread j)
joins_spread (range {r = r} {ss = ss} more low e j) = rw (e)
    (ap {B = List Statement} (λ xs. map accept (locators r) ++ xs) (joins_spread j) ∙ sym (accepts_shown (locators r) ss))

-- ---- what is checked

abbrev checks_of : List Statement → ℕ
checks_of ss = refusal (flatten (map statement_checks ss))

first_refusal : (s : Statement) (xs ys : List Statement) → checks_of xs ≡ checks_of ys → checks_of (s ∷ xs) ≡ checks_of (s ∷ ys)
unfolding flatten
first_refusal s xs ys h =
    rw (refusal_append (statement_checks s) (flatten (map statement_checks xs)), refusal_append (statement_checks s) (flatten (map statement_checks ys)), h)

-- accepts of low offsets pass 28
accepts_pass : (ls : List TransactionLocator) (ss : List Statement) → Every (λ l. l.offset < 1048576) ls → checks_of (map accept ls ++ ss) ≡ checks_of ss
unfolding flatten statement_checks refusal
accepts_pass [] ss none_of = refl
accepts_pass (l ∷ ls) ss (and h hs) =
    rw (ne_eqb l.offset 18446744073709551615 (λ (e : l.offset ≡ 18446744073709551615). omega arith)) (accepts_pass ls ss hs)

low_locators : (r : TransactionLocatorRange) → r.start < r.end → r.end < 1048576 → Every (λ l. l.offset < 1048576) (locators r)
unfolding locators offsets locator
low_locators r k h =
    every_map (locator r.block) (λ o l. l) (count_from r.start (r.end - r.start))
    (every_count_from r.start (r.end - r.start) (λ o l (m : o < r.start + (r.end - r.start)). omega arith))

pub joins_checked : {ss ws : List Statement} → Joins ss ws → checks_of ws ≡ checks_of ss
unfolding flatten statement_checks refusal
joins_checked end = refl
joins_checked (stays {s = s} {ss = ss} {ws = ws} j) = first_refusal s ws ss (joins_checked j)
joins_checked (range {r = r} {ss = ss} more low e j) =
    rw (e, le-ltb r.end r.start (omega arith), lt-leb 1048576 r.end low)
    (joins_checked j ∙ sym (accepts_pass (locators r) ss (low_locators r (omega arith) low)))

pub joining_checked : JoiningChecked
unfolding JoiningChecked
joining_checked ss = joins_checked (joins ss)

-- ---- what holds of every statement

every_later : {A : Type 0} {P : A → Type 0} (xs ys : List A) → Every P (xs ++ ys) → Every P ys
every_later [] ys h = h
every_later (x ∷ xs) ys (and h hs) = every_later xs ys hs

first_locator : (r : TransactionLocatorRange) → r.start < r.end → locators r ≡ locator r.block r.start ∷ locators
    (new_range r.block (r.start + 1) r.end)
unfolding new_range
first_locator r k = locators_first r.block r.start r.end k

-- a range takes it from its first accept
pub joins_every : {P : Statement → Type 0}
    → ((r : TransactionLocatorRange) → r.start < r.end → r.end < 1048576 → P (accept (locator r.block r.start)) → P (vote_range r))
    → {ss ws : List Statement} → Joins ss ws → Every P ss → Every P ws
joins_every f end h = h
joins_every f (stays j) (and h hs) = and h (joins_every f j hs)
joins_every {P} f (range {r = r} {gs = gs} {ss = ss} more low e j) h =
    and (f r (omega arith) low (first (rw (e, firsts) at h))) (joins_every f j (every_later (map accept (locators r)) ss (rw e at h)))
  where
    others : List TransactionLocator
    others = locators (new_range r.block (r.start + 1) r.end)

    firsts : locators r ≡ locator r.block r.start ∷ others
    firsts = first_locator r (omega arith)

    first : Every P (accept (locator r.block r.start) ∷ (map accept others ++ ss)) → P (accept (locator r.block r.start))
    first (and g gs) = g

-- ---- statements without neighbouring accepts stay

as_piece : Statement → Piece
as_piece (share v) = apart (share v)
as_piece (accept l) = run (one_range l)
as_piece (reject l o) = apart (reject l o)
as_piece (vote_range r) = apart (vote_range r)

far_first : (l : TransactionLocator) (ss : List Statement) → first_is (λ t. not (neighbours (accept l) t)) ss ≡ true → first_is (far (run (one_range l)))
    (map as_piece ss) ≡ true
unfolding first_is neighbours joinable as_piece
far_first l [] h = refl
far_first l (share v ∷ ss) h = refl
far_first l (accept m ∷ ss) h = h
far_first l (reject m o ∷ ss) h = refl
far_first l (vote_range r ∷ ss) h = refl

pieces_alone : (ss : List Statement) → no_neighbours ss ≡ true → pieces ss ≡ map as_piece ss
unfolding no_neighbours adjacent pieces attached as_piece
pieces_alone [] h = refl
pieces_alone (share v ∷ ss) h = rw (pieces_alone ss (and_right (first_is (λ t. not (neighbours (share v) t)) ss) _ h))
pieces_alone (accept l ∷ ss) h =
    rw (pieces_alone ss (and_right (first_is (λ t. not (neighbours (accept l) t)) ss) _ h)) (fronted_far l (map as_piece ss) (far_first l ss (and_left _ _ h)))
pieces_alone (reject l o ∷ ss) h = rw (pieces_alone ss (and_right (first_is (λ t. not (neighbours (reject l o) t)) ss) _ h))
pieces_alone (vote_range r ∷ ss) h = rw (pieces_alone ss (and_right (first_is (λ t. not (neighbours (vote_range r) t)) ss) _ h))

alone_written : (ss : List Statement) → map piece_statement (map as_piece ss) ≡ ss
unfolding as_piece piece_statement run_statement one_range new_range locator
alone_written [] = refl
alone_written (share v ∷ ss) = rw (alone_written ss)
alone_written (accept l ∷ ss) = rw (eq-eqb (l.offset + 1) (l.offset + 1) refl, alone_written ss)
alone_written (reject l o ∷ ss) = rw (alone_written ss)
alone_written (vote_range r ∷ ss) = rw (alone_written ss)

pub joined_alone : (ss : List Statement) → no_neighbours ss ≡ true → joined ss ≡ ss
unfolding joined
joined_alone ss h = ap (map piece_statement) (pieces_alone ss h) ∙ alone_written ss
