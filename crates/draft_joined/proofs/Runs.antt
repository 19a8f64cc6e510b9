-- Runs of accepts from the first on, and what is written after them. Assumes nothing.
use mathlib.Core.Path.{◌≡◌, refl}
use mathlib.Core.List.{List, [], ◌∷◌, map}
use mathlib.Core.Option
use mathlib.Core.Option.{Option, none, some}
use mathlib.Core.Bool.{Bool, true, false}
use Prim.Native.Nat.{ℕ, ◌+◌, ◌≤◌, ◌<◌}
use native.Mathlib.Omega.{arith}
use native.Mathlib.Decide.{dec_lt}
use lib.ListN.{length, drop}
use Rattle.base.specs.Lists.{pick, all_of}
use Rattle.base.proofs.Tests.{not_both, fails, and_left}
use Rattle.base.proofs.Le.{AllBytes}
use Rattle.base.proofs.Read.{part}
use Rattle.record_spec.specs.Reference.{TransactionLocator, TransactionLocatorRange, new_range, one_range}
use Rattle.record_spec.specs.Block.{Statement, share, accept, reject, vote_range}
use Rattle.record_statement.specs.Values.{as_statement}
use Rattle.record_statement.specs.declared.BaseStatement.{BaseStatement}
use Rattle.record_statement.specs.declared.BaseStatement.TheVariants.{Share, Accept, Reject, RejectFor, VoteRange}
use Rattle.types.specs.declared.TransactionLocator as code-locator
use Rattle.std.specs.Prelude.{Some, None}
use Rattle.draft_spec.specs.Draft.{read_given, statements_in}
use Rattle.draft_spec.specs.Joining.{Piece, apart, run, touches, fronted, attached, pieces, run_statement, piece_statement, joined, is_accept, right_piece}
use Rattle.draft_spec.proofs.Joining.{Touching, touching, touching_yes, RightRun, right_run, run_right, one_right, pieces_right}
use Rattle.draft_joined.specs.Step.{TookGiven, joined_from, joined_after, followed, TookAccept, TookJoined}
use Rattle.draft_joined.proofs.Given.{none_given, all_given, one_given}

-- ---- a run in front of an accept

module _ (r : TransactionLocatorRange) (l : TransactionLocator) where
  -- the run that has taken the accept
  abbrev pub longer : TransactionLocatorRange
  longer = new_range r.block r.start (l.offset + 1)

  -- it is right where the run was
  pub longer_right : right_piece (run r) ≡ true → touches r (one_range l) ≡ true → right_piece (run longer) ≡ true
  unfolding one_range new_range
  longer_right h e =
      let f : RightRun r = right_run r h in
      let t : Touching r (one_range l) = touching r (one_range l) e in
      run_right longer (record { filled = omega (arith, f.filled, t.meets); low = λ k. t.low })

  same_touch : (q : TransactionLocatorRange) → Touching r (one_range l) → touches longer q ≡ touches (one_range l) q
  unfolding touches one_range new_range
  same_touch q t = rw t.block

  fronted_on : (ps : List Piece) → touches r (one_range l) ≡ true → fronted r (fronted (one_range l) ps) ≡ fronted longer ps
  unfolding fronted one_range new_range
  fronted_on [] e = rw e
  fronted_on (apart s ∷ ps) e = rw e
  fronted_on (run q ∷ ps) e = rw (same_touch q (touching r (one_range l) e)) (go (touches (one_range l) q) refl)
    where
      go : (t : Bool) → touches (one_range l) q ≡ t
          → fronted r (pick t (run (new_range l.block l.offset q.end) ∷ ps) (run (one_range l) ∷ run q ∷ ps))
          ≡ pick t (run (new_range longer.block longer.start q.end) ∷ ps) (run longer ∷ run q ∷ ps)
      go true k = rw (onto (touching r (one_range l) e) (touching (one_range l) q k))
        where
          onto : Touching r (one_range l) → Touching (one_range l) q → touches r (new_range l.block l.offset q.end) ≡ true
          onto t u = touching_yes r (new_range l.block l.offset q.end) (record { block = t.block; meets = t.meets; low = u.low })
      go false k = rw e

  fronted_off : (ps : List Piece) → all_of right_piece ps ≡ true → touches r (one_range l) ≡ false → fronted r (fronted (one_range l) ps) ≡ run r ∷ fronted
      (one_range l) ps
  unfolding fronted all_of one_range new_range
  fronted_off [] h e = rw e
  fronted_off (apart s ∷ ps) h e = rw e
  fronted_off (run q ∷ ps) h e = go (touches (one_range l) q) refl
    where
      onto : RightRun q → Touching (one_range l) q → Touching r (new_range l.block l.offset q.end) → touches r (one_range l) ≡ true
      onto g t u = touching_yes r (one_range l) (record { block = u.block; meets = u.meets; low = omega (arith, t.meets, t.low, g.filled) })

      go : (t : Bool) → touches (one_range l) q ≡ t
          → fronted r (pick t (run (new_range l.block l.offset q.end) ∷ ps) (run (one_range l) ∷ run q ∷ ps))
          ≡ run r ∷ pick t (run (new_range l.block l.offset q.end) ∷ ps) (run (one_range l) ∷ run q ∷ ps)
      go true k =
          rw (fails (touches r (new_range l.block l.offset q.end))
          (λ u. not_both (onto (right_run q (and_left _ _ h)) (touching (one_range l) q k) (touching r (new_range l.block l.offset q.end) u)) e))
      go false k = rw e

-- ---- what is written from a position on

-- a run in front of statements
abbrev after : TransactionLocatorRange → List Statement → List Statement
after r ss = map piece_statement (fronted r (pieces ss))

other_first : (v : Statement) → is_accept v ≡ false → (o : Option (List Statement)) → Option.map joined (Option.map (λ ss. v ∷ ss) o) ≡ followed v
    (Option.map joined o)
unfolding followed joined pieces attached piece_statement is_accept
other_first v h none = refl
other_first (share x) h (some ss) = refl
other_first (accept l) h (some ss) = absurd (not_both refl h)
other_first (reject l m) h (some ss) = refl
other_first (vote_range q) h (some ss) = refl

other_ends : (r : TransactionLocatorRange) (v : Statement) → is_accept v ≡ false → (o : Option (List Statement))
    → Option.map (after r) (Option.map (λ ss. v ∷ ss) o) ≡ followed (run_statement r) (Option.map joined (Option.map (λ ss. v ∷ ss) o))
unfolding followed joined pieces attached fronted piece_statement is_accept
other_ends r v h none = refl
other_ends r (share x) h (some ss) = refl
other_ends r (accept l) h (some ss) = absurd (not_both refl h)
other_ends r (reject l m) h (some ss) = refl
other_ends r (vote_range q) h (some ss) = refl

accept_first : (l : TransactionLocator) (o : Option (List Statement)) → Option.map joined (Option.map (λ ss. accept l ∷ ss) o) ≡ Option.map
    (after (one_range l)) o
unfolding joined pieces attached
accept_first l none = refl
accept_first l (some ss) = refl

accept_on : (r : TransactionLocatorRange) (l : TransactionLocator) → touches r (one_range l) ≡ true → (o : Option (List Statement))
    → Option.map (after r) (Option.map (λ ss. accept l ∷ ss) o) ≡ Option.map (after (longer r l)) o
unfolding pieces attached
accept_on r l e none = refl
accept_on r l e (some ss) = rw (fronted_on r l (pieces ss) e)

accept_off : (r : TransactionLocatorRange) (l : TransactionLocator) → touches r (one_range l) ≡ false → (o : Option (List Statement))
    → Option.map (after r) (Option.map (λ ss. accept l ∷ ss) o) ≡ followed (run_statement r) (Option.map joined (Option.map (λ ss. accept l ∷ ss) o))
unfolding followed joined pieces attached piece_statement
accept_off r l e none = refl
accept_off r l e (some ss) = rw (fronted_off r l (pieces ss) (pieces_right ss) e)

module _ (s : List ℕ) (p : ℕ) where
  -- nothing more, or another form: no run goes on
  pub ends_none : read_given (drop p s) ≡ none → p ≤ length s → (r : TransactionLocatorRange) → joined_after r s p
      ≡ followed (run_statement r) (joined_from s p)
  unfolding joined_after joined_from followed joined pieces fronted piece_statement
  ends_none k h r = go (dec_lt p (length s))
    where
      go : Dec (p < length s) → Option.map (after r) (statements_in (drop p s)) ≡ followed (run_statement r) (Option.map joined (statements_in (drop p s)))
      go (yes l) = rw (none_given s p l k)
      go (no l) = rw (all_given s p (omega arith))

  pub joined_none : p < length s → read_given (drop p s) ≡ none → joined_from s p ≡ none
  unfolding joined_from
  joined_none l k = rw (none_given s p l k)

  module _ (bytes : AllBytes s) (next : ℕ) where
    pub ends_other : (v : Statement) → is_accept v ≡ false → read_given (drop p s) ≡ some (part v (drop next s))
        → (r : TransactionLocatorRange) → joined_after r s p ≡ followed (run_statement r) (joined_from s p)
    unfolding joined_after joined_from
    ends_other v h k r = rw (one_given s p bytes v next k) (other_ends r v h (statements_in (drop next s)))

    pub joined_other : (v : Statement) → is_accept v ≡ false → read_given (drop p s) ≡ some (part v (drop next s)) → joined_from s p ≡ followed v
        (joined_from s next)
    unfolding joined_from
    joined_other v h k = rw (one_given s p bytes v next k) (other_first v h (statements_in (drop next s)))

    module _ (l : TransactionLocator) (k : read_given (drop p s) ≡ some (part (accept l) (drop next s))) where
      pub joined_accept : joined_from s p ≡ joined_after (one_range l) s next
      unfolding joined_from joined_after
      joined_accept = rw (one_given s p bytes (accept l) next k) (accept_first l (statements_in (drop next s)))

      pub goes_on_lem : (r : TransactionLocatorRange) → touches r (one_range l) ≡ true → joined_after r s p ≡ joined_after (longer r l) s next
      unfolding joined_after
      goes_on_lem r e = rw (one_given s p bytes (accept l) next k) (accept_on r l e (statements_in (drop next s)))

      pub stays_apart : (r : TransactionLocatorRange) → touches r (one_range l) ≡ false → joined_after r s p ≡ followed (run_statement r) (joined_from s p)
      unfolding joined_after joined_from
      stays_apart r e = rw (one_given s p bytes (accept l) next k) (accept_off r l e (statements_in (drop next s)))

-- a run of one
pub alone_right : (l : TransactionLocator) → right_piece (run (one_range l)) ≡ true
alone_right l = run_right (one_range l) (one_right l)

-- ---- what code finds at a position

pub other_there : (s : List ℕ) (p : ℕ) (st : BaseStatement) (next : ℕ) → AllBytes s → TookGiven s p (Some (st, next))
    → is_accept (as_statement s st) ≡ false → TookAccept s p None
unfolding TookGiven TookAccept
other_there s p st next b t h = ends_other s p b next (as_statement s st) h t.0

-- a statement that is no accept in the code is none in the record
pub no_accept : (s : List ℕ) (st : BaseStatement) → ((l : code-locator.TransactionLocator) → st ≡ Accept l → ⊥) → is_accept (as_statement s st) ≡ false
unfolding as_statement is_accept
no_accept s (Share start len) k = refl
no_accept s (Accept l) k = absurd (k l refl)
no_accept s (Reject l) k = refl
no_accept s (RejectFor l m) k = refl
no_accept s (VoteRange r) k = refl

pub joined_there : (s : List ℕ) (p : ℕ) (st : BaseStatement) (next : ℕ) → AllBytes s → TookGiven s p (Some (st, next))
    → is_accept (as_statement s st) ≡ false → TookJoined s p (Some (st, next))
unfolding TookGiven TookJoined
joined_there s p st next b t h = (joined_other s p b next (as_statement s st) h t.0, t.1)
