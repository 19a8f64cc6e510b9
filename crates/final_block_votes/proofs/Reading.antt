-- Reading the votes of a block, statement by statement. Assumes nothing.
use mathlib.Core.Path.{◌≡◌, refl, sym, ap, ◌∙◌}
use mathlib.Core.Bool.{Bool, true, false, ◌||◌, and-false, or-false}
use mathlib.Core.List.{List, [], ◌∷◌, ◌++◌, Option-to_list}
use mathlib.Core.Option.{Option, none, some}
use Prim.Native.Nat.{ℕ, ◌+◌, ◌≤◌, ◌<◌}
use native.Mathlib.Omega.{arith}
use native.Mathlib.Numerals.{add-one}
use lib.Dec.{ltb, leb, eqb}
use lib.ListN.{length, get_or, drop, drop_of_length-le}
use lib.Seq.{drop-cons}
use borrow.Author.Tests.{le-leb, lt-leb, leb-true, lt-ltb, ltb-true, eqb-true, eq-eqb}
use Rattle.base.specs.Lists.{any_of, holds}
use Rattle.base.proofs.Tests.{same_test, and_both, and_left, and_right}
use Rattle.record_spec.specs.Reference.{BlockReference, TransactionLocator, TransactionLocatorRange, locator, new_range, one_range, within, same_reference}
use Rattle.record_spec.specs.Reference.{covers}
use Rattle.record_spec.specs.Block.{Statement, Block, is_share, voted_range, spans_from, spans}
use Rattle.record_spec.specs.Record.{no_statement}
use Rattle.final_spec.specs.Voters.{votes_for}
use Rattle.base.proofs.Lists.{any_append}
use Rattle.final_block_votes.specs.Walk.{span_of, statement_votes}

-- ---- one locator, one range

within_one : (o p : ℕ) → within o (o + 1) p ≡ eqb o p
unfolding within
within_one o p =
    same_test _ _
    (λ h. let a = leb-true o p (and_left (leb o p) _ h) in let b = ltb-true p (o + 1) (and_right (leb o p) _ h) in eq-eqb o p (omega arith))
    (λ h. let e = eqb-true o p h in and_both _ _ (le-leb o p (omega arith)) (lt-ltb p (o + 1) (omega arith)))

pub covers_one : (r : BlockReference) (o : ℕ) (l : TransactionLocator) → same_reference r l.block ≡ true → covers (one_range (locator r o)) l ≡ eqb o
    l.offset
unfolding covers one_range new_range locator
covers_one r o l h = rw (h, within_one o l.offset)

pub covers_other : (q : TransactionLocatorRange) (l : TransactionLocator) → same_reference q.block l.block ≡ false → covers q l ≡ false
unfolding covers
covers_other q l h = rw h

pub covers_early : (q : TransactionLocatorRange) (l : TransactionLocator) → l.offset < q.start → covers q l ≡ false
unfolding covers within
covers_early q l h = rw (lt-leb q.start l.offset h) (and-false (same_reference q.block l.block))

pub covers_from : (q : TransactionLocatorRange) (l : TransactionLocator) → same_reference q.block l.block ≡ true → q.start ≤ l.offset → covers q l ≡
    ltb l.offset q.end
unfolding covers within
covers_from q l e h = rw (e, le-leb q.start l.offset h)

-- ---- one statement

-- a share votes for its own place, another statement for what it names
module _ (r : BlockReference) (o : ℕ) (s : Statement) where
  pub span_share : is_share s ≡ true → span_of r o s ≡ one_range (locator r o) ∷ []
  unfolding span_of
  span_share h = rw h

  pub span_named : is_share s ≡ false → span_of r o s ≡ Option-to_list (voted_range s)
  unfolding span_of
  span_named h = rw h

  module _ (l : TransactionLocator) where
    pub votes_share : is_share s ≡ true → covers (one_range (locator r o)) l ≡ statement_votes r o s l
    unfolding statement_votes any_of
    votes_share h = rw (span_share h) (sym (or-false _))

    pub votes_named : is_share s ≡ false → (v : Option TransactionLocatorRange) → v ≡ voted_range s → holds (λ q. covers q l) v ≡ statement_votes r o s l
    unfolding statement_votes holds any_of Option-to_list
    votes_named h none e = rw (span_named h, ← e)
    votes_named h (some q) e = rw (span_named h, ← e) (sym (or-false _))

-- ---- the statements from one on

-- the votes of the statements from index i on
abbrev pub votes_from : Block → TransactionLocator → ℕ → Bool
votes_from b l i = any_of (λ q. covers q l) (spans_from b.reference i (drop i b.statements))

pub spans_on : (r : BlockReference) (ss : List Statement) (i : ℕ) → i < length ss
    → spans_from r i (drop i ss) ≡ span_of r i (get_or ss i no_statement) ++ spans_from r (i + 1) (drop (i + 1) ss)
unfolding spans_from span_of
spans_on r ss i h = rw (drop-cons ss i no_statement h, add-one i)

pub spans_end : (r : BlockReference) (ss : List Statement) (i : ℕ) → length ss ≤ i → spans_from r i (drop i ss) ≡ []
unfolding spans_from
spans_end r ss i h = rw (drop_of_length-le ss h)

module _ (b : Block) (l : TransactionLocator) where
  pub votes_start : votes_for b l ≡ votes_from b l 0
  unfolding votes_for spans
  votes_start = refl

  pub votes_on : (i : ℕ) → i < length b.statements → votes_from b l i ≡ statement_votes b.reference i (get_or b.statements i no_statement) l || votes_from
      b l (i + 1)
  unfolding statement_votes
  votes_on i h =
      let p : TransactionLocatorRange → Bool = λ q. covers q l in
      ap (any_of p) (spans_on b.reference b.statements i h) ∙ any_append p (span_of b.reference i (get_or b.statements i no_statement)) _

  pub votes_end : (i : ℕ) → length b.statements ≤ i → votes_from b l i ≡ false
  unfolding any_of
  votes_end i h = ap (any_of (λ q. covers q l)) (spans_end b.reference b.statements i h)

  pub votes_found : (i : ℕ) → i < length b.statements → statement_votes b.reference i (get_or b.statements i no_statement) l ≡ true → true ≡ votes_from b
      l i
  votes_found i h e = sym (votes_on i h ∙ ap (λ (t : Bool). t || votes_from b l (i + 1)) e)

  pub votes_passed : (i : ℕ) → i < length b.statements → statement_votes b.reference i (get_or b.statements i no_statement) l ≡ false → votes_from b l i ≡
      votes_from b l (i + 1)
  votes_passed i h e = votes_on i h ∙ ap (λ (t : Bool). t || votes_from b l (i + 1)) e
