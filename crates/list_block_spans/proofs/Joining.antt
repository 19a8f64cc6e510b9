-- Neighbouring shares in one range: the same votes in fewer ranges. Assumes nothing.
use mathlib.Core.Path.{◌≡◌, refl, sym, ap, ◌∙◌}
use mathlib.Core.Bool.{Bool, true, false, ◌&&◌, ◌||◌, or_assoc}
use mathlib.Core.List.{List, [], ◌∷◌, ◌++◌, Option-to_list}
use Prim.Native.Nat.{ℕ, suc, ◌+◌, ◌≤◌, ◌<◌}
use native.Mathlib.Omega.{arith}
use native.Mathlib.Numerals.{add-one}
use lib.ListN.{length, get_or, drop, length-drop, drop_of_length-le}
use lib.Seq.{drop-cons, drop-drop}
use Rattle.base.specs.Lists.{pick, any_of}
use Rattle.base.proofs.Tests.{not_both}
use Rattle.record_spec.specs.Reference.{BlockReference, TransactionLocator, TransactionLocatorRange, locator, new_range, one_range, within, same_reference}
use Rattle.record_spec.specs.Reference.{covers}
use Rattle.record_spec.specs.Block.{Statement, Block, is_share, voted_range, spans_from, spans}
use Rattle.record_spec.specs.Record.{no_statement}
use Rattle.record_spec.proofs.Ranges.{within_parts}
use Rattle.final_spec.specs.Voters.{votes_for}
use Rattle.record_shared_ranges.specs.Step.{is_of_kind, leading}
use Rattle.base.specs.Le.{Bytes}
use Rattle.record_cursor.specs.Cursor.{cursor_at}
use Rattle.record_cursor.specs.declared.StatementCursor.{StatementCursor}
use Rattle.base.proofs.Lists.{any_append}
use Rattle.list_block_spans.specs.Answers.{voted_by, OnwardIn}
use Rattle.list_block_spans.specs.Joined.{begins_share, lengthened, joined_from, joined_at, joined_spans}
use Rattle.record_statement_votes.specs.Votes.{as_voted}
use Rattle.std.specs.Prelude.{None, Some, Option}
use Rattle.types.specs.declared.TransactionLocatorRange as ranges

-- a vote as a list
pub voted_ranges : (v : Option ranges.TransactionLocatorRange) → voted_by v ≡ Option-to_list (as_voted v)
unfolding voted_by as_voted Option-to_list
voted_ranges (Some q) = refl
voted_ranges None = refl

-- ---- a run in front

pub joined_run : (r : BlockReference) (o : ℕ) (s : Statement) (ss : List Statement) → is_share s ≡ true
    → joined_from r o (s ∷ ss) ≡ new_range r o (o + suc (leading true ss)) ∷ joined_from r (o + suc (leading true ss)) (drop (leading true ss) ss)
unfolding joined_from lengthened begins_share leading is_of_kind new_range
joined_run r o s [] h = let z : o + suc 0 ≡ o + 1 = omega arith in rw (h, z)
joined_run r o s (x ∷ xs) h = rw h (go (is_share x) refl (joined_run r (o + 1) x xs))
  where
    go : (t : Bool) → is_share x ≡ t
        → (is_share x ≡ true → joined_from r (o + 1) (x ∷ xs) ≡ new_range r (o + 1) (o + 1 + suc (leading true xs)) ∷ joined_from r
        (o + 1 + suc (leading true xs)) (drop (leading true xs) xs))
        → lengthened r o (is_share x) (joined_from r (o + 1) (x ∷ xs)) ≡ new_range r o (o + suc (leading true (x ∷ xs))) ∷ joined_from r
        (o + suc (leading true (x ∷ xs))) (drop (leading true (x ∷ xs)) (x ∷ xs))
    go true e ih =
        let z : o + suc (suc (leading true xs)) ≡ o + 1 + suc (leading true xs) = omega arith in
        rw (ih e) (rw (e, z))
    go false e ih = let z : o + suc 0 ≡ o + 1 = omega arith in rw (e, z) (rw e)

-- ---- the same votes

module _ (l : TransactionLocator) where
  abbrev at : TransactionLocatorRange → Bool
  at q = covers q l

  covers_parts : (r : BlockReference) (o c e : ℕ) → o ≤ c → c ≤ e → at (new_range r o e) ≡ at (new_range r o c) || at (new_range r c e)
  unfolding covers new_range
  covers_parts r o c e h k = rw (within_parts o c e l.offset h k) (go (same_reference r l.block) (within o c l.offset))
    where
      go : (t u : Bool) → t && (u || within c e l.offset) ≡ (t && u) || (t && within c e l.offset)
      go true u = refl
      go false u = refl

  -- a share before a run
  with_run : (r : BlockReference) (o e : ℕ) (qs : List TransactionLocatorRange) → o + 1 ≤ e
      → any_of at (lengthened r o true (new_range r (o + 1) e ∷ qs)) ≡ at (new_range r o (o + 1)) || any_of at (new_range r (o + 1) e ∷ qs)
  unfolding lengthened new_range any_of
  with_run r o e qs h = ap (λ (t : Bool). t || any_of at qs) (covers_parts r o (o + 1) e (omega arith) h) ∙ or_assoc (at (new_range r o (o + 1)))
      (at (new_range r (o + 1) e)) (any_of at qs)

  longer : (r : BlockReference) (o : ℕ) (ss : List Statement) → begins_share ss ≡ true → any_of at (lengthened r o true (joined_from r (o + 1) ss)) ≡ at
      (new_range r o (o + 1)) || any_of at (joined_from r (o + 1) ss)
  unfolding begins_share
  longer r o [] e = absurd (not_both e refl)
  longer r o (x ∷ xs) e =
      ap (λ (qs : List TransactionLocatorRange). any_of at (lengthened r o true qs)) (joined_run r (o + 1) x xs e)
      ∙ with_run r o (o + 1 + suc (leading true xs)) (joined_from r (o + 1 + suc (leading true xs)) (drop (leading true xs) xs)) (omega arith)
      ∙ ap (λ (qs : List TransactionLocatorRange). at (new_range r o (o + 1)) || any_of at qs) (sym (joined_run r (o + 1) x xs e))

  alone_covers : (r : BlockReference) (o : ℕ) (qs : List TransactionLocatorRange) → any_of at (lengthened r o false qs) ≡ at (new_range r o (o + 1))
      || any_of at
      qs
  unfolding lengthened any_of
  alone_covers r o qs = refl

  with_share : (r : BlockReference) (o : ℕ) (ss : List Statement) → any_of at (lengthened r o (begins_share ss) (joined_from r (o + 1) ss)) ≡ at
      (new_range r o (o + 1)) || any_of at (joined_from r (o + 1) ss)
  with_share r o ss = go (begins_share ss) refl
    where
      go : (t : Bool) → begins_share ss ≡ t → any_of at (lengthened r o t (joined_from r (o + 1) ss)) ≡ at (new_range r o (o + 1)) || any_of at
          (joined_from r (o + 1) ss)
      go true e = longer r o ss e
      go false e = alone_covers r o (joined_from r (o + 1) ss)

  joined_covers : (r : BlockReference) (o : ℕ) (ss : List Statement) → any_of at (joined_from r o ss) ≡ any_of at (spans_from r o ss)
  unfolding joined_from spans_from any_of one_range locator
  joined_covers r o [] = refl
  joined_covers r o (s ∷ ss) = go (is_share s) (joined_covers r (o + 1) ss)
    where
      go : (t : Bool) → any_of at (joined_from r (o + 1) ss) ≡ any_of at (spans_from r (o + 1) ss)
          → any_of at (pick t (lengthened r o (begins_share ss) (joined_from r (o + 1) ss)) (Option-to_list (voted_range s) ++ joined_from r (o + 1) ss))
          ≡ any_of at (pick t (one_range (locator r o) ∷ []) (Option-to_list (voted_range s)) ++ spans_from r (o + 1) ss)
      go true ih = with_share r o ss ∙ ap (λ (t : Bool). at (new_range r o (o + 1)) || t) ih
      go false ih = any_append at (Option-to_list (voted_range s)) (joined_from r (o + 1) ss)
          ∙ ap (λ (t : Bool). any_of at (Option-to_list (voted_range s)) || t)
          ih ∙ sym (any_append at (Option-to_list (voted_range s)) (spans_from r (o + 1) ss))

pub joined_votes : (b : Block) (l : TransactionLocator) → any_of (λ q. covers q l) (joined_spans b) ≡ votes_for b l
unfolding joined_spans votes_for spans
joined_votes b l = joined_covers l b.reference 0 b.statements

-- ---- statement by statement

leading_most : (ss : List Statement) → leading true ss ≤ length ss
unfolding leading
leading_most [] = omega arith
leading_most (s ∷ ss) = go (is_of_kind true s) (leading_most ss)
  where
    go : (u : Bool) → leading true ss ≤ length ss → pick u (suc (leading true ss)) 0 ≤ suc (length ss)
    go true h = omega arith
    go false h = omega arith

module _ (b : Block) (i : ℕ) where
  pub joined_end : length b.statements ≤ i → joined_at b i ≡ []
  unfolding joined_at joined_from
  joined_end h = rw (drop_of_length-le b.statements h)

  module _ (h : i < length b.statements) where
    pub joined_vote : is_share (get_or b.statements i no_statement) ≡ false
        → joined_at b i ≡ Option-to_list (voted_range (get_or b.statements i no_statement)) ++ joined_at b (i + 1)
    unfolding joined_at joined_from
    joined_vote e = rw (drop-cons b.statements i no_statement h, e, add-one i)

    leading_here : is_share (get_or b.statements i no_statement) ≡ true → leading true (drop i b.statements) ≡ suc
        (leading true (drop (suc i) b.statements))
    unfolding leading is_of_kind
    leading_here e = rw (drop-cons b.statements i no_statement h, e)

    pub joined_shares : is_share (get_or b.statements i no_statement) ≡ true
        → joined_at b i ≡ new_range b.reference i (i + leading true (drop i b.statements)) ∷ joined_at b (i + leading true (drop i b.statements))
    unfolding joined_at
    joined_shares e =
        let n : ℕ = leading true (drop (suc i) b.statements) in
        let y : suc i + n ≡ i + suc n = omega arith in
        let z : drop n (drop (suc i) b.statements) ≡ drop (i + suc n) b.statements = drop-drop n (suc i) b.statements ∙ ap
        (λ (k : ℕ). drop k b.statements) y in
        rw (leading_here e)
        (ap (joined_from b.reference i) (drop-cons b.statements i no_statement h)
        ∙ joined_run b.reference i (get_or b.statements i no_statement) (drop (suc i) b.statements) e
        ∙ ap (λ (ss : List Statement). new_range b.reference i (i + suc n) ∷ joined_from b.reference (i + suc n) ss) z)

    pub leading_some : is_share (get_or b.statements i no_statement) ≡ true → 0 < leading true (drop i b.statements)
    leading_some e = omega (arith, leading_here e)

    pub leading_inside : i + leading true (drop i b.statements) ≤ length b.statements
    leading_inside = omega (arith, leading_most (drop i b.statements), length-drop i b.statements)

    -- a run told
    pub run_told : is_share (get_or b.statements i no_statement) ≡ true → (r : Bytes) (next : StatementCursor) → next ≡ cursor_at r
        (i + leading true (drop i b.statements))
        → (joined_at b i ≡ new_range b.reference i next.index ∷ joined_at b next.index) × OnwardIn b r i next
    unfolding OnwardIn cursor_at
    run_told e r next q = rw q (joined_shares e, (omega (arith, leading_some e), (leading_inside, refl)))

    -- a vote told, or none
    pub vote_told : is_share (get_or b.statements i no_statement) ≡ false → (vote : Option ranges.TransactionLocatorRange) → voted_by vote ≡ Option-to_list
        (voted_range (get_or b.statements i no_statement))
        → (r : Bytes) (next : StatementCursor) → next ≡ cursor_at r (i + 1) → (joined_at b i ≡ voted_by vote ++ joined_at b next.index) × OnwardIn b r i next
    unfolding OnwardIn cursor_at
    vote_told e vote v r next q = rw (q, v) (joined_vote e, (omega arith, (omega arith, refl)))
