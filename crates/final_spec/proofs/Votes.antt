-- The vote of one block, computed and as a relation. Assumes nothing.
use mathlib.Core.Path.{◌≡◌, refl, subst}
use mathlib.Core.Bool.{true}
use mathlib.Core.Option.{some, some-injective, none-ne-some}
use Prim.Native.Nat.{ℕ, ◌+◌, ◌≤◌, ◌<◌}
use native.Mathlib.Omega.{arith}
use lib.Dec.{leb}
use lib.ListN.{get_elem?}
use borrow.Author.Tests.{le-leb, leb-true, lt-ltb, ltb-true}
use Rattle.base.specs.Lists.{holds, ◌∈◌}
use Rattle.base.proofs.Tests.{and_both, and_left, and_right}
use Rattle.base.proofs.Members.{any_in, in_any}
use Rattle.record_spec.specs.Reference.{TransactionLocator, TransactionLocatorRange, locator, same_reference, new_range, one_range, within, covers}
use Rattle.record_spec.specs.Block.{Statement, share, accept, reject, vote_range, Block, is_share, is_share_at, voted_range, spans}
use Rattle.record_spec.proofs.References.{reference_same, same_reference_lem}
use Rattle.record_spec.proofs.Spans.{Span, of_share, of_vote, share_span, vote_span, span_of}
use Rattle.final_spec.specs.Voters.{votes_for}
use Rattle.final_spec.specs.Ancestry.{VoteIn, by_accept, by_range, VotesFor, by_share, by_vote}

-- what a range covers
pub record Covered (r : TransactionLocatorRange) (l : TransactionLocator) : Type 0 where
  pub of : r.block ≡ l.block
  pub from : r.start ≤ l.offset
  pub below : l.offset < r.end

pub covered : (r : TransactionLocatorRange) (l : TransactionLocator) → covers r l ≡ true → Covered r l
unfolding covers within
covered r l h =
    let k = and_right (same_reference r.block l.block) _ h in
    record {
      of = reference_same r.block l.block (and_left _ _ h);
      from = leb-true r.start l.offset (and_left _ _ k);
      below = ltb-true l.offset r.end (and_right (leb r.start l.offset) _ k);
    }

pub is_covered : (r : TransactionLocatorRange) (l : TransactionLocator) → Covered r l → covers r l ≡ true
unfolding covers within
is_covered r l h = and_both _ _ (same_reference_lem h.of) (and_both _ _ (le-leb r.start l.offset h.from) (lt-ltb l.offset r.end h.below))

-- a vote is a span that covers the locator
pub record Spanned (b : Block) (l : TransactionLocator) : Type 0 where
  pub span : TransactionLocatorRange
  pub stands : span ∈ spans b
  pub covering : Covered span l

pub spanned : (b : Block) (l : TransactionLocator) → votes_for b l ≡ true → Spanned b l
unfolding votes_for
spanned b l h = let r = any_in (λ q. covers q l) (spans b) h in record { span = r.0; stands = r.1; covering = covered r.0 l r.2 }

pub is_spanned : (b : Block) (l : TransactionLocator) → Spanned b l → votes_for b l ≡ true
unfolding votes_for
is_spanned b l r = in_any (λ q. covers q l) r.stands (is_covered r.span l r.covering)

pub statement_vote : (b : Block) (l : TransactionLocator) (q : TransactionLocatorRange) (s : Statement) → s ∈ b.statements → voted_range s ≡ some q → Covered
    q l → VoteIn b l
unfolding voted_range one_range new_range
statement_vote b l q (share p) m e h = absurd (none-ne-some q e)
statement_vote b l q (accept k) m e h =
    let r : Covered (one_range k) l = rw (some-injective _ _ e) h in
    let f : k.block ≡ l.block = r.of in
    let g : k.offset ≡ l.offset = omega (arith, r.from, r.below) in
    let same_one : k ≡ l = λ i. record { block = f i; offset = g i } in
    by_accept (subst (λ (x : TransactionLocator). accept x ∈ b.statements) same_one m)
statement_vote b l q (reject k other) m e h = absurd (none-ne-some q e)
statement_vote b l q (vote_range r) m e h = let k : Covered r l = rw (some-injective _ _ e) h in by_range r m k.of k.from k.below

-- a block votes for a locator exactly where the test says so
pub votes_for_lem : (b : Block) (l : TransactionLocator) → votes_for b l ≡ true → VotesFor b l
unfolding spans is_share_at one_range new_range locator
votes_for_lem b l h = let r = spanned b l h in split r.span r.covering (span_of b.reference 0 b.statements r.span r.stands)
  where
    split : (q : TransactionLocatorRange) → Covered q l → Span b.reference 0 b.statements q → VotesFor b l
    split q c (of_share k s e) =
        let d : Covered (one_range (locator b.reference (0 + k))) l = subst (λ (x : TransactionLocatorRange). Covered x l) e c in
        let n : k ≡ l.offset = omega (arith, d.from, d.below) in
        by_share d.of (subst (λ (i : ℕ). holds is_share (get_elem? b.statements i) ≡ true) n s)
    split q c (of_vote s m e) = by_vote (statement_vote b l q s m e c)

pub for_votes : (b : Block) (l : TransactionLocator) → VotesFor b l → votes_for b l ≡ true
unfolding spans is_share_at voted_range is_share one_range new_range locator
for_votes b l (by_share e h) =
    is_spanned b l
    (record {
      span = one_range (locator b.reference (0 + l.offset));
      stands = share_span b.reference 0 l.offset b.statements h;
      covering = record { of = e; from = omega arith; below = omega arith };
    })
for_votes b l (by_vote (by_accept m)) =
    is_spanned b l
    (record {
      span = one_range l;
      stands = vote_span b.reference 0 (one_range l) (accept l) refl refl b.statements m;
      covering = record { of = refl; from = omega arith; below = omega arith };
    })
for_votes b l (by_vote (by_range r m e f g)) =
    is_spanned b l
    (record {
      span = r;
      stands = vote_span b.reference 0 r (vote_range r) refl refl b.statements m;
      covering = record { of = e; from = f; below = g };
    })
