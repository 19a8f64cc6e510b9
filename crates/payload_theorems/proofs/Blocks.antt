-- Counting a block does not look at payloads. Assumes nothing.
use mathlib.Core.Path.{◌≡◌, refl, sym, ap, ap₂, ◌∙◌}
use mathlib.Core.Bool.{Bool, true, false, ◌&&◌, ◌||◌}
use mathlib.Core.List.{List, [], ◌∷◌, ◌++◌, map, flatten}
use mathlib.Core.Option
use mathlib.Core.Option.{Option, none, some}
use Prim.Native.Nat.{ℕ, zero, suc, ◌+◌, max}
use lib.ListN.{length, get_elem?}
use Rattle.base.specs.Lists.{pick, any_of, find, holds}
use Rattle.committee.specs.Committee.{AuthorityIndex, Committee}
use Rattle.committee_aggregator.specs.StakeAggregator.{has_quorum}
use Rattle.record_spec.specs.Reference.{BlockReference, TransactionLocator, TransactionLocatorRange, locator, same_reference, offsets}
use Rattle.record_spec.specs.Block.{Statement, share, accept, reject, vote_range, Block, author, is_share, is_share_at, voted_range, joined, runs_from}
use Rattle.record_spec.specs.Block.{shared_ranges}
use Rattle.store_spec.specs.Layout.{Entry, blocks_at, position_of, lookup}
use Rattle.store_spec.specs.Shares.{is_share_of, is_stored_share}
use Rattle.pending_spec.specs.Items.{Item, item_at, both_cuts, vote_over, after_leaving, register}
use Rattle.feed_spec.specs.ProcessBlock.{Event, Processing, missed, event_at, event_of, vote, votes, registering, process_block}
use Rattle.load_spec.specs.Needs.{emptied, without_payloads}
use Rattle.payload_theorems.specs.Claims.{Seen, seen, FeedingUnseen}

-- ---- a statement

same_share : (s : Statement) → is_share (emptied s) ≡ is_share s
unfolding emptied is_share
same_share (share p) = refl
same_share (accept l) = refl
same_share (reject l other) = refl
same_share (vote_range q) = refl

pub same_range : (s : Statement) → voted_range (emptied s) ≡ voted_range s
unfolding emptied voted_range
same_range (share p) = refl
same_range (accept l) = refl
same_range (reject l other) = refl
same_range (vote_range q) = refl

-- ---- a block

pub share_at : (ss : List Statement) (o : ℕ) → holds is_share (get_elem? (map emptied ss) o) ≡ holds is_share (get_elem? ss o)
unfolding holds
share_at [] o = refl
share_at (s ∷ ss) zero = same_share s
share_at (s ∷ ss) (suc o) = share_at ss o

same_runs : (r : BlockReference) (o : ℕ) (ss : List Statement) → runs_from r o (map emptied ss) ≡ runs_from r o ss
unfolding runs_from
same_runs r o [] = refl
same_runs r o (s ∷ ss) = ap₂ (λ (t : Bool) (qs : List TransactionLocatorRange). pick t (joined r o qs) qs) (same_share s) (same_runs r (o + 1) ss)

-- ---- the stored entries

-- where the block of a reference stands
position_seen : List Seen → BlockReference → ℕ
position_seen [] r = 0
position_seen (x ∷ xs) r = pick (same_reference x.block.reference r) x.position (position_seen xs r)

same_position : (es : List Entry) (r : BlockReference) → position_of (lookup es r) ≡ position_seen (map seen es) r
unfolding lookup find position_of position_seen seen without_payloads
same_position [] r = refl
same_position (e ∷ es) r = go (same_reference e.block.reference r) (same_position es r)
  where
    go : (t : Bool) → position_of (find (λ d. same_reference d.block.reference r) es) ≡ position_seen (map seen es) r
        → position_of (pick t (some e) (find (λ d. same_reference d.block.reference r) es)) ≡ pick t e.position (position_seen (map seen es) r)
    go true h = refl
    go false h = h

same_stored : (es : List Entry) (l : TransactionLocator) → is_stored_share (blocks_at es) l ≡ any_of (λ x. is_share_of x.block l) (map seen es)
unfolding is_stored_share any_of is_share_of is_share_at seen without_payloads
same_stored [] l = refl
same_stored (e ∷ es) l =
    ap₂ (λ (t u : Bool). (same_reference e.block.reference l.block && t) || u) (sym (share_at e.block.statements l.offset)) (same_stored es l)

-- ---- over entries that differ in payloads alone

module _ (c : Committee) (es ds : List Entry) (e : map seen es ≡ map seen ds) where
  pub at_same : (r : BlockReference) → position_of (lookup es r) ≡ position_of (lookup ds r)
  at_same r = same_position es r ∙ ap (λ (xs : List Seen). position_seen xs r) e ∙ sym (same_position ds r)

  missed_same : (r : BlockReference) (o : ℕ) → missed es r o ≡ missed ds r o
  unfolding missed
  missed_same r o =
      ap {B = ℕ} (λ (t : Bool). pick t 2 3)
      (same_stored es (locator r o) ∙ ap (λ (xs : List Seen). any_of (λ x. is_share_of x.block (locator r o)) xs) e ∙ sym (same_stored ds (locator r o)))

  event_same : (r : BlockReference) (i o : ℕ) (x : Option Bool) → event_at es r i o x ≡ event_at ds r i o x
  unfolding event_at
  event_same r i o none = ap {B = List Event} (λ (k : ℕ). record { kind = k; statement = i; offset = o } ∷ []) (missed_same r o)
  event_same r i o (some quorum) = refl

  module _ (a : AuthorityIndex) where
    vote_same : (i : ℕ) (q : Option TransactionLocatorRange) (z : Processing) → vote c es a i q z ≡ vote c ds a i q z
    unfolding vote event_of
    vote_same i none z = refl
    vote_same i (some r) z =
        ap₂ {C = Processing}
        (λ (p : ℕ) (told : ℕ → Option Bool → List Event). record {
          items = after_leaving c p r.start r.end (vote_over c a p r.start r.end z.items);
          events =
              z.events ++ flatten (map
              (λ o. told o (Option.map (λ y. has_quorum c y.aggregator) (item_at (vote_over c a p r.start r.end z.items) p o))) (offsets r));
          most = max z.most (length (both_cuts p r.start r.end z.items));
        })
        (at_same r.block) (λ j o x. event_same r.block i o x j)

    -- the votes of statements, and of the same ones without their payloads
    votes_same : (i : ℕ) (ss : List Statement) (z : Processing) → votes c es a i ss z ≡ votes c ds a i (map emptied ss) z
    unfolding votes
    votes_same i [] z = refl
    votes_same i (s ∷ ss) z =
        votes_same (i + 1) ss (vote c es a i (voted_range s) z)
        ∙ ap (λ (y : Processing). votes c ds a (i + 1) (map emptied ss) y)
        (vote_same i (voted_range s) z ∙ ap (λ (q : Option TransactionLocatorRange). vote c ds a i q z) (sym (same_range s)))

  register_same : (b : Block) (xs : List Item) → registering c es b xs ≡ registering c ds (without_payloads b) xs
  unfolding registering shared_ranges without_payloads
  register_same b xs =
      ap₂ {C = Processing}
      (λ (p : ℕ) (qs : List TransactionLocatorRange). record {
        items = register c (author b) p qs xs;
        events = [];
        most = length (register c (author b) p qs xs);
      })
      (at_same b.reference) (sym (same_runs b.reference 0 b.statements))

  fed_same : (b : Block) (xs : List Item) → process_block c es b xs ≡ process_block c ds (without_payloads b) xs
  unfolding process_block without_payloads
  fed_same b xs =
      votes_same (author b) 0 b.statements (registering c es b xs) ∙ ap (λ (z : Processing). votes c ds (author b) 0 (map emptied b.statements) z)
      (register_same b xs)

pub feeding_unseen : FeedingUnseen
unfolding FeedingUnseen
feeding_unseen c es ds b d xs e f = fed_same c es ds e b xs ∙ ap (λ (x : Block). process_block c ds x xs) f ∙ sym (fed_same c ds ds refl d xs)
