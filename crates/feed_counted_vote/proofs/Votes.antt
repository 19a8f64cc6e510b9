-- One vote, as the code counts it. Assumes nothing.
use mathlib.Core.Path.{◌≡◌, refl, sym, ◌∙◌}
use mathlib.Core.Bool.{Bool, true, false}
use mathlib.Core.List.{List, [], ◌∷◌, map, flatten}
use mathlib.Core.Option.{Option, none, some}
use Prim.Native.Nat.{ℕ, ◌-◌, ◌≤◌, ◌<◌}
use native.Mathlib.Omega.{arith}
use lib.ListN.{length}
use borrow.Author.Tests.{le-leb, lt-leb}
use Rattle.base.specs.Lists.{keep, count_from}
use Rattle.base.specs.Le.{Bytes}
use Rattle.base.proofs.Tests.{and_left, not_both}
use Rattle.base.proofs.Lists.{every}
use Rattle.committee.specs.Committee.{AuthorityIndex, Committee, Stake, total_stake}
use Rattle.record_spec.specs.Reference.{TransactionLocatorRange, offsets}
use Rattle.record_spec.specs.Block.{author}
use Rattle.record_spec.specs.Record.{block_in}
use Rattle.store_spec.specs.Layout.{Entry, position_of, lookup}
use Rattle.pending_spec.specs.Items.{Item, item_at, both_cuts, vote_over, stays, after_leaving}
use Rattle.pending_spec.specs.Table.{HoldsItems, table_of, items_of, room, table_in_order, table_formed}
use Rattle.pending_spec.proofs.Items.{ordered_vote_over}
use Rattle.pending_spec.proofs.Order.{Pending, InOrder, in_order_lem, room_fits, pending_vote_over, length_vote_over}
use Rattle.pending_form.proofs.Forming.{order_parts}
use Rattle.pending_votes.proofs.Voting.{formed, Written, written}
use Rattle.feed_spec.specs.ProcessBlock.{Event, words_of, event_of, Processing, vote}
use Rattle.feed_events.specs.Step.{told_at, events_between, StatedAt, told}
use Rattle.feed_missed.specs.Kinds.{with_new}
use Rattle.feed_counted_vote.specs.Vote.{starting_with, Voting, VotesCounted}
use Rattle.feed_counted_vote.specs.declared.Processed.{Processed}
use Rattle.feed_events.proofs.Announced.{told_event, told_none, stated_none}

pub order_formed : (c : Committee) (es : List Entry) (t : List ℕ) → table_in_order c es t ≡ true → table_formed c t ≡ true
order_formed c es t h = and_left _ _ (sym (order_parts c es t) ∙ h)

pub order_holds : (c : Committee) (es : List Entry) (t : List ℕ) → table_in_order c es t ≡ true → HoldsItems t
order_holds c es t h = (formed c t (order_formed c es t h)).holds

silent_stated : (telling : Bool) (n k : ℕ) (vs : List Event) (ev after : List ℕ) → StatedAt n (told telling vs) ev k after → telling ≡ false → after ≡ ev
unfolding words_of flatten
silent_stated true n k vs ev after s e = absurd (not_both refl e)
silent_stated false n k vs ev after s e = s.words

told_all : (c : Committee) (es : List Entry) (r : TransactionLocatorRange) (i : ℕ) (xs : List Item) (p : ℕ)
    → flatten (map (λ o. event_of c es r.block i o (item_at xs p o)) (offsets r)) ≡ events_between (total_stake c) es r.block i xs p r.start r.end
unfolding offsets events_between flatten
told_all c es r i xs p = go (count_from r.start (r.end - r.start))
  where
    go : (os : List ℕ) → flatten (map (λ o. event_of c es r.block i o (item_at xs p o)) os) ≡ flatten
        (map (λ o. told_at (total_stake c) es r.block i o (item_at xs p o)) os)
    go [] = refl
    go (o ∷ os) = rw (told_event c es r.block i o (item_at xs p o), go os)

module _ (c : Committee) (s rec : Bytes) (t : List ℕ) (total : Stake) (h : Voting c s rec t total) (r : TransactionLocatorRange) (i : ℕ) (telling : Bool)
    (n : ℕ) (ev : List ℕ)
    (p : ℕ) (at : p ≡ position_of (lookup (with_new s rec) r.block)) where
  abbrev pub es : List Entry
  es = with_new s rec

  abbrev pub a : AuthorityIndex
  a = author (block_in rec)

  abbrev pub cut : List Item
  cut = both_cuts p r.start r.end (items_of t)

  abbrev pub after_vote : List Item
  after_vote = vote_over c a p r.start r.end (items_of t)

  abbrev pub counted : Processing
  counted = vote c es a i (some r) (starting_with (items_of t))

  pub vote_stop : room t < length cut → (q : Processed) → q.fits ≡ false → VotesCounted counted telling n t ev q t ev
  unfolding vote
  vote_stop l q f =
      record {
        fits = f ∙ sym (lt-leb counted.most (room t) over);
        table = λ e. absurd (not_both e f);
        stated = λ e. absurd (not_both e f);
        silent = λ _. refl;
      }
    where
      over : room t < counted.most
      over = rw (← at) (omega arith)

  module _ (l : length cut ≤ room t) where
    lies : InOrder c es t
    lies = in_order_lem c es t h.table

    many : length after_vote ≡ length cut
    many = length_vote_over c a p r.start r.end (items_of t)

    pub vote_written : (u : List ℕ) → u ≡ table_of (length t) after_vote → Written u (length t) after_vote
    vote_written u e =
        written u (length t) after_vote e (omega (arith, room_fits c es t (length cut) lies l, many))
        (ordered_vote_over c a p r.start r.end (items_of t) lies.ordered)
        (every (λ x (q : Pending c es x). q.full) after_vote (pending_vote_over c es a h.author_known p r.start r.end (items_of t) lies.items))

    pub vote_done : (u v after : List ℕ) (k : ℕ) → u ≡ table_of (length t) after_vote
        → StatedAt n (told telling (events_between total es r.block i (items_of u) p r.start r.end)) ev k after
        → v ≡ table_of (length u) (keep (stays total p r.start r.end) (items_of u))
        → (q : Processed) → q.fits ≡ true → q.events ≡ k → VotesCounted counted telling n t ev q v after
    unfolding vote after_leaving
    vote_done u v after k e w m q f g =
        let z : Written u (length t) after_vote = vote_written u e in
        record {
          fits = f ∙ sym (le-leb counted.most (room t) within);
          table = λ _. m ∙ rw (z.long, z.items, h.stake, ← at) refl;
          stated = λ _. rw (g, ← at, told_all c es r i after_vote p, ← h.stake, ← z.items) w;
          silent = λ d. silent_stated telling n k _ ev after w d;
        }
      where
        within : counted.most ≤ room t
        within = rw (← at) (omega arith)

-- a statement that does not vote
pub vote_nothing : (c : Committee) (es : List Entry) (a : AuthorityIndex) (i : ℕ) (v : Option TransactionLocatorRange) (telling : Bool) (n : ℕ) (t ev : List ℕ)
    → v ≡ none → t ≡ table_of (length t) (items_of t) → (q : Processed) → q.fits ≡ true → q.events ≡ n
    → VotesCounted (vote c es a i v (starting_with (items_of t))) telling n t ev q t ev
unfolding vote
vote_nothing c es a i v telling n t ev e laid q f g =
    rw e (record {
      fits = f ∙ sym (le-leb 0 (room t) (omega arith));
      table = λ _. laid;
      stated = λ _. rw g (stated_none n (told telling []) ev (told_none telling));
      silent = λ _. refl;
    })
