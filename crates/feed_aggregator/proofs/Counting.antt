-- Votes counted statement by statement, and runs of shares registered one by one. Assumes nothing.
use mathlib.Core.Path.{◌≡◌, refl, sym, ap, ◌∙◌, subst}
use mathlib.Core.Bool.{Bool, true, false}
use mathlib.Core.List.{List, [], ◌∷◌, ◌++◌, append-nil}
use mathlib.Core.Option.{Option, none, some}
use Prim.Native.Nat.{ℕ, ◌+◌, ◌*◌, ◌≤◌, ◌<◌}
use native.Mathlib.Numerals.{add-one}
use native.Mathlib.Omega.{arith}
use lib.ListN.{length, get_or, drop, drop_of_length-le}
use lib.Seq.{drop-cons}
use borrow.Author.Tests.{leb-true, leb-false, le-leb, lt-leb}
use Rattle.base.proofs.Lists.{Every}
use Rattle.base.proofs.Tests.{not_both}
use Rattle.committee.specs.Committee.{AuthorityIndex, Committee, known}
use Rattle.record_spec.specs.Reference.{TransactionLocatorRange}
use Rattle.record_spec.specs.Block.{Statement, voted_range, counted_offsets}
use Rattle.record_spec.specs.Record.{no_statement}
use Rattle.record_shared_ranges.proofs.Walk.{offsets_counted, counted_on}
use Rattle.store_spec.specs.Layout.{Entry}
use Rattle.pending_spec.specs.Items.{Item}
use Rattle.pending_spec.specs.Table.{table_of, items_of, room, table_in_order}
use Rattle.pending_spec.proofs.Items.{Ordered}
use Rattle.pending_words.proofs.Slots.{table_holding}
use Rattle.pending_spec.proofs.Order.{Pending, InOrder, in_order_lem, order_table_of, room_fits}
use Rattle.pending_spec.proofs.Table.{items_of_table_of, length_table_of}
use Rattle.feed_spec.specs.ProcessBlock.{Event, Processing, vote, votes}
use Rattle.feed_events.specs.Step.{StatedAt, told}
use Rattle.feed_counted_vote.specs.Vote.{starting_with, VotesCounted}
use Rattle.feed_counted_vote.specs.declared.Processed.{Processed}
use Rattle.feed_spec.proofs.ProcessBlock.{Sound, sound_vote, events_vote}
use Rattle.feed_events.proofs.Announced.{told_none, stated_none, stated_on}

-- ---- a vote, from the items alone

module _ (c : Committee) (es : List Entry) (a : AuthorityIndex) (i : ℕ) where
  vote_items : (r : Option TransactionLocatorRange) (z y : Processing) → z.items ≡ y.items → (vote c es a i r z).items ≡ (vote c es a i r y).items
  unfolding vote
  vote_items none z y e = e
  vote_items (some r) z y e = rw e

  vote_events : (r : Option TransactionLocatorRange) (z : Processing) → (vote c es a i r z).events ≡ z.events ++ (vote c es a i r (starting_with z.items)
      ).events
  unfolding vote
  vote_events none z = sym (append-nil z.events)
  vote_events (some r) z = refl

  vote_few : (r : Option TransactionLocatorRange) (z : Processing) (m : ℕ) → z.most ≤ m → (vote c es a i r (starting_with z.items)).most ≤ m → (vote c es a i
      r z).most ≤ m
  unfolding vote
  vote_few none z m h l = h
  vote_few (some r) z m h l = omega arith

  vote_many : (r : Option TransactionLocatorRange) (z : Processing) → (vote c es a i r (starting_with z.items)).most ≤ (vote c es a i r z).most
  unfolding vote
  vote_many none z = omega arith
  vote_many (some r) z = omega arith

  vote_grows : (r : Option TransactionLocatorRange) (z : Processing) → z.most ≤ (vote c es a i r z).most
  unfolding vote
  vote_grows none z = omega arith
  vote_grows (some r) z = omega arith

pub votes_grow : (c : Committee) (es : List Entry) (a : AuthorityIndex) (i : ℕ) (ss : List Statement) (z : Processing) → z.most ≤ (votes c es a i ss z).most
unfolding votes
votes_grow c es a i [] z = omega arith
votes_grow c es a i (s ∷ ss) z = omega (arith, vote_grows c es a i (voted_range s) z, votes_grow c es a (i + 1) ss (vote c es a i (voted_range s) z))

told_append : (telling : Bool) (vs ws : List Event) → told telling (vs ++ ws) ≡ told telling vs ++ told telling ws
told_append true vs ws = refl
told_append false vs ws = refl

told_few : (telling : Bool) (vs : List Event) → length (told telling vs) ≤ length vs
told_few true vs = omega arith
told_few false vs = omega arith

-- ---- the statements up to i are counted

module _ (c : Committee) (es : List Entry) (a : AuthorityIndex) (ss : List Statement) (telling : Bool) (t ev : List ℕ) where
  abbrev pub all : Processing
  all = votes c es a 0 ss (starting_with (items_of t))

  pub record Counting (i : ℕ) (u : List ℕ) (now : List ℕ) (k : ℕ) : Type 0 where
    pub z : Processing
    pub ordered : Ordered z.items
    pub pending : Every (Pending c es) z.items
    pub held : length z.items ≤ room t
    pub few : z.most ≤ room t
    pub rest : votes c es a i (drop i ss) z ≡ all
    pub table : u ≡ table_of (length t) z.items
    pub stated : StatedAt 0 (told telling z.events) ev k now
    pub silent : telling ≡ false → now ≡ ev
    pub enough : telling ≡ true → 3 * (k + offsets_counted (drop i ss)) ≤ length ev

  module _ (known_author : known c a ≡ true) (order : table_in_order c es t ≡ true) where
    lies : InOrder c es t
    lies = in_order_lem c es t order

    pub counting_start : (telling ≡ true → 3 * offsets_counted ss ≤ length ev) → Counting 0 t ev 0
    unfolding room
    counting_start h =
        record {
          z = starting_with (items_of t);
          ordered = lies.ordered;
          pending = lies.items;
          held = holds_few;
          few = omega arith;
          rest = refl;
          table = lies.laid;
          stated = stated_none 0 (told telling []) ev (told_none telling);
          silent = λ _. refl;
          enough = λ e. omega (arith, h e);
        }
      where
        holds_few : length (items_of t) ≤ room t
        holds_few = omega (arith, (table_holding t (items_of t) lies.laid).fits)

    module _ (i : ℕ) (u now : List ℕ) (k : ℕ) (h : Counting i u now k) where
      fits : 1 + 6 * length h.z.items ≤ length t
      fits = room_fits c es t (length h.z.items) lies h.held

      pub counting_long : length u ≡ length t
      counting_long = rw h.table (length_table_of (length t) h.z.items fits)

      pub counting_order : table_in_order c es u ≡ true
      counting_order = rw h.table (order_table_of c es (length t) h.z.items fits h.ordered h.pending)

      items : items_of u ≡ h.z.items
      items = rw h.table (items_of_table_of (length t) h.z.items)

      same_room : room u ≡ room t
      unfolding room
      same_room = rw counting_long

      module _ (s : Statement) (l : i < length ss) (e : s ≡ get_or ss i no_statement) (r : Processed) (v after : List ℕ)
          (w : VotesCounted (vote c es a i (voted_range s) (starting_with (items_of u))) telling k u now r v after) where
        next : Processing
        next = vote c es a i (voted_range s) h.z

        onward : votes c es a (i + 1) (drop (i + 1) ss) next ≡ all
        unfolding votes next
        onward = subst (λ (xs : List Statement). votes c es a i xs h.z ≡ all) (drop_next ∙ ap (λ (x : Statement). x ∷ drop (i + 1) ss) (sym e)) h.rest
          where
            drop_next : drop i ss ≡ get_or ss i no_statement ∷ drop (i + 1) ss
            drop_next = rw (add-one) (drop-cons ss i no_statement l)

        own : Processing
        own = vote c es a i (voted_range s) (starting_with h.z.items)

        own_is : vote c es a i (voted_range s) (starting_with (items_of u)) ≡ own
        unfolding own
        own_is = rw items

        sound : Sound c es (vote c es a i (voted_range s) (record { items = h.z.items; events = []; most = length h.z.items }))
        sound = sound_vote c es a known_author i (voted_range s) _ (record { ordered = h.ordered; pending = h.pending; few = omega arith })

        same_items : (vote c es a i (voted_range s) (record { items = h.z.items; events = []; most = length h.z.items })).items ≡ next.items
        unfolding next
        same_items = vote_items c es a i (voted_range s) _ _ refl

        pub counting_on : r.fits ≡ true → Counting (i + 1) v after r.events
        unfolding next own
        counting_on f =
            record {
              z = next;
              ordered = rw same_items at sound.ordered;
              pending = rw same_items at sound.pending;
              held = omega (
                arith,
                ap (λ (xs : List Item). length xs) same_items,
                sound.few,
                vote_few c es a i (voted_range s)
                    (record { items = h.z.items; events = []; most = length h.z.items }) (room t) h.held few_own,
              );
              few = vote_few c es a i (voted_range s) h.z (room t) h.few few_own;
              rest = onward;
              table = rw (own_is, counting_long, vote_items c es a i (voted_range s) (starting_with h.z.items) h.z refl) at (w.table f);
              stated = rw (vote_events c es a i (voted_range s) h.z, told_append telling h.z.events own.events)
                  (stated_on 0 k r.events _ _ ev now after h.stated told_own);
              silent = λ q. w.silent q ∙ h.silent q;
              enough = λ q. omega (
                arith,
                h.enough q,
                told_own.many,
                told_few telling own.events,
                events_vote c es a i (voted_range s)
                    (starting_with h.z.items),
                counted_on ss i l,
                ap (λ (x : Statement). counted_offsets (voted_range x)) e,
              );
            }
          where
            few_own : own.most ≤ room t
            few_own = leb-true _ _ (rw (← same_room) (rw own_is at (sym w.fits ∙ f)))

            told_own : StatedAt k (told telling own.events) now r.events after
            told_own = rw own_is at (w.stated f)

        pub counting_stop : r.fits ≡ false → VotesCounted all telling 0 t ev r v after
        unfolding own next
        counting_stop f =
            record {
              fits = f ∙ sym (lt-leb _ _ too_many);
              table = λ q. absurd (not_both q f);
              stated = λ q. absurd (not_both q f);
              silent = λ q. w.silent q ∙ h.silent q;
            }
          where
            over : room t < own.most
            over = leb-false _ _ (rw (← same_room) (rw own_is at (sym w.fits ∙ f)))

            too_many : room t < all.most
            too_many = omega (
              arith,
              over,
              vote_many c es a i (voted_range s) h.z,
              votes_grow c es a (i + 1) (drop (i + 1) ss) next,
              ap
                  (λ (x : Processing). x.most) onward,
            )

      pub counting_end : length ss ≤ i → (r : Processed) → r.fits ≡ true → r.events ≡ k → VotesCounted all telling 0 t ev r u now
      unfolding votes
      counting_end l r f n =
          record {
            fits = f ∙ sym (le-leb _ _ (rw (ap (λ (x : Processing). x.most) done) at h.few));
            table = λ _. rw (ap (λ (x : Processing). x.items) done) at h.table;
            stated = λ _. rw (n, ← ap (λ (x : Processing). x.events) done) h.stated;
            silent = h.silent;
          }
        where
          done : h.z ≡ all
          done = rw (drop_of_length-le ss l) at h.rest
