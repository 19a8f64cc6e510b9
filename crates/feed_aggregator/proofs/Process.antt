-- A block's shares and votes, as the code counts them. Assumes nothing.
use mathlib.Core.Path.{◌≡◌, refl, sym, ◌∙◌}
use mathlib.Core.Bool.{Bool, true, false}
use mathlib.Core.List.{List, [], ◌∷◌}
use mathlib.Core.Option.{Option, none, some}
use Prim.Native.Nat.{ℕ, ◌+◌, ◌*◌, ◌≤◌, max}
use native.Mathlib.Decide.{dec_le}
use native.Mathlib.Omega.{arith}
use lib.Dec.{leb}
use lib.ListN.{length}
use borrow.Author.Tests.{leb-true, leb-false, le-leb, lt-leb, lt-ltb}
use Rattle.base.specs.Le.{Bytes}
use Rattle.base.proofs.Tests.{not_both}
use Rattle.base.proofs.Lists.{every, every_all, pairs_pairwise}
use Rattle.committee.specs.Committee.{AuthorityIndex, Committee, Stake, total_stake}
use Rattle.record_spec.specs.Reference.{TransactionLocatorRange}
use Rattle.record_spec.specs.Block.{Statement, author, voted_range, shared_ranges}
use Rattle.record_spec.specs.Record.{block_in}
use Rattle.store_spec.specs.Layout.{Entry, entries, used_by, position_of}
use Rattle.store_spec.specs.Store.{records_of, record_in}
use Rattle.store_spec.proofs.Accepted.{known_author, accepted_new}
use Rattle.store_spec.proofs.Store.{entries_below}
use Rattle.pending_spec.specs.Items.{Item, item_before, item_full, register}
use Rattle.pending_spec.specs.Table.{items_of, room}
use Rattle.pending_spec.proofs.Order.{Pending, InOrder, in_order_lem, order_table_of, room_fits}
use Rattle.pending_spec.proofs.Table.{items_of_table_of, length_table_of}
use Rattle.feed_spec.specs.ProcessBlock.{Processing, vote, votes, registering, process_block}
use Rattle.feed_missed.specs.Kinds.{with_new}
use Rattle.feed_counted_vote.specs.Vote.{starting_with, Voting, VotesCounted}
use Rattle.feed_aggregator.specs.Step.{Orderly, Registered, Feeding}
use Rattle.feed_counted_vote.specs.declared.Processed.{Processed}
use Rattle.feed_spec.proofs.ProcessBlock.{lookup_new, Sound, sound_registered}
use Rattle.feed_aggregator.proofs.Counting.{votes_grow}

-- ---- the same items and events, but for how many there were at most
pub record Alike (m : ℕ) (z y : Processing) : Type 0 where
  pub items : z.items ≡ y.items
  pub events : z.events ≡ y.events
  pub most : z.most ≡ max m y.most

module _ (c : Committee) (es : List Entry) (a : AuthorityIndex) (m : ℕ) where
  alike_vote : (i : ℕ) (r : Option TransactionLocatorRange) (z y : Processing) → Alike m z y → Alike m (vote c es a i r z) (vote c es a i r y)
  unfolding vote
  alike_vote i none z y h = h
  alike_vote i (some r) z y h = record { items = rw h.items; events = rw (h.items, h.events); most = rw h.items (omega (arith, h.most)) }

  alike_votes : (i : ℕ) (ss : List Statement) (z y : Processing) → Alike m z y → Alike m (votes c es a i ss z) (votes c es a i ss y)
  unfolding votes
  alike_votes i [] z y h = h
  alike_votes i (s ∷ ss) z y h = alike_votes (i + 1) ss _ _ (alike_vote i (voted_range s) z y h)

module _ (c : Committee) (s rec : Bytes) (t : List ℕ) (h : Feeding c s rec t) where
  new : Entry
  new = record { position = used_by (records_of s); bytes = rec; block = block_in rec }

  with_new_lem : with_new s rec ≡ new ∷ entries (records_of s)
  unfolding entries record_in new
  with_new_lem = refl

  -- the items with those of the block's shares
  abbrev pub added : List Item
  added = register c (author (block_in rec)) (used_by (records_of s)) (shared_ranges (block_in rec)) (items_of t)

  lies : InOrder c (entries (records_of s)) t
  lies = in_order_lem c (entries (records_of s)) t h.table

  sound : Sound c (with_new s rec) (registering c (with_new s rec) (block_in rec) (items_of t))
  unfolding new
  sound = rw with_new_lem (sound_registered c (entries (records_of s)) new (entries_below (records_of s))
      (known_author c (records_of s) (block_in rec) h.checks)
      (items_of t) lies.ordered lies.items)

  registers : registering c (with_new s rec) (block_in rec) (items_of t) ≡ record { items = added; events = []; most = length added }
  unfolding registering position_of new
  registers = rw (with_new_lem, lookup_new (entries (records_of s)) new)

  sound_added : Sound c (with_new s rec) (record { items = added; events = []; most = length added })
  sound_added = rw registers at sound

  pub added_orderly : Orderly added
  unfolding item_full
  added_orderly =
      record {
        ordered = pairs_pairwise item_before added sound_added.ordered;
        full = every_all item_full added (every (λ x (p : Pending c (with_new s rec) x). lt-ltb x.start x.end p.full) added sound_added.pending);
      }

  module _ (telling : Bool) (ev : List ℕ) where
    abbrev pub done : Processing
    done = process_block c (with_new s rec) (block_in rec) (items_of t)

    many : length added ≤ done.most
    unfolding process_block
    many = rw registers (votes_grow c (with_new s rec) (author (block_in rec)) 0 (block_in rec).statements
        (record { items = added; events = []; most = length added }))

    pub process_stop : (u : List ℕ) → Registered added t false u → (q : Processed) → q.fits ≡ false → VotesCounted done telling 0 t ev q u ev
    process_stop u r q f =
        record {
          fits = f ∙ sym (lt-leb done.most (room t) (omega (arith, leb-false (length added) (room t) (sym r.fits), many)));
          table = λ e. absurd (not_both e f);
          stated = λ e. absurd (not_both e f);
          silent = λ _. refl;
        }

    module _ (u : List ℕ) (b : Bool) (y : b ≡ true) (r : Registered added t b u) where
      few : length added ≤ room t
      few = leb-true _ _ (sym r.fits ∙ y)

      fits : 1 + 6 * length added ≤ length t
      fits = room_fits c (entries (records_of s)) t (length added) lies few

      pub process_voting : (total : Stake) → total ≡ total_stake c → Voting c s rec u total
      process_voting total e =
          record {
            committee = h.committee;
            stake = e;
            store = h.store;
            formed = h.formed;
            new = accepted_new c (records_of s) (block_in rec) h.checks;
            author_known = known_author c (records_of s) (block_in rec) h.checks;
            table = rw (r.table y) (order_table_of c (with_new s rec) (length t) added fits sound_added.ordered sound_added.pending);
          }

      long : length u ≡ length t
      long = rw (r.table y) (length_table_of (length t) added fits)

      same_room : room u ≡ room t
      unfolding room
      same_room = rw long

      items : items_of u ≡ added
      items = rw (r.table y) (items_of_table_of (length t) added)

      abbrev pub counted : Processing
      counted = votes c (with_new s rec) (author (block_in rec)) 0 (block_in rec).statements (starting_with (items_of u))

      alike : Alike (length added) done counted
      unfolding process_block
      alike =
          rw (registers, items)
          (alike_votes c (with_new s rec) (author (block_in rec)) (length added) 0 (block_in rec).statements
          (record { items = added; events = []; most = length added }) (starting_with added)
          (record { items = refl; events = refl; most = omega arith }))

      same_fits : leb counted.most (room u) ≡ leb done.most (room t)
      same_fits = rw same_room (go (dec_le counted.most (room t)))
        where
          go : Dec (counted.most ≤ room t) → leb counted.most (room t) ≡ leb done.most (room t)
          go (yes k) = le-leb _ _ k ∙ sym (le-leb done.most (room t) (omega (arith, alike.most, few)))
          go (no k) = lt-leb counted.most (room t) (omega arith) ∙ sym (lt-leb done.most (room t) (omega (arith, alike.most)))

      pub process_done : (q : Processed) (v after : List ℕ) → VotesCounted counted telling 0 u ev q v after → VotesCounted done telling 0 t ev q v after
      process_done q v after w =
          record {
            fits = w.fits ∙ same_fits;
            table = λ e. w.table e ∙ rw (long, alike.items) refl;
            stated = λ e. rw alike.events (w.stated e);
            silent = w.silent;
          }
