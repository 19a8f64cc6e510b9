-- The words that one feed tells of. Assumes nothing.
use mathlib.Core.Path.{◌≡◌, refl, ap, ◌∙◌}
use mathlib.Core.Bool.{Bool, true, false}
use mathlib.Core.List.{◌∷◌, ◌++◌}
use mathlib.Core.Option.{Option, none, some}
use Prim.Native.Nat.{ℕ, ◌+◌, ◌*◌, ◌^◌, ◌≤◌, ◌<◌}
use native.Mathlib.Omega.{arith}
use lib.Dec.{ltb}
use lib.ListN.{length, drop, length-append, length-drop}
use lib.Seq.{drop_at}
use borrow.Author.Tests.{lt-ltb, le-ltb}
use Rattle.base.specs.Lists.{pick}
use Rattle.base.specs.Le.{Bytes}
use Rattle.base.specs.Checks.{refusal, passes}
use Rattle.committee.specs.Committee.{Committee}
use Rattle.store_spec.specs.Layout.{Record, read_record, entries}
use Rattle.store_spec.specs.Store.{records_of}
use Rattle.pending_spec.specs.Table.{items_of}
use Rattle.feed_spec.specs.ProcessBlock.{words_of}
use Rattle.feed_spec.specs.Feed.{Lent, Fed, processed, feed_checks, refused_feed, accepted_feed, feed_record, feed}
use Rattle.feed_spec.proofs.Keeping.{passed}
use Rattle.feed_spec.proofs.ProcessBlock.{events_process_block, length_words}
use Rattle.feed_many.specs.Records.{outcome_of, words_told}

-- what is told of a feed's events: they stand in the slice, which is as long as before and as it was past them, and the outcome tells their words
pub record Telling (m : Lent) (f : Fed) : Type 0 where
  pub inside : words_told f.answer ≤ length f.events
  pub kept : length f.events ≡ length m.events
  pub past : drop (words_told f.answer) f.events ≡ drop (words_told f.answer) m.events
  pub told : length m.events < 2 ^ 63 → pick (ltb (outcome_of f.answer) (2 ^ 63)) (3 * outcome_of f.answer) 0 ≡ words_told f.answer

pub telling_refused : (m : Lent) (n : ℕ) → Telling m (refused_feed m n)
unfolding refused_feed words_told outcome_of
telling_refused m n = record { inside = omega arith; kept = refl; past = refl; told = λ l. rw (le-ltb (2 ^ 63 + n) (2 ^ 63) (omega arith)) }

telling_accepted : (c : Committee) (m : Lent) (r : Record) → passes (feed_checks c m (some r)) ≡ true → Telling m (accepted_feed c m r)
unfolding accepted_feed words_told outcome_of
telling_accepted c m r p =
    record {
      inside = omega (arith, long, length_words (processed c m r).events);
      kept = omega (arith, long, length-drop (length (words_of (processed c m r).events)) m.events, length_words (processed c m r).events, room);
      past = drop_at (words_of (processed c m r).events) _ (3 * length (processed c m r).events) (length_words (processed c m r).events)
          ∙ ap (λ (k : ℕ). drop k m.events) (length_words (processed c m r).events);
      told = λ l. rw (lt-ltb (length (processed c m r).events) (2 ^ 63) (omega (arith, room, l)));
    }
  where
    long : length (words_of (processed c m r).events ++ drop (length (words_of (processed c m r).events)) m.events)
        ≡ length (words_of (processed c m r).events) + length (drop (length (words_of (processed c m r).events)) m.events)
    long = length-append (words_of (processed c m r).events) (drop (length (words_of (processed c m r).events)) m.events)

    room : 3 * length (processed c m r).events ≤ length m.events
    room = unfold processed in omega (arith, events_process_block c (entries (r ∷ records_of m.store)) r.block (items_of m.table), (passed c m r p).events)

pub telling : (c : Committee) (m : Lent) (bytes : Bytes) → Telling m (feed c m bytes)
unfolding feed feed_record
telling c m bytes = by (read_record bytes)
  where
    by : (o : Option Record) → Telling m (feed_record c m o)
    by none = telling_refused m _
    by (some r) = go (passes (feed_checks c m (some r))) refl
      where
        go : (t : Bool) → passes (feed_checks c m (some r)) ≡ t → Telling m (pick t (accepted_feed c m r) (refused_feed m (refusal (feed_checks c m (some r)))))
        go true p = telling_accepted c m r p
        go false p = telling_refused m _
