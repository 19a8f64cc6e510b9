-- One feed, by cases: refused, or accepted with the record, its block and its events. Assumes nothing.
use mathlib.Core.Path.{◌≡◌, refl, sym, ap, subst}
use mathlib.Core.Bool.{Bool, true, false}
use mathlib.Core.List.{List, [], ◌∷◌, ◌++◌, flatten}
use mathlib.Core.Option.{Option, none, some}
use Prim.Native.Nat.{ℕ}
use lib.ListN.{length, drop}
use Rattle.base.specs.Lists.{pick}
use Rattle.base.specs.Le.{Bytes}
use Rattle.base.specs.Checks.{refusal, passes}
use Rattle.committee.specs.Committee.{Committee}
use Rattle.store_spec.specs.Layout.{Record, read_record}
use Rattle.feed_spec.specs.ProcessBlock.{Event, event_words, words_of}
use Rattle.feed_spec.specs.Feed.{Lent, Fed, processed, feed_checks, refused_feed, accepted_feed, feed_record, feed}
use Rattle.mission_theorems.specs.Feeds.{Accepted, events_in, accepted_in}

-- events are read back from their words
events_back : (vs : List Event) (rest : List ℕ) → events_in (length vs) (words_of vs ++ rest) ≡ vs
unfolding events_in words_of flatten event_words
events_back [] rest = refl
events_back (v ∷ vs) rest = ap {B = List Event} (λ ws. v ∷ ws) (events_back vs rest)

-- an accepted record
abbrev pub taken : Committee → Lent → Record → Accepted
taken c m r = record { bytes = r.bytes; block = r.block; events = (processed c m r).events }

-- what holds of every refusal, with nothing accepted, and of every record that passes the checks holds of the feed
pub feed_cases : (c : Committee) (m : Lent) (bytes : Bytes) (P : Fed → List Accepted → Type 0) → ((n : ℕ) → P (refused_feed m n) [])
    → ((r : Record) → read_record bytes ≡ some r → passes (feed_checks c m (some r)) ≡ true → P (accepted_feed c m r) (taken c m r ∷ []))
    → P (feed c m bytes) (accepted_in (read_record bytes) (feed c m bytes).answer (feed c m bytes).events)
unfolding feed feed_record accepted_in refused_feed accepted_feed
feed_cases c m bytes P kept took = go (read_record bytes) refl
  where
    go : (o : Option Record) → read_record bytes ≡ o → P (feed_record c m o) (accepted_in o (feed_record c m o).answer (feed_record c m o).events)
    go none e = kept _
    go (some r) e = by_checks (passes (feed_checks c m (some r))) refl
      where
        vs : List Event
        vs = (processed c m r).events

        fed : Bool → Fed
        fed t = pick t (accepted_feed c m r) (refused_feed m (refusal (feed_checks c m (some r))))

        by_checks : (t : Bool) → passes (feed_checks c m (some r)) ≡ t → P (fed t) (accepted_in (some r) (fed t).answer (fed t).events)
        by_checks false p = kept _
        by_checks true p =
            subst (λ (ws : List Event). P (accepted_feed c m r) (record { bytes = r.bytes; block = r.block; events = ws } ∷ []))
            (sym (events_back vs (drop (length (words_of vs)) m.events))) (took r e p)
