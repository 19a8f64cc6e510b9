-- One record fed, as it is told. Assumes nothing.
use Prim.Native.Nat.{ℕ, ◌*◌, ◌≤◌}
use mathlib.Core.Path.{◌≡◌, refl}
use mathlib.Core.Bool.{Bool, true, false}
use mathlib.Core.List.{List, ◌∷◌}
use mathlib.Core.Option.{Option, none, some}
use native.Mathlib.Omega.{arith}
use lib.ListN.{length, replicate}
use Rattle.base.specs.Lists.{pick}
use Rattle.base.specs.Le.{Bytes}
use Rattle.base.specs.Checks.{refusal, passes, refused, answered}
use Rattle.base.proofs.Checks.{refused_answered}
use Rattle.committee.specs.Committee.{Committee}
use Rattle.record_spec.specs.Block.{event_room}
use Rattle.store_spec.specs.Layout.{Record, read_record, entries}
use Rattle.store_spec.specs.Store.{records_of}
use Rattle.pending_spec.specs.Table.{items_of}
use Rattle.feed_spec.specs.Feed.{Lent, Fed, lent_of, processed, feed_checks, refused_feed, accepted_feed, feed_record, feed}
use Rattle.feed_spec.proofs.ProcessBlock.{events_process_block}
use Rattle.feed_spec.proofs.Keeping.{passed}
use Rattle.listing_spec.specs.Output.{framed, refused_with, accepted_with, left_by, fed_to, told_by, told}
use Rattle.listing_feed_steps.specs.declared.Fed as code
use Rattle.listing_feed_steps.specs.Steps.{feeding_of}

few_processed : (c : Committee) (m : Lent) (r : Record) → event_room r.block ≤ length m.events → 3 * length (processed c m r).events ≤ length m.events
unfolding processed
few_processed c m r h = omega (arith, events_process_block c (entries (r ∷ records_of m.store)) r.block (items_of m.table))

-- three words for each event were lent
pub few_events : (c : Committee) (m : Lent) (bytes : Bytes) (n : ℕ) → (feed c m bytes).answer ≡ answered n → 3 * n ≤ length m.events
unfolding feed feed_record refused_feed accepted_feed
few_events c m bytes n e = go (read_record bytes) e
  where
    taken : (r : Record) (t : Bool) → passes (feed_checks c m (some r)) ≡ t
        → (pick t (accepted_feed c m r) (refused_feed m (refusal (feed_checks c m (some r))))).answer ≡ answered n → 3 * n ≤ length m.events
    taken r true p h =
        let many : length (processed c m r).events ≡ n = cc in
        omega (arith, many, few_processed c m r (passed c m r p).events)
    taken r false p h = absurd (refused_answered {x = n} refl h)

    go : (o : Option Record) → (feed_record c m o).answer ≡ answered n → 3 * n ≤ length m.events
    go none h = absurd (refused_answered {x = n} refl h)
    go (some r) h = taken r (passes (feed_checks c m (some r))) refl h

module _ (c : Committee) (f : code.Fed) (s s' : Bytes) (t t' v' : List ℕ) (bytes : Bytes) where
  abbrev fed : Fed
  fed = feed c (lent_of s t (replicate 6145 0) (replicate 8192 0)) bytes

  module _ (store : s' ≡ fed.store) (table : t' ≡ fed.table) where
    pub told_refused : (n : ℕ) → refused n ≡ fed.answer → refused_with (feeding_of f s' t') n false ≡ told c (feeding_of f s t) (framed bytes)
    unfolding told told_by fed_to feeding_of left_by
    told_refused n e = rw (store, table, ← e)

    pub told_accepted : (n : ℕ) → answered n ≡ fed.answer → v' ≡ fed.events → accepted_with (feeding_of f s' t') v' n ≡ told c (feeding_of f s t) (framed bytes)
    unfolding told told_by fed_to feeding_of left_by
    told_accepted n e events = rw (store, table, events, ← e)
