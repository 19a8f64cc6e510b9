-- Each event is processed, late or unknown by what is stored. Assumes nothing.
use mathlib.Core.Path.{◌≡◌, refl, sym, ap, subst, ◌∙◌}
use mathlib.Core.Logic.{◌⊎◌, inl, inr}
use mathlib.Core.Bool.{Bool, true, false}
use mathlib.Core.List.{List, [], ◌∷◌, ◌++◌, map}
use mathlib.Core.Option.{some}
use Prim.Native.Nat.{ℕ}
use native.Mathlib.Omega.{arith}
use Rattle.base.specs.Lists.{pick, ◌∈◌}
use Rattle.base.specs.Le.{Bytes}
use Rattle.base.specs.Checks.{passes}
use Rattle.base.proofs.Tests.{not_both}
use Rattle.base.proofs.Members.{in_map}
use Rattle.committee.specs.Committee.{Committee}
use Rattle.record_spec.specs.Reference.{TransactionLocator, locator}
use Rattle.record_spec.specs.Block.{Block}
use Rattle.store_spec.specs.Layout.{Record, Entry, read_record, entries, blocks_at}
use Rattle.store_spec.specs.Store.{records_of}
use Rattle.store_spec.specs.Shares.{is_stored_share, StoredShare}
use Rattle.store_spec.proofs.Shares.{stored_share, share_stored}
use Rattle.feed_spec.specs.ProcessBlock.{Event, missed}
use Rattle.feed_spec.specs.Feed.{Lent, feed_checks, processed, feed}
use Rattle.feed_spec.proofs.Events.{Shared, Source, processed_source}
use Rattle.mission_theorems.specs.Feeds.{Feed, Engine, fresh, outcome, left, run, Accepted, accepted_in, accepted, stored_blocks}
use Rattle.mission_theorems.specs.ThirdStatement.{Start, accepted_of}
use Rattle.mission_theorems.proofs.Feeds.{taken, feed_cases}
use Rattle.mission_theorems.proofs.Storing.{as_record, StoreOf, fresh_holds, run_holds}
use Rattle.engine_theorems.specs.Events.{Says, processed as is-processed, late, unknown, Means, EventsMean}

-- the blocks of entries are those of the records
blocks_entered : (as' : List Accepted) → blocks_at (entries (map as_record as')) ≡ stored_blocks as'
unfolding entries stored_blocks
blocks_entered [] = refl
blocks_entered (a ∷ as') = ap {B = List Block} (λ bs. a.block ∷ bs) (blocks_entered as')

-- the kind that an event without an item is told as
says_missed : (es : List Entry) (l : TransactionLocator) → Says (blocks_at es) l (missed es l.block l.offset)
unfolding missed locator
says_missed es l = go (is_stored_share (blocks_at es) l) refl
  where
    go : (t : Bool) → is_stored_share (blocks_at es) l ≡ t → Says (blocks_at es) l (pick t 2 3)
    go true e = late (stored_share (blocks_at es) l e)
    go false e = unknown (λ h. not_both (share_stored (blocks_at es) l h) e)

event_means : (es : List Entry) (b : Block) (v : Event) → Source es 0 b.statements v → Means (blocks_at es) b v
unfolding locator
event_means es b v u =
    let n : u.index ≡ v.statement = omega (arith, u.told) in
    record {
      statement = u.statement;
      stands = rw (← n) u.stands;
      range = u.range;
      votes = u.votes;
      from = u.within.0;
      below = u.within.1;
      says = go u.missing;
    }
  where
    l : TransactionLocator
    l = locator u.range.block v.offset

    share : Shared es u.range.block v.offset → StoredShare (blocks_at es) l
    share h = record { block = h.entry.block; stored = in_map (λ (e : Entry). e.block) h.stands; named = h.same; shared = h.share }

    go : (v.kind ≡ 1) ⊎ (v.kind ≡ missed es u.range.block v.offset) → Says (blocks_at es) l v.kind
    go (inl e) = rw e (is-processed (share (u.processed e)))
    go (inr e) = rw e (says_missed es l)

-- one feed
events_feed : (c : Committee) (m : Lent) (bytes : Bytes) (as' : List Accepted) → StoreOf c m.store as' → EventsMean as'
    → EventsMean (accepted_in (read_record bytes) (feed c m bytes).answer (feed c m bytes).events ++ as')
unfolding EventsMean
events_feed c m bytes as' h means = feed_cases c m bytes (λ o as''. EventsMean (as'' ++ as')) (λ n. means) more
  where
    more : (r : Record) → read_record bytes ≡ some r → passes (feed_checks c m (some r)) ≡ true → EventsMean (taken c m r ∷ as')
    more r e p = (told, means)
      where
        told : (v : Event) → v ∈ (processed c m r).events → Means (stored_blocks (taken c m r ∷ as')) r.block v
        told v i =
            subst (λ (bs : List Block). Means bs r.block v)
            (ap (λ (rs : List Record). blocks_at (entries (r ∷ rs))) h.records ∙ blocks_entered (taken c m r ∷ as'))
            (event_means (entries (r ∷ records_of m.store)) r.block v (processed_source c m r p v i))

-- a list of feeds
events_run : (c : Committee) (g : Engine) (fs : List Feed) → StoreOf c g.store [] → EventsMean (accepted c g fs)
unfolding run accepted outcome left EventsMean
events_run c g [] h = tt
events_run c g (f ∷ fs) h =
    events_feed c (record { store = (run c g fs).store; table = (run c g fs).table; work = f.work; events = f.events }) f.bytes (accepted c g fs)
    (run_holds c g fs h) (events_run c g fs h)

pub events_mean : (c : Committee) (t : Start) → EventsMean (accepted_of c t)
unfolding accepted_of fresh
events_mean c t = events_run c (fresh t.past t.words) t.feeds (fresh_holds c t.past t.allowed)
