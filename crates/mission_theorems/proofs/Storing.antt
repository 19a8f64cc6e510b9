-- After every list of feeds from fresh the store is in order and holds the accepted records. Assumes nothing.
use mathlib.Core.Path.{◌≡◌, ap, ◌∙◌}
use mathlib.Core.Bool.{true}
use mathlib.Core.List.{List, [], ◌∷◌, ◌++◌, map}
use mathlib.Core.Option.{some}
use Prim.Native.Nat.{◌+◌, ◌≤◌}
use native.Mathlib.Omega.{arith}
use lib.Dec.{lit<}
use lib.ListN.{length, length-append}
use Rattle.base.specs.Le.{Bytes}
use Rattle.base.specs.Checks.{passes}
use Rattle.base.proofs.Lists.{none_of}
use Rattle.committee.specs.Committee.{Committee}
use Rattle.store_spec.specs.Layout.{Record, read_record, used_by, layout}
use Rattle.store_spec.specs.Store.{records_of, store_in_order}
use Rattle.store_spec.specs.Claims.{FreshInOrder}
use Rattle.store_spec.proofs.Store.{length_layout, records_of_laid, read_record_some, Holding, accepting}
use Rattle.store_spec.proofs.Claimed.{fresh_in_order}
use Rattle.feed_spec.specs.Feed.{Lent, feed_checks, refused_feed, accepted_feed, feed}
use Rattle.feed_spec.proofs.Keeping.{Passed, passed}
use Rattle.mission_theorems.proofs.Feeds.{taken, feed_cases}
use Rattle.mission_theorems.specs.Feeds.{Feed, Engine, outcome, left, run, Accepted, accepted_in, accepted}

-- an accepted record, as the store holds it
abbrev pub as_record : Accepted → Record
as_record a = record { bytes = a.bytes; block = a.block }

-- a store in order that holds what was accepted
pub record StoreOf (c : Committee) (s : Bytes) (as' : List Accepted) : Type 0 where
  pub order : store_in_order c s ≡ true
  pub records : records_of s ≡ map as_record as'

small_layout : (past : Bytes) → 16 + length past ≤ 4294967295 → length (layout [] ++ past) ≤ 4294967295
unfolding used_by
small_layout past h = omega (arith, length-append (layout []) past, length_layout [])

fresh_order : (c : Committee) (past : Bytes) → 16 + length past ≤ 4294967295 → store_in_order c (layout [] ++ past) ≡ true
unfolding FreshInOrder
fresh_order c past h = fresh_in_order c past (small_layout past h)

pub fresh_holds : (c : Committee) (past : Bytes) → 16 + length past ≤ 4294967295 → StoreOf c (layout [] ++ past) []
unfolding used_by
fresh_holds c past h = record { order = fresh_order c past h; records = records_of_laid [] past none_of (lit< tt) (lit< tt) }

-- one feed: an accepted record is held with the others, a refused one changes nothing
pub feed_holds : (c : Committee) (m : Lent) (bytes : Bytes) (as' : List Accepted) → StoreOf c m.store as'
    → StoreOf c (feed c m bytes).store (accepted_in (read_record bytes) (feed c m bytes).answer (feed c m bytes).events ++ as')
unfolding refused_feed accepted_feed
feed_holds c m bytes as' h = feed_cases c m bytes (λ o as''. StoreOf c o.store (as'' ++ as')) (λ n. h) held
  where
    held : (r : Record) → read_record bytes ≡ some r → passes (feed_checks c m (some r)) ≡ true → StoreOf c (accepted_feed c m r).store (taken c m r ∷ as')
    held r e p =
        let a : Passed c m r = passed c m r p in
        let k : Holding c (r ∷ records_of m.store) m.store = accepting c m.store r h.order (read_record_some bytes r e) a.block a.stored in
        record { order = k.order; records = k.records ∙ ap {B = List Record} (λ rs. r ∷ rs) h.records }

-- a list of feeds
pub run_holds : (c : Committee) (g : Engine) (fs : List Feed) → StoreOf c g.store [] → StoreOf c (run c g fs).store (accepted c g fs)
unfolding run accepted outcome left
run_holds c g [] h = h
run_holds c g (f ∷ fs) h =
    feed_holds c (record { store = (run c g fs).store; table = (run c g fs).table; work = f.work; events = f.events }) f.bytes (accepted c g fs)
    (run_holds c g fs h)
