-- Feeds with the index: how large a refusal's number is, and that no answer reads the work slice. Assumes nothing.
use mathlib.Core.Path.{◌≡◌}
use mathlib.Core.Bool.{Bool, true, false}
use mathlib.Core.List.{List}
use mathlib.Core.Option.{Option, none, some}
use Prim.Native.Nat.{ℕ, ◌<◌}
use native.Mathlib.Omega.{arith}
use lib.Dec.{lit<}
use lib.ListN.{length}
use Rattle.base.specs.Lists.{pick}
use Rattle.base.specs.Le.{Bytes}
use Rattle.base.specs.Checks.{Check, refusal, passes, refused}
use Rattle.base.proofs.Lists.{none_of, and, every, every_append}
use Rattle.committee.specs.Committee.{Committee}
use Rattle.store_spec.specs.Layout.{Record, read_record}
use Rattle.feed_spec.specs.Pending.{pending_checks}
use Rattle.feed_spec.specs.Feed.{Lent, lent_of, processed, record_checks, refused_feed, accepted_feed}
use Rattle.index_feed_spec.specs.IndexedFeed.{indexed_lent_checks, room_checks, indexed_checks, refused_indexed, accepted_indexed, feed_indexed_record}
use Rattle.index_feed_spec.specs.IndexedFeed.{feed_indexed}
use Rattle.host_feed_bytes.proofs.Feeds.{Below, below, record-ordinary}

-- ---- the numbers are below 56

pub ordinary : (ks : List Check) → Below 31 ks → Below 56 ks
ordinary ks h = every (λ k l. (l.0, omega (arith, l.1))) ks h

room_below : (m : Lent) (ix : List ℕ) (o : Option Record) → Below 56 (room_checks m ix o)
unfolding room_checks
room_below m ix none = none_of
room_below m ix (some r) = and (lit< tt, lit< tt) none_of

checks_below : (c : Committee) (m : Lent) (ix : List ℕ) (o : Option Record) → Below 56 (indexed_checks c m ix o)
unfolding indexed_checks indexed_lent_checks pending_checks
checks_below c m ix o =
    and (lit< tt, lit< tt) (and (lit< tt, lit< tt) (and (lit< tt, lit< tt) (and (lit< tt, lit< tt) (and (lit< tt, lit< tt)
    (every_append (record_checks c m o) _ (ordinary _ (record-ordinary c m o)) (room_below m ix o))))))

pub feed_below : (c : Committee) (m : Lent) (ix : List ℕ) (rec : Bytes) (n : ℕ) → (feed_indexed c m ix rec).fed.answer ≡ refused n → n < 56
unfolding feed_indexed feed_indexed_record refused_indexed accepted_indexed refused_feed accepted_feed
feed_below c m ix rec n e = by (read_record rec) e
  where
    by : (o : Option Record) → (feed_indexed_record c m ix o).fed.answer ≡ refused n → n < 56
    by none e = let z : refusal (indexed_checks c m ix none)
        ≡ n = cc in omega (arith, below 56 (lit< tt) (indexed_checks c m ix none) (checks_below c m ix none))
    by (some r) e = go (passes (indexed_checks c m ix (some r))) e
      where
        go : (t : Bool) → (pick t (accepted_indexed c m ix r) (refused_indexed m ix (refusal (indexed_checks c m ix (some r))))).fed.answer ≡ refused n → n < 56
        go true e = let z : ◌≡◌ {A = ℕ} 0 1 = cc in absurd (omega arith)
        go false e = let z : refusal (indexed_checks c m ix (some r)) ≡ n = cc in omega
            (arith, below 56 (lit< tt) (indexed_checks c m ix (some r)) (checks_below c m ix (some r)))

-- ---- the work slice: no answer reads it

pub work_free : (c : Committee) (s : Bytes) (t w u v ix : List ℕ) (rec : Bytes) → length w ≡ length u → feed_indexed c (lent_of s t w v) ix rec ≡ feed_indexed c
    (lent_of s t u v) ix rec
unfolding feed_indexed feed_indexed_record indexed_checks room_checks record_checks processed refused_indexed accepted_indexed refused_feed accepted_feed
work_free c s t w u v ix rec e = by (read_record rec)
  where
    by : (o : Option Record) → feed_indexed_record c (lent_of s t w v) ix o ≡ feed_indexed_record c (lent_of s t u v) ix o
    by none = rw e
    by (some r) = rw e
