-- An engine as a host holds it, in bytes, that was fed a list of records from fresh. Assumes nothing: these are definitions.
-- Feeds, and what was accepted, are listed THE LAST FIRST, as in promises.
use Rattle.std.specs.Prelude.{◌+◌, ◌≤◌, ◌≡◌, true, List, [], ◌∷◌, ◌++◌, length, replicate}
use Rattle.base.specs.Le.{Bytes}
use Rattle.record_spec.specs.Claims.{are_bytes}
use Rattle.store_spec.specs.Layout.{read_record, layout}
use Rattle.words.specs.Words.{words_of}
use Rattle.mission_theorems.specs.Feeds.{Accepted, accepted_in}
use Rattle.host_feed_bytes.specs.Feed.{FeedCall, feed_call}

-- a record that the host sends, and the bytes that it lends for events
pub record ByteFeed : Type 0 where
  pub bytes : Bytes
  pub events : Bytes
  pub sent : are_bytes bytes ≡ true
  pub lent : are_bytes events ≡ true

-- what goes from one call to the next
pub record ByteEngine : Type 0 where
  pub store : Bytes
  pub table : Bytes

-- 01: "It starts from a fresh store and a table of zeros": 16 bytes in order and any bytes past them; 6,145 words
unfoldable pub fresh_bytes : Bytes → ByteEngine
fresh_bytes past = record { store = layout [] ++ past; table = replicate 49160 0 }

-- what `lomkhvide_feed` answers and leaves; 01: "each feed gets both as the last left them"
unfoldable pub fed_bytes : Bytes → ByteEngine → ByteFeed → FeedCall
fed_bytes stakes g f = feed_call stakes g.store g.table f.events f.bytes

unfoldable pub left_bytes : FeedCall → ByteEngine
left_bytes o = record { store = o.store; table = o.table }

-- the engine after a list of feeds
unfoldable pub run_bytes : Bytes → ByteEngine → List ByteFeed → ByteEngine
run_bytes stakes g [] = g
run_bytes stakes g (f ∷ earlier) = left_bytes (fed_bytes stakes (run_bytes stakes g earlier) f)

-- 01: "Stored means accepted in that list"; the events of a feed are words of the bytes that it was lent
unfoldable pub accepted_bytes : Bytes → ByteEngine → List ByteFeed → List Accepted
accepted_bytes stakes g [] = []
accepted_bytes stakes g (f ∷ earlier) =
    let o : FeedCall = fed_bytes stakes (run_bytes stakes g earlier) f in
    accepted_in (read_record f.bytes) o.answer (words_of o.events) ++ accepted_bytes stakes g earlier

-- 01: "a fresh store and a table of zeros", and the feeds from there, the last first
pub record ByteStart : Type 0 where
  pub past : Bytes
  pub filled : are_bytes past ≡ true
  pub allowed : 16 + length past ≤ 4294967295
  pub feeds : List ByteFeed

-- the engine afterwards
unfoldable pub host_of : Bytes → ByteStart → ByteEngine
host_of stakes t = run_bytes stakes (fresh_bytes t.past) t.feeds

-- what it accepted on the way
unfoldable pub accepted_by : Bytes → ByteStart → List Accepted
accepted_by stakes t = accepted_bytes stakes (fresh_bytes t.past) t.feeds
