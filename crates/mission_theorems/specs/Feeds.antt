-- An engine fed a list of records from fresh: what it holds then, and what it accepted and announced. Assumes nothing: these are definitions.
-- Feeds, and what was accepted, are listed THE LAST FIRST: what stands after a feed in a list came before it.
use Rattle.std.specs.Prelude.{ℕ, zero, suc, List, [], ◌∷◌, ◌++◌, map, drop, get_or, replicate}
use Rattle.std.proofs.Math.Option.{Option, none, some}
use Rattle.base.specs.Le.{Bytes}
use Rattle.base.specs.Checks.{Answer, refused, answered}
use Rattle.committee.specs.Committee.{Committee}
use Rattle.record_spec.specs.Block.{Block}
use Rattle.store_spec.specs.Layout.{Record, read_record, layout}
use Rattle.feed_spec.specs.ProcessBlock.{Event}
use Rattle.feed_spec.specs.Feed.{Fed, feed}

-- a record, "with any work and event slices"
pub record Feed : Type 0 where
  pub bytes : Bytes
  pub work : List ℕ
  pub events : List ℕ

-- what goes from one feed to the next
pub record Engine : Type 0 where
  pub store : Bytes
  pub table : List ℕ

-- 01: "It starts from a fresh store and a table of zeros": 16 bytes in order and any bytes past them; n words
unfoldable pub fresh : Bytes → ℕ → Engine
fresh past n = record { store = layout [] ++ past; table = replicate n 0 }

-- 01: "each feed gets both as the last left them"
unfoldable pub outcome : Committee → Engine → Feed → Fed
outcome c g f = feed c (record { store = g.store; table = g.table; work = f.work; events = f.events }) f.bytes

unfoldable pub left : Fed → Engine
left o = record { store = o.store; table = o.table }

-- the engine after a list of feeds
unfoldable pub run : Committee → Engine → List Feed → Engine
run c g [] = g
run c g (f ∷ earlier) = left (outcome c (run c g earlier) f)

-- an accepted record, its block, and the events of its feed
pub record Accepted : Type 0 where
  pub bytes : Bytes
  pub block : Block
  pub events : List Event

-- the first n events of an event slice
unfoldable pub events_in : ℕ → List ℕ → List Event
events_in zero w = []
events_in (suc n) w = record { kind = get_or w 0 0; statement = get_or w 1 0; offset = get_or w 2 0 } ∷ events_in n (drop 3 w)

unfoldable pub accepted_in : Option Record → Answer ℕ → List ℕ → List Accepted
accepted_in none a w = []
accepted_in (some r) (refused n) w = []
accepted_in (some r) (answered n) w = record { bytes = r.bytes; block = r.block; events = events_in n w } ∷ []

-- 01: "Stored means accepted in that list"
unfoldable pub accepted : Committee → Engine → List Feed → List Accepted
accepted c g [] = []
accepted c g (f ∷ earlier) =
    let o : Fed = outcome c (run c g earlier) f in
    accepted_in (read_record f.bytes) o.answer o.events ++ accepted c g earlier

unfoldable pub stored_blocks : List Accepted → List Block
stored_blocks as' = map (λ a. a.block) as'

unfoldable pub stored_records : List Accepted → List Bytes
stored_records as' = map (λ a. a.bytes) as'
