-- Feeding a record with the index beside the store: the first refusal or the number of events, and every lent slice afterwards. Assumes nothing: these
-- are definitions.
use Rattle.std.specs.Prelude.{ℕ, not, List, [], ◌∷◌, ◌++◌, ltb, length}
use Rattle.std.proofs.Math.Option.{Option, none, some}
use Rattle.base.specs.Lists.{pick}
use Rattle.base.specs.Le.{Bytes}
use Rattle.base.specs.Checks.{Check, ◌⇒◌, refusal, passes}
use Rattle.committee.specs.Committee.{Committee}
use Rattle.store_spec.specs.Layout.{Record, read_record}
use Rattle.feed_spec.specs.Pending.{pending_checks}
use Rattle.feed_spec.specs.Feed.{Lent, Fed, record_checks, refused_feed, accepted_feed}
use Rattle.final_spec.specs.Finality.{blocks_of}
use Rattle.index_spec.specs.Part.{part_in}
use Rattle.index_spec.specs.Index.{index_agrees, index_short, appended}

-- what such a feed answers and leaves of the slices that feeding is lent, and what it leaves of the index
pub record IndexedFed : Type 0 where
  pub fed : Fed
  pub index : List ℕ

-- 02: "An index that disagrees with the store answers 54 right after 11"
unfoldable pub indexed_lent_checks : Committee → Bytes → List ℕ → List ℕ → List Check
indexed_lent_checks c s t ix = pending_checks c s t ++ ((not (index_agrees (blocks_of s) ix) ⇒ 54) ∷ [])

-- 02: "an index slice too short for the new part answers 55 after 14"
unfoldable pub room_checks : Lent → List ℕ → Option Record → List Check
room_checks m ix none = []
room_checks m ix (some r) = (index_short (r.block ∷ blocks_of m.store) ix ⇒ 55) ∷ []

-- 01: "5, 10, 11, 12, 20 to 30 ascending, 15, 13, 14", with the two in their places
unfoldable pub indexed_checks : Committee → Lent → List ℕ → Option Record → List Check
indexed_checks c m ix o =
    indexed_lent_checks c m.store m.table ix
    ++ ((ltb (length m.work) (length m.table) ⇒ 12)
    ∷ (record_checks c m o ++ room_checks m ix o))

-- a refusal leaves the index too
unfoldable pub refused_indexed : Lent → List ℕ → ℕ → IndexedFed
refused_indexed m ix n = record { fed = refused_feed m n; index = ix }

-- 02: "Feeding a block appends that block's part only"
unfoldable pub accepted_indexed : Committee → Lent → List ℕ → Record → IndexedFed
accepted_indexed c m ix r =
    record { fed = accepted_feed c m r; index = appended ix (part_in (r.block ∷ blocks_of m.store) r.block.reference) }

unfoldable pub feed_indexed_record : Committee → Lent → List ℕ → Option Record → IndexedFed
feed_indexed_record c m ix none = refused_indexed m ix (refusal (indexed_checks c m ix none))
feed_indexed_record c m ix (some r) =
    pick (passes (indexed_checks c m ix (some r))) (accepted_indexed c m ix r) (refused_indexed m ix (refusal (indexed_checks c m ix (some r))))

unfoldable pub feed_indexed : Committee → Lent → List ℕ → Bytes → IndexedFed
feed_indexed c m ix bytes = feed_indexed_record c m ix (read_record bytes)
