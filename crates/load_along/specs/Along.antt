-- The ordinary list as it is gone along with one sweep: where that stands, and what comes next. Machinery for the contracts of inner functions. Assumes
-- nothing: these are definitions.
use Rattle.std.specs.Prelude.{ℕ, ◌≡◌, true, List, [], ◌∷◌, length, None, Some}
use Rattle.std.proofs.Math.Option.{Option, none, some}
use Rattle.base.specs.Le.{Bytes}
use Rattle.committee.specs.Committee.{Committee}
use Rattle.committee.specs.declared.Stake.{Stake}
use Rattle.record_spec.specs.Reference.{TransactionLocator, new_range}
use Rattle.types.specs.Values.{as_locator, as_range, as_maybe}
use Rattle.final_spec.specs.Finality.{blocks_of}
use Rattle.list_stretches_spec.specs.Stretches.{Listing, FinalStretch, last_locator, stretches}
use Rattle.final_readings_spec.specs.Readings.{Reading}
use Rattle.final_readings_spec.specs.Answers.{as_reading}
use Rattle.list_readings_spec.specs.Answers.{is_ordinary}
use Rattle.list_readings_spec.specs.Lists.{listing}
use Rattle.list_lanes.specs.Lanes.{lane_ranges}
use Rattle.list_lanes.specs.declared.Wanted.{Wanted}
use Rattle.list_sweep.specs.Sweep.{Stands}
use Rattle.list_marked.specs.Marked.{list_for}
use Rattle.list_shown.specs.Shown.{Lent, Reaching}
use Rattle.load_along.specs.declared.Along.{Along}
use Rattle.load_along.specs.declared.Step.{Step}
use Rattle.std.specs.declared.option.Option as code
use Rattle.types.specs.declared.TransactionLocatorRange as ranges
use Rattle.list_sweep.specs.declared.Sweep as sweep

-- the ordinary list of a store
abbrev pub share_list : Reading → Committee → Bytes → Listing
share_list reading c s = listing true reading c (blocks_of s)

-- at most n of its stretches after a locator
abbrev pub ahead : Reading → Committee → Bytes → ℕ → Option TransactionLocator → List FinalStretch
ahead reading c s n after = stretches c (blocks_of s) (share_list reading c s) n after

-- ---- the sweep

-- what the sweep is lent: the positions in order, the sets of includes, the edges and the marks
pub record Tables : Type 0 where
  pub order : List ℕ
  pub sets : List ℕ
  pub edges : List ℕ
  pub marks : List ℕ

abbrev pub tables : List ℕ → List ℕ → List ℕ → List ℕ → Tables
tables order sets edges marks = record { order = order; sets = sets; edges = edges; marks = marks }

-- the sweep stands where nothing is shown before it after the last locator passed; or nothing is shown after that
unfoldable pub HeldAt : Wanted → Committee → Bytes → Tables → Option TransactionLocator → code.Option sweep.Sweep → Type 0
HeldAt w c s t last (Some v) = Stands (lane_ranges w s t.order) s t.edges t.marks v × Reaching w c s last (as_locator v.here)
HeldAt w c s t last None = (list_for w c (blocks_of s)).next last ≡ none

-- the ordinary list in a reading is gone along up to the last locator passed
pub record Held (reading : Reading) (c : Committee) (s : Bytes) (t : Tables) (a : Along) : Type 0 where
  pub lent : (flags : List ℕ) → length flags ≡ 1024 → Lent c a.total s t.order t.sets t.edges t.marks flags
  pub shares : is_ordinary a.wanted.list ≡ true
  pub reads : as_reading a.wanted.reading ≡ reading
  pub stands : HeldAt a.wanted c s t (as_maybe a.after) a.at

-- before the first stretch, with each committee and sets of includes for which the tables are lent
pub record Started (reading : Reading) (total : Stake) (s : Bytes) (order edges marks edges' marks' : List ℕ) (a : Along) : Type 0 where
  pub none_passed : as_maybe a.after ≡ none
  pub held : (c : Committee) (sets : List ℕ) → ((flags : List ℕ) → length flags ≡ 1024 → Lent c total s order sets edges marks flags)
      → Held reading c s (tables order sets edges' marks') a

-- ---- what comes next

-- what comes next after a locator, and the last locator passed then
unfoldable pub Found : Reading → Committee → Bytes → Option TransactionLocator → Option TransactionLocator → code.Option ranges.TransactionLocatorRange → Type 0
Found reading c s after last None = ahead reading c s 1 after ≡ []
Found reading c s after last (Some q) =
    (t : FinalStretch)
    × (ahead reading c s 1 after ≡ t ∷ [])
    × (as_range q ≡ new_range t.block t.first t.end)
    × (last ≡ some (last_locator t))

-- a step, in the reading in which the list is gone along
pub record Stepped (c : Committee) (s : Bytes) (t t' : Tables) (a : Along) (r : Step) : Type 0 where
  pub held : (reading : Reading) → Held reading c s t a → Held reading c s t' r.along
  pub found : (reading : Reading) → Held reading c s t a → Found reading c s (as_maybe a.after) (as_maybe r.along.after) r.ahead
