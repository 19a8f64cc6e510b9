-- The two shares that the last sentence of the third statement leaves out: final, and pending without an announcement. Assumes nothing: these are definitions.
use Rattle.std.specs.Prelude.{◌≡◌, true, List, [], ◌∷◌, length, replicate}
use Rattle.base.specs.Checks.{answered}
use Rattle.committee.specs.Committee.{Committee}
use Rattle.record_spec.specs.Reference.{BlockReference, TransactionLocator}
use Rattle.record_spec.specs.Block.{share, accept}
use Rattle.feed_spec.specs.Pending.{pending}
use Rattle.final_spec.specs.Finality.{finality}
use Rattle.mission_theorems.specs.Feeds.{Feed, Engine, fresh, run, accepted}
use Rattle.mission_theorems.specs.Shares.{announcements}
use Rattle.course_theorems.specs.Course.{four, ref, block}

abbrev pub start : Engine
start = fresh (replicate 2000 0) 13

-- ---- a sole owner's share, without a vote

abbrev pub sole : Committee
sole = 1 ∷ []

abbrev pub own : TransactionLocator
own = record { block = ref 0 1 2; offset = 0 }

abbrev pub alone : List Feed
alone = block (ref 0 1 2) (ref 0 0 1 ∷ []) (share (116 ∷ []) ∷ []) ∷ block (ref 0 0 1) [] [] ∷ []

-- ---- a share that got its votes in blocks stored before its own

abbrev pub late : TransactionLocator
late = record { block = ref 0 1 4; offset = 0 }

abbrev pub round0 : List BlockReference
round0 = ref 1 0 1 ∷ ref 2 0 2 ∷ ref 3 0 3 ∷ []

abbrev pub round1 : List BlockReference
round1 = ref 1 1 5 ∷ ref 2 1 6 ∷ ref 3 1 7 ∷ []

-- the votes of authors 1 to 3, then author 0's share, then the blocks that certify it: the last first
abbrev pub votes_first : List Feed
votes_first =
    block (ref 3 2 10) round1 []
    ∷ block (ref 2 2 9) round1 []
    ∷ block (ref 1 2 8) round1 []
    ∷ block (ref 0 1 4) round0 (share (116 ∷ []) ∷ [])
    ∷ block (ref 3 1 7) round0 (accept late ∷ [])
    ∷ block (ref 2 1 6) round0 (accept late ∷ [])
    ∷ block (ref 1 1 5) round0 (accept late ∷ [])
    ∷ block (ref 3 0 3) [] []
    ∷ block (ref 2 0 2) [] []
    ∷ block (ref 1 0 1) [] []
    ∷ []

abbrev pub after : Engine
after = run four start votes_first

pub record Exclusions : Type 0 where
  pub sole_final : (finality sole (run sole start alone).store (0 ∷ 0 ∷ []) own).answer ≡ answered (record { final = true; certifying = 1 })
  pub sole_pending : pending sole (run sole start alone).store (run sole start alone).table own ≡ answered (record { stake = 1; voters = 1 })
  pub sole_not_announced : announcements (accepted sole start alone) own ≡ []
  pub late_stored : length (accepted four start votes_first) ≡ 10
  pub late_final : (finality four after.store (replicate 10 0) late).answer ≡ answered (record { final = true; certifying = 3 })
  pub late_pending : pending four after.store after.table late ≡ answered (record { stake = 1; voters = 1 })
  pub late_not_announced : announcements (accepted four start votes_first) late ≡ []
