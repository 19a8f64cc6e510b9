-- The relations of the mission's statements are met, by records of the course run. Assumes nothing: these are definitions.
use Rattle.std.specs.Prelude.{◌≡◌, List, [], ◌∷◌, drop, replicate}
use Rattle.base.specs.Checks.{answered}
use Rattle.record_spec.specs.Block.{share, accept}
use Rattle.feed_spec.specs.Feed.{Lent}
use Rattle.feed_spec.specs.Pending.{pending}
use Rattle.mission_theorems.specs.Feeds.{Feed, Engine, fresh, run, accepted}
use Rattle.mission_theorems.specs.FirstStatement.{KeepsRules}
use Rattle.mission_theorems.specs.ThirdStatement.{ShareStands, VotedOnlySince}
use Rattle.course_theorems.specs.Course.{four, ref, block, the, round0, feeds, start, after}
use Rattle.course_theorems.specs.Exclusions.{sole, own, alone}

-- record 5, which shares, and what it is lent after records 1 to 4
abbrev pub fifth : Feed
fifth = block (ref 0 1 5) round0 (share (116 ∷ 120 ∷ []) ∷ [])

abbrev pub lent : Lent
lent =
    record {
      store = (run four start (drop 9 feeds)).store;
      table = replicate 13 0;
      work = replicate 13 0;
      events = replicate 6 7;
    }

-- the feeds of records 1 to 9: the share has the votes of authors 0 and 1
abbrev pub nine : List Feed
nine = drop 4 feeds

-- a sole owner's share, and its vote in a later block
abbrev pub small : Engine
small = fresh (replicate 400 0) 13

abbrev pub three : List Feed
three = block (ref 0 2 3) (ref 0 1 2 ∷ []) (accept own ∷ []) ∷ alone

pub record Witnesses : Type 0 where
  -- a record that keeps document 01's rules, with enough lent memory
  pub kept : KeepsRules four lent fifth.bytes
  -- a share that stays pending, by the first case
  pub pending_stands : ShareStands four (run four start nine) (accepted four start nine) the
  pub pending_two : pending four (run four start nine).store (run four start nine).table the ≡ answered (record { stake = 2; voters = 2 })
  -- and one that was announced, by the second: `not_pending` of the course run
  pub gone_stands : ShareStands four after (accepted four start feeds) the
  -- a stored share that got a vote, and none in a block stored before its own
  pub voted_since : VotedOnlySince (accepted sole small three) own
