-- The course run of 01 over bytes, as one list of feeds from a fresh engine of 2,304 bytes and 13 words. Assumes nothing: these are definitions.
use Rattle.std.specs.Prelude.{ℕ, ◌≡◌, true, false, List, [], ◌∷◌, ◌++◌, map, length, replicate}
use Rattle.std.proofs.Math.Option.{none, some}
use Rattle.base.specs.Checks.{refused, answered}
use Rattle.committee.specs.Committee.{Committee}
use Rattle.record_spec.specs.Reference.{BlockReference, TransactionLocator}
use Rattle.record_spec.specs.Block.{Statement, share, accept}
use Rattle.record_spec.specs.Record.{block_bytes}
use Rattle.store_spec.specs.Payload.{payload}
use Rattle.feed_spec.specs.Pending.{pending}
use Rattle.final_spec.specs.Finality.{finality, blocks_of}
use Rattle.final_spec.specs.NextFinal.{next_final, final_list}
use Rattle.mission_theorems.specs.Feeds.{Feed, Engine, fresh, run, accepted}
use Rattle.mission_theorems.specs.Shares.{counted_votes, announcements}

-- 01: "four stakes of 1"
abbrev pub four : Committee
four = 1 ∷ 1 ∷ 1 ∷ 1 ∷ []

-- 01: "Record k's digest is the bytes 0, 0, 0, k, then 28 zeros; no block is marked"
abbrev pub ref : ℕ → ℕ → ℕ → BlockReference
ref a r k = record { authority = a; round = r; digest = 0 ∷ 0 ∷ 0 ∷ k ∷ replicate 28 0 }

abbrev pub block : BlockReference → List BlockReference → List Statement → Feed
block r is ss =
    record {
      bytes = block_bytes (record { reference = r; marked = false; includes = is; statements = ss });
      work = replicate 13 0;
      events = replicate 6 7;
    }

-- 01: "Record 5 shares; 9 and 10 accept it"
abbrev pub the : TransactionLocator
the = record { block = ref 0 1 5; offset = 0 }

-- 01: "records 1 to 4 round 0, authors 0 to 3; 5 to 7, 8 to 10, 11 to 13 rounds 1, 2, 3, authors 0 to 2, including the previous round's
-- authors 0 to 2": the last first
abbrev pub round0 : List BlockReference
round0 = ref 0 0 1 ∷ ref 1 0 2 ∷ ref 2 0 3 ∷ []

abbrev pub round1 : List BlockReference
round1 = ref 0 1 5 ∷ ref 1 1 6 ∷ ref 2 1 7 ∷ []

abbrev pub round2 : List BlockReference
round2 = ref 0 2 8 ∷ ref 1 2 9 ∷ ref 2 2 10 ∷ []

abbrev pub feeds : List Feed
feeds =
    block (ref 2 3 13) round2 []
    ∷ block (ref 1 3 12) round2 []
    ∷ block (ref 0 3 11) round2 []
    ∷ block (ref 2 2 10) round1 (accept the ∷ [])
    ∷ block (ref 1 2 9) round1 (accept the ∷ [])
    ∷ block (ref 0 2 8) round1 []
    ∷ block (ref 2 1 7) round0 []
    ∷ block (ref 1 1 6) round0 []
    ∷ block (ref 0 1 5) round0 (share (116 ∷ 120 ∷ []) ∷ [])
    ∷ block (ref 3 0 4) [] []
    ∷ block (ref 2 0 3) [] []
    ∷ block (ref 1 0 2) [] []
    ∷ block (ref 0 0 1) [] []
    ∷ []

abbrev pub start : Engine
start = fresh (replicate 2288 0) 13

abbrev pub after : Engine
after = run four start feeds

pub record Course : Type 0 where
  pub all_accepted : length (accepted four start feeds) ≡ 13
  -- "processed 10 0 0": the tenth accepted, by its statement 0, and no other event
  pub announced : announcements (accepted four start feeds) the ≡ record { feed = 9; statement = 0 } ∷ []
  pub events : map (λ a. a.events) (accepted four start feeds)
      ≡ [] ∷ [] ∷ [] ∷ (record { kind = 1; statement = 0; offset = 0 } ∷ []) ∷ [] ∷ [] ∷ [] ∷ [] ∷ [] ∷ [] ∷ [] ∷ [] ∷ [] ∷ []
  pub voted : counted_votes (accepted four start feeds) the
      ≡ record { place = record { feed = 8; statement = 0 }; voter = 1 } ∷ record { place = record { feed = 9; statement = 0 }; voter = 2 } ∷ []
  -- "final 1 0 00000005 0 3 3": certified by the records 11 to 13
  pub final : finality four after.store (replicate 14 9) the
      ≡ record { answer = answered (record { final = true; certifying = 3 }); positions = (1639 ∷ 1847 ∷ 2055 ∷ []) ++ replicate 11 9 }
  pub next : next_final four after.store none ≡ answered (some the)
  pub next_none : next_final four after.store (some the) ≡ answered none
  pub list : final_list four (blocks_of after.store) ≡ the ∷ []
  -- "end 13 0 1 0 1": nothing is pending
  pub not_pending : pending four after.store after.table the ≡ refused 42
  pub empty_table : after.table ≡ replicate 13 0
  pub given_back : payload four after.store the ≡ 116 ∷ 120 ∷ []
