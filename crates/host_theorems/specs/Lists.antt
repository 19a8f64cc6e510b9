-- A list asked on by a host, one by one and in bulk. Assumes nothing: these are definitions.
use Rattle.std.specs.Prelude.{ℕ, zero, suc, ◌+◌, ◌*◌, ◌≡◌, List, [], ◌∷◌, ◌++◌, drop}
use Rattle.base.specs.Le.{Bytes, le_at}
use Rattle.base.specs.Checks.{answered}
use Rattle.record_spec.specs.Record.{locator_bytes}
use Rattle.list_stretches_spec.specs.Stretches.{FinalStretch, last_locator}
use Rattle.record_reference_bytes.specs.Step.{locator_at}
use Rattle.host_final_answers.specs.Answers.{NextFinalCall}
use Rattle.host_finals.specs.Stretches.{StretchesCall}

-- ---- one by one

-- a call for the next locator: of the stakes, the store, the place after which it asks, and the bytes lent for what is found
abbrev pub NextCall : Type 0
NextCall = Bytes → Bytes → Bytes → Bytes → NextFinalCall

-- 01: "asked on from the start until none": with whatever bytes are lent, each time after what was found: all that is found
pub data FoundOn (call : NextCall) (stakes s : Bytes) : Bytes → List Bytes → Type 0 where
  done : {after : Bytes} (out : Bytes) → (call stakes s after out).answer ≡ answered 0 → FoundOn call stakes s after []
  onward : {after found : Bytes} {bs : List Bytes} (out : Bytes) → (call stakes s after out).answer ≡ answered 1 → (call stakes s after out).found ≡ found
      → FoundOn call stakes s found bs → FoundOn call stakes s after (found ∷ bs)

-- ---- in bulk

-- a stretch in its 80 bytes: "the first 56 are the first locator as it stands in a record"; then end, certifying blocks, stake
unfoldable pub stretch_in : Bytes → FinalStretch
stretch_in b =
    record {
      block = (locator_at b 0).block;
      first = (locator_at b 0).offset;
      end = le_at 8 b 56;
      blocks = le_at 8 b 64;
      stake = le_at 8 b 72;
    }

-- the first n stretches in a slice
unfoldable pub stretches_read : ℕ → Bytes → List FinalStretch
stretches_read zero b = []
stretches_read (suc n) b = stretch_in b ∷ stretches_read n (drop 80 b)

-- where the next call goes on: after the last locator of the last stretch, else where this one did
unfoldable pub place_after : Bytes → List FinalStretch → Bytes
place_after after [] = after
place_after after (t ∷ ts) = place_after (locator_bytes (last_locator t)) ts

-- a call for stretches: of the stakes, the store, the place after which it asks, and the slice lent for them
abbrev pub BulkCall : Type 0
BulkCall = Bytes → Bytes → Bytes → Bytes → StretchesCall

-- asked on with these slices in this order, those that are left over unused, until none follow: all its stretches.
-- An even answer 2n is n stretches and the end, an odd one 2n + 1 says that more follow.
pub data StretchesOn (call : BulkCall) (stakes s : Bytes) : Bytes → List Bytes → List FinalStretch → Type 0 where
  ends : {after out : Bytes} {outs : List Bytes} {ts : List FinalStretch} (n : ℕ) → (call stakes s after out).answer ≡ answered (2 * n)
      → stretches_read n (call stakes s after out).stretches ≡ ts → StretchesOn call stakes s after (out ∷ outs) ts
  goes : {after out : Bytes} {outs : List Bytes} {ts us : List FinalStretch} (n : ℕ) → (call stakes s after out).answer ≡ answered (2 * n + 1)
      → stretches_read n (call stakes s after out).stretches ≡ ts → StretchesOn call stakes s (place_after after ts) outs us
      → StretchesOn call stakes s after (out ∷ outs) (ts ++ us)
