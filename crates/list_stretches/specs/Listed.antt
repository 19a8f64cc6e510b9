-- Machinery for the contracts of inner functions: a list by a sweep over the edges. Assumes nothing: these are definitions.
use Rattle.std.specs.Prelude.{◌≡◌, Result}
use Rattle.std.proofs.Math.Option.{Option}
use Rattle.base.specs.Le.{Bytes}
use Rattle.base.specs.Checks.{answered}
use Rattle.committee.specs.Committee.{Committee}
use Rattle.record_spec.specs.Reference.{TransactionLocator}
use Rattle.final_spec.specs.Finality.{blocks_of}
use Rattle.list_stretches_spec.specs.Stretches.{stretches}
use Rattle.list_stretches_spec.specs.Bulk.{given_after, stretch_room, bytes_after}
use Rattle.list_stretch_bytes.specs.Answers.{as_stretches}
use Rattle.list_stretch_bytes.specs.declared.Stretches.{Stretches as Written}
use Rattle.list_lanes.specs.declared.Wanted.{Wanted}
use Rattle.list_marked.specs.Marked.{list_for}
use Rattle.list_shown.specs.Shown.{Reaching}
use Rattle.base.specs.declared.refusal.Refusal.{Refusal}

-- the stretches after each locator from which the sweep reached where it stood, as many as the slice holds
unfoldable pub FilledFrom : Wanted → Committee → Bytes → TransactionLocator → Bytes → Bytes → Result Written Refusal → Type 0
FilledFrom w c s h out out' r =
    (after : Option TransactionLocator) → Reaching w c s after h
    → (as_stretches r ≡ answered (given_after (list_for w c (blocks_of s)) after
    (stretches c (blocks_of s) (list_for w c (blocks_of s)) (stretch_room out) after)))
    × (out' ≡ bytes_after (stretches c (blocks_of s) (list_for w c (blocks_of s)) (stretch_room out) after) out)
