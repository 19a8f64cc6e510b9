-- Machinery for the contracts of inner functions: a stretch from its parts, and the slice as it fills. Assumes nothing: these are definitions.
use Rattle.std.specs.Prelude.{ℕ, ◌*◌, ◌-◌, ◌≤◌, ◌≡◌, length, drop}
use mathlib.Core.List.{List, ◌++◌, map, flatten}
use Rattle.std.proofs.Math.Option.{Option}
use Rattle.committee.specs.Committee.{Committee, Stake}
use Rattle.record_spec.specs.Reference.{TransactionLocator}
use Rattle.record_spec.specs.Block.{Block}
use Rattle.list_stretches_spec.specs.Stretches.{Listing, FinalStretch, stretches, reached}
use Rattle.list_stretches_spec.specs.Bulk.{stretch_bytes}

-- a stretch from its parts
unfoldable pub final_stretch : TransactionLocator → ℕ → ℕ → Stake → FinalStretch
final_stretch l end blocks stake = record { block = l.block; first = l.offset; end = end; blocks = blocks; stake = stake }

-- what stands in the slice once n stretches of a list are written, the last of which ends with the given locator
pub record Filled (c : Committee) (bs : List Block) (k : Listing) (room : ℕ) (after : Option TransactionLocator) (out₀ out : List ℕ)
    (last : Option TransactionLocator) (n : ℕ) : Type 0 where
  pub inside : n ≤ room
  pub written : List FinalStretch
  pub many : length written ≡ n
  pub splits : stretches c bs k room after ≡ written ++ stretches c bs k (room - n) last
  pub reaches : reached after written ≡ last
  pub long : length out ≡ length out₀
  pub bytes : out ≡ flatten (map stretch_bytes written) ++ drop (80 * n) out₀
