-- Machinery for the contracts: where a payload lies. Assumes nothing: these are definitions.
use Rattle.std.specs.Prelude.{ℕ, ◌+◌, Bool, true, leb}
use Rattle.record_statement.specs.declared.BaseStatement.{BaseStatement}
use Rattle.record_statement.specs.declared.BaseStatement.TheVariants.{Share, Accept, Reject, RejectFor, VoteRange}

-- a share's payload lies in so many bytes
unfoldable pub payload_inside : ℕ → BaseStatement → Bool
payload_inside n (Share start len) = leb (start + len) n
payload_inside n (Accept l) = true
payload_inside n (Reject l) = true
payload_inside n (RejectFor l other) = true
payload_inside n (VoteRange r) = true
