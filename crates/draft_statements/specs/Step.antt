-- Machinery for the contracts: the size of a statement, from what code holds of it. Assumes nothing: these are definitions.
use Rattle.std.specs.Prelude.{◌+◌, ltb}
use Rattle.base.specs.Lists.{pick}
use Rattle.record_statement.specs.declared.BaseStatement.{BaseStatement}
use Rattle.record_statement.specs.declared.BaseStatement.TheVariants.{Share, Accept, Reject, RejectFor, VoteRange}
use Rattle.std.specs.Prelude.{None, Some, Option}
use Rattle.std.specs.Prelude.{ℕ}

-- 01: "0 share, length 2 and payload; 1 accept vote, locator (48 + 8); 2 reject vote, locator, a byte 0 or 1, and after 1 a second locator; 3 vote
-- range, reference, start 8, end 8", each after a kind byte; 02: "A payload over 65,535 bytes"
unfoldable pub size_of : BaseStatement → Option ℕ
size_of (Share start len) = pick (ltb 65535 len) None (Some (3 + len))
size_of (Accept l) = Some 57
size_of (Reject l) = Some 58
size_of (RejectFor l other) = Some 114
size_of (VoteRange r) = Some 65
