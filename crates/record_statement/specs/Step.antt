-- Machinery for the contracts of private functions: what stands at a position of a record. Assumes nothing: these are definitions.
use Rattle.std.specs.Prelude.{ℕ, Some, None, ◌+◌, ◌≤◌, ◌≡◌, Bool, true, not, ◌&&◌, eqb, length, drop}
use Rattle.std.proofs.Math.Option.{none, some}
use Rattle.std.specs.declared.option.Option as code
use Rattle.base.specs.Lists.{is_none}
use Rattle.base.specs.Le.{Bytes}
use Rattle.base.specs.Read.{repeated, complete}
use Rattle.record_spec.specs.Record.{read_statement}
use Rattle.record_statement.specs.Values.{as_statement}
use Rattle.record_statement.specs.declared.BaseStatement.{BaseStatement}
use Rattle.record_statement.specs.declared.BaseStatement.TheVariants.{Share, Accept, Reject, RejectFor, VoteRange}

-- 01: "0 share, length 2 and payload": the payload of a share stands from 3 bytes after its start to the start of the next statement
unfoldable pub payload_between : ℕ → ℕ → BaseStatement → Bool
payload_between at next (Share start len) = eqb start (at + 3) && eqb (start + len) next
payload_between at next (Accept l) = true
payload_between at next (Reject l) = true
payload_between at next (RejectFor l other) = true
payload_between at next (VoteRange r) = true

-- what was taken at a position is the statement that is read there, and ends where the rest begins; or nothing is read there
unfoldable pub Took : Bytes → ℕ → code.Option (BaseStatement × ℕ) → Type 0
Took s p (Some (st, next)) =
    (read_statement (drop p s) ≡ some (record { value = as_statement s st; rest = drop next s }))
    × ((next ≤ length s) × (payload_between p next st ≡ true))
Took s p None = read_statement (drop p s) ≡ none

-- n statements and nothing after them
unfoldable pub statements_only : ℕ → Bytes → Bool
statements_only n s = not (is_none (complete (repeated n read_statement s)))
