-- What the code's values mean: for each declared type its one conversion. Assumes nothing: these are definitions.
use Rattle.std.proofs.Math.Option.{none, some}
use Rattle.std.specs.Prelude.{take, drop}
use Rattle.base.specs.Le.{Bytes}
use Rattle.record_spec.specs.Block.{Statement, share, accept, reject, vote_range}
use Rattle.record_statement.specs.declared.BaseStatement as statements
use Rattle.record_statement.specs.declared.BaseStatement.TheVariants.{Share, Accept, Reject, RejectFor, VoteRange}
use Rattle.types.specs.Values.{as_locator, as_range}

-- a statement of a record; of a share the code holds where its payload starts and how long it is
unfoldable pub as_statement : Bytes → statements.BaseStatement → Statement
as_statement rec (Share start len) = share (take len (drop start rec))
as_statement rec (Accept l) = accept (as_locator l)
as_statement rec (Reject l) = reject (as_locator l) none
as_statement rec (RejectFor l other) = reject (as_locator l) (some (as_locator other))
as_statement rec (VoteRange r) = vote_range (as_range r)
