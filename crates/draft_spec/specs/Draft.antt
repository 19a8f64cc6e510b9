-- What is given to the writer of a record: as a value, and as the numbers and bytes that are lent. Assumes nothing: these are definitions.
use Rattle.std.specs.Prelude.{ℕ, ◌/◌, eqb, length}
use mathlib.Core.List.{List, ◌∷◌, ◌++◌, map, flatten}
use Rattle.std.proofs.Math.Option.{Option, none, some}
use Rattle.base.specs.Lists.{pick}
use Rattle.base.specs.Le.{Bytes, le_bytes}
use Rattle.base.specs.Read.{Read, give, ◌>>=◌, items, number, repeated, complete, to_end}
use Rattle.committee.specs.Committee.{AuthorityIndex, RoundNumber}
use Rattle.record_spec.specs.Reference.{BlockReference}
use Rattle.record_spec.specs.Block.{Statement, share, accept, reject, vote_range, Block}
use Rattle.record_spec.specs.Record.{read_reference, read_kind, reference_bytes, statement_bytes}

-- 02: "from author, round, digest, mark, includes and a list of shares, accepts, rejects and ranges"; here payloads have any length
pub record Draft : Type 0 where
  pub author : AuthorityIndex
  pub round : RoundNumber
  pub digest : Bytes
  pub mark : ℕ
  pub includes : List BlockReference
  pub statements : List Statement

-- the same as it is lent
pub record Request : Type 0 where
  pub author : AuthorityIndex
  pub round : RoundNumber
  pub digest : Bytes
  pub mark : ℕ
  pub includes : Bytes
  pub statements : Bytes

-- ---- read

-- a share as it is given: its length has 4 bytes
unfoldable pub read_long_share : Read Statement
read_long_share = do
  n ← number 4
  payload ← items n
  give (share payload)

-- a statement as it is given: as in a record, but for a share's length; 02: "a kind .. outside 01": none
unfoldable pub read_given : Read Statement
read_given = do
  kind ← number 1
  pick (eqb kind 0) read_long_share (read_kind kind)

-- includes as in a record, of 48 bytes each, and nothing after
unfoldable pub includes_in : Bytes → Option (List BlockReference)
includes_in s = complete (repeated (length s / 48) read_reference s)

-- statements one after the other, and nothing after
unfoldable pub statements_in : Bytes → Option (List Statement)
statements_in s = to_end read_given s

unfoldable pub with_parts : Request → Option (List BlockReference) → Option (List Statement) → Option Draft
with_parts q none ss = none
with_parts q (some is) none = none
with_parts q (some is) (some ss) =
    some (record { author = q.author; round = q.round; digest = q.digest; mark = q.mark; includes = is; statements = ss })

-- none: the bytes are of another form
unfoldable pub draft_in : Request → Option Draft
draft_in q = with_parts q (includes_in q.includes) (statements_in q.statements)

-- ---- the same, written

unfoldable pub given_bytes : Statement → Bytes
given_bytes (share payload) = 0 ∷ le_bytes 4 (length payload) ++ payload
given_bytes (accept l) = statement_bytes (accept l)
given_bytes (reject l other) = statement_bytes (reject l other)
given_bytes (vote_range r) = statement_bytes (vote_range r)

-- a block taken apart, as it would be given
unfoldable pub taken_apart : Block → Request
taken_apart b =
    record {
      author = b.reference.authority;
      round = b.reference.round;
      digest = b.reference.digest;
      mark = pick b.marked 1 0;
      includes = flatten (map reference_bytes b.includes);
      statements = flatten (map given_bytes b.statements);
    }
