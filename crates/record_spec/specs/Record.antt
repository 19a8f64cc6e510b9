-- Block records of both editions: their bytes, read and written. Assumes nothing: these are definitions.
use Rattle.std.specs.Prelude.{ℕ, zero, suc, ◌+◌, ◌*◌, Bool, false, not, ◌&&◌, ltb, leb, eqb, length, get_or, take}
use mathlib.Core.List.{[], ◌∷◌, ◌++◌, map, flatten}
use Rattle.std.proofs.Math.Option
use Rattle.std.proofs.Math.Option.{Option, none, some}
use Rattle.base.specs.Lists.{pick, same, is_none, sum_of}
use Rattle.base.specs.Le.{Bytes, le_bytes}
use Rattle.base.specs.Read.{Read, give, fail, ◌>>=◌, items, number, given, repeated, complete}
use Rattle.record_spec.specs.Reference.{BlockReference, TransactionLocator, new_range}
use Rattle.record_spec.specs.Block.{Statement, share, accept, reject, vote_range, Block}

-- 01: "includes of 48 bytes (author, round, digest)"
unfoldable pub read_reference : Read BlockReference
read_reference = do
  authority ← number 8
  round ← number 8
  digest ← items 32
  give (record { authority = authority; round = round; digest = digest })

-- 01: "locator (48 + 8)"
unfoldable pub read_locator : Read TransactionLocator
read_locator = do
  block ← read_reference
  offset ← number 8
  give (record { block = block; offset = offset })

-- 01: "0 share, length 2 and payload"
unfoldable pub read_share : Read Statement
read_share = do
  n ← number 2
  payload ← items n
  give (share payload)

-- 01: "1 accept vote, locator"
unfoldable pub read_accept : Read Statement
read_accept = do
  l ← read_locator
  give (accept l)

-- 01: "a byte 0 or 1, and after 1 a second locator"
unfoldable pub read_other : ℕ → Read (Option TransactionLocator)
read_other zero = give none
read_other (suc zero) = do
  l ← read_locator
  give (some l)
read_other (suc (suc n)) = fail

-- 01: "2 reject vote, locator, a byte 0 or 1, .."
unfoldable pub read_reject : Read Statement
read_reject = do
  l ← read_locator
  more ← number 1
  other ← read_other more
  give (reject l other)

-- 01: "3 vote range, reference, start 8, end 8 (excluded)"
unfoldable pub read_range : Read Statement
read_range = do
  block ← read_reference
  start ← number 8
  end ← number 8
  give (vote_range (new_range block start end))

-- what follows the kind byte
unfoldable pub read_kind : ℕ → Read Statement
read_kind k =
    pick (eqb k 0) read_share
    (pick (eqb k 1) read_accept
    (pick (eqb k 2) read_reject
    (pick (eqb k 3) read_range fail)))

-- 01: "A statement is a kind byte, then: .."
unfoldable pub read_statement : Read Statement
read_statement = do
  kind ← number 1
  read_kind kind

-- 02: "Edition 2 of the record", and the one before it
pub data Edition : Type 0 where
  old : Edition
  timed : Edition

-- a block, with the time of its creation where its record has one
pub record Timed : Type 0 where
  pub block : Block
  pub time : Option ℕ

-- 02: "has 2 in the first of its three zero bytes"
unfoldable pub edition_bytes : Edition → Bytes
edition_bytes old = 0 ∷ 0 ∷ 0 ∷ []
edition_bytes timed = 2 ∷ 0 ∷ 0 ∷ []

-- 02: "and the time, 16 bytes little-endian, after the header. Nanoseconds above 2^64 - 1 are malformed"
unfoldable pub read_time : Edition → Read (Option ℕ)
read_time old = give none
read_time timed = do
  time ← number 16
  given (ltb time 18446744073709551616) (give (some time))

-- 01: "Block record: author 8 bytes, round 8, digest 32, epoch mark 1 (0 or 1), include count 2 (at most 256), statement count 2 (at most
-- 1,024), 3 zero bytes; includes ..; statements"; 02: "Reading and accepting are shown with the edition as a parameter"
unfoldable pub read_in : Edition → Read Timed
read_in e = do
  reference ← read_reference
  mark ← number 1
  includeCount ← number 2
  statementCount ← number 2
  zeros ← items 3
  given (leb mark 1 && leb includeCount 256 && leb statementCount 1024 && same zeros (edition_bytes e)) do
    time ← read_time e
    includes ← repeated includeCount read_reference
    statements ← repeated statementCount read_statement
    give (record { block = record { reference = reference; marked = eqb mark 1; includes = includes; statements = statements }; time = time })

-- the edition of which a record says that it is
unfoldable pub edition_of : Bytes → Edition
edition_of r = pick (eqb (get_or r 53 0) 2) timed old

-- 01: "nothing after"; none is "20 record malformed"
unfoldable pub timed_of : Bytes → Option Timed
timed_of r = complete (read_in (edition_of r) r)

unfoldable pub block_of : Bytes → Option Block
block_of r = Option.map (λ t. t.block) (timed_of r)

unfoldable pub time_of : Option Timed → Option ℕ
time_of none = none
time_of (some t) = t.time

-- the time of a record; none where it has none, or is malformed
unfoldable pub time_in : Bytes → Option ℕ
time_in r = time_of (timed_of r)

-- a record that is not malformed
unfoldable pub well_formed : Bytes → Bool
well_formed r = not (is_none (block_of r))

-- a reference, a statement and a block where there is none
unfoldable pub no_reference : BlockReference
no_reference = record { authority = 0; round = 0; digest = [] }

unfoldable pub no_statement : Statement
no_statement = share []

unfoldable pub no_block : Block
no_block = record { reference = no_reference; marked = false; includes = []; statements = [] }

-- the block of a record; an empty one where the record is malformed
unfoldable pub block_in : Bytes → Block
block_in r = Option.get_or (block_of r) no_block

-- ---- the same, written

unfoldable pub reference_bytes : BlockReference → Bytes
reference_bytes r = le_bytes 8 r.authority ++ (le_bytes 8 r.round ++ r.digest)

unfoldable pub locator_bytes : TransactionLocator → Bytes
locator_bytes l = reference_bytes l.block ++ le_bytes 8 l.offset

unfoldable pub other_bytes : Option TransactionLocator → Bytes
other_bytes none = 0 ∷ []
other_bytes (some l) = 1 ∷ locator_bytes l

unfoldable pub statement_bytes : Statement → Bytes
statement_bytes (share payload) = 0 ∷ le_bytes 2 (length payload) ++ payload
statement_bytes (accept l) = 1 ∷ locator_bytes l
statement_bytes (reject l other) = 2 ∷ locator_bytes l ++ other_bytes other
statement_bytes (vote_range r) = 3 ∷ reference_bytes r.block ++ (le_bytes 8 r.start ++ le_bytes 8 r.end)

-- where the includes of an edition begin: after the header, and after the time where it has one
unfoldable pub body_from : Edition → ℕ
body_from old = 56
body_from timed = 72

-- where a record has its first include
unfoldable pub body_start : Bytes → ℕ
body_start r = body_from (edition_of r)

-- where a record has the statement of that index, counted from its first byte
unfoldable pub statement_start : Bytes → ℕ → ℕ
statement_start r i = body_start r + 48 * length (block_in r).includes + sum_of (map (λ s. length (statement_bytes s)) (take i (block_in r).statements))

unfoldable pub time_bytes : Option ℕ → Bytes
time_bytes none = []
time_bytes (some x) = le_bytes 16 x

unfoldable pub bytes_in : Edition → Timed → Bytes
bytes_in e t =
    flatten
    (reference_bytes t.block.reference
    ∷ (pick t.block.marked 1 0 ∷ [])
    ∷ le_bytes 2 (length t.block.includes)
    ∷ le_bytes 2 (length t.block.statements)
    ∷ edition_bytes e
    ∷ time_bytes t.time
    ∷ flatten (map reference_bytes t.block.includes)
    ∷ flatten (map statement_bytes t.block.statements)
    ∷ [])

-- 02: "the writer writes 2 where a time is given"
unfoldable pub edition_for : Option ℕ → Edition
edition_for none = old
edition_for (some x) = timed

unfoldable pub timed_bytes : Timed → Bytes
timed_bytes t = bytes_in (edition_for t.time) t

-- a block's record without a time
unfoldable pub block_bytes : Block → Bytes
block_bytes b = timed_bytes (record { block = b; time = none })
