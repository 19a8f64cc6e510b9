-- What joining and writing mean, as claims. Assumes nothing: these are definitions.
use Rattle.std.specs.Prelude.{ℕ, ◌+◌, ◌≤◌, ◌<◌, ◌≡◌, Bool, true, not, ◌&&◌, ltb, length, take, drop}
use mathlib.Core.List.{List, [], ◌∷◌, ◌++◌, map, flatten}
use Rattle.std.proofs.Math.Option.{Option, some}
use Rattle.base.specs.Lists.{pick, all_of, adjacent}
use Rattle.base.specs.Le.{Bytes}
use Rattle.base.specs.Checks.{refusal, refused, answered}
use Rattle.record_spec.specs.Reference.{TransactionLocatorRange, max_len, locators}
use Rattle.record_spec.specs.Block.{Statement, accept, vote_range, Block}
use Rattle.record_spec.specs.Verify.{statement_checks}
use Rattle.record_spec.specs.Record.{Timed, timed_of, well_formed, reference_bytes, edition_for}
use Rattle.record_spec.specs.Claims.{are_bytes, fits_time}
use Rattle.draft_spec.specs.Draft.{Draft, Request, draft_in, given_bytes, taken_apart}
use Rattle.draft_spec.specs.Joining.{Piece, pieces, piece_given, right_piece, joinable, joined, no_neighbours, spread_out}
use Rattle.draft_spec.specs.Writing.{write_timed}

-- ---- joining

-- the statements in pieces: in the given order, each piece a right one, and no two that stand side by side could be one
pub record Divided (ss : List Statement) (ps : List Piece) : Type 0 where
  pub given : flatten (map piece_given ps) ≡ ss
  pub right : all_of right_piece ps ≡ true
  pub longest : adjacent (λ p q. not (joinable p q)) ps ≡ true

-- the pieces are such a division, and there is no other
pub record JoiningMeant : Type 0 where
  pub divided : (ss : List Statement) → Divided ss (pieces ss)
  pub only : (ss : List Statement) (ps : List Piece) → Divided ss ps → ps ≡ pieces ss

-- what was written for what was given, in the same order: each statement as it was, or a range for two accepts or more
pub data Joins : List Statement → List Statement → Type 0 where
  end : Joins [] []
  stays : {s : Statement} {ss ws : List Statement} → Joins ss ws → Joins (s ∷ ss) (s ∷ ws)
  range : {r : TransactionLocatorRange} {gs ss ws : List Statement} → r.start + 1 < r.end → r.end < max_len
      → gs ≡ map accept (locators r) ++ ss → Joins ss ws → Joins gs (vote_range r ∷ ws)

unfoldable pub JoinedInOrder : Type 0
JoinedInOrder = (ss : List Statement) → Joins ss (joined ss)

-- 02: "as far as its end stays below 1,048,576": no joined range breaks 26 or 27, so that what is checked of the statements stays the same
unfoldable pub JoiningChecked : Type 0
JoiningChecked = (ss : List Statement) → refusal (flatten (map statement_checks (joined ss))) ≡ refusal (flatten (map statement_checks ss))

-- ---- writing

-- what is lent: numbers of 64 bits, and bytes
unfoldable pub fits_request : Request → Bool
fits_request q =
    ltb q.author 18446744073709551616
    && (ltb q.round 18446744073709551616
    && (are_bytes q.digest && (are_bytes q.includes && are_bytes q.statements)))

-- what is lent is what the draft says, byte for byte
pub record LentSays (q : Request) (d : Draft) : Type 0 where
  pub includes : flatten (map reference_bytes d.includes) ≡ q.includes
  pub statements : flatten (map given_bytes d.statements) ≡ q.statements

unfoldable pub LentMeant : Type 0
LentMeant = (q : Request) (d : Draft) → fits_request q ≡ true → draft_in q ≡ some d → LentSays q d

-- 02: "Reading a written record shows all that was given, shares and votes in the same order"
pub record Shows (o : Option ℕ) (q : Request) (r : Bytes) : Type 0 where
  pub draft : Draft
  pub given : draft_in q ≡ some draft
  pub block : Block
  -- 02: "the writer writes 2 where a time is given"
  pub reads : timed_of r ≡ some (record { block = block; time = o })
  pub author : block.reference.authority ≡ q.author
  pub round : block.reference.round ≡ q.round
  pub digest : block.reference.digest ≡ q.digest
  pub mark : pick block.marked 1 0 ≡ q.mark
  pub includes : block.includes ≡ draft.includes
  pub statements : Joins draft.statements block.statements
  -- 02: "A share's offset is its place in the written record"
  pub places : block.statements ≡ joined draft.statements
  pub spread : spread_out block.statements ≡ spread_out draft.statements

-- the first n bytes are the record, and "bytes past it stay"
pub record WrittenWell (o : Option ℕ) (q : Request) (out : Bytes) (n : ℕ) (after : Bytes) : Type 0 where
  pub fits : n ≤ length out
  pub well_formed : well_formed (take n after) ≡ true
  pub shows : Shows o q (take n after)
  pub past : drop n after ≡ drop n out
  pub size : length after ≡ length out

-- none, or a time of 64 bits
unfoldable pub is_time : Option ℕ → Bool
is_time o = fits_time (edition_for o) o

unfoldable pub WrittenShows : Type 0
WrittenShows = (o : Option ℕ) (q : Request) (out : Bytes) (n : ℕ) → is_time o ≡ true → fits_request q ≡ true → (write_timed o q out).answer ≡ answered n
    → WrittenWell o q out n (write_timed o q out).out

-- a refusal writes nothing
unfoldable pub RefusedStays : Type 0
RefusedStays = (o : Option ℕ) (q : Request) (out : Bytes) (n : ℕ) → (write_timed o q out).answer ≡ refused n → (write_timed o q out).out ≡ out

-- 02: "a record without neighbouring accepts comes back byte for byte when written anew", in its edition
unfoldable pub WrittenAnew : Type 0
WrittenAnew = (r out : Bytes) (t : Timed) → are_bytes r ≡ true → timed_of r ≡ some t → no_neighbours t.block.statements ≡ true → length r ≤ length out
    → write_timed t.time (taken_apart t.block) out ≡ record { answer = answered (length r); out = r ++ drop (length r) out }

pub record Claims : Type 0 where
  pub joining : JoiningMeant
  pub in_order : JoinedInOrder
  pub checked : JoiningChecked
  pub lent : LentMeant
  pub shows : WrittenShows
  pub refused : RefusedStays
  pub anew : WrittenAnew
