-- Neighbouring accepts become ranges (`VoteRangeBuilder` of types.rs). Assumes nothing: these are definitions.
use Rattle.std.specs.Prelude.{◌+◌, Bool, true, false, not, ◌&&◌, ◌||◌, ltb, eqb}
use mathlib.Core.List.{List, [], ◌∷◌, map, flatten}
use Rattle.base.specs.Lists.{pick, adjacent}
use Rattle.record_spec.specs.Reference.{TransactionLocatorRange, max_len, locator, new_range, one_range, same_reference, locators}
use Rattle.record_spec.specs.Block.{Statement, share, accept, reject, vote_range}

-- a statement that stays as it is given, or a run of accepts of one block, each offset one above the last
pub data Piece : Type 0 where
  apart : Statement → Piece
  run : TransactionLocatorRange → Piece

-- 02: "for one block, each offset one above the last, .. as far as its end stays below 1,048,576": the second goes on where the first ends
unfoldable pub touches : TransactionLocatorRange → TransactionLocatorRange → Bool
touches r q = same_reference r.block q.block && (eqb r.end q.start && ltb q.end max_len)

-- a run in front of pieces: it goes on with the run that begins where it ends, or stands by itself
unfoldable pub fronted : TransactionLocatorRange → List Piece → List Piece
fronted r [] = run r ∷ []
fronted r (apart s ∷ ps) = run r ∷ apart s ∷ ps
fronted r (run q ∷ ps) = pick (touches r q) (run (new_range r.block r.start q.end) ∷ ps) (run r ∷ run q ∷ ps)

-- 02: "a given range a range": it joins with nothing
unfoldable pub attached : Statement → List Piece → List Piece
attached (share payload) ps = apart (share payload) ∷ ps
attached (accept l) ps = fronted (one_range l) ps
attached (reject l other) ps = apart (reject l other) ∷ ps
attached (vote_range r) ps = apart (vote_range r) ∷ ps

-- 02: "Accepts that follow each other for one block, each offset one above the last": the longest runs
unfoldable pub pieces : List Statement → List Piece
pieces [] = []
pieces (s ∷ ss) = attached s (pieces ss)

-- 02: "become a range ..; a lone accept stays a vote"
unfoldable pub run_statement : TransactionLocatorRange → Statement
run_statement r = pick (eqb (r.start + 1) r.end) (accept (locator r.block r.start)) (vote_range r)

unfoldable pub piece_statement : Piece → Statement
piece_statement (apart s) = s
piece_statement (run r) = run_statement r

-- the statements as they are written
unfoldable pub joined : List Statement → List Statement
joined ss = map piece_statement (pieces ss)

-- ---- what it means

unfoldable pub is_accept : Statement → Bool
is_accept (share payload) = false
is_accept (accept l) = true
is_accept (reject l other) = false
is_accept (vote_range r) = false

-- the statements that a piece stands for
unfoldable pub piece_given : Piece → List Statement
piece_given (apart s) = s ∷ []
piece_given (run r) = map accept (locators r)

-- a run has an accept at least, and where it has more its end stays below the limit; no accept stands apart
unfoldable pub right_piece : Piece → Bool
right_piece (apart s) = not (is_accept s)
right_piece (run r) = ltb r.start r.end && (eqb (r.start + 1) r.end || ltb r.end max_len)

-- two pieces that could be one
unfoldable pub joinable : Piece → Piece → Bool
joinable (apart s) p = false
joinable (run r) (apart s) = false
joinable (run r) (run q) = touches r q

-- two accepts that could be one range
unfoldable pub neighbours : Statement → Statement → Bool
neighbours (share payload) t = false
neighbours (accept l) (share payload) = false
neighbours (accept l) (accept m) = touches (one_range l) (one_range m)
neighbours (accept l) (reject m other) = false
neighbours (accept l) (vote_range r) = false
neighbours (reject l other) t = false
neighbours (vote_range r) t = false

-- 02: "a record without neighbouring accepts"
unfoldable pub no_neighbours : List Statement → Bool
no_neighbours ss = adjacent (λ s t. not (neighbours s t)) ss

-- a statement with a range spread out into the accepts of its locators
unfoldable pub shown : Statement → List Statement
shown (share payload) = share payload ∷ []
shown (accept l) = accept l ∷ []
shown (reject l other) = reject l other ∷ []
shown (vote_range r) = map accept (locators r)

unfoldable pub spread_out : List Statement → List Statement
spread_out ss = flatten (map shown ss)
