-- Machinery for the contracts of private functions: the first piece of some runs from a place on, a stretch with the same voters before which nobody
-- is named. Assumes nothing: these are definitions.
use Rattle.std.specs.Prelude.{ℕ, ◌+◌, ◌≡◌, List, [], ◌∷◌, ltb, leb}
use Rattle.std.proofs.Math.Option.{Option, none, some}
use Rattle.base.specs.Lists.{pick}
use Rattle.committee_set.specs.AuthoritySet.{AuthoritySet, nobody, united}
use Rattle.record_spec.specs.Reference.{TransactionLocator}
use Rattle.types.specs.Values.{reference_order}
use Rattle.std.specs.declared.cmp.Ordering.{Ordering}
use Rattle.std.specs.declared.cmp.Ordering.TheVariants.{Less, Equal, Greater}
use Rattle.index_spec.specs.Runs.{Run, run}
use Rattle.index_spec.specs.Part.{Stretch}
use Rattle.index_spec.specs.Walk.{Place, anywhere, beyond, Past, At}

-- ---- what a piece is

-- a stretch with the same voters, and from the place on nobody is named before it
pub record Ahead (f : TransactionLocator → AuthoritySet) (p : Place) (x : Run) : Type 0 where
  pub stretch : Stretch f x
  pub first : (l : TransactionLocator) → At p l.block l.offset → Past l.block (l.offset + 1) x.reference x.start → f l ≡ nobody

-- it begins at the place or past it
pub record Piece (f : TransactionLocator → AuthoritySet) (p : Place) (x : Run) : Type 0 where
  pub there : At p x.reference x.start
  pub ahead : Ahead f p x

-- from the place on nobody is named
unfoldable pub NobodyFrom : (TransactionLocator → AuthoritySet) → Place → Type 0
NobodyFrom f p = (l : TransactionLocator) → At p l.block l.offset → f l ≡ nobody

unfoldable pub AheadOr : (TransactionLocator → AuthoritySet) → Place → Option Run → Type 0
AheadOr f p none = NobodyFrom f p
AheadOr f p (some x) = Ahead f p x

unfoldable pub PieceOr : (TransactionLocator → AuthoritySet) → Place → Option Run → Type 0
PieceOr f p none = NobodyFrom f p
PieceOr f p (some x) = Piece f p x

-- ---- found

-- what is left of a run of block r from offset e of a block on, by the order of the two blocks
unfoldable pub from_offset : Ordering → ℕ → Run → Option Run
from_offset Less e x = some x
from_offset Greater e x = none
from_offset Equal e x = pick (leb x.end e) none (pick (leb e x.start) (some x) (some (run x.reference e x.end x.votes)))

unfoldable pub from_place : Place → Run → Option Run
from_place anywhere x = some x
from_place (beyond q e) x = from_offset (reference_order q x.reference) e x

unfoldable pub nearer : ℕ → ℕ → ℕ
nearer a b = pick (ltb a b) a b

unfoldable pub cut : Run → ℕ → Run
cut x o = run x.reference x.start (nearer x.end o) x.votes

unfoldable pub overlaid_by : Ordering → Run → Run → Run
overlaid_by Less x y = x
overlaid_by Greater x y = y
overlaid_by Equal x y =
    pick (ltb x.start y.start) (cut x y.start)
    (pick (ltb y.start x.start) (cut y x.start)
    (run x.reference x.start (nearer x.end y.end) (united x.votes y.votes)))

-- of two pieces from one place the first piece of both together
unfoldable pub overlaid : Run → Run → Run
overlaid x y = overlaid_by (reference_order x.reference y.reference) x y

unfoldable pub both : Option Run → Option Run → Option Run
both none o = o
both (some x) none = some x
both (some x) (some y) = some (overlaid x y)

-- the first piece of ascending runs
unfoldable pub or_else : Option Run → Option Run → Option Run
or_else (some x) o = some x
or_else none o = o

unfoldable pub first_piece : Place → List Run → Option Run
first_piece p [] = none
first_piece p (x ∷ xs) = or_else (from_place p x) (first_piece p xs)

-- the runs that do not end before the place, which ascend
unfoldable pub kept_if : Option Run → List Run → List Run → List Run
kept_if none xs rest = rest
kept_if (some y) xs rest = xs

unfoldable pub skipped : Place → List Run → List Run
skipped p [] = []
skipped p (x ∷ xs) = kept_if (from_place p x) (x ∷ xs) (skipped p xs)
