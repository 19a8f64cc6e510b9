-- What is given, there and back: taken apart it reads as itself, and what is read fits. Assumes nothing.
use mathlib.Core.Path.{◌≡◌, refl, ◌∙◌}
use mathlib.Core.List.{List, [], ◌∷◌, ◌++◌, map, append_assoc, flatten, append-nil}
use mathlib.Core.Option.{some}
use mathlib.Core.Bool.{Bool, true, false}
use Prim.Native.Nat.{ℕ, ◌/◌, ◌^◌, ◌<◌}
use native.Mathlib.Omega.{arith}
use lib.Dec.{eqb, lit<}
use lib.ListN.{length}
use borrow.Author.Tests.{eqb-true, eqb-false}
use Rattle.base.specs.Lists.{pick, is_empty}
use Rattle.base.specs.Le.{le_bytes}
use Rattle.base.specs.Read.{give, onward, ◌>>=◌, repeated}
use Rattle.base.proofs.Lists.{Every, every}
use Rattle.base.proofs.Le.{AllBytes}
use Rattle.base.proofs.UpTo.{ReadAll, to_end_reads, to_end_back}
use Rattle.base.proofs.Read.{items_reads, number_reads, ReadsBack, repeated_reads, complete_reads, Back, bind_back, map_back, Items, items_back, Number}
use Rattle.base.proofs.Read.{number_back, One, Many, repeated_back, complete_back}
use Rattle.record_spec.specs.Reference.{BlockReference}
use Rattle.record_spec.specs.Block.{Statement, share, accept, reject, vote_range}
use Rattle.record_spec.specs.Record.{read_reference, read_kind, read_statement, reference_bytes, locator_bytes, other_bytes, statement_bytes}
use Rattle.record_spec.proofs.Records.{ReferenceFits, LocatorFits, RangeFits, OtherFits, StatementFits, one_byte, byte_reads, reference_reads, reference_back}
use Rattle.record_spec.proofs.Records.{statement_reads, kind_back, length_includes}
use Rattle.draft_spec.specs.Draft.{read_long_share, read_given, includes_in, statements_in, given_bytes}

-- a statement as it is given: its payload has any length that 4 bytes say
abbrev pub GivenFits : Statement → Type 0
GivenFits (share payload) = (length payload < 256 ^ 4) × AllBytes payload
GivenFits (accept l) = LocatorFits l
GivenFits (reject l other) = LocatorFits l × OtherFits other
GivenFits (vote_range r) = RangeFits r

-- ---- forward

-- but for shares a statement is read as in a record
read_same : (k : ℕ) (t : List ℕ) → k < 256 → eqb k 0 ≡ false → read_given (k ∷ t) ≡ read_statement (k ∷ t)
unfolding read_given read_statement ◌>>=◌ onward
read_same k t h e = rw (byte_reads k t h, e)

pub given_reads : (s : Statement) → GivenFits s → ReadsBack read_given given_bytes s
unfolding read_given read_long_share given_bytes statement_bytes ◌>>=◌ onward give
given_reads (share v) h t =
    rw (
      append_assoc (le_bytes 4 (length v)) v t,
      byte_reads 0 (le_bytes 4 (length v) ++ (v ++ t)) (lit< tt),
      number_reads 4 (length v) (v ++ t) h.0,
      items_reads (length v) v t refl,
    )
given_reads (accept l) h t = read_same 1 (locator_bytes l ++ t) (lit< tt) refl ∙ statement_reads (accept l) h t
given_reads (reject l o) h t = read_same 2 ((locator_bytes l ++ other_bytes o) ++ t) (lit< tt) refl ∙ statement_reads (reject l o) h t
given_reads (vote_range r) h t =
    read_same 3 ((reference_bytes r.block ++ (le_bytes 8 r.start ++ le_bytes 8 r.end)) ++ t) (lit< tt) refl ∙ statement_reads (vote_range r) h t

pub some_bytes : (s : Statement) (t : List ℕ) → is_empty (given_bytes s ++ t) ≡ false
unfolding given_bytes statement_bytes is_empty
some_bytes (share v) t = refl
some_bytes (accept l) t = refl
some_bytes (reject l o) t = refl
some_bytes (vote_range r) t = refl

pub statements_read : (ss : List Statement) → Every GivenFits ss → statements_in (flatten (map given_bytes ss)) ≡ some ss
unfolding statements_in
statements_read ss h = to_end_reads read_given given_bytes some_bytes ss (every given_reads ss h)

pub includes_read : (is : List BlockReference) → Every ReferenceFits is → includes_in (flatten (map reference_bytes is)) ≡ some is
unfolding includes_in
includes_read is h =
    let s : List ℕ = flatten (map reference_bytes is) in
    let n : length s / 48 ≡ length is = omega (arith, length_includes is h) in
    rw n (complete_reads (repeated (length is) read_reference) s is
    (rw (append-nil s) at (repeated_reads read_reference reference_bytes is (every reference_reads is h) [])))

-- ---- back

-- what follows the kind byte k
abbrev After : ℕ → List ℕ → Statement → Type 0
After k y s = One given_bytes GivenFits (k ∷ y) s

long_share_back : Back read_long_share (After 0)
unfolding read_long_share given_bytes
long_share_back =
    bind_back _ _ (Number 4) (After 0) (number_back 4) λ n x p.
    map_back _ share (Items n) _ (items_back n) λ v y q.
    record { are = rw (p.are, q.are, q.many); right = (rw q.many p.fits, q.bytes) }

-- what a record has after a kind byte that is no share's
other_back : (k : ℕ) → (k ≡ 0 → ⊥) → Back (read_kind k) (After k)
unfolding statement_bytes given_bytes
other_back k ne s p b h =
    let c = kind_back k s p b h in
    record { front = c.front; splits = c.splits; says = go p.value c.says.are c.says.right }
  where
    go : {y : List ℕ} (v : Statement) → k ∷ y ≡ statement_bytes v → StatementFits v → After k y v
    go (share v) e f = let z : k ≡ 0 = cc in absurd (ne z)
    go (accept l) e f = record { are = e; right = f }
    go (reject l o) e f = record { are = e; right = f }
    go (vote_range r) e f = record { are = e; right = f }

pub given_back : Back read_given (One given_bytes GivenFits)
unfolding read_given
given_back =
    bind_back _ _ (Number 1) (One given_bytes GivenFits) (number_back 1) λ k x p.
    rw (p.are, one_byte k p.fits) (go k p.fits (eqb k 0) refl)
  where
    go : (k : ℕ) → k < 256 ^ 1 → (t : Bool) → eqb k 0 ≡ t → Back (pick t read_long_share (read_kind k)) (After k)
    go k f true e = rw (eqb-true k 0 e) long_share_back
    go k f false e = other_back k (eqb-false k 0 e)

pub statements_back : (s : List ℕ) (ss : List Statement) → AllBytes s → statements_in s ≡ some ss → ReadAll given_bytes GivenFits s ss
unfolding statements_in
statements_back s ss b h = to_end_back read_given given_bytes GivenFits given_back s ss b h

pub includes_back : (s : List ℕ) (is : List BlockReference) → AllBytes s → includes_in s ≡ some is → ReadAll reference_bytes ReferenceFits s is
unfolding includes_in
includes_back s is b h =
    let q = complete_back (repeated (length s / 48) read_reference) (Many reference_bytes ReferenceFits (length s / 48))
    (repeated_back reference_bytes ReferenceFits read_reference (length s / 48) reference_back) s is b h in
    record { are = q.are; right = q.right }
