-- Records read and written are each other's inverse, and references and locators are in order, as claims. Assumes nothing: these are definitions.
use Rattle.std.specs.Prelude.{ℕ, ◌+◌, ◌≡◌, Bool, true, false, ◌&&◌, ltb, leb, eqb, length, take, drop, replicate}
use mathlib.Core.List.{◌++◌, map, flatten}
use Rattle.std.proofs.Math.Option.{Option, none, some}
use Rattle.base.specs.Lists.{any_of, all_of}
use Rattle.base.specs.Le.{Bytes, le_bytes}
use Rattle.base.specs.Read.{complete}
use Rattle.record_spec.specs.Reference.{BlockReference, TransactionLocator, reference_before, locator_before, within}
use Rattle.record_spec.specs.Block.{Statement, share, accept, reject, vote_range, Block, is_share_at, shared_ranges}
use Rattle.record_spec.specs.Record.{statement_bytes, Edition, old, timed, Timed, edition_bytes, read_in, timed_of, body_start, statement_start, time_bytes}
use Rattle.record_spec.specs.Record.{bytes_in, edition_for, timed_bytes}

unfoldable pub are_bytes : Bytes → Bool
are_bytes r = all_of (λ x. ltb x 256) r

unfoldable pub fits_reference : BlockReference → Bool
fits_reference r =
    ltb r.authority 18446744073709551616
    && (ltb r.round 18446744073709551616 && (eqb (length r.digest) 32 && are_bytes r.digest))

unfoldable pub fits_locator : TransactionLocator → Bool
fits_locator l = fits_reference l.block && ltb l.offset 18446744073709551616

unfoldable pub fits_other : Option TransactionLocator → Bool
fits_other none = true
fits_other (some l) = fits_locator l

unfoldable pub fits_statement : Statement → Bool
fits_statement (share payload) = ltb (length payload) 65536 && are_bytes payload
fits_statement (accept l) = fits_locator l
fits_statement (reject l other) = fits_locator l && fits_other other
fits_statement (vote_range r) =
    fits_reference r.block && (ltb r.start 18446744073709551616 && ltb r.end 18446744073709551616)

-- 01: "include count 2 (at most 256), statement count 2 (at most 1,024)", and every number fits its bytes
unfoldable pub fits_block : Block → Bool
fits_block b =
    fits_reference b.reference
    && (leb (length b.includes) 256
    && (all_of fits_reference b.includes
    && (leb (length b.statements) 1024 && all_of fits_statement b.statements)))

-- the first edition has no time, and the second one of 64 bits
unfoldable pub fits_time : Edition → Option ℕ → Bool
fits_time old none = true
fits_time old (some x) = false
fits_time timed none = false
fits_time timed (some x) = ltb x 18446744073709551616

unfoldable pub fits_in : Edition → Timed → Bool
fits_in e t = fits_block t.block && fits_time e t.time

-- 02: "Reading and accepting are shown with the edition as a parameter"
unfoldable pub ReadsIn : Type 0
ReadsIn = (e : Edition) (t : Timed) → fits_in e t ≡ true → complete (read_in e (bytes_in e t)) ≡ some t

unfoldable pub WritesIn : Type 0
WritesIn = (e : Edition) (r : Bytes) (t : Timed) → are_bytes r ≡ true → complete (read_in e r) ≡ some t → bytes_in e t ≡ r

-- a record says its edition, so that either is read without being told which
unfoldable pub ReadsWhatIsWritten : Type 0
ReadsWhatIsWritten = (t : Timed) → fits_in (edition_for t.time) t ≡ true → timed_of (timed_bytes t) ≡ some t

unfoldable pub WritesWhatIsRead : Type 0
WritesWhatIsRead = (r : Bytes) (t : Timed) → are_bytes r ≡ true → timed_of r ≡ some t → timed_bytes t ≡ r

-- what a record that is read has after its first 53 bytes
pub record StandsIn (r : Bytes) (t : Timed) : Type 0 where
  pub edition : take 3 (drop 53 r) ≡ edition_bytes (edition_for t.time)
  pub start : body_start r ≡ 56 + length (time_bytes t.time)
  -- 02: "the time, 16 bytes little-endian, after the header. Nanoseconds above 2^64 - 1 are malformed": the upper half is zero
  pub time : (x : ℕ) → t.time ≡ some x → take 16 (drop 56 r) ≡ le_bytes 8 x ++ replicate 8 0
  -- the statements stand after the time and the includes
  pub statements : (i : ℕ) → drop (statement_start r i) r ≡ flatten (map statement_bytes (drop i t.block.statements))

unfoldable pub PlacesMeant : Type 0
PlacesMeant = (r : Bytes) (t : Timed) → are_bytes r ≡ true → timed_of r ≡ some t → StandsIn r t

-- one of two that differ comes first, and only one; what comes before another comes before those after it
pub record StrictlyOrdered (A : Type 0) (before : A → A → Bool) : Type 0 where
  pub irreflexive : (a : A) → before a a ≡ false
  pub transitive : (a b c : A) → before a b ≡ true → before b c ≡ true → before a c ≡ true
  pub total : (a b : A) → before a b ≡ false → before b a ≡ false → a ≡ b

pub record Claims : Type 0 where
  pub reads_in : ReadsIn
  pub writes_in : WritesIn
  pub reads : ReadsWhatIsWritten
  pub writes : WritesWhatIsRead
  pub places : PlacesMeant
  -- 01: "ordered by round, author, digest bytes"; "A locator is a reference and an offset, ordered so"
  pub references : StrictlyOrdered BlockReference reference_before
  pub locators : StrictlyOrdered TransactionLocator locator_before
  -- 01: "Runs of neighbouring shares form ranges": an offset lies in a run exactly where it is a share
  pub runs : (b : Block) (o : ℕ) → any_of (λ x. within x.start x.end o) (shared_ranges b) ≡ is_share_at b o
