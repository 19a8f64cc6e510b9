-- References, locators and locator ranges (types.rs). Assumes nothing: these are definitions.
use Rattle.std.specs.Prelude.{ℕ, ◌+◌, ◌-◌, Bool, ◌&&◌, ◌||◌, List, ◌∷◌, map, ltb, leb, eqb}
use Rattle.base.specs.Lists.{same, before, count_from}
use Rattle.base.specs.Le.{Bytes}
use Rattle.committee.specs.Committee.{AuthorityIndex, RoundNumber}

-- 01: "A reference is author, round, digest (32 bytes)"
pub record BlockReference : Type 0 where
  pub authority : AuthorityIndex
  pub round : RoundNumber
  pub digest : Bytes

-- 01: "ordered by round, author, digest bytes"
unfoldable pub reference_key : BlockReference → List ℕ
reference_key r = r.round ∷ r.authority ∷ r.digest

unfoldable pub same_reference : BlockReference → BlockReference → Bool
same_reference r q = same (reference_key r) (reference_key q)

unfoldable pub reference_before : BlockReference → BlockReference → Bool
reference_before r q = before (reference_key r) (reference_key q)

-- 01: "A locator is a reference and an offset"
pub record TransactionLocator : Type 0 where
  pub block : BlockReference
  pub offset : ℕ

-- TransactionLocator::new
unfoldable pub locator : BlockReference → ℕ → TransactionLocator
locator r o = record { block = r; offset = o }

unfoldable pub same_locator : TransactionLocator → TransactionLocator → Bool
same_locator l m = same_reference l.block m.block && eqb l.offset m.offset

-- 01: "ordered so"
unfoldable pub locator_before : TransactionLocator → TransactionLocator → Bool
locator_before l m =
    reference_before l.block m.block
    || (same_reference l.block m.block && ltb l.offset m.offset)

-- 01: "vote range, reference, start 8, end 8 (excluded)"
pub record TransactionLocatorRange : Type 0 where
  pub block : BlockReference
  pub start : ℕ
  pub end : ℕ

-- 01: "the range type's own limit, 1,048,576 (`MAX_LEN`)"
abbrev pub max_len : ℕ
max_len = 1048576

-- TransactionLocatorRange::new
unfoldable pub new_range : BlockReference → ℕ → ℕ → TransactionLocatorRange
new_range r start end = record { block = r; start = start; end = end }

-- TransactionLocatorRange::one
unfoldable pub one_range : TransactionLocator → TransactionLocatorRange
one_range l = new_range l.block l.offset (l.offset + 1)

-- the offset lies in start..end
unfoldable pub within : ℕ → ℕ → ℕ → Bool
within start end o = leb start o && ltb o end

-- the offsets of a range, ascending
unfoldable pub offsets : TransactionLocatorRange → List ℕ
offsets r = count_from r.start (r.end - r.start)

-- the locators of a range, ascending
unfoldable pub locators : TransactionLocatorRange → List TransactionLocator
locators r = map (locator r.block) (offsets r)

unfoldable pub covers : TransactionLocatorRange → TransactionLocator → Bool
covers r l = same_reference r.block l.block && within r.start r.end l.offset
