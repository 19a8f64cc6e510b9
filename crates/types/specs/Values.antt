-- What the code's values mean: for each declared type its one conversion. Assumes nothing: these are definitions.
use Rattle.std.specs.Prelude.{ℕ, Bool, List, ◌++◌, reverse, eqb, ltb, Some, None}
use Rattle.std.specs.declared.option.Option as code
use Rattle.std.proofs.Math.Option.{Option, none, some}
use Rattle.base.specs.Lists.{pick, same, before}
use Rattle.base.specs.Le.{Bytes, le_bytes}
use Rattle.record_spec.specs.Reference.{BlockReference, TransactionLocator, TransactionLocatorRange, locator, new_range, same_reference, reference_before}
use Rattle.record_spec.specs.Reference.{same_locator, locator_before}
use Rattle.types.specs.declared.BlockDigest as digest
use Rattle.types.specs.declared.BlockReference as reference
use Rattle.types.specs.declared.TransactionLocator as locators
use Rattle.types.specs.declared.TransactionLocatorRange as ranges
use Rattle.std.specs.declared.cmp.Ordering.{Ordering}
use Rattle.std.specs.declared.cmp.Ordering.TheVariants.{Less, Equal, Greater}

-- the n bytes of a number, highest first
unfoldable pub be_bytes : ℕ → ℕ → Bytes
be_bytes n v = reverse (le_bytes n v)

-- 01: "digest (32 bytes)", here four words, each of 8 bytes with the highest first: so the order of the words is that of the bytes
unfoldable pub digest_bytes : digest.BlockDigest → Bytes
digest_bytes d = be_bytes 8 d.0 ++ (be_bytes 8 d.1 ++ (be_bytes 8 d.2 ++ be_bytes 8 d.3))

unfoldable pub as_reference : reference.BlockReference → BlockReference
as_reference r = record { authority = r.authority.0; round = r.round.0; digest = digest_bytes r.digest }

unfoldable pub as_locator : locators.TransactionLocator → TransactionLocator
as_locator l = locator (as_reference l.block) l.offset

-- a locator, or none: where a list goes on, or what it has next
unfoldable pub as_maybe : code.Option locators.TransactionLocator → Option TransactionLocator
as_maybe (Some l) = some (as_locator l)
as_maybe None = none

unfoldable pub as_range : ranges.TransactionLocatorRange → TransactionLocatorRange
as_range r = new_range (as_reference r.block) r.offset_start_inclusive r.offset_end_exclusive

-- the order of two things, from the tests that they are the same and that the first comes before the other
unfoldable pub order_of : Bool → Bool → Ordering
order_of same before = pick same Equal (pick before Less Greater)

unfoldable pub word_order : ℕ → ℕ → Ordering
word_order v w = order_of (eqb v w) (ltb v w)

-- the order of lists of numbers
unfoldable pub key_order : List ℕ → List ℕ → Ordering
key_order xs ys = order_of (same xs ys) (before xs ys)

-- 01: "ordered by round, author, digest bytes"
unfoldable pub reference_order : BlockReference → BlockReference → Ordering
reference_order r q = order_of (same_reference r q) (reference_before r q)

-- 01: "A locator is a reference and an offset, ordered so"
unfoldable pub locator_order : TransactionLocator → TransactionLocator → Ordering
locator_order l m = order_of (same_locator l m) (locator_before l m)
