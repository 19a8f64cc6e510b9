-- Bytes written with the highest first, and references and locators written. Assumes nothing.
use mathlib.Core.Path.{◌≡◌, sym, ap, ◌∙◌}
use mathlib.Core.List.{List, ◌++◌, reverse-append}
use Prim.Native.Nat.{ℕ, ◌+◌, ◌/◌, ◌%◌, ◌^◌, ◌<◌}
use native.Mathlib.Nat.{mod-eq_of_lt}
use native.Mathlib.Numerals.{add-one}
use native.Mathlib.Omega.{arith}
use lib.ListN.{length, drop, set, length-append, length-reverse}
use lib.Seq.{sets, drop-drop, drop_at}
use Rattle.base.specs.Le.{le_bytes}
use Rattle.base.proofs.Le.{length_le_bytes, le_bytes_add, le_bytes_mod, sets_append}
use Rattle.record_spec.specs.Reference.{BlockReference, locator}
use Rattle.record_spec.specs.Record.{reference_bytes, locator_bytes}
use Rattle.types.specs.Values.{be_bytes, digest_bytes, as_reference, as_locator}
use Rattle.types.specs.declared.BlockDigest as digest
use Rattle.types.specs.declared.BlockReference as declared
use Rattle.types.specs.declared.TransactionLocator as locators

pub length_be_bytes : (n v : ℕ) → length (be_bytes n v) ≡ n
unfolding be_bytes
length_be_bytes n v = length-reverse (le_bytes n v) ∙ length_le_bytes n v

-- behind a word
pub next_word : (n v : ℕ) (xs : List ℕ) → drop (8 + n) (be_bytes 8 v ++ xs) ≡ drop n xs
next_word n v xs = sym (drop-drop n 8 (be_bytes 8 v ++ xs)) ∙ ap (drop n) (drop_at (be_bytes 8 v) xs 8 (length_be_bytes 8 v))

-- the high part stands first
be_add : (m n v : ℕ) → be_bytes (m + n) v ≡ be_bytes n (v / 256 ^ m) ++ be_bytes m (v % 256 ^ m)
unfolding be_bytes
be_add m n v = rw (le_bytes_add m n v, reverse-append (le_bytes m v) (le_bytes n (v / 256 ^ m)), le_bytes_mod m v)

-- two halves written one after the other
pub high_double : (n v : ℕ) (l : List ℕ) (p : ℕ) → sets (sets l p (be_bytes n (v / 256 ^ n))) (p + n) (be_bytes n (v % 256 ^ n)) ≡ sets l p (be_bytes (n + n) v)
high_double n v l p = sym (rw (be_add n n v, sets_append (be_bytes n (v / 256 ^ n)) (be_bytes n (v % 256 ^ n)) l p, length_be_bytes n (v / 256 ^ n)))

-- four words written one after the other
pub high_four : (d : digest.BlockDigest) (l : List ℕ) (p : ℕ)
    → sets (sets (sets (sets l p (be_bytes 8 d.0)) (p + 8) (be_bytes 8 d.1)) (p + 16) (be_bytes 8 d.2)) (p + 24) (be_bytes 8 d.3) ≡ sets l p
    (digest_bytes d)
unfolding digest_bytes
high_four d l p =
    let e : p + 8 + 8 ≡ p + 16 = omega arith in
    let f : p + 16 + 8 ≡ p + 24 = omega arith in
    sym (rw (
      sets_append (be_bytes 8 d.0) (be_bytes 8 d.1 ++ (be_bytes 8 d.2 ++ be_bytes 8 d.3)) l p,
      length_be_bytes 8 d.0,
      sets_append (be_bytes 8 d.1) (be_bytes 8 d.2 ++ be_bytes 8 d.3) (sets l p (be_bytes 8 d.0)) (p + 8),
      length_be_bytes 8 d.1,
      e,
      sets_append (be_bytes 8 d.2) (be_bytes 8 d.3) (sets (sets l p (be_bytes 8 d.0)) (p + 8) (be_bytes 8 d.1)) (p + 16),
      length_be_bytes 8 d.2,
      f,
    ))

pub length_digest_bytes : (d : digest.BlockDigest) → length (digest_bytes d) ≡ 32
unfolding digest_bytes
length_digest_bytes d = simp (length-append, length_be_bytes)

-- the parts of a reference written one after the other
pub reference_written : (r : BlockReference) (l : List ℕ) (p : ℕ)
    → sets (sets (sets l p (le_bytes 8 r.authority)) (p + 8) (le_bytes 8 r.round)) (p + 16) r.digest ≡ sets l p (reference_bytes r)
unfolding reference_bytes
reference_written r l p =
    let a = le_bytes 8 r.authority in
    let n = le_bytes 8 r.round in
    let e : p + 8 + 8 ≡ p + 16 = omega arith in
    sym (rw (
      sets_append a (n ++ r.digest) l p,
      length_le_bytes 8 r.authority,
      sets_append n r.digest (sets l p a) (p + 8),
      length_le_bytes 8 r.round,
      e,
    ))

pub length_reference_bytes : (r : declared.BlockReference) → length (reference_bytes (as_reference r)) ≡ 48
unfolding reference_bytes as_reference
length_reference_bytes r = simp (length-append, length_le_bytes, length_digest_bytes)

-- a reference and what follows it
pub locator_written : (t : locators.TransactionLocator) (l : List ℕ) (p : ℕ)
    → sets (sets l p (reference_bytes (as_reference t.block))) (p + 48) (le_bytes 8 t.offset) ≡ sets l p (locator_bytes (as_locator t))
unfolding locator_bytes as_locator locator
locator_written t l p =
    sym (rw (sets_append (reference_bytes (as_reference t.block)) (le_bytes 8 t.offset) l p, length_reference_bytes t.block))

pub length_locator_bytes : (t : locators.TransactionLocator) → length (locator_bytes (as_locator t)) ≡ 56
unfolding locator_bytes as_locator locator
length_locator_bytes t = simp (length-append, length_reference_bytes, length_le_bytes)

-- two bytes, the highest first
pub high_two : (v : ℕ) (l : List ℕ) (p : ℕ) → v < 65536 → set (set l p (v / 256)) (p + 1) (v % 256) ≡ sets l p (be_bytes 2 v)
unfolding be_bytes le_bytes
high_two v l p h = rw (add-one, mod-eq_of_lt {n = v / 256} {m = 256} (omega arith))
