-- The parts of a statement written one after the other, and its size. Assumes nothing.
use mathlib.Core.Path.{◌≡◌, refl, sym, ◌∙◌}
use mathlib.Core.List.{List, [], ◌∷◌, ◌++◌}
use mathlib.Core.Option.{none, some}
use mathlib.Core.Bool.{Bool, true, false}
use Prim.Native.Nat.{ℕ, ◌+◌, ◌≤◌, ◌<◌}
use native.Mathlib.Numerals.{add-one}
use native.Mathlib.Omega.{arith}
use lib.Dec.{ltb}
use lib.ListN.{length, take, drop, set, length-append, length-drop}
use lib.Seq.{sets, length-take-le}
use borrow.Author.Tests.{leb-true, ltb-false}
use Rattle.base.specs.Lists.{pick}
use Rattle.base.specs.Le.{le_bytes}
use Rattle.base.proofs.Le.{length_le_bytes, sets_append}
use Rattle.record_spec.specs.Reference.{new_range}
use Rattle.record_spec.specs.Block.{share, reject, vote_range}
use Rattle.record_spec.specs.Record.{reference_bytes, locator_bytes, other_bytes, statement_bytes}
use Rattle.types.specs.Values.{as_reference, as_locator, as_range}
use Rattle.types.specs.declared.TransactionLocator.{TransactionLocator}
use Rattle.types.specs.declared.TransactionLocatorRange.{TransactionLocatorRange}
use Rattle.record_reference_bytes.proofs.Written.{length_reference_bytes, length_locator_bytes}
use Rattle.record_statement.specs.Values.{as_statement}
use Rattle.record_statement.specs.declared.BaseStatement.{BaseStatement}
use Rattle.record_statement.specs.declared.BaseStatement.TheVariants.{Share, Accept, Reject, RejectFor, VoteRange}
use Rattle.draft_spec.specs.Writing.{is_long}
use Rattle.draft_accept_runs.specs.Step.{payload_inside}
use Rattle.draft_statements.specs.Step.{size_of}
use Rattle.std.specs.Prelude.{None, Some}

-- ---- written

-- a byte, and what follows it
pub byte_first : (l : List ℕ) (p x : ℕ) (vs : List ℕ) → sets (set l p x) (p + 1) vs ≡ sets l p (x ∷ vs)
byte_first l p x vs = rw add-one

module _ (l : List ℕ) (p : ℕ) where
  pub share_written : (v : List ℕ) (n : ℕ) → length v ≡ n → sets (sets (set l p 0) (p + 1) (le_bytes 2 n)) (p + 3) v ≡ sets l p (statement_bytes (share v))
  unfolding statement_bytes
  share_written v n h =
      let e : p + 1 + 2 ≡ p + 3 = omega arith in
      sym (rw (← byte_first l p 0 (le_bytes 2 (length v) ++ v), h, sets_append (le_bytes 2 n) v (set l p 0) (p + 1), length_le_bytes 2 n, e))

  pub range_written : (r : TransactionLocatorRange)
      → sets (sets (sets (set l p 3) (p + 1) (reference_bytes (as_reference r.block))) (p + 49) (le_bytes 8 r.offset_start_inclusive)) (p + 57)
      (le_bytes 8 r.offset_end_exclusive)
      ≡ sets l p (statement_bytes (vote_range (as_range r)))
  unfolding statement_bytes as_range new_range
  range_written r =
      let b = reference_bytes (as_reference r.block) in
      let s = le_bytes 8 r.offset_start_inclusive in
      let e = le_bytes 8 r.offset_end_exclusive in
      let f : p + 1 + 48 ≡ p + 49 = omega arith in
      let g : p + 49 + 8 ≡ p + 57 = omega arith in
      sym (rw (
        ← byte_first l p 3 (b ++ (s ++ e)),
        sets_append b (s ++ e) (set l p 3) (p + 1),
        length_reference_bytes r.block,
        f,
        sets_append s e (sets (set l p 3) (p + 1) b) (p + 49),
        length_le_bytes 8 r.offset_start_inclusive,
        g,
      ))

  -- a kind byte and a locator, and what follows them
  marked_then : (x : ℕ) (t : TransactionLocator) (vs : List ℕ) → sets (sets l p (x ∷ locator_bytes (as_locator t))) (p + 57) vs ≡ sets l p
      (x ∷ locator_bytes (as_locator t) ++ vs)
  marked_then x t vs =
      let e : length (x ∷ locator_bytes (as_locator t)) ≡ 57 = rw (length_locator_bytes t) in
      sym (sets_append (x ∷ locator_bytes (as_locator t)) vs l p ∙ rw e)

  pub reject_written : (t : TransactionLocator) → set (sets l p (2 ∷ locator_bytes (as_locator t))) (p + 57) 0 ≡ sets l p
      (statement_bytes (reject (as_locator t) none))
  unfolding statement_bytes other_bytes
  reject_written t = marked_then 2 t (0 ∷ [])

  pub reject_for_written : (t u : TransactionLocator)
      → sets (sets l p (2 ∷ locator_bytes (as_locator t))) (p + 57) (1 ∷ locator_bytes (as_locator u)) ≡ sets l p
      (statement_bytes (reject (as_locator t) (some (as_locator u))))
  unfolding statement_bytes other_bytes
  reject_for_written t u = marked_then 2 t (1 ∷ locator_bytes (as_locator u))

-- ---- sizes

pub share_length : (s : List ℕ) (start len : ℕ) → start + len ≤ length s → length (take len (drop start s)) ≡ len
share_length s start len h = length-take-le len (drop start s) (omega (arith, length-drop start s))

-- the size of a statement that code holds
unfoldable pub bytes_of : BaseStatement → ℕ
bytes_of (Share start len) = 3 + len
bytes_of (Accept l) = 57
bytes_of (Reject l) = 58
bytes_of (RejectFor l other) = 114
bytes_of (VoteRange r) = 65

pub inside_share : (n start len : ℕ) → payload_inside n (Share start len) ≡ true → start + len ≤ n
unfolding payload_inside
inside_share n start len h = leb-true (start + len) n h

pub length_written : (s : List ℕ) (st : BaseStatement) → payload_inside (length s) st ≡ true → length (statement_bytes (as_statement s st)) ≡ bytes_of st
unfolding as_statement statement_bytes other_bytes as_range new_range bytes_of
length_written s (Share start len) h = simp (length-append, length_le_bytes) (omega (arith, share_length s start len (inside_share (length s) start len h)))
length_written s (Accept l) h = rw (length_locator_bytes l)
length_written s (Reject l) h = simp (length-append, length_locator_bytes)
length_written s (RejectFor l m) h = simp (length-append, length_locator_bytes)
length_written s (VoteRange r) h = simp (length-append, length_reference_bytes, length_le_bytes)

pub long_share : (s : List ℕ) (start len : ℕ) → start + len ≤ length s → is_long (share (take len (drop start s))) ≡ ltb 65535 len
unfolding is_long
long_share s start len h = rw (share_length s start len h)

module _ (s : List ℕ) where
  pub size_bytes : (st : BaseStatement) (n : ℕ) → payload_inside (length s) st ≡ true → size_of st ≡ Some n → (is_long (as_statement s st) ≡ false) ×
      ((n ≡ bytes_of st) × (n ≤ 65538))
  unfolding size_of as_statement bytes_of is_long
  size_bytes (Share start len) n h e = go (ltb 65535 len) refl e
    where
      go : (t : Bool) → ltb 65535 len ≡ t → pick t None (Some (3 + len)) ≡ Some n → (ltb 65535 (length (take len (drop start s))) ≡ false) ×
          ((n ≡ 3 + len) × (n ≤ 65538))
      go true f k = let z : ◌≡◌ {A = ℕ} 0 1 = cc in absurd (omega arith)
      go false f k =
          let z : 3 + len ≡ n = cc in
          (rw (share_length s start len (inside_share (length s) start len h)) f, (sym z, omega (arith, ltb-false 65535 len f)))
  size_bytes (Accept l) n h e = let z : 57 ≡ n = cc in (refl, (sym z, omega arith))
  size_bytes (Reject l) n h e = let z : 58 ≡ n = cc in (refl, (sym z, omega arith))
  size_bytes (RejectFor l m) n h e = let z : 114 ≡ n = cc in (refl, (sym z, omega arith))
  size_bytes (VoteRange r) n h e = let z : 65 ≡ n = cc in (refl, (sym z, omega arith))

  pub size_long : (st : BaseStatement) → payload_inside (length s) st ≡ true → size_of st ≡ None → is_long (as_statement s st) ≡ true
  unfolding size_of as_statement is_long
  size_long (Share start len) h e = go (ltb 65535 len) refl e
    where
      go : (t : Bool) → ltb 65535 len ≡ t → pick t None (Some (3 + len)) ≡ None → ltb 65535 (length (take len (drop start s))) ≡ true
      go true f k = rw (share_length s start len (inside_share (length s) start len h)) f
      go false f k = let z : ◌≡◌ {A = ℕ} 0 1 = cc in absurd (omega arith)
  size_long (Accept l) h e = let z : ◌≡◌ {A = ℕ} 0 1 = cc in absurd (omega arith)
  size_long (Reject l) h e = let z : ◌≡◌ {A = ℕ} 0 1 = cc in absurd (omega arith)
  size_long (RejectFor l m) h e = let z : ◌≡◌ {A = ℕ} 0 1 = cc in absurd (omega arith)
  size_long (VoteRange r) h e = let z : ◌≡◌ {A = ℕ} 0 1 = cc in absurd (omega arith)

-- ---- room for a statement

module _ (s : List ℕ) (st : BaseStatement) (at n : ℕ) (inside : payload_inside (length s) st ≡ true)
    (room : at + length (statement_bytes (as_statement s st)) ≤ n) where
  pub room_for : (t : BaseStatement) → st ≡ t → at + bytes_of t ≤ n
  room_for t e = rw (← e) (rw (length_written s st inside) at room)

  pub share_room : (start len : ℕ) → st ≡ Share start len → is_long (as_statement s st) ≡ false → (start + len ≤ length s) ×
      ((len < 65536) × (at + (3 + len) ≤ n))
  unfolding as_statement bytes_of
  share_room start len e h =
      let fits : start + len ≤ length s = inside_share (length s) start len (rw e at inside) in
      let short : ltb 65535 len ≡ false = rw (long_share s start len fits) at (rw e at h) in
      (fits, (omega (arith, ltb-false 65535 len short), room_for (Share start len) e))
