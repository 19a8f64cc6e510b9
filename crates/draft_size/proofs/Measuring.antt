-- The statements as they are written, one by one: measured, and as bytes. Assumes nothing.
use mathlib.Core.Path.{◌≡◌, refl}
use mathlib.Core.List.{List, [], ◌∷◌, ◌++◌, map, flatten}
use mathlib.Core.Option.{Option, none, some}
use mathlib.Core.Bool.{true, false}
use Prim.Native.Nat.{ℕ, ◌+◌, ◌≤◌}
use native.Mathlib.Omega.{arith}
use lib.Dec.{ltb}
use lib.ListN.{length, length-append}
use borrow.Author.Tests.{lt-ltb, le-ltb, not-true}
use Rattle.base.specs.Lists.{any_of}
use Rattle.base.proofs.Tests.{not_both, or_right, neither_left, neither_right}
use Rattle.record_spec.specs.Block.{Statement}
use Rattle.record_spec.specs.Record.{statement_bytes}
use Rattle.draft_spec.specs.Joining.{pieces, joined}
use Rattle.draft_spec.specs.Writing.{is_long}
use Rattle.draft_joined.specs.Step.{joined_from, followed}
use Rattle.draft_joined.proofs.Given.{all_given}
use Rattle.draft_size.specs.Step.{measured_on, bytes_in, writable}
use Rattle.std.specs.Prelude.{Some, None}

-- nothing is left
pub joined_done : (s : List ℕ) (p : ℕ) → length s ≤ p → joined_from s p ≡ some []
unfolding joined_from joined pieces
joined_done s p h = rw (all_given s p h)

-- ---- measured

module _ (count bytes : ℕ) where
  pub measured_done : count ≤ 1024 → measured_on count bytes (some []) ≡ Some (count, bytes)
  unfolding measured_on any_of flatten
  measured_done h =
      let n : count + 0 ≡ count = omega arith in
      let b : bytes + 0 ≡ bytes = omega arith in
      rw (n, b, le-ltb 1024 count h)

  module _ (w : Statement) where
    pub measured_long : is_long w ≡ true → (o : Option (List Statement)) → measured_on count bytes (followed w o) ≡ None
    unfolding measured_on followed any_of
    measured_long h none = refl
    measured_long h (some ws) = rw h

    pub measured_many : 1024 ≤ count → (o : Option (List Statement)) → measured_on count bytes (followed w o) ≡ None
    unfolding measured_on followed
    measured_many h none = refl
    measured_many h (some ws) =
        rw (or_right (any_of is_long (w ∷ ws)) (ltb 1024 (count + length (w ∷ ws))) (lt-ltb 1024 (count + length (w ∷ ws)) (omega arith)))

    pub measured_on_lem : (n : ℕ) → is_long w ≡ false → n ≡ length (statement_bytes w) → (o : Option (List Statement))
        → measured_on count bytes (followed w o) ≡ measured_on (count + 1) (bytes + n) o
    unfolding measured_on followed any_of flatten
    measured_on_lem n h e none = refl
    measured_on_lem n h e (some ws) =
        let c : count + length (w ∷ ws) ≡ count + 1 + length ws = omega arith in
        let b : bytes + length (statement_bytes w ++ flatten (map statement_bytes ws)) ≡ bytes + n + length (flatten (map statement_bytes ws)) = omega
        (arith, length-append (statement_bytes w) (flatten (map statement_bytes ws))) in
        rw (h, c, b)

-- ---- as bytes

module _ (w : Statement) where
  pub writes_short : (o : Option (List Statement)) → writable (followed w o) ≡ true → is_long w ≡ false
  unfolding writable followed any_of
  writes_short none h = absurd (not_both h refl)
  writes_short (some ws) h = neither_left (is_long w) (any_of is_long ws) (not-true _ h)

  pub writes_others : (o : Option (List Statement)) → writable (followed w o) ≡ true → writable o ≡ true
  unfolding writable followed any_of
  writes_others none h = h
  writes_others (some ws) h = rw (neither_right (is_long w) (any_of is_long ws) (not-true _ h))

  pub writes_first : (o : Option (List Statement)) → writable (followed w o) ≡ true → bytes_in (followed w o) ≡ statement_bytes w ++ bytes_in o
  unfolding writable followed bytes_in flatten
  writes_first none h = absurd (not_both h refl)
  writes_first (some ws) h = refl

pub writes_none : writable none ≡ true → ⊥
unfolding writable
writes_none h = not_both h refl

pub writes_done : bytes_in (some []) ≡ []
unfolding bytes_in flatten
writes_done = refl
