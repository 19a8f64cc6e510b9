-- One statement at a position of a record, as code reads it. Assumes nothing.
use mathlib.Core.Path.{◌≡◌, refl, ◌∙◌}
use mathlib.Core.List.{List}
use mathlib.Core.Option.{none, some}
use Prim.Native.Nat.{ℕ, zero, suc, ◌+◌, ◌-◌, ◌≤◌, ◌<◌}
use native.Mathlib.Omega.{arith}
use lib.ListN.{length, get_or, take, drop, length-drop}
use lib.Seq.{drop-drop}
use borrow.Author.Tests.{ne_eqb}
use Rattle.base.specs.Le.{le_at}
use Rattle.base.specs.Read.{Read, give, fail, onward, ◌>>=◌, items, number}
use Rattle.base.proofs.Le.{le_at_byte}
use Rattle.base.proofs.Read.{part}
use Rattle.base.proofs.Fixed.{Fixed, fixed_items, fixed_bind, fixed_map, fixed_number, Least, least_zero, least_bind, reads_at, short_at, items_at, number_at}
use Rattle.record_spec.specs.Reference.{new_range}
use Rattle.record_spec.specs.Block.{Statement, share, accept, reject, vote_range}
use Rattle.record_spec.specs.Record.{read_locator, read_share, read_accept, read_other, read_reject, read_range, read_kind, read_statement}
use Rattle.record_reference_bytes.specs.Step.{reference_at, locator_at}
use Rattle.record_reference_bytes.proofs.Fixed.{fixed_reference, fixed_locator, reference_value, locator_value}

-- ---- readers of a fixed number of bytes

unfoldable pub fixed_accept : Fixed 56 read_accept
unfolding read_accept
fixed_accept = fixed_map _ accept 56 fixed_locator

unfoldable pub fixed_range : Fixed 64 read_range
unfolding read_range
fixed_range =
    fixed_bind _ _ 48 16 fixed_reference λ b.
    fixed_bind _ _ 8 8 (fixed_number 8) λ s.
    fixed_map _ (λ e. vote_range (new_range b s e)) 8 (fixed_number 8)

module _ (s : List ℕ) (p : ℕ) where
  range_value : fixed_range.value (drop p s) ≡ vote_range (new_range (reference_at s p) (le_at 8 s (p + 48)) (le_at 8 s (p + 56)))
  unfolding fixed_range fixed_bind fixed_map fixed_number fixed_items le_at
  range_value =
      let e : p + 48 + 8 ≡ p + 56 = omega arith in
      rw (drop-drop 48 p s, drop-drop 8 (p + 48) s, e, reference_value)

-- ---- the kind byte

module _ (s : List ℕ) (p : ℕ) where
  least_at : {A : Type 0} (m : Read A) (n : ℕ) → Least n m → length s - p < n → m (drop p s) ≡ none
  least_at m n L h = L (drop p s) (omega (arith, length-drop p s))

  pub statement_none : length s ≤ p → read_statement (drop p s) ≡ none
  unfolding read_statement
  statement_none h = least_at read_statement 1 (least_bind (number 1) _ 1 0 (fixed_number 1) (λ n. least_zero _)) (omega arith)

  statement_on : p < length s → read_statement (drop p s) ≡ read_kind (get_or s p 0) (drop (p + 1) s)
  unfolding read_statement ◌>>=◌ onward
  statement_on h = rw (number_at 1 s p (omega arith), le_at_byte s p h)

  kind_share : get_or s p 0 ≡ 0 → read_kind (get_or s p 0) ≡ read_share
  unfolding read_kind
  kind_share h = rw h

  kind_accept : get_or s p 0 ≡ 1 → read_kind (get_or s p 0) ≡ read_accept
  unfolding read_kind
  kind_accept h = rw h

  kind_reject : get_or s p 0 ≡ 2 → read_kind (get_or s p 0) ≡ read_reject
  unfolding read_kind
  kind_reject h = rw h

  kind_range : get_or s p 0 ≡ 3 → read_kind (get_or s p 0) ≡ read_range
  unfolding read_kind
  kind_range h = rw h

  pub kind_none : p < length s → (get_or s p 0 ≡ 0 → ⊥) → (get_or s p 0 ≡ 1 → ⊥) → (get_or s p 0 ≡ 2 → ⊥) → (get_or s p 0 ≡ 3 → ⊥) → read_statement (drop p s)
      ≡ none
  unfolding read_kind fail
  kind_none h a b c d = rw (statement_on h, ne_eqb (get_or s p 0) 0 a, ne_eqb (get_or s p 0) 1 b, ne_eqb (get_or s p 0) 2 c, ne_eqb (get_or s p 0) 3 d)

-- ---- a payload after its length of w bytes

unfoldable pub read_payload : ℕ → Read Statement
read_payload w = do
  n ← number w
  payload ← items n
  give (share payload)

module _ (w : ℕ) (s : List ℕ) (p : ℕ) where
  pub payload_cut : length s - p < w → read_payload w (drop p s) ≡ none
  unfolding read_payload
  payload_cut l = least_at s p (read_payload w) w (λ t h. least_bind (number w) _ w 0 (fixed_number w) (λ n. least_zero _) t (omega arith)) l

  payload_on : p + w ≤ length s → read_payload w (drop p s) ≡ (items (le_at w s p) >>= (λ v. give (share v))) (drop (p + w) s)
  unfolding read_payload ◌>>=◌ onward
  payload_on l = rw (number_at w s p l)

  pub payload_short : p + w ≤ length s → length s - (p + w) < le_at w s p → read_payload w (drop p s) ≡ none
  unfolding ◌>>=◌ onward
  payload_short l m = rw (payload_on l, short_at (items (le_at w s p)) (le_at w s p) (fixed_items (le_at w s p)) s (p + w) m)

  pub payload_reads : (n : ℕ) → n ≡ le_at w s p → p + w + n ≤ length s
      → read_payload w (drop p s) ≡ some (part (share (take n (drop (p + w) s))) (drop (p + w + n) s))
  unfolding ◌>>=◌ onward give
  payload_reads n e l = rw (payload_on (omega arith), ← e, items_at n s (p + w) l)

-- ---- a share

module _ (s : List ℕ) (p : ℕ) (h : p < length s) (k : get_or s p 0 ≡ 0) where
  is_share : read_statement (drop p s) ≡ read_payload 2 (drop (p + 1) s)
  unfolding read_share read_payload
  is_share = rw (statement_on s p h, kind_share s p k)

  pub share_cut : length s - p < 3 → read_statement (drop p s) ≡ none
  share_cut l = is_share ∙ payload_cut 2 s (p + 1) (omega arith)

  pub share_short : p + 3 ≤ length s → length s - (p + 3) < le_at 2 s (p + 1) → read_statement (drop p s) ≡ none
  share_short l m = is_share ∙ payload_short 2 s (p + 1) (omega arith) (omega arith)

  pub share_reads : (n : ℕ) → n ≡ le_at 2 s (p + 1) → p + 3 + n ≤ length s → read_statement (drop p s) ≡ some
      (part (share (take n (drop (p + 3) s))) (drop (p + 3 + n) s))
  share_reads n e l =
      let f : p + 1 + 2 ≡ p + 3 = omega arith in
      is_share ∙ rw f at (payload_reads 2 s (p + 1) n e (omega arith))

-- ---- an accept

module _ (s : List ℕ) (p : ℕ) (h : p < length s) (k : get_or s p 0 ≡ 1) where
  pub accept_cut : length s - p < 57 → read_statement (drop p s) ≡ none
  accept_cut l = rw (statement_on s p h, kind_accept s p k, short_at read_accept 56 fixed_accept s (p + 1) (omega arith))

  pub accept_reads : p + 57 ≤ length s → read_statement (drop p s) ≡ some (part (accept (locator_at s (p + 1))) (drop (p + 57) s))
  unfolding fixed_accept fixed_map
  accept_reads l =
      let e : p + 1 + 56 ≡ p + 57 = omega arith in
      rw (statement_on s p h, kind_accept s p k, reads_at read_accept 56 fixed_accept s (p + 1) (omega arith), locator_value s (p + 1), e)

-- ---- a reject

module _ (s : List ℕ) (p : ℕ) (h : p < length s) (k : get_or s p 0 ≡ 2) where
  is_reject : read_statement (drop p s) ≡ read_reject (drop (p + 1) s)
  is_reject = rw (statement_on s p h, kind_reject s p k)

  pub reject_cut : length s - p < 58 → read_statement (drop p s) ≡ none
  unfolding read_reject
  reject_cut l =
      is_reject
      ∙ least_at s (p + 1) read_reject 57 (least_bind read_locator _ 56 1 fixed_locator (λ l. least_bind (number 1) _ 1 0 (fixed_number 1) (λ k. least_zero _)))
      (omega arith)

  reject_on : p + 58 ≤ length s → read_reject (drop (p + 1) s) ≡ (read_other (get_or s (p + 57) 0) >>= (λ o. give (reject (locator_at s (p + 1)) o)))
      (drop (p + 58) s)
  unfolding read_reject ◌>>=◌ onward
  reject_on l =
      let e : p + 1 + 56 ≡ p + 57 = omega arith in
      let f : p + 57 + 1 ≡ p + 58 = omega arith in
      rw (
        reads_at read_locator 56 fixed_locator s (p + 1) (omega arith),
        locator_value s (p + 1),
        e,
        number_at 1 s (p + 57) (omega arith),
        le_at_byte s
            (p + 57) (omega arith),
        f,
      )

  pub reject_reads : p + 58 ≤ length s → get_or s (p + 57) 0 ≡ 0 → read_statement (drop p s)
      ≡ some (part (reject (locator_at s (p + 1)) none) (drop (p + 58) s))
  unfolding read_other ◌>>=◌ onward give
  reject_reads l e = rw (is_reject, reject_on l, e)

  other_fails : (n : ℕ) → (n ≡ 0 → ⊥) → (n ≡ 1 → ⊥) → read_other n ≡ fail
  unfolding read_other
  other_fails zero a b = absurd (a refl)
  other_fails (suc zero) a b = absurd (b refl)
  other_fails (suc (suc n)) a b = refl

  pub reject_bad : p + 58 ≤ length s → (get_or s (p + 57) 0 ≡ 0 → ⊥) → (get_or s (p + 57) 0 ≡ 1 → ⊥) → read_statement (drop p s) ≡ none
  unfolding ◌>>=◌ onward fail
  reject_bad l a b = rw (is_reject, reject_on l, other_fails (get_or s (p + 57) 0) a b)

  pub reject_short : p + 58 ≤ length s → get_or s (p + 57) 0 ≡ 1 → length s - p < 114 → read_statement (drop p s) ≡ none
  unfolding read_other ◌>>=◌ onward
  reject_short l e m = rw (is_reject, reject_on l, e, short_at read_locator 56 fixed_locator s (p + 58) (omega arith))

  pub reject_for_reads : p + 114 ≤ length s → get_or s (p + 57) 0 ≡ 1 → read_statement (drop p s) ≡ some
      (part (reject (locator_at s (p + 1)) (some (locator_at s (p + 58)))) (drop (p + 114) s))
  unfolding read_other ◌>>=◌ onward give
  reject_for_reads l e =
      let f : p + 58 + 56 ≡ p + 114 = omega arith in
      rw (is_reject, reject_on (omega arith), e, reads_at read_locator 56 fixed_locator s (p + 58) (omega arith), locator_value s (p + 58), f)

-- ---- a range

module _ (s : List ℕ) (p : ℕ) (h : p < length s) (k : get_or s p 0 ≡ 3) where
  pub range_cut : length s - p < 65 → read_statement (drop p s) ≡ none
  range_cut l = rw (statement_on s p h, kind_range s p k, short_at read_range 64 fixed_range s (p + 1) (omega arith))

  pub range_reads : p + 65 ≤ length s
      → read_statement (drop p s) ≡ some (part (vote_range (new_range (reference_at s (p + 1)) (le_at 8 s (p + 49)) (le_at 8 s (p + 57)))) (drop (p + 65) s))
  range_reads l =
      let e : p + 1 + 64 ≡ p + 65 = omega arith in
      let f : p + 1 + 48 ≡ p + 49 = omega arith in
      let g : p + 1 + 56 ≡ p + 57 = omega arith in
      rw (statement_on s p h, kind_range s p k, reads_at read_range 64 fixed_range s (p + 1) (omega arith), range_value s (p + 1), e, f, g)
