-- Shares at offsets, one after the other. Assumes nothing.
use mathlib.Core.Path.{◌≡◌, refl, sym}
use mathlib.Core.Bool.{true, false}
use mathlib.Core.List.{List, [], ◌∷◌}
use Prim.Native.Nat.{ℕ, zero, suc, ◌+◌, ◌-◌, ◌≤◌, ◌<◌}
use native.Mathlib.Decide.{dec_lt}
use native.Mathlib.Omega.{arith}
use lib.ListN.{length, get_or, get_elem?}
use Rattle.base.specs.Lists.{holds, count_from}
use Rattle.base.proofs.Tests.{fails, not_both}
use Rattle.base.proofs.Lists.{all_every, count_from_every}
use Rattle.record_spec.specs.Block.{Statement, Block, is_share, is_share_at}
use Rattle.base.specs.Le.{Bytes}
use Rattle.record_spec.specs.Record.{no_statement, block_in}
use Rattle.record_cursor.specs.Cursor.{cursor_at}
use Rattle.record_cursor.specs.declared.StatementCursor.{StatementCursor}
use Rattle.record_shared_ranges.proofs.Walk.{placed_index, placed}
use Rattle.pending_spec.specs.Table.{shares_in}
use Rattle.pending_spec.proofs.Order.{shares_from}
use Rattle.pending_question.specs.Step.{NotPast}

at_index : (ss : List Statement) (o : ℕ) → o < length ss → holds is_share (get_elem? ss o) ≡ is_share (get_or ss o no_statement)
unfolding holds
at_index [] o h = absurd (omega arith)
at_index (s ∷ ss) zero h = refl
at_index (s ∷ ss) (suc o) h = at_index ss o (omega arith)

past_last : (ss : List Statement) (o : ℕ) → length ss ≤ o → holds is_share (get_elem? ss o) ≡ false
unfolding holds
past_last [] o h = refl
past_last (s ∷ ss) zero h = absurd (omega arith)
past_last (s ∷ ss) (suc o) h = past_last ss o (omega arith)

-- the statement at an offset says whether there is a share
pub share_there : (b : Block) (o : ℕ) → o < length b.statements → is_share_at b o ≡ is_share (get_or b.statements o no_statement)
unfolding is_share_at
share_there b o h = at_index b.statements o h

-- there is none past the last statement
pub share_past : (b : Block) (o : ℕ) → length b.statements ≤ o → is_share_at b o ≡ false
unfolding is_share_at
share_past b o h = past_last b.statements o h

-- ---- all of a range

module _ (b : Block) (start end : ℕ) where
  pub one_missing : (o : ℕ) → start ≤ o → o < end → is_share_at b o ≡ false → shares_in b start end ≡ false
  unfolding shares_in
  one_missing o l u h =
      fails _ (λ t. not_both (count_from_every start (end - start) (all_every (is_share_at b) (count_from start (end - start)) t) o l (omega arith)) h)

-- ---- places

module _ (r : Bytes) where
  -- a place that is not past an offset is not past a later one
  pub placed_later : (o q : ℕ) (c : StatementCursor) → o ≤ q → NotPast r o c → NotPast r q c
  placed_later o q c h p = record { right = p.right; inside = p.inside; before = omega (arith, p.before) }

  -- the first place is past nothing
  pub placed_first : (o : ℕ) (c : StatementCursor) → c ≡ cursor_at r 0 → NotPast r o c
  placed_first o c e = let i = placed_index r c 0 e in record { right = placed r c 0 e; inside = omega (arith, i); before = omega (arith, i) }

  -- the place after one before the offset
  pub placed_next : (o : ℕ) (c d : StatementCursor) → NotPast r o c → c.index < o → c.index < length (block_in r).statements → d ≡ cursor_at r (c.index + 1)
      → NotPast r o d
  placed_next o c d p h k e =
      let i = placed_index r d (c.index + 1) e in
      record { right = placed r d (c.index + 1) e; inside = omega (arith, i); before = omega (arith, i) }

-- ---- a walk over a range

-- the offsets from `start` up to o are shares
pub record Sharing (r : Bytes) (start end o : ℕ) (c : StatementCursor) : Type 0 where
  pub from : start ≤ o
  pub most : o ≤ end
  pub shares : (q : ℕ) → start ≤ q → q < o → is_share_at (block_in r) q ≡ true
  pub place : NotPast r o c

module _ (r : Bytes) (start end : ℕ) where
  pub sharing_start : (c : StatementCursor) → start ≤ end → NotPast r start c → Sharing r start end start c
  sharing_start c h p = record { from = omega arith; most = h; shares = λ q (l : start ≤ q) (u : q < start). absurd (omega arith); place = p }

  pub sharing_on : (o : ℕ) (c d : StatementCursor) → Sharing r start end o c → o < end → is_share_at (block_in r) o ≡ true → NotPast r o d → Sharing r start end
      (o + 1) d
  sharing_on o c d s h e p =
      record { from = omega (arith, s.from); most = omega arith; shares = λ q l u. go q l u (dec_lt q o); place = placed_later r o (o + 1) d (omega arith) p }
    where
      go : (q : ℕ) → start ≤ q → q < o + 1 → Dec (q < o) → is_share_at (block_in r) q ≡ true
      go q l u (yes k) = s.shares q l k
      go q l u (no k) = let z : q ≡ o = omega arith in rw z e

  pub sharing_no : (o : ℕ) (c : StatementCursor) → Sharing r start end o c → o < end → is_share_at (block_in r) o ≡ false → shares_in (block_in r) start end
      ≡ false
  sharing_no o c s h e = one_missing (block_in r) start end o s.from h e

  pub sharing_all : (o : ℕ) (c : StatementCursor) → Sharing r start end o c → end ≤ o → (true ≡ shares_in (block_in r) start end) ×
      (true ≡ true → NotPast r end c)
  sharing_all o c s h =
      let z : o ≡ end = omega (arith, s.most) in
      (sym (shares_from (block_in r) start end (λ q l (u : q < end). s.shares q l (omega arith))), λ _. rw (← z) s.place)
