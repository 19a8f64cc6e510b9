-- Walking the statements of a block by index: runs of shares, and the offsets that votes count. Assumes nothing.
use mathlib.Core.Path.{◌≡◌, refl, sym, ap, ◌∙◌}
use mathlib.Core.List.{List, [], ◌∷◌, map, flatten}
use mathlib.Core.Option.{some, some-injective, none-ne-some}
use mathlib.Core.Bool.{Bool, true, false, not, beq}
use Prim.Native.Nat.{ℕ, zero, suc, ◌+◌, ◌≤◌, ◌<◌}
use native.Mathlib.Numerals.{add-one}
use native.Mathlib.Omega.{arith}
use lib.ListN.{length, get_or, drop, length-drop, drop_of_length-le}
use lib.Seq.{drop-cons, drop-drop}
use borrow.Author.Tests.{eq-eqb, ne_eqb, ltb-false, leb-false}
use Rattle.base.specs.Lists.{pick, sum_of}
use Rattle.base.specs.Le.{Bytes}
use Rattle.base.specs.Checks.{passes}
use Rattle.base.proofs.Tests.{not_both}
use Rattle.base.proofs.Lists.{Every, none_of, and}
use Rattle.base.proofs.Checks.{passes_left, passes_right, passes_first, passes_others}
use Rattle.record_spec.specs.Reference.{BlockReference, TransactionLocatorRange, new_range, one_range}
use Rattle.record_spec.specs.Block.{Statement, share, accept, reject, vote_range, Block, is_share, voted_range, counted_offsets, joined, runs_from}
use Rattle.record_spec.specs.Verify.{statement_checks}
use Rattle.record_spec.specs.Record.{no_statement}
use Rattle.record_statement.specs.Values.{as_statement}
use Rattle.record_cursor.specs.Cursor.{cursor_at}
use Rattle.record_shared_ranges.specs.Cursor.{runs_left}
use Rattle.record_shared_ranges.specs.Step.{is_of_kind, leading}
use Rattle.record_cursor.specs.declared.StatementCursor.{StatementCursor}
use Rattle.record_statement.specs.declared.BaseStatement.{BaseStatement}
use Rattle.record_statement.specs.declared.BaseStatement.TheVariants.{Share, Accept, Reject, RejectFor, VoteRange}
use Rattle.record_spec.proofs.Runs.{Run, runs_from_lem}

-- ---- places

module _ (r : Bytes) (c : StatementCursor) (i : ℕ) (e : c ≡ cursor_at r i) where
  pub placed_index : c.index ≡ i
  unfolding cursor_at
  placed_index = ap (λ (x : StatementCursor). x.index) e

  pub placed : c ≡ cursor_at r c.index
  placed = e ∙ ap (cursor_at r) (sym placed_index)

-- ---- statements of one kind in front

-- as code tests it
pub kind_same : (t r : Bool) (s : Statement) → r ≡ is_share s → not (beq r t) ≡ false → is_of_kind t s ≡ true
unfolding is_of_kind
kind_same t r s e h = rw (← e) (go t r h)
  where
    go : (t r : Bool) → not (beq r t) ≡ false → pick r t (not t) ≡ true
    go true true k = refl
    go true false k = absurd (not_both refl k)
    go false true k = absurd (not_both refl k)
    go false false k = refl

pub kind_other : (t r : Bool) (s : Statement) → r ≡ is_share s → not (beq r t) ≡ true → is_of_kind t s ≡ false
unfolding is_of_kind
kind_other t r s e h = rw (← e) (go t r h)
  where
    go : (t r : Bool) → not (beq r t) ≡ true → pick r t (not t) ≡ false
    go true true k = absurd (not_both k refl)
    go true false k = refl
    go false true k = refl
    go false false k = absurd (not_both k refl)

module _ (t : Bool) (ss : List Statement) (i : ℕ) where
  pub leading_on : i < length ss → is_of_kind t (get_or ss i no_statement) ≡ true → leading t (drop i ss) ≡ suc (leading t (drop (i + 1) ss))
  unfolding leading
  leading_on h e = rw (add-one, drop-cons ss i no_statement h, e)

  pub leading_stop : i < length ss → is_of_kind t (get_or ss i no_statement) ≡ false → leading t (drop i ss) ≡ 0
  unfolding leading
  leading_stop h e = rw (drop-cons ss i no_statement h, e)

  pub leading_end : length ss ≤ i → leading t (drop i ss) ≡ 0
  unfolding leading
  leading_end h = rw (drop_of_length-le ss h)

leading_most : (t : Bool) (ss : List Statement) → leading t ss ≤ length ss
unfolding leading
leading_most t [] = omega arith
leading_most t (s ∷ ss) = go (is_of_kind t s) (leading_most t ss)
  where
    go : (u : Bool) → leading t ss ≤ length ss → pick u (suc (leading t ss)) 0 ≤ suc (length ss)
    go true h = omega arith
    go false h = omega arith

-- ---- runs

-- statements that are no shares are passed over
runs_skip : (r : BlockReference) (i : ℕ) (ss : List Statement) → runs_from r i ss ≡ runs_from r (i + leading false ss) (drop (leading false ss) ss)
unfolding runs_from leading is_of_kind
runs_skip r i [] = refl
runs_skip r i (s ∷ ss) = go (is_share s) refl (runs_skip r (i + 1) ss)
  where
    go : (t : Bool) → is_share s ≡ t → runs_from r (i + 1) ss ≡ runs_from r (i + 1 + leading false ss) (drop (leading false ss) ss)
        → runs_from r i (s ∷ ss) ≡ runs_from r (i + leading false (s ∷ ss)) (drop (leading false (s ∷ ss)) (s ∷ ss))
    go true e ih = let z : i + 0 ≡ i = omega arith in rw (e, z) (rw e)
    go false e ih = let z : i + suc (leading false ss) ≡ i + 1 + leading false ss = omega arith in rw (e, z) ih

-- and then a share comes
share_next : (ss : List Statement) → leading false ss < length ss → 0 < leading true (drop (leading false ss) ss)
unfolding leading is_of_kind
share_next [] h = absurd (omega arith)
share_next (s ∷ ss) h = go (is_share s) refl (share_next ss) h
  where
    go : (t : Bool) → is_share s ≡ t → (leading false ss < length ss → 0 < leading true (drop (leading false ss) ss))
        → leading false (s ∷ ss) < suc (length ss) → 0 < leading true (drop (leading false (s ∷ ss)) (s ∷ ss))
    go true e ih k = rw e (rw e (omega arith))
    go false e ih k = let z : suc (leading false ss) < suc (length ss) = rw e at k in rw e (ih (omega arith))

-- a run that begins after the next offset is not joined
joined_apart : (r : BlockReference) (i o : ℕ) (ss : List Statement) → i + 1 < o → joined r i (runs_from r o ss) ≡ new_range r i (i + 1) ∷ runs_from r o ss
unfolding joined
joined_apart r i o ss h = go (runs_from r o ss) (runs_from_lem r o ss)
  where
    go : (xs : List TransactionLocatorRange) → Every (Run o ss) xs → joined r i xs ≡ new_range r i (i + 1) ∷ xs
    go [] none_of = refl
    go (x ∷ xs) (and q qs) = rw (ne_eqb (i + 1) x.start (λ (e : i + 1 ≡ x.start). omega (arith, q.from)))

-- a share before a statement that is none, or before the end, is a run of its own
run_alone : (r : BlockReference) (i : ℕ) (ss : List Statement) → leading true ss ≡ 0 → joined r i (runs_from r (i + 1) ss) ≡ new_range r i (i + 1) ∷ runs_from r
    (i + 1) ss
unfolding joined runs_from leading is_of_kind
run_alone r i [] h = refl
run_alone r i (s ∷ ss) h = go (is_share s) refl h
  where
    go : (t : Bool) → is_share s ≡ t → leading true (s ∷ ss) ≡ 0 → joined r i (runs_from r (i + 1) (s ∷ ss)) ≡ new_range r i (i + 1)
        ∷ runs_from r (i + 1) (s ∷ ss)
    go true e k = absurd (let z : suc (leading true ss) ≡ 0 = rw e at k in omega arith)
    go false e k = rw e (joined_apart r i (i + 1 + 1) ss (omega arith))

-- shares in front are one run
run_first : (r : BlockReference) (i : ℕ) (ss : List Statement) → 0 < leading true ss
    → runs_from r i ss ≡ new_range r i (i + leading true ss) ∷ runs_from r (i + leading true ss) (drop (leading true ss) ss)
unfolding joined new_range runs_from leading is_of_kind
run_first r i [] h = absurd (omega arith)
run_first r i (s ∷ ss) h = go (is_share s) refl h (run_first r (i + 1) ss)
  where
    more : (m : ℕ) → leading true ss ≡ m → (0 < leading true ss → runs_from r (i + 1) ss ≡ new_range r (i + 1) (i + 1 + leading true ss) ∷ runs_from r
        (i + 1 + leading true ss) (drop (leading true ss) ss))
        → joined r i (runs_from r (i + 1) ss) ≡ new_range r i (i + suc m) ∷ runs_from r (i + suc m) (drop m ss)
    more zero e ih = let z : i + 1 ≡ i + suc 0 = omega arith in rw (← z) (run_alone r i ss e)
    more (suc m) e ih =
        let z : i + suc (suc m) ≡ i + 1 + suc m = omega arith in
        let k : runs_from r (i + 1) ss ≡ new_range r (i + 1) (i + 1 + suc m) ∷ runs_from r (i + 1 + suc m) (drop (suc m) ss) = rw e at (ih (omega arith)) in
        rw (k, eq-eqb (i + 1) (i + 1) refl, z)

    go : (t : Bool) → is_share s ≡ t → 0 < leading true (s ∷ ss)
        → (0 < leading true ss → runs_from r (i + 1) ss ≡ new_range r (i + 1) (i + 1 + leading true ss) ∷ runs_from r (i + 1 + leading true ss)
        (drop (leading true ss) ss))
        → runs_from r i (s ∷ ss) ≡ new_range r i (i + leading true (s ∷ ss)) ∷ runs_from r (i + leading true (s ∷ ss)) (drop (leading true (s ∷ ss)) (s ∷ ss))
    go true e k ih = rw e (more (leading true ss) refl ih)
    go false e k ih = absurd (let z : 0 < 0 = rw e at k in omega arith)

module _ (b : Block) (i : ℕ) (low : i ≤ length b.statements) where
  abbrev ss : List Statement
  ss = b.statements

  -- where the next run starts
  abbrev From : ℕ
  From = i + leading false (drop i ss)

  -- and where it ends
  abbrev To : ℕ
  To = From + leading true (drop From ss)

  pub run_from_lem : From ≤ length b.statements
  run_from_lem = omega (arith, leading_most false (drop i ss), length-drop i ss)

  skipped : runs_left b i ≡ runs_from b.reference From (drop From ss)
  unfolding runs_left
  skipped = runs_skip b.reference i (drop i ss) ∙ rw (drop-drop (leading false (drop i ss)) i ss)

  pub run_none : From ≡ length b.statements → runs_left b i ≡ []
  unfolding runs_from
  run_none e = let h : length ss ≤ From = omega arith in skipped ∙ rw (drop_of_length-le ss h)

  pub run_some : From < length b.statements → runs_left b i ≡ new_range b.reference From To ∷ runs_left b To
  unfolding runs_left
  run_some h =
      let one : 0 < leading true (drop From ss) = rw (drop-drop (leading false (drop i ss)) i ss) at
      (share_next (drop i ss) (omega (arith, length-drop i ss))) in
      skipped ∙ run_first b.reference From (drop From ss) one ∙ rw (drop-drop (leading true (drop From ss)) From ss)

  pub run_on : From < length b.statements → i < To
  run_on h =
      let one : 0 < leading true (drop From ss) = rw (drop-drop (leading false (drop i ss)) i ss) at
      (share_next (drop i ss) (omega (arith, length-drop i ss))) in
      omega arith

  pub run_to : To ≤ length b.statements
  run_to = omega (arith, run_from_lem, leading_most true (drop From ss), length-drop From ss)

  -- as code finds it
  pub run_told : (r : Bytes) (start end : StatementCursor) → start ≡ cursor_at r From → end ≡ cursor_at r
      (start.index + leading true (drop start.index b.statements))
      → (start.index ≡ length b.statements → ⊥)
      → (runs_left b i ≡ new_range b.reference start.index end.index ∷ runs_left b end.index)
      × ((i < end.index) × ((end.index ≤ length b.statements) × (end ≡ cursor_at r end.index)))
  run_told r start end e f g =
      let from : start.index ≡ From = placed_index r start From e in
      let to : end.index ≡ To = rw from at (placed_index r end (start.index + leading true (drop start.index ss)) f) in
      let inside : From < length ss = omega (arith, run_from_lem, from, g) in (
        rw (from, to) (run_some inside),
        (
          omega (arith, to, run_on inside),
          (omega (arith, to, run_to), placed r end (start.index + leading true (drop start.index ss)) f),
        ),
      )

-- ---- offsets that votes count

-- the checks of a statement do not look at a payload
pub checks_any : (rec : Bytes) (st : BaseStatement) → statement_checks (as_statement rec st) ≡ statement_checks (as_statement [] st)
unfolding as_statement statement_checks
checks_any rec (Share p n) = refl
checks_any rec (Accept l) = refl
checks_any rec (Reject l) = refl
checks_any rec (RejectFor l m) = refl
checks_any rec (VoteRange r) = refl

-- a range that passes does not end before its start, and ends below the limit
range_passes : (r : TransactionLocatorRange) → passes (statement_checks (vote_range r)) ≡ true → (r.start ≤ r.end) × (r.end < 1048576)
unfolding statement_checks
range_passes r h = (ltb-false r.end r.start (passes_first _ _ h), leb-false 1048576 r.end (passes_first _ _ (passes_others _ _ h)))

-- what a statement that passes votes for does not end before its start
pub voted_passes : (s : Statement) → passes (statement_checks s) ≡ true → (q : TransactionLocatorRange) → voted_range s ≡ some q → q.start ≤ q.end
unfolding voted_range one_range new_range
voted_passes (share v) h q e = absurd (none-ne-some q e)
voted_passes (accept l) h q e = rw (← some-injective _ _ e) (omega arith)
voted_passes (reject l o) h q e = absurd (none-ne-some q e)
voted_passes (vote_range r) h q e = rw (← some-injective _ _ e) (range_passes r h).0

pub counted_most : (s : Statement) → passes (statement_checks s) ≡ true → counted_offsets (voted_range s) ≤ 1048575
unfolding voted_range counted_offsets one_range new_range
counted_most (share v) h = omega arith
counted_most (accept l) h = omega arith
counted_most (reject l o) h = omega arith
counted_most (vote_range r) h = let p = range_passes r h in omega (arith, p.1)

-- where all pass, each does
pub passes_at : (ss : List Statement) (i : ℕ) → passes (flatten (map statement_checks ss)) ≡ true → i < length ss → passes
    (statement_checks (get_or ss i no_statement)) ≡ true
unfolding flatten
passes_at [] i h k = absurd (omega arith)
passes_at (s ∷ ss) zero h k = passes_left (statement_checks s) (flatten (map statement_checks ss)) h
passes_at (s ∷ ss) (suc i) h k = passes_at ss i (passes_right (statement_checks s) (flatten (map statement_checks ss)) h) (omega arith)

-- the offsets that statements count
unfoldable pub offsets_counted : List Statement → ℕ
offsets_counted ss = sum_of (map (λ s. counted_offsets (voted_range s)) ss)

module _ (ss : List Statement) (i : ℕ) where
  pub counted_on : i < length ss → offsets_counted (drop i ss) ≡ counted_offsets (voted_range (get_or ss i no_statement)) + offsets_counted (drop (i + 1) ss)
  unfolding offsets_counted sum_of
  counted_on h = rw (add-one, drop-cons ss i no_statement h)

  pub counted_end : length ss ≤ i → offsets_counted (drop i ss) ≡ 0
  unfolding offsets_counted sum_of
  counted_end h = rw (drop_of_length-le ss h)
