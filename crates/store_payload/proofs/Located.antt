-- The payload that a locator names, as the code finds it. Assumes nothing.
use mathlib.Core.Path.{◌≡◌, refl, sym, ap, ◌∙◌}
use mathlib.Core.List.{List, [], ◌∷◌}
use mathlib.Core.Option
use mathlib.Core.Option.{Option, none, some, map}
use mathlib.Core.Bool.{Bool, true, false, not}
use Prim.Native.Nat.{ℕ, zero, suc, ◌+◌, ◌<◌, ◌≤◌}
use native.Mathlib.Omega.{arith}
use lib.Dec.{eqb}
use lib.ListN.{length, take, drop, get_or, get_elem?, length-drop}
use lib.Seq.{length-take-le}
use borrow.Author.Tests.{le-leb, eqb-true, not-false}
use Rattle.base.specs.Lists.{pick, all_of, is_none, here, there}
use Rattle.base.specs.Le.{Bytes}
use Rattle.base.specs.Checks.{◌⇒◌, passes, refusal, refused, answered, checked}
use Rattle.base.proofs.Tests.{and_left, and_right, not_both}
use Rattle.base.proofs.Checks.{passes_none}
use Rattle.base.proofs.Le.{AllBytes}
use Rattle.committee.specs.Committee.{Committee, broken}
use Rattle.record_spec.specs.Reference.{TransactionLocator}
use Rattle.record_spec.specs.Block.{Statement, share, accept, reject, vote_range}
use Rattle.record_spec.specs.Record.{well_formed, block_in, no_statement, statement_start}
use Rattle.record_statement.specs.Values.{as_statement}
use Rattle.record_cursor.specs.Cursor.{cursor_at}
use Rattle.record_statement.specs.Step.{payload_between}
use Rattle.record_cursor.specs.declared.StatementCursor.{StatementCursor}
use Rattle.record_cursor.specs.declared.NextStatement.{NextStatement}
use Rattle.record_statement.specs.declared.BaseStatement.{BaseStatement}
use Rattle.record_statement.specs.declared.BaseStatement.TheVariants.{Share, Accept, Reject, RejectFor, VoteRange}
use Rattle.record_cursor.proofs.Statements.{start_inside}
use Rattle.store_spec.specs.Layout.{blocks, entries, position_of, lookup}
use Rattle.store_spec.specs.Shares.{is_stored_share}
use Rattle.store_spec.specs.Store.{records_of, store_in_order}
use Rattle.store_spec.specs.Entry.{record_at, block_at, laid_out, is_entry}
use Rattle.store_spec.specs.Payload.{StoreStretch, share_stretch, payload_of, payload_at, payload_checks, stretch_of, payload, payload_length}
use Rattle.base.proofs.Lists.{element_at}
use Rattle.store_payload.specs.Answers.{shared_by, as_share, share_within, payload_place}
use Rattle.std.specs.Prelude.{None}
use Rattle.store_spec.proofs.Loops.{block_of_entry}
use Rattle.store_spec.proofs.Shares.{share_has_payload}
use Rattle.store_spec.proofs.Search.{laid_out_lem}
use Rattle.store_spec.proofs.Found.{FoundEntry, found_none, found_entry, found_stands, found_record}

-- ---- as the code finds it

element_past : {A : Type 0} (xs : List A) (i : ℕ) → length xs ≤ i → get_elem? xs i ≡ none
element_past [] i h = refl
element_past (x ∷ xs) zero h = absurd (omega arith)
element_past (x ∷ xs) (suc i) h = element_past xs i (omega arith)

pub share_past : (rec : Bytes) (o : ℕ) → length (block_in rec).statements ≤ o → as_share None ≡ share_stretch (statement_start rec o)
    (get_elem? (block_in rec).statements o)
unfolding as_share share_stretch
share_past rec o h = rw (element_past (block_in rec).statements o h)

share_told : (rec : Bytes) → AllBytes rec → well_formed rec ≡ true → (o next : ℕ) (st : BaseStatement) → o < length (block_in rec).statements
    → as_statement rec st ≡ get_or (block_in rec).statements o no_statement → payload_between (statement_start rec o) next st ≡ true → next
    ≡ statement_start rec
    (o + 1)
    → (as_share (shared_by st) ≡ share_stretch (statement_start rec o) (get_elem? (block_in rec).statements o))
    × (share_within (length rec) (shared_by st) ≡ true)
unfolding as_share share_stretch share_within shared_by as_statement payload_between
share_told rec bs w o next st h e p q = go st e p
  where
    at_is : get_elem? (block_in rec).statements o ≡ some (get_or (block_in rec).statements o no_statement)
    at_is = element_at (block_in rec).statements o no_statement h

    go : (t : BaseStatement) → as_statement rec t ≡ get_or (block_in rec).statements o no_statement → payload_between (statement_start rec o) next t ≡ true
        → (as_share (shared_by t) ≡ share_stretch (statement_start rec o) (get_elem? (block_in rec).statements o))
        × (share_within (length rec) (shared_by t) ≡ true)
    go (Share start len) e p =
        let k : ℕ = statement_start rec o in
        let begins : start ≡ k + 3 = eqb-true start (k + 3) (and_left (eqb start (k + 3)) _ p) in
        let ends : start + len ≡ next = eqb-true (start + len) next (and_right (eqb start (k + 3)) _ p) in
        let inside : start + len ≤ length rec = omega (arith, start_inside rec bs w (o + 1)) in
        let many : length (take len (drop start rec)) ≡ len = length-take-le len (drop start rec) (omega (arith, length-drop start rec)) in
        (rw (at_is, ← e, many, begins), le-leb (start + len) (length rec) inside)
    go (Accept l) e p = (rw (at_is, ← e), refl)
    go (Reject l) e p = (rw (at_is, ← e), refl)
    go (RejectFor l other) e p = (rw (at_is, ← e), refl)
    go (VoteRange r) e p = (rw (at_is, ← e), refl)

-- the statement that stands at a place, as next_statement tells it
pub share_found : (rec : Bytes) → AllBytes rec → well_formed rec ≡ true → (o : ℕ) (k : StatementCursor) (r : NextStatement) → k ≡ cursor_at rec o → o < length
    (block_in rec).statements
    → (as_statement rec r.statement ≡ get_or (block_in rec).statements k.index no_statement) ×
    ((r.next ≡ cursor_at rec (k.index + 1)) × (payload_between k.at r.next.at r.statement ≡ true))
    → (as_share (shared_by r.statement) ≡ share_stretch (statement_start rec o) (get_elem? (block_in rec).statements o)) ×
    (share_within (length rec) (shared_by r.statement) ≡ true)
unfolding cursor_at
share_found rec bs w o k r q h f =
    let i : k.index ≡ o = ap (λ (x : StatementCursor). x.index) q in
    let p : k.at ≡ statement_start rec o = ap (λ (x : StatementCursor). x.at) q in
    let n : r.next.at ≡ statement_start rec (o + 1) = ap (λ (x : StatementCursor). x.at) f.1.0 ∙ ap (λ (x : ℕ). statement_start rec (x + 1)) i in
    share_told rec bs w o r.next.at r.statement h
    (f.0 ∙ ap (λ (x : ℕ). get_or (block_in rec).statements x no_statement) i)
    (ap (λ (x : ℕ). payload_between x r.next.at r.statement) (sym p) ∙ f.1.1) n

-- ---- the answer, refusal by refusal

module _ (c : Committee) (s : Bytes) (l : TransactionLocator) where
  pub place_broken : broken c ≡ true → refused 5 ≡ payload_place c s l
  unfolding payload_place payload_checks checked passes refusal all_of
  place_broken h = rw h

  pub place_disordered : broken c ≡ false → store_in_order c s ≡ false → refused 10 ≡ payload_place c s l
  unfolding payload_place payload_checks checked passes refusal all_of
  place_disordered h k = rw (h, k)

  pub place_none : broken c ≡ false → store_in_order c s ≡ true → payload_at s l ≡ none → refused 41 ≡ payload_place c s l
  unfolding payload_place payload_checks checked passes refusal all_of is_none
  place_none h k n = rw (h, k, share_has_payload c s k l, n)

  pub place_some : broken c ≡ false → store_in_order c s ≡ true → (t : StoreStretch) → payload_at s l ≡ some t → answered t ≡ payload_place c s l
  unfolding payload_place payload_checks checked passes refusal all_of is_none
  place_some h k t n = rw (h, k, share_has_payload c s k l, n)

  -- what the answer says of the payload and of its length
  pub place_refused : (k : ℕ) → refused k ≡ payload_place c s l → ([] ≡ payload c s l) × (refused k ≡ payload_length c s l)
  unfolding payload_place payload payload_length checked
  place_refused k h = go (passes (payload_checks c s l)) h
    where
      go : (t : Bool) → refused k ≡ pick t (answered (Option.get_or (payload_at s l) (record { start = 0; count = 0 })))
          (refused (refusal (payload_checks c s l)))
          → ([] ≡ pick t (stretch_of (payload_at s l) s) []) × (refused k ≡ pick t (answered (length (stretch_of (payload_at s l) s)))
          (refused (refusal (payload_checks c s l))))
      go true e = absurd (let z : ◌≡◌ {A = ℕ} 0 1 = cc in omega arith)
      go false e = (refl, let same : k ≡ refusal (payload_checks c s l) = cc in ap refused same)

  pub place_stands : (start count : ℕ) → answered (record { start = start; count = count }) ≡ payload_place c s l → start + count ≤ length s
      → (take count (drop start s) ≡ payload c s l) × (answered count ≡ payload_length c s l)
  unfolding payload_place payload payload_length checked payload_checks stretch_of is_none
  place_stands start count h inside = go (passes (payload_checks c s l)) refl h
    where
      by_place : (o : Option StoreStretch) → payload_at s l ≡ o → passes (payload_checks c s l) ≡ true → ◌≡◌ {A = StoreStretch}
          (record { start = start; count = count }) (Option.get_or o (record { start = 0; count = 0 }))
          → (take count (drop start s) ≡ stretch_of o s) × (answered count ≡ answered (length (stretch_of o s)))
      by_place none q p e =
          let k : store_in_order c s ≡ true = not-false (store_in_order c s) (passes_none (payload_checks c s l) p (not (store_in_order c s) ⇒ 10) (there here))
          in
          let stored : is_stored_share (blocks (records_of s)) l ≡ true = not-false _
          (passes_none (payload_checks c s l) p (not (is_stored_share (blocks (records_of s)) l) ⇒ 41) (there (there here))) in
          absurd (not_both stored (rw (share_has_payload c s k l, q)))
      by_place (some t) q p e =
          rw (← e) (refl, ap answered (sym (length-take-le count (drop start s) (omega (arith, length-drop start s)))))

      go : (t : Bool) → passes (payload_checks c s l) ≡ t → answered (record { start = start; count = count }) ≡ pick t
          (answered (Option.get_or (payload_at s l) (record { start = 0; count = 0 }))) (refused (refusal (payload_checks c s l)))
          → (take count (drop start s) ≡ pick t (stretch_of (payload_at s l) s) []) ×
          (answered count ≡ pick t (answered (length (stretch_of (payload_at s l) s))) (refused (refusal (payload_checks c s l))))
      go false p e = absurd (let z : ◌≡◌ {A = ℕ} 0 1 = cc in omega arith)
      go true p e = let same : ◌≡◌ {A = StoreStretch} (record { start = start; count = count })
          (Option.get_or (payload_at s l) (record { start = 0; count = 0 })) = cc in by_place (payload_at s l) refl p same

-- ---- where the store has it

shifted : (q p : ℕ) (o : Option Statement) (t : Option StoreStretch) → t ≡ share_stretch p o → share_stretch (q + p) o ≡ map
    (λ (x : StoreStretch). record { start = q + x.start; count = x.count }) t
unfolding share_stretch
shifted q p none t h = rw h
shifted q p (some (share v)) t h = let e : q + p + 3 ≡ q + (p + 3) = omega arith in rw (h, e)
shifted q p (some (accept l)) t h = rw h
shifted q p (some (reject l other)) t h = rw h
shifted q p (some (vote_range r)) t h = rw h

module _ (s : Bytes) (laid : laid_out s ≡ true) (l : TransactionLocator) (at : ℕ) (found : at ≡ position_of (lookup (entries (records_of s)) l.block)) where
  pub payload_unknown : at ≡ 0 → payload_at s l ≡ none
  unfolding payload_at payload_of
  payload_unknown z = rw (found_none s laid l.block at found z)

  pub payload_entry : (at ≡ 0 → ⊥) → is_entry s at ≡ true
  payload_entry f = found_stands s laid l.block at found f

  -- from what the record has
  pub payload_found : (at ≡ 0 → ⊥) → (t : Option StoreStretch) → t ≡ share_stretch (statement_start (record_at s at) l.offset)
      (get_elem? (block_at s at).statements l.offset)
      → payload_at s l ≡ map (λ (x : StoreStretch). record { start = at + 8 + x.start; count = x.count }) t
  unfolding payload_at payload_of
  payload_found f t h =
      let e : FoundEntry s l.block at = found_entry s laid l.block at found f in
      let b : block_at s at ≡ e.entry.block = ap (λ (n : ℕ). block_at s n) (sym e.place) ∙ block_of_entry s (laid_out_lem s laid).reads e.entry e.stored
      in
      rw (e.is, e.place, ← b, ← found_record s laid l.block at found f)
      (shifted (at + 8) (statement_start (record_at s at) l.offset) (get_elem? (block_at s at).statements l.offset) t h)
