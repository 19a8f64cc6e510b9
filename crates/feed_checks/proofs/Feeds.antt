-- The checks of a record, one group after the other. Assumes nothing.
use mathlib.Core.Path.{◌≡◌, refl, sym, ◌∙◌}
use mathlib.Core.Bool.{true, false, not}
use mathlib.Core.List.{List, [], ◌∷◌, ◌++◌, map, flatten}
use mathlib.Core.Option.{Option, none, some}
use Prim.Native.Nat.{ℕ, ◌≤◌, ◌<◌}
use native.Mathlib.Omega.{arith}
use lib.Dec.{ltb, lit<}
use lib.ListN.{length}
use borrow.Author.Tests.{lt-ltb, le-ltb}
use Rattle.base.specs.Lists.{pick, any_of, is_none}
use Rattle.base.specs.Le.{Bytes}
use Rattle.base.specs.Checks.{◌⇒◌, refusal, passes}
use Rattle.base.proofs.Lists.{none_of, and, every_append, every_in}
use Rattle.base.proofs.Refusals.{Numbered, zero_passes, refusal_first, refusal_then}
use Rattle.committee.specs.Committee.{Committee}
use Rattle.record_spec.specs.Reference.{BlockReference}
use Rattle.record_spec.specs.Block.{Block, event_room}
use Rattle.record_spec.specs.Record.{well_formed, block_in}
use Rattle.record_spec.specs.Verify.{head_checks, include_checks, statement_checks, body_checks}
use Rattle.record_check_includes.proofs.Includes.{includes_numbered}
use Rattle.record_check_statements.proofs.Statements.{statements_numbered}
use Rattle.store_spec.specs.Layout.{Record, read_record, Entry, entries, position_of, lookup}
use Rattle.store_spec.specs.Accept.{is_stored, first_missing, block_checks}
use Rattle.store_spec.specs.Store.{records_of, record_in, store_full}
use Rattle.store_spec.proofs.Lookups.{lookup_stored, lookup_in, missing_test}
use Rattle.store_spec.proofs.Store.{entries_within}
use Rattle.feed_spec.specs.Feed.{rule_checks, accept_checks}
use Rattle.feed_spec.proofs.Checks.{read_none, read_some}

-- ---- 21 to 30

-- where a block stands says whether it is stored (23)
stored_from : (rs : List Record) (i : BlockReference) (d : Option Entry) → lookup (entries rs) i ≡ d → (position_of d ≡ 0 → is_none d ≡ true) ×
    ((position_of d ≡ 0 → ⊥) → is_none d ≡ false)
unfolding position_of is_none
stored_from rs i none e = (λ _. refl, λ f. absurd (f refl))
stored_from rs i (some x) e =
    (λ (z : x.position ≡ 0). absurd (omega (arith, (every_in (entries rs) x (entries_within rs) (lookup_in (entries rs) i x e).0).from)), λ _. refl)

pub is_stored_lem : (rs : List Record) (i : BlockReference) (p : ℕ) → p ≡ position_of (lookup (entries rs) i) → (p ≡ 0 → ⊥) → is_stored rs i ≡ true
is_stored_lem rs i p e f = rw (lookup_stored rs i, (stored_from rs i (lookup (entries rs) i) refl).1 (λ z. f (e ∙ z)))

pub not_stored : (rs : List Record) (i : BlockReference) (p : ℕ) → p ≡ position_of (lookup (entries rs) i) → p ≡ 0 → is_stored rs i ≡ false
not_stored rs i p e f = rw (lookup_stored rs i, (stored_from rs i (lookup (entries rs) i) refl).0 (sym e ∙ f))

head_numbered : (c : Committee) (b : Block) → Numbered (head_checks c b)
unfolding head_checks
head_numbered c b = and (lit< tt) (and (lit< tt) none_of)

body_numbered : (c : Committee) (b : Block) → Numbered (body_checks c b)
unfolding body_checks
body_numbered c b =
    every_append (flatten (map (include_checks c b) b.includes)) _ (includes_numbered c b b.includes)
    (every_append (flatten (map statement_checks b.statements)) _ (statements_numbered b.statements) (and (lit< tt) none_of))

block_numbered : (c : Committee) (rs : List Record) (b : Block) → Numbered (block_checks c rs b)
unfolding block_checks
block_numbered c rs b =
    every_append (head_checks c b) _ (head_numbered c b) (and (lit< tt) (every_append (body_checks c b) _ (body_numbered c b) (and (lit< tt) none_of)))

module _ (c : Committee) (rs : List Record) (b : Block) where
  pub block_head : (refusal (head_checks c b) ≡ 0 → ⊥) → refusal (block_checks c rs b) ≡ refusal (head_checks c b)
  unfolding block_checks
  block_head h = refusal_first (head_checks c b) _ h

  module _ (h : refusal (head_checks c b) ≡ 0) where
    pub block_stored : is_stored rs b.reference ≡ true → refusal (block_checks c rs b) ≡ 23
    unfolding block_checks refusal
    block_stored s = refusal_then (head_checks c b) _ (head_numbered c b) h ∙ rw s

    module _ (n : is_stored rs b.reference ≡ false) where
      after_stored : refusal (block_checks c rs b) ≡ refusal (body_checks c b ++ ((any_of (λ i. not (is_stored rs i)) b.includes ⇒ 30) ∷ []))
      unfolding block_checks refusal
      after_stored = refusal_then (head_checks c b) _ (head_numbered c b) h ∙ rw n

      pub block_body : (refusal (body_checks c b) ≡ 0 → ⊥) → refusal (block_checks c rs b) ≡ refusal (body_checks c b)
      block_body f = after_stored ∙ refusal_first (body_checks c b) _ f

      module _ (k : refusal (body_checks c b) ≡ 0) where
        after_body : refusal (block_checks c rs b) ≡ pick (ltb (first_missing rs b.includes) (length b.includes)) 30 0
        unfolding refusal
        after_body = after_stored ∙ refusal_then (body_checks c b) _ (body_numbered c b) k ∙ rw (missing_test rs b.includes)

        pub block_missing : first_missing rs b.includes < length b.includes → refusal (block_checks c rs b) ≡ 30
        block_missing l = after_body ∙ rw (lt-ltb _ _ l)

        pub block_none : length b.includes ≤ first_missing rs b.includes → refusal (block_checks c rs b) ≡ 0
        block_none l = after_body ∙ rw (le-ltb _ _ l)

pub block_passes : (c : Committee) (rs : List Record) (b : Block) → refusal (block_checks c rs b) ≡ 0 → passes (block_checks c rs b) ≡ true
block_passes c rs b z = zero_passes (block_checks c rs b) (block_numbered c rs b) z

-- ---- 20, 15, 13

module _ (c : Committee) (s : Bytes) (n : ℕ) (rec : Bytes) where
  pub record-malformed : well_formed rec ≡ false → refusal (accept_checks c s n (read_record rec)) ≡ 20
  unfolding accept_checks rule_checks refusal
  record-malformed w = rw (read_none rec w)

  module _ (w : well_formed rec ≡ true) where
    pub record-block : (refusal (block_checks c (records_of s) (block_in rec)) ≡ 0 → ⊥)
        → refusal (accept_checks c s n (read_record rec)) ≡ refusal (block_checks c (records_of s) (block_in rec))
    unfolding accept_checks rule_checks record_in
    record-block h = rw (read_some rec w) (refusal_first (block_checks c (records_of s) (block_in rec)) _ h)

    module _ (z : refusal (block_checks c (records_of s) (block_in rec)) ≡ 0) where
      after_block : refusal (accept_checks c s n (read_record rec))
          ≡ refusal ((ltb n (event_room (block_in rec)) ⇒ 15) ∷ (store_full s (record_in rec) ⇒ 13) ∷ [])
      unfolding accept_checks rule_checks record_in
      after_block = rw (read_some rec w) (refusal_then (block_checks c (records_of s) (block_in rec)) _ (block_numbered c (records_of s) (block_in rec)) z)

      pub record-events : n < event_room (block_in rec) → refusal (accept_checks c s n (read_record rec)) ≡ 15
      unfolding refusal
      record-events l = after_block ∙ rw (lt-ltb n (event_room (block_in rec)) l)

      module _ (l : event_room (block_in rec) ≤ n) where
        pub record-full : store_full s (record_in rec) ≡ true → refusal (accept_checks c s n (read_record rec)) ≡ 13
        unfolding refusal
        record-full f = after_block ∙ rw (le-ltb n (event_room (block_in rec)) l, f)

        pub record-none : store_full s (record_in rec) ≡ false → refusal (accept_checks c s n (read_record rec)) ≡ 0
        unfolding refusal
        record-none f = after_block ∙ rw (le-ltb n (event_room (block_in rec)) l, f)

pub accept_numbered : (c : Committee) (s : Bytes) (n : ℕ) (o : Option Record) → Numbered (accept_checks c s n o)
unfolding accept_checks rule_checks
accept_numbered c s n none = and (lit< tt) none_of
accept_numbered c s n (some r) =
    every_append (block_checks c (records_of s) r.block) _ (block_numbered c (records_of s) r.block) (and (lit< tt) (and (lit< tt) none_of))
