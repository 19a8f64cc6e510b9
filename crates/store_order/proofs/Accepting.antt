-- Every record accepted after those before it, one after the other. Assumes nothing.
use mathlib.Core.Path.{◌≡◌, refl, sym, ap, subst, ◌∙◌}
use mathlib.Core.List.{List, [], ◌∷◌, ◌++◌, append_assoc, append-nil}
use mathlib.Core.Bool.{Bool, true, false, ◌&&◌}
use Prim.Native.Nat.{ℕ, ◌+◌, ◌<◌, ◌≤◌}
use native.Mathlib.Omega.{arith}
use lib.ListN.{length, get_or, length-append}
use Rattle.base.specs.Lists.{all_of, ◌∈◌}
use Rattle.base.specs.Le.{Bytes}
use Rattle.base.specs.Checks.{passes, refusal}
use Rattle.base.proofs.Tests.{fails, not_both, and_left}
use Rattle.base.proofs.Lists.{every_in, with_later}
use Rattle.base.proofs.Refusals.{passes_zero}
use Rattle.committee.specs.Committee.{Committee}
use Rattle.record_spec.specs.Reference.{BlockReference}
use Rattle.record_spec.specs.Block.{Block}
use Rattle.record_spec.specs.Verify.{head_checks, body_checks}
use Rattle.record_spec.proofs.References.{same_reference_lem}
use Rattle.record_clock.proofs.Checking.{head_passes, body_passes}
use Rattle.store_spec.specs.Layout.{Record, used_by, Entry, reference_of, entries}
use Rattle.store_spec.specs.Accept.{is_stored, block_checks, all_accepted}
use Rattle.store_spec.specs.Store.{records_of}
use Rattle.store_spec.specs.Entry.{block_at, positions, laid_out, is_entry}
use Rattle.store_spec.specs.Check.{stored_before, accepted_at}
use Rattle.store_spec.proofs.Chain.{Distinct}
use Rattle.store_spec.proofs.Loops.{EntryAt, entry_at, block_of_entry}
use Rattle.store_spec.proofs.Lookups.{entry_stored, stored_older, Split, split_at_entry, accepted_at_lem, checks_new, accepted_older, position_at}
use Rattle.store_spec.proofs.Search.{laid_out_lem}

-- ---- one record

distinct_older : (newer older : List Record) → Distinct (entries (newer ++ older)) → Distinct (entries older)
unfolding entries
distinct_older [] older d = d
distinct_older (r ∷ newer) older (with_later h hs) = distinct_older newer older hs

own_new : (newer older : List Record) (r : Record) → Distinct (entries (newer ++ r ∷ older)) → is_stored older r.block.reference ≡ false
unfolding entries
own_new newer older r d = fails (is_stored older r.block.reference)
    (λ t. go (distinct_older newer (r ∷ older) d) (entry_stored older r.block.reference t))
  where
    go : Distinct (entries (r ∷ older)) → ((e : Entry) × (e ∈ entries older) × (reference_of e ≡ r.block.reference)) → ⊥
    go (with_later h hs) x = not_both (same_reference_lem (sym x.2)) (every_in (entries older) x.0 h x.1)

all_ext : {A : Type 0} (f g : A → Bool) → ((x : A) → f x ≡ g x) → (xs : List A) → all_of f xs ≡ all_of g xs
unfolding all_of
all_ext f g e [] = refl
all_ext f g e (x ∷ xs) = rw (e x, all_ext f g e xs)

-- a stored record is accepted where its block passes the checks of its own and its includes are stored before it
pub accepted_parts : (c : Committee) (s : Bytes) (p : ℕ) → laid_out s ≡ true → is_entry s p ≡ true
    → accepted_at c (records_of s) p
    ≡ passes (head_checks c (block_at s p)) && (passes (body_checks c (block_at s p))
    && all_of (stored_before (entries (records_of s)) p) (block_at s p).includes)
accepted_parts c s p h k =
    let x : EntryAt s p = entry_at s p k in
    let rs : List Record = records_of s in
    let y : Split rs x.entry = split_at_entry rs x.entry x.stored in
    let newer : List Record = y.newer in
    let older : List Record = y.older in
    let r : Record = y.own in
    let joined : rs ≡ newer ++ (r ∷ []) ++ older = y.are ∙ sym (append_assoc newer (r ∷ []) older) in
    let far : Distinct (entries rs) = (laid_out_lem s h).chain.distinct in
    let at : p ≡ used_by older = sym x.place ∙ ap (λ (e : Entry). e.position) y.is in
    let block : block_at s p ≡ r.block = ap (λ (q : ℕ). block_at s q) (sym x.place) ∙ block_of_entry s x.reads x.entry x.stored ∙ ap
    (λ (e : Entry). e.block) y.is in
    let before : (i : BlockReference) → is_stored older i ≡ stored_before (entries rs) p i =
    λ i. stored_older (newer ++ (r ∷ [])) older i (subst (λ (l : List Record). Distinct (entries l)) joined far)
    ∙ ap (λ (l : List Record). stored_before (entries l) (used_by older) i) (sym joined) ∙ ap (λ (q : ℕ). stored_before (entries rs) q i) (sym at) in
    ap (λ (q : ℕ). accepted_at c rs q) at ∙ ap (λ (l : List Record). accepted_at c l (used_by older)) y.are
    ∙ accepted_at_lem c newer older r
    ∙ checks_new c older r.block (own_new newer older r (subst (λ (l : List Record). Distinct (entries l)) y.are far))
    ∙ rw (block) (ap (λ (t : Bool). passes (head_checks c r.block) && (passes (body_checks c r.block) && t))
    (all_ext (is_stored older) (stored_before (entries rs) p) before r.block.includes))

module _ (c : Committee) (s : Bytes) (p : ℕ) (h : laid_out s ≡ true) (k : is_entry s p ≡ true) where
  abbrev own : Block
  own = block_at s p

  pub head_refused : (refusal (head_checks c own) ≡ 0 → ⊥) → accepted_at c (records_of s) p ≡ false
  head_refused f = accepted_parts c s p h k ∙ rw (fails (passes (head_checks c own)) (λ t. f (passes_zero (head_checks c own) t)))

  pub body_refused : refusal (head_checks c own) ≡ 0 → (refusal (body_checks c own) ≡ 0 → ⊥) → accepted_at c (records_of s) p ≡ false
  body_refused z f = accepted_parts c s p h k ∙ rw (head_passes c own z, fails (passes (body_checks c own)) (λ t. f (passes_zero (body_checks c own) t)))

  pub includes_decide : refusal (head_checks c own) ≡ 0 → refusal (body_checks c own) ≡ 0 → accepted_at c (records_of s) p ≡ all_of
      (stored_before (entries (records_of s)) p) own.includes
  includes_decide z y = accepted_parts c s p h k ∙ rw (head_passes c own z, body_passes c own y)

-- ---- all records

-- the oldest i records were accepted one after the other
pub record Accepting (c : Committee) (rs : List Record) (i : ℕ) : Type 0 where
  pub newer : List Record
  pub older : List Record
  pub are : rs ≡ newer ++ older
  pub many : length older ≡ i
  pub accepted : all_accepted c older ≡ true

module _ (c : Committee) (rs : List Record) where
  pub accepting_start : Accepting c rs 0
  unfolding all_accepted
  accepting_start = record { newer = rs; older = []; are = sym (append-nil rs); many = refl; accepted = refl }

  -- the next record and its position
  record NextRecord (older : List Record) : Type 0 where
    newer : List Record
    own : Record
    are : rs ≡ newer ++ own ∷ older

  next_record : (newer older : List Record) → rs ≡ newer ++ older → length older < length rs → NextRecord older
  next_record newer older q l = from_last newer q
    where
      last : (r : Record) (xs : List Record) → (ys : List Record) × ((z : Record) × (r ∷ xs ≡ ys ++ (z ∷ [])))
      last r [] = ([], (r, refl))
      last r (x ∷ xs) = let n = last x xs in (r ∷ n.0, (n.1.0, ap (λ (l : List Record). r ∷ l) n.1.1))

      from_last : (xs : List Record) → rs ≡ xs ++ older → NextRecord older
      from_last [] e = absurd (omega (arith, ap length e))
      from_last (x ∷ xs) e =
          let n = last x xs in
          record { newer = n.0; own = n.1.0; are = e ∙ ap (λ (l : List Record). l ++ older) n.1.1 ∙ append_assoc n.0 (n.1.0 ∷ []) older }

  module _ (i : ℕ) (a : Accepting c rs i) (l : i < length rs) where
    coming : NextRecord a.older
    coming = next_record a.newer a.older a.are (omega (arith, a.many))

    position : get_or (positions rs) i 0 ≡ used_by a.older
    position = ap (λ (x : List Record). get_or (positions x) i 0) coming.are ∙ ap (λ (n : ℕ). get_or (positions (coming.newer ++ coming.own ∷ a.older)) n 0)
        (sym a.many) ∙ position_at coming.newer a.older coming.own

    decided : accepted_at c rs (get_or (positions rs) i 0) ≡ passes (block_checks c a.older coming.own.block)
    decided = ap (λ (n : ℕ). accepted_at c rs n) position ∙ ap (λ (x : List Record). accepted_at c x (used_by a.older)) coming.are ∙ accepted_at_lem c
        coming.newer a.older coming.own

    pub accepting_on : accepted_at c rs (get_or (positions rs) i 0) ≡ true → Accepting c rs (i + 1)
    unfolding all_accepted
    accepting_on t =
        record {
          newer = coming.newer;
          older = coming.own ∷ a.older;
          are = coming.are;
          many = omega (arith, a.many);
          accepted = rw (sym decided ∙ t)
              a.accepted;
        }

    pub accepting_stop : accepted_at c rs (get_or (positions rs) i 0) ≡ false → all_accepted c rs ≡ false
    unfolding all_accepted
    accepting_stop f = fails (all_accepted c rs) (λ t. not_both (and_left _ _
        (accepted_older c coming.newer (coming.own ∷ a.older) (subst (λ (x : List Record). all_accepted c x ≡ true) coming.are t))) (sym decided ∙ f))

  pub accepting_end : (i : ℕ) → Accepting c rs i → length rs ≤ i → all_accepted c rs ≡ true
  accepting_end i a l = all_old a.newer a.are
    where
      all_old : (xs : List Record) → rs ≡ xs ++ a.older → all_accepted c rs ≡ true
      all_old [] q = ap (all_accepted c) q ∙ a.accepted
      all_old (x ∷ xs) q = absurd (omega (arith, ap length q, length-append xs a.older, a.many))
