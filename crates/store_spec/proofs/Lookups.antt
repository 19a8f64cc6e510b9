-- Finding a stored block by its reference, and what was stored before an entry. Assumes nothing.
use mathlib.Core.Path.{◌≡◌, refl, sym, ap, ◌∙◌}
use mathlib.Core.List.{List, [], ◌∷◌, ◌++◌, map}
use mathlib.Core.Option.{Option, none, some}
use mathlib.Core.Bool.{Bool, true, false, not, ◌&&◌, ◌||◌, and-true}
use Prim.Native.Nat.{ℕ, suc, ◌+◌, ◌≤◌, ◌<◌}
use native.Mathlib.Omega.{arith}
use native.Mathlib.Numerals.{add-one}
use lib.Dec.{ltb}
use lib.ListN.{length, get_or, drop, drop_of_length-le, length-append, get_or-append}
use lib.Seq.{get_or_at, drop-cons}
use borrow.Author.Tests.{lt-ltb, le-ltb, ltb-true, eq-eqb, ne_eqb}
use Rattle.base.specs.Lists.{pick, any_of, all_of, find, holds, is_none, ◌∈◌, here, there}
use Rattle.base.specs.Checks.{Check, ◌⇒◌, passes}
use Rattle.base.proofs.Tests.{fails, same_test, not_both, and_right, or_right}
use Rattle.base.proofs.Lists.{every_in, find_in, find_passes, holds_some, with_later}
use Rattle.base.proofs.Loops.{ltb_same}
use Rattle.base.proofs.Passing.{passes_append, not_any}
use Rattle.committee.specs.Committee.{Committee}
use Rattle.record_spec.specs.Reference.{BlockReference, same_reference}
use Rattle.record_spec.specs.Block.{Block}
use Rattle.record_spec.specs.Record.{no_reference}
use Rattle.record_spec.specs.Verify.{head_checks, body_checks}
use Rattle.record_spec.proofs.References.{reference_same, same_reference_lem}
use Rattle.store_spec.specs.Layout.{Record, used_by, Entry, reference_of, entries, position_of, lookup}
use Rattle.store_spec.specs.Accept.{is_stored, first_missing, block_checks, all_accepted}
use Rattle.store_spec.specs.Entry.{positions}
use Rattle.store_spec.specs.Check.{stored_before, accepted_at}
use Rattle.store_spec.proofs.Store.{entries_below, entries_within}
use Rattle.store_spec.proofs.Chain.{Distinct}
use Rattle.store_spec.proofs.Loops.{length_positions}

-- ---- by reference

pub lookup_hit : (es : List Entry) → Distinct es → (e : Entry) → e ∈ es → (i : BlockReference) → reference_of e ≡ i → lookup es i ≡ some e
unfolding lookup find
lookup_hit [] _ d x4 i q = elim x4 [ ]
lookup_hit (e ∷ es) (with_later h hs) d here i q = rw (same_reference_lem q)
lookup_hit (e ∷ es) (with_later h hs) d (there m) i q =
    rw (
      fails (same_reference (reference_of e) i) (λ t. not_both (same_reference_lem (reference_same (reference_of e) i t ∙ sym q)) (every_in es d h m)),
      lookup_hit
          es hs d m i q,
    )

pub lookup_miss : (es : List Entry) (i : BlockReference) → ((e : Entry) → e ∈ es → reference_of e ≡ i → ⊥) → lookup es i ≡ none
unfolding lookup find
lookup_miss [] i f = refl
lookup_miss (e ∷ es) i f =
    rw (fails (same_reference (reference_of e) i) (λ t. f e here (reference_same (reference_of e) i t)), lookup_miss es i (λ d m. f d (there m)))

pub lookup_in : (es : List Entry) (i : BlockReference) (e : Entry) → lookup es i ≡ some e → (e ∈ es) × (reference_of e ≡ i)
unfolding lookup
lookup_in es i e h =
    let p : Entry → Bool = λ d. same_reference (reference_of d) i in
    (find_in p es e h, reference_same (reference_of e) i (find_passes p es e h))

-- ---- what stands before

pub used_more : (newer older : List Record) → used_by older ≤ used_by (newer ++ older)
unfolding used_by
used_more [] older = omega arith
used_more (r ∷ newer) older = omega (arith, used_more newer older)

pub entries_older : (newer older : List Record) (e : Entry) → e ∈ entries older → e ∈ entries (newer ++ older)
unfolding entries
entries_older [] older e m = m
entries_older (r ∷ newer) older e m = there (entries_older newer older e m)

older_entries : (newer older : List Record) (e : Entry) → e ∈ entries (newer ++ older) → e.position < used_by older → e ∈ entries older
unfolding entries
older_entries [] older e m h = m
older_entries (r ∷ newer) older e here h = absurd (omega (arith, used_more newer older))
older_entries (r ∷ newer) older e (there m) h = older_entries newer older e m h

pub entry_stored : (rs : List Record) (i : BlockReference) → is_stored rs i ≡ true → (e : Entry) × (e ∈ entries rs) × (reference_of e ≡ i)
unfolding is_stored any_of entries
entry_stored [] i h = absurd (not_both h refl)
entry_stored (r ∷ rs) i h = go (same_reference r.block.reference i) refl h (entry_stored rs i)
  where
    go : (t : Bool) → same_reference r.block.reference i ≡ t → t || is_stored rs i ≡ true →
        (is_stored rs i ≡ true → (e : Entry) × (e ∈ entries rs) × (reference_of e ≡ i))
        → (e : Entry) × (e ∈ entries (r ∷ rs)) × (reference_of e ≡ i)
    go true q k ih = (record { position = used_by rs; bytes = r.bytes; block = r.block }, here, reference_same r.block.reference i q)
    go false q k ih = let x = ih k in (x.0, there x.1, x.2)

pub stored_entry : (rs : List Record) (i : BlockReference) (e : Entry) → e ∈ entries rs → reference_of e ≡ i → is_stored rs i ≡ true
unfolding is_stored any_of entries
stored_entry [] i e x'' q = elim x'' [ ]
stored_entry (r ∷ rs) i e here q = rw (same_reference_lem q)
stored_entry (r ∷ rs) i e (there m) q = or_right (same_reference r.block.reference i) _ (stored_entry rs i e m q)

-- 23: lookup says whether a reference is stored
pub lookup_stored : (rs : List Record) (i : BlockReference) → is_stored rs i ≡ not (is_none (lookup (entries rs) i))
unfolding is_stored any_of entries lookup find is_none
lookup_stored [] i = refl
lookup_stored (r ∷ rs) i = go (same_reference r.block.reference i) (lookup_stored rs i)
  where
    go : (t : Bool) → is_stored rs i ≡ not (is_none (lookup (entries rs) i))
        → t || is_stored rs i ≡ not (is_none (pick t (some (record { position = used_by rs; bytes = r.bytes; block = r.block })) (lookup (entries rs) i)))
    go true h = refl
    go false h = h

pub not_stored_none : (rs : List Record) (i : BlockReference) → is_stored rs i ≡ false → lookup (entries rs) i ≡ none
unfolding is_none
not_stored_none rs i h = go (lookup (entries rs) i) (sym (lookup_stored rs i) ∙ h)
  where
    go : (o : Option Entry) → not (is_none o) ≡ false → o ≡ none
    go none k = refl
    go (some e) k = absurd (not_both refl k)

-- a block is stored among the older records where it stands before the end of these
pub stored_older : (newer older : List Record) (i : BlockReference) → Distinct (entries (newer ++ older)) → is_stored older i ≡ stored_before
    (entries (newer ++ older)) (used_by older) i
unfolding stored_before holds
stored_older newer older i d =
    same_test (is_stored older i) _
    (λ h. let x = entry_stored older i h in rw (lookup_hit (entries (newer ++ older)) d x.0 (entries_older newer older x.0 x.1) i x.2)
    (lt-ltb x.0.position (used_by older) (every_in (entries older) x.0 (entries_below older) x.1)))
    (λ h.
    let x = holds_some (λ e. ltb e.position (used_by older)) (lookup (entries (newer ++ older)) i) h in
    let y = lookup_in (entries (newer ++ older)) i x.0 x.1 in
    stored_entry older i x.0 (older_entries newer older x.0 y.0 (ltb-true x.0.position (used_by older) x.2)) y.1)

-- the same by its position, zero where it is not stored
module _ (rs : List Record) (p : ℕ) (i : BlockReference) where
  pub before_none : position_of (lookup (entries rs) i) ≡ 0 → stored_before (entries rs) p i ≡ false
  unfolding stored_before holds position_of
  before_none h = go (lookup (entries rs) i) refl h
    where
      go : (o : Option Entry) → lookup (entries rs) i ≡ o → position_of o ≡ 0 → holds (λ e. ltb e.position p) o ≡ false
      go none q k = refl
      go (some e) q k = absurd (omega (arith, (every_in (entries rs) e (entries_within rs) (lookup_in (entries rs) i e q).0).from))

  pub before_late : p ≤ position_of (lookup (entries rs) i) → stored_before (entries rs) p i ≡ false
  unfolding stored_before holds position_of
  before_late h = go (lookup (entries rs) i) h
    where
      go : (o : Option Entry) → p ≤ position_of o → holds (λ e. ltb e.position p) o ≡ false
      go none k = refl
      go (some e) k = le-ltb e.position p k

  pub before_early : (position_of (lookup (entries rs) i) ≡ 0 → ⊥) → position_of (lookup (entries rs) i) < p → stored_before (entries rs) p i ≡ true
  unfolding stored_before holds position_of
  before_early f h = go (lookup (entries rs) i) f h
    where
      go : (o : Option Entry) → (position_of o ≡ 0 → ⊥) → position_of o < p → holds (λ e. ltb e.position p) o ≡ true
      go none g k = absurd (g refl)
      go (some e) g k = lt-ltb e.position p k

-- all of a list, one by one
module _ {A : Type 0} (d : A) (f : A → Bool) (xs : List A) (k : ℕ) where
  pub all_on : k < length xs → f (get_or xs k d) ≡ true → all_of f (drop k xs) ≡ all_of f (drop (k + 1) xs)
  unfolding all_of
  all_on h t = rw (add-one k, drop-cons xs k d h, t)

  pub all_stop : k < length xs → f (get_or xs k d) ≡ false → all_of f (drop k xs) ≡ false
  unfolding all_of
  all_stop h t = rw (drop-cons xs k d h, t)

  pub all_end : length xs ≤ k → all_of f (drop k xs) ≡ true
  unfolding all_of
  all_end h = rw (drop_of_length-le xs h)

-- ---- accepted after those before

-- a record among others
pub record Split (rs : List Record) (e : Entry) : Type 0 where
  pub newer : List Record
  pub older : List Record
  pub own : Record
  pub are : rs ≡ newer ++ own ∷ older
  pub is : e ≡ record { position = used_by older; bytes = own.bytes; block = own.block }

pub split_at_entry : (rs : List Record) (e : Entry) → e ∈ entries rs → Split rs e
unfolding entries
split_at_entry [] e x' = elim x' [ ]
split_at_entry (r ∷ rs) e here = record { newer = []; older = rs; own = r; are = refl; is = refl }
split_at_entry (r ∷ rs) e (there m) =
    let x : Split rs e = split_at_entry rs e m in
    record { newer = r ∷ x.newer; older = x.older; own = x.own; are = ap (λ (l : List Record). r ∷ l) x.are; is = x.is }

pub accepted_at_lem : (c : Committee) (newer older : List Record) (r : Record) → accepted_at c (newer ++ r ∷ older) (used_by older) ≡ passes
    (block_checks c older r.block)
unfolding accepted_at used_by
accepted_at_lem c [] older r = rw (eq-eqb (used_by older) (used_by older) refl)
accepted_at_lem c (n ∷ newer) older r =
    rw (ne_eqb (used_by (newer ++ r ∷ older)) (used_by older)
    (λ (e : used_by (newer ++ r ∷ older) ≡ used_by older). omega (arith, used_more newer (r ∷ older))))
    (accepted_at_lem c newer older r)

-- where its reference is new, a block is accepted where it passes the checks of its own and its includes are stored
pub checks_new : (c : Committee) (older : List Record) (b : Block) → is_stored older b.reference ≡ false
    → passes (block_checks c older b) ≡ passes (head_checks c b) && (passes (body_checks c b) && all_of (is_stored older) b.includes)
unfolding block_checks passes all_of
checks_new c older b h =
    let missing : Check = any_of (λ i. not (is_stored older i)) b.includes ⇒ 30 in
    passes_append (head_checks c b) ((is_stored older b.reference ⇒ 23) ∷ body_checks c b ++ (missing ∷ []))
    ∙ ap (λ (t : Bool). passes (head_checks c b) && t)
    (first ∙ passes_append (body_checks c b) (missing ∷ []) ∙ ap (λ (t : Bool). passes (body_checks c b) && t)
    last)
  where
    first : passes ((is_stored older b.reference ⇒ 23) ∷ body_checks c b ++ ((any_of (λ i. not (is_stored older i)) b.includes ⇒ 30) ∷ []))
        ≡ passes (body_checks c b ++ ((any_of (λ i. not (is_stored older i)) b.includes ⇒ 30) ∷ []))
    first = rw h

    last : passes ((any_of (λ i. not (is_stored older i)) b.includes ⇒ 30) ∷ []) ≡ all_of (is_stored older) b.includes
    last = and-true _ ∙ not_any (is_stored older) b.includes

pub accepted_older : (c : Committee) (newer older : List Record) → all_accepted c (newer ++ older) ≡ true → all_accepted c older ≡ true
unfolding all_accepted
accepted_older c [] older h = h
accepted_older c (r ∷ newer) older h = accepted_older c newer older (and_right (passes (block_checks c (newer ++ older) r.block)) _ h)

pub position_at : (newer older : List Record) (r : Record) → get_or (positions (newer ++ r ∷ older)) (length older) 0 ≡ used_by older
unfolding positions
position_at [] older r = get_or_at (positions older) (used_by older) [] 0 (length older) (length_positions older)
position_at (n ∷ newer) older r =
    let l : List Record = newer ++ r ∷ older in
    get_or-append (positions l) (used_by l ∷ []) 0 (length older) (omega (arith, length_positions l, length-append newer (r ∷ older)))
    ∙ position_at newer older r

-- ---- the first include that is not stored (30)

pub none_is : {A : Type 0} (o : Option A) → o ≡ none → is_none o ≡ true
unfolding is_none
none_is o h = rw h

module _ (rs : List Record) (is : List BlockReference) (k : ℕ) where
  pub missing_on : k < length is → is_none (lookup (entries rs) (get_or is k no_reference)) ≡ false → k + first_missing rs (drop k is)
      ≡ k + 1 + first_missing rs
      (drop (k + 1) is)
  unfolding first_missing
  missing_on h t = rw (add-one k, drop-cons is k no_reference h, lookup_stored rs (get_or is k no_reference), t) (omega arith)

  pub missing_there : k < length is → is_none (lookup (entries rs) (get_or is k no_reference)) ≡ true → k + first_missing rs (drop k is) ≡ k
  unfolding first_missing
  missing_there h t = rw (drop-cons is k no_reference h, lookup_stored rs (get_or is k no_reference), t) (omega arith)

  pub missing_none : length is ≤ k → k + first_missing rs (drop k is) ≡ k
  unfolding first_missing
  missing_none h = rw (drop_of_length-le is h) (omega arith)

-- 30 applies where one is missing
pub missing_test : (rs : List Record) (is : List BlockReference) → any_of (λ i. not (is_stored rs i)) is ≡ ltb (first_missing rs is) (length is)
unfolding any_of first_missing
missing_test rs [] = refl
missing_test rs (i ∷ is) = go (is_stored rs i) (missing_test rs is)
  where
    go : (t : Bool) → any_of (λ j. not (is_stored rs j)) is ≡ ltb (first_missing rs is) (length is)
        → not t || any_of (λ j. not (is_stored rs j)) is ≡ ltb (pick t (first_missing rs is + 1) 0) (suc (length is))
    go true h = h ∙ ltb_same (first_missing rs is) (length is) (first_missing rs is + 1) (suc (length is))
        (λ (l : first_missing rs is < length is). omega arith)
        (λ (l : first_missing rs is + 1 < suc (length is)). omega arith)
    go false h = sym (lt-ltb 0 (suc (length is)) (omega arith))

-- ---- the block of an entry is stored, and a stored block has an entry

pub entry_block : (rs : List Record) (e : Entry) → e ∈ entries rs → e.block ∈ map (λ r. r.block) rs
unfolding entries
entry_block [] e x' = elim x' [ ]
entry_block (r ∷ rs) e here = here
entry_block (r ∷ rs) e (there m) = there (entry_block rs e m)

pub block_entry : (rs : List Record) (b : Block) → b ∈ map (λ r. r.block) rs → (e : Entry) × (e ∈ entries rs) × (e.block ≡ b)
unfolding entries
block_entry [] b x' = elim x' [ ]
block_entry (r ∷ rs) b here = (record { position = used_by rs; bytes = r.bytes; block = r.block }, here, refl)
block_entry (r ∷ rs) b (there m) = let x = block_entry rs b m in (x.0, there x.1, x.2)
