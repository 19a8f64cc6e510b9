-- What accepting a record writes is the store that holds it with the others. Assumes nothing.
use mathlib.Core.Path.{◌≡◌, refl, sym, ap, subst, ◌∙◌}
use mathlib.Core.Logic.{◌⊎◌, inl, inr}
use mathlib.Core.List.{List, [], ◌∷◌, ◌++◌, append_assoc}
use mathlib.Core.Bool.{true, false}
use Prim.Native.Nat.{ℕ, ◌+◌, ◌-◌, ◌≤◌, ◌<◌}
use native.Mathlib.Omega.{arith}
use lib.Dec.{leb, ltb}
use borrow.Author.Tests.{lt-ltb, le-ltb, ltb-false, leb-false}
use lib.ListN.{length, take, drop, replicate, length-append, length-drop, take-append-drop}
use lib.Seq.{sets, drop-drop, length-take-le}
use Rattle.base.specs.Lists.{◌∈◌, here}
use Rattle.base.specs.Le.{Bytes, le_at, le_bytes}
use Rattle.base.proofs.Tests.{fails, neither_left, neither_right}
use Rattle.base.proofs.Lists.{Every, none_of, every_in, with_later}
use Rattle.base.proofs.Members.{in_append, in_right, in_left}
use Rattle.base.proofs.Covered.{Around, around}
use Rattle.base.proofs.Le.{AllBytes, length_le_bytes, sets_append}
use Rattle.record_spec.specs.Reference.{BlockReference, same_reference, reference_before}
use Rattle.record_spec.specs.Record.{block_in}
use Rattle.record_spec.proofs.References.{reference_irrefl, reference_same}
use Rattle.store_spec.specs.Layout.{Record, used_by, Entry, reference_of, entries, position_of, first_position, next_position, entry_bytes, body_bytes, layout}
use Rattle.store_spec.specs.Layout.{ascending}
use Rattle.store_spec.specs.Store.{used_length, block_count, records_of, record_in, store_full, store_holding}
use Rattle.store_spec.specs.Entry.{laid_out}
use Rattle.store_spec.specs.Step.{first}
use Rattle.store_lookup.specs.Step.{LastAt, none_last, last_at, Neighbours}
use Rattle.store_spec.proofs.Store.{laid, length_body, length_layout, Within, entries_within}
use Rattle.store_spec.proofs.Chain.{Distinct, next_new, next_higher, first_new, first_same}
use Rattle.store_spec.proofs.Splice.{sets_left, sets_seam, sets_right, body_same, body_patched, entries_apart, ascending_apart, one_changed}
use Rattle.store_spec.proofs.Walk.{walked_inside}
use Rattle.store_spec.proofs.Check.{in_every, laid_used}
use Rattle.store_spec.proofs.Visit.{ascending_in, in_ascending}
use Rattle.store_spec.proofs.Search.{laid_out_lem}

-- ---- the writes, on parts of known lengths

-- what is written after a part
after_part : (l vs t : List ℕ) → length vs ≤ length t → sets (l ++ t) (length l) vs ≡ l ++ (vs ++ drop (length vs) t)
after_part l vs t h =
    ap (λ (x : List ℕ). sets (l ++ x) (length l) vs) (sym (take-append-drop (length vs) t))
    ∙ sets_seam vs l (take (length vs) t) (drop (length vs) t) (length-take-le (length vs) t h)

-- the second and the third of three parts
two_parts : (f u n u' n' t : List ℕ) → length f ≡ 4 → length u ≡ 4 → length u' ≡ 4 → length n ≡ 2 → length n' ≡ 2
    → sets (sets (f ++ (u ++ (n ++ t))) 4 u') 8 n' ≡ f ++ (u' ++ (n' ++ t))
two_parts f u n u' n' t a b b' c c' =
    let eight : length (f ++ u') ≡ 8 = omega (arith, length-append f u') in
    ap (λ (k : ℕ). sets (sets (f ++ (u ++ (n ++ t))) k u') 8 n') (sym a)
    ∙ ap (λ (l : List ℕ). sets l 8 n') (sets_seam u' f u (n ++ t) (b ∙ sym b') ∙ sym (append_assoc f u' (n ++ t)))
    ∙ ap (λ (k : ℕ). sets ((f ++ u') ++ (n ++ t)) k n') (sym eight)
    ∙ sets_seam n' (f ++ u') n t (c ∙ sym c')
    ∙ append_assoc f u' (n' ++ t)

-- an entry is written in three parts
pub entry_written : (l rec : List ℕ) (at next size : ℕ) → sets (sets (sets l at (le_bytes 4 next)) (at + 4) (le_bytes 4 size)) (at + 8) rec ≡ sets l at
    (le_bytes 4 next ++ (le_bytes 4 size ++ rec))
entry_written l rec at next size =
    let last : at + 4 + 4 ≡ at + 8 = omega arith in
    sym (sets_append (le_bytes 4 next) (le_bytes 4 size ++ rec) l at
    ∙ sets_append (le_bytes 4 size) rec (sets l at (le_bytes 4 next)) (at + length (le_bytes 4 next))
    ∙ rw (length_le_bytes 4 next, length_le_bytes 4 size, last))

-- ---- room (13)

module _ (s : Bytes) (h : laid_out s ≡ true) (rec : Bytes) where
  used_after : used_by (record_in rec ∷ records_of s) ≡ le_at 4 s 4 + (8 + length rec)
  unfolding used_by record_in used_length
  used_after = ap (λ (n : ℕ). n + (8 + length rec)) (laid_out_lem s h).reads.used

  pub full_bytes : length s < le_at 4 s 4 + (8 + length rec) → store_full s (record_in rec) ≡ true
  unfolding store_full
  full_bytes l = rw (lt-ltb (length s) (used_by (record_in rec ∷ records_of s)) (omega (arith, used_after)))

  pub full_blocks : le_at 4 s 4 + (8 + length rec) ≤ length s → store_full s (record_in rec) ≡ leb 1024 (le_at 2 s 8)
  unfolding store_full block_count
  full_blocks l = rw (le-ltb (length s) (used_by (record_in rec ∷ records_of s)) (omega (arith, used_after)), (laid_out_lem s h).reads.many)

  -- where it is not full
  pub record Roomy : Type 0 where
    pub bytes : used_by (record_in rec ∷ records_of s) ≤ length s
    pub used : le_at 4 s 4 ≡ used_by (records_of s)
    pub after : le_at 4 s 4 + (8 + length rec) ≡ used_by (record_in rec ∷ records_of s)
    pub blocks : le_at 2 s 8 < 1024
    pub count : le_at 2 s 8 + 1 ≡ length (record_in rec ∷ records_of s)
    pub short : length s ≤ 4294967295

  pub roomy : store_full s (record_in rec) ≡ false → Roomy
  unfolding store_full block_count used_length
  roomy f =
      let many = (laid_out_lem s h).reads.many in
      record {
        bytes = ltb-false (length s) (used_by (record_in rec ∷ records_of s)) (neither_left _ _ f);
        used = sym (laid_out_lem s h).reads.used;
        after = sym used_after;
        blocks = omega (arith, many, leb-false 1024 (length (records_of s)) (neither_right (ltb (length s) (used_by (record_in rec ∷ records_of s))) _ f));
        count = omega (arith, many);
        short = (laid_out_lem s h).reads.header.short;
      }

-- the places that change lie in the store
pub record Reach (s : Bytes) (below above : ℕ) : Type 0 where
  pub below_in : below + 4 ≤ length s
  pub above_in : above ≤ length s

pub reach : (s : Bytes) → laid_out s ≡ true → (i : BlockReference) (below above : ℕ) → Neighbours s i below above → Reach s below above
unfolding position_of first
reach s h i below above p =
    record {
      below_in = by_last p.last (λ e m. inside e (in_left p.higher m));
      above_in = by_next p.higher p.next
          (λ e m. inside e (in_right p.lower m));
    }
  where
    whole : used_by (records_of s) ≤ length s
    whole = walked_inside s (records_of s) (laid_out_lem s h).reads.header.long (laid_out_lem s h).reads.walked

    inside : (e : Entry) → e ∈ (p.lower ++ p.higher) → Within (used_by (records_of s)) e
    inside e m = every_in (entries (records_of s)) e (entries_within (records_of s))
        (ascending_in (entries (records_of s)) e (subst (λ (l : List Entry). e ∈ l) (sym p.sorted) m))

    by_last : {xs : List Entry} {n : ℕ} → LastAt xs n → ((e : Entry) → e ∈ xs → Within (used_by (records_of s)) e) → n + 4 ≤ length s
    by_last none_last f = omega (arith, (laid_out_lem s h).reads.header.long)
    by_last (last_at zs d) f = omega (arith, (f d (in_right zs here)).upto, whole)

    by_next : (ys : List Entry) → above ≡ position_of (first ys) → ((e : Entry) → e ∈ ys → Within (used_by (records_of s)) e) → above ≤ length s
    by_next [] q f = omega arith
    by_next (y ∷ ys) q f = omega (arith, (f y here).upto, whole)

-- ---- the new store

module _ (s : Bytes) (b : AllBytes s) (h : laid_out s ≡ true) (r : Record) (below above : ℕ) (p : Neighbours s r.block.reference below above)
    (room : used_by (r ∷ records_of s) ≤ length s) where
  abbrev rs : List Record
  rs = records_of s

  abbrev es : List Entry
  es = entries rs

  abbrev new : Entry
  new = record { position = used_by rs; bytes = r.bytes; block = r.block }

  far : Distinct (new ∷ es)
  far = with_later (in_every es (λ e m. apart e (in_append p.lower (subst (λ (l : List Entry). e ∈ l) p.sorted (in_ascending es e m)))))
      (laid_out_lem s h).chain.distinct
    where
      apart : (e : Entry) → (e ∈ p.lower) ⊎ (e ∈ p.higher) → same_reference (reference_of new) (reference_of e) ≡ false
      apart e (inl m) = fails _ (λ t. reference_irrefl (reference_of e) (rw (reference_same (reference_of new) (reference_of e) t) at (p.low e m)))
      apart e (inr m) = fails _ (λ t. reference_irrefl (reference_of e) (rw (reference_same (reference_of new) (reference_of e) t) at (p.high e m)))

  low : Every (λ x. reference_before (reference_of x) (reference_of new) ≡ true) p.lower
  low = in_every p.lower p.low

  high : Every (λ y. reference_before (reference_of new) (reference_of y) ≡ true) p.higher
  high = in_every p.higher p.high

  -- what is written for the record
  abbrev own : Bytes
  own = le_bytes 4 above ++ (le_bytes 4 (length r.bytes) ++ r.bytes)

  own_entry : entry_bytes (new ∷ es) new ≡ own
  unfolding entry_bytes
  own_entry = rw (next_new es new far p.lower p.higher p.sorted low high, p.next)

  length_own : length own ≡ 8 + length r.bytes
  length_own = simp (length-append, length_le_bytes) (omega arith)

  abbrev rest : Bytes
  rest = drop (used_by (r ∷ rs)) s

  abbrev used : Bytes
  used = le_bytes 4 (used_by (r ∷ rs))

  abbrev count : Bytes
  count = le_bytes 2 (length (r ∷ rs))

  abbrev body : Bytes
  body = body_bytes es es

  -- the entry, the used length and the count
  three : sets (sets (sets s (used_by rs) own) 4 used) 8 count ≡ le_bytes 4 (first_position es)
      ++ (used ++ (count ++ (replicate 6 0 ++ (body ++ (own ++ rest)))))
  unfolding used_by
  three =
      let t : Bytes = drop (used_by rs) s in
      let split : s ≡ layout rs ++ t = sym (take-append-drop (used_by rs) s) ∙ ap (λ (l : Bytes). l ++ t)
      (laid_used s b (laid_out_lem s h).reads (laid_out_lem s h).chain) in
      let fits : length own ≤ length t = omega (arith, length_own, length-drop (used_by rs) s) in
      let gone : drop (length own) t ≡ rest = ap (λ (k : ℕ). drop k t) length_own ∙ drop-drop (8 + length r.bytes) (used_by rs) s in
      let entry : sets s (used_by rs) own ≡ layout rs ++ (own ++ rest) =
      ap (λ (l : Bytes). sets l (used_by rs) own) split
      ∙ ap (λ (k : ℕ). sets (layout rs ++ t) k own) (sym (length_layout rs))
      ∙ after_part (layout rs) own t fits
      ∙ ap (λ (l : Bytes). layout rs ++ (own ++ l)) gone in
      ap (λ (l : Bytes). sets (sets l 4 used) 8 count) (entry ∙ laid rs (own ++ rest))
      ∙ two_parts (le_bytes 4 (first_position es)) (le_bytes 4 (used_by rs)) (le_bytes 2 (length rs)) used count (replicate 6 0 ++ (body ++ (own ++ rest)))
      (length_le_bytes 4 _) (length_le_bytes 4 _) (length_le_bytes 4 _) (length_le_bytes 2 _) (length_le_bytes 2 _)

  -- the store that holds the record too, field by field
  held : store_holding (r ∷ rs) s ≡ le_bytes 4 (first_position (new ∷ es))
      ++ (used ++ (count ++ (replicate 6 0 ++ (body_bytes (new ∷ es) es ++ (own ++ rest)))))
  unfolding store_holding entries body_bytes
  held =
      laid (r ∷ rs) rest
      ∙ ap (λ (l : Bytes). le_bytes 4 (first_position (new ∷ es)) ++ (used ++ (count ++ (replicate 6 0 ++ l))))
      (append_assoc (body_bytes (new ∷ es) es) (entry_bytes (new ∷ es) new) rest ∙ ap (λ (l : Bytes). body_bytes (new ∷ es) es ++ (l ++ rest)) own_entry)

  abbrev tail : Bytes
  tail = own ++ rest

  Written : ℕ → Type 0
  Written n =
      le_bytes 4 (first_position (new ∷ es)) ++ (used ++ (count ++ (replicate 6 0 ++ (body_bytes (new ∷ es) es ++ tail))))
      ≡ sets (le_bytes 4 (first_position es) ++ (used ++ (count ++ (replicate 6 0 ++ (body ++ tail))))) n (le_bytes 4 (used_by rs))

  -- where nothing is lower, the first position changes
  as_first : ascending es ≡ p.higher → Written 0
  unfolding Written
  as_first q =
      let same : body_bytes (new ∷ es) es ≡ body = body_same es (new ∷ es) rs
      (in_every es (λ e m. unchanged e (around (subst (λ (l : List Entry). e ∈ l) q (in_ascending es e m))))) in
      rw (first_new es new far [] p.higher q none_of high refl, same)
      (sym (sets_seam (le_bytes 4 (used_by rs)) [] (le_bytes 4 (first_position es)) _ (length_le_bytes 4 _ ∙ sym (length_le_bytes 4 (used_by rs)))))
    where
      unchanged : (e : Entry) → Around e p.higher → next_position (new ∷ es) e ≡ next_position es e
      unchanged e x = next_higher es new far [] p.higher q none_of high x.before x.after e x.are

  -- where d is the last that is lower, its next position changes
  as_next : (zs : List Entry) (d : Entry) → ascending es ≡ zs ++ (d ∷ []) ++ p.higher → Every (λ x. reference_before (reference_of x) (reference_of new) ≡ true)
      (zs ++ (d ∷ [])) → Written d.position
  unfolding Written
  as_next zs d q m =
      let there_is : d ∈ es = ascending_in es d (subst (λ (l : List Entry). d ∈ l) (sym q) (in_left p.higher (in_right zs here))) in
      let w : Within (used_by rs) d = every_in es d (entries_within rs) there_is in
      let i : ℕ = d.position - 16 in
      let v : Bytes = le_bytes 4 (used_by rs) in
      let f : Bytes = le_bytes 4 (first_position es) in
      let zeros : Bytes = replicate 6 0 in
      let head : Bytes = f ++ (used ++ (count ++ zeros)) in
      let size : length head ≡ 16 = simp (length-append, length_le_bytes) in
      let joined : (l : Bytes) → head ++ l ≡ f ++ (used ++ (count ++ (zeros ++ l))) = λ l. simp append_assoc in
      let patched : body_bytes (new ∷ es) es ≡ sets body i v =
      body_patched es (new ∷ es) d.position (used_by rs) rs d there_is refl
      (one_changed es new d far zs p.higher q m high (ascending_apart es (entries_apart rs))) in
      let at : d.position ≡ length head + i = omega (arith, w.from) in
      rw (starts_same zs q m, patched)
      (sym (ap (λ (l : Bytes). sets l d.position v) (sym (joined (body ++ tail)))
      ∙ ap (λ (n : ℕ). sets (head ++ (body ++ tail)) n v) at
      ∙ sets_right head (body ++ tail) i v
      ∙ ap (λ (l : Bytes). head ++ l) (sets_left v body tail i (omega (arith, length_le_bytes 4 (used_by rs), length_body es rs, w.from, w.upto)))
      ∙ joined (sets body i v ++ tail)))
    where
      starts_same : (ys : List Entry) → ascending es ≡ ys ++ (d ∷ []) ++ p.higher → Every (λ x. reference_before (reference_of x) (reference_of new) ≡ true)
          (ys ++ (d ∷ [])) → first_position (new ∷ es) ≡ first_position es
      starts_same [] q m = first_same es new far (d ∷ []) p.higher q m high d [] refl
      starts_same (y ∷ ys) q m = first_same es new far (y ∷ ys ++ (d ∷ [])) p.higher q m high y (ys ++ (d ∷ [])) refl

  -- what accepting writes
  pub appended : store_holding (r ∷ rs) s ≡ sets (sets (sets (sets s (used_by rs) own) 4 used) 8 count) below (le_bytes 4 (used_by rs))
  unfolding Written
  appended = held ∙ by_last p.last p.sorted low ∙ sym (ap (λ (l : Bytes). sets l below (le_bytes 4 (used_by rs))) three)
    where
      by_last : {xs : List Entry} {n : ℕ} → LastAt xs n → ascending es ≡ xs ++ p.higher → Every
          (λ x. reference_before (reference_of x) (reference_of new) ≡ true) xs → Written n
      by_last none_last q m = as_first q
      by_last (last_at zs d) q m = as_next zs d q m

-- the same from the numbers that the code reads and writes
pub appended_so : (s : Bytes) → AllBytes s → (h : laid_out s ≡ true) (rec : Bytes) (below above used end count : ℕ) → Neighbours s (block_in rec).reference
    below above → store_full s (record_in rec) ≡ false
    → used ≡ le_at 4 s 4 → end ≡ le_at 4 s 4 + (8 + length rec) → count ≡ le_at 2 s 8 + 1
    → sets (sets (sets (sets s used (le_bytes 4 above ++ (le_bytes 4 (length rec) ++ rec))) 4 (le_bytes 4 end)) 8 (le_bytes 2 count)) below (le_bytes 4 used)
    ≡ store_holding (record_in rec ∷ records_of s) s
unfolding record_in
appended_so s b h rec below above used end count p f u e n =
    let m : Roomy s h rec = roomy s h rec f in
    rw (u ∙ m.used, e ∙ m.after, n ∙ m.count) (sym (appended s b h (record_in rec) below above p m.bytes))
