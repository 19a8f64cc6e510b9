-- What the loops of the check hold: the walk over the entries, and the walk along the chain. Assumes nothing.
use mathlib.Core.Path.{◌≡◌, refl, sym, ap, subst, ◌∙◌}
use mathlib.Core.Logic.{◌⊎◌, inl, inr}
use mathlib.Core.List.{List, [], ◌∷◌, ◌++◌, map, map-append}
use mathlib.Core.Bool.{Bool, true, false}
use Prim.Native.Nat.{ℕ, ◌+◌, ◌-◌, ◌≤◌, ◌<◌}
use native.Mathlib.Omega.{arith}
use native.Mathlib.Numerals.{add-one}
use native.Mathlib.Nat.{add-sub_cancel_left}
use lib.Dec.{ltb, eqb}
use lib.ListN.{length, take, drop, set, length-drop, length-append}
use lib.Seq.{take-suc-set, length-take-le}
use borrow.Author.Tests.{lt-ltb, eq-eqb, ne_eqb, eqb-true}
use Rattle.record_spec.specs.Record.{well_formed, block_in}
use Rattle.base.specs.Lists.{pairwise, is_none, ◌∈◌, here, there}
use Rattle.base.specs.Le.{Bytes, le_at}
use Rattle.base.proofs.Tests.{fails, not_both, same_test, or_right, and_left, and_right}
use Rattle.base.proofs.Lists.{Every, none_of, and, every, every_in, every_append, Pairs, no_pairs, with_later, pairs_append, pairs_pairwise}
use Rattle.base.proofs.Members.{in_empty, in_cases, in_append, in_left, in_right, any_in, in_any}
use Rattle.record_spec.specs.Reference.{BlockReference, reference_before}
use Rattle.record_spec.proofs.Records.{block_of_lem}
use Rattle.store_spec.specs.Layout.{Record, used_by, Entry, entries, position_of, ascending}
use Rattle.store_spec.specs.Store.{used_length, block_count, records_of}
use Rattle.store_spec.specs.Entry.{header_right, positions, is_in, sorted_positions, readable, chained, is_entry, none_or_entry, follows, record_at, block_at}
use Rattle.store_spec.proofs.Store.{entries_within}
use Rattle.store_spec.proofs.Walk.{Stands, Walked, begun, then, walked_same, walked_on, entries_stand}
use Rattle.store_spec.specs.Step.{first}
use Rattle.store_spec.proofs.Chain.{lower, Ascending, ascending_ascends}
use Rattle.store_spec.proofs.Check.{Readable, is_readable, readable_is, Chained, is_chained, chained_is}
use Rattle.store_spec.proofs.Visit.{back, back_append, length_back, back_right, Descending, descending_more, ascending_in, length_ascending}
use Rattle.store_spec.proofs.Visit.{length_entries, Linked, begins, goes, ToCome, comes, Ended, ended}

-- ---- positions

positions_below : (rs : List Record) → Every (λ p. p < used_by rs) (positions rs)
unfolding positions used_by
positions_below [] = none_of
positions_below (r ∷ rs) =
    every_append (positions rs) (used_by rs ∷ []) (every (λ p (h : p < used_by rs). omega arith) (positions rs) (positions_below rs))
    (and (omega arith) none_of)

positions_rise : (rs : List Record) → Pairs (λ p q. ltb p q ≡ true) (positions rs)
unfolding positions
positions_rise [] = no_pairs
positions_rise (r ∷ rs) =
    pairs_append (positions rs) (used_by rs ∷ []) (positions_rise rs) (with_later none_of no_pairs)
    (every (λ p (h : p < used_by rs). and (lt-ltb p (used_by rs) h) none_of) (positions rs) (positions_below rs))

pub positions_ascend : (rs : List Record) → pairwise ltb (positions rs) ≡ true
positions_ascend rs = pairs_pairwise ltb (positions rs) (positions_rise rs)

position_of_lem : (rs : List Record) (p : ℕ) → p ∈ positions rs → (e : Entry) × (e ∈ entries rs) × (e.position ≡ p)
unfolding positions entries
position_of_lem [] p m = absurd (in_empty m)
position_of_lem (r ∷ rs) p m = go (in_append (positions rs) m) (position_of_lem rs p)
  where
    last : (p ≡ used_by rs) ⊎ (p ∈ []) → (e : Entry) × (e ∈ entries (r ∷ rs)) × (e.position ≡ p)
    last (inl q) = (record { position = used_by rs; bytes = r.bytes; block = r.block }, here, sym q)
    last (inr k) = absurd (in_empty k)

    go : (p ∈ positions rs) ⊎ (p ∈ (used_by rs ∷ [])) → (p ∈ positions rs → (e : Entry) × (e ∈ entries rs) × (e.position ≡ p)) → (e : Entry) ×
        (e ∈ entries (r ∷ rs)) × (e.position ≡ p)
    go (inl k) ih = let x = ih k in (x.0, there x.1, x.2)
    go (inr k) ih = last (in_cases k)

position_in : (rs : List Record) (e : Entry) → e ∈ entries rs → e.position ∈ positions rs
unfolding positions entries
position_in [] e x' = elim x' [ ]
position_in (r ∷ rs) e here = in_right (positions rs) here
position_in (r ∷ rs) e (there m) = in_left (used_by rs ∷ []) (position_in rs e m)

pub length_positions : (rs : List Record) → length (positions rs) ≡ length rs
unfolding positions
length_positions [] = refl
length_positions (r ∷ rs) = omega (arith, length-append (positions rs) (used_by rs ∷ []), length_positions rs)

-- a position where an entry stands
pub stands_at : (rs : List Record) (p : ℕ) → is_in p (positions rs) ≡ true → (e : Entry) × (e ∈ entries rs) × (e.position ≡ p)
unfolding is_in
stands_at rs p h =
    let x = any_in (λ m. eqb m p) (positions rs) h in
    let y = position_of_lem rs x.0 x.1 in
    (y.0, y.1, y.2 ∙ eqb-true x.0 p x.2)

pub at_stands : (rs : List Record) (e : Entry) → e ∈ entries rs → is_in e.position (positions rs) ≡ true
unfolding is_in
at_stands rs e m = in_any (λ n. eqb n e.position) (position_in rs e m) (eq-eqb e.position e.position refl)

-- ---- an entry at a position

pub record EntryAt (s : Bytes) (p : ℕ) : Type 0 where
  pub entry : Entry
  pub stored : entry ∈ entries (records_of s)
  pub place : entry.position ≡ p
  pub reads : Readable s
  pub stands : Stands s p (record { bytes = entry.bytes; block = entry.block })

pub entry_at : (s : Bytes) (p : ℕ) → is_entry s p ≡ true → EntryAt s p
unfolding is_entry
entry_at s p h =
    let r : Readable s = is_readable s (and_left (readable s) _ h) in
    let x = stands_at (records_of s) p (and_right (readable s) _ h) in
    record {
      entry = x.0;
      stored = x.1;
      place = x.2;
      reads = r;
      stands = subst
          (λ (q : ℕ). Stands s q (record { bytes = x.0.bytes; block = x.0.block })) x.2
          (every_in (entries (records_of s)) x.0 (entries_stand s (records_of s) r.walked) x.1);
    }

pub is_entry_lem : (s : Bytes) (e : Entry) → readable s ≡ true → e ∈ entries (records_of s) → is_entry s e.position ≡ true
unfolding is_entry
is_entry_lem s e h m = rw h (at_stands (records_of s) e m)

pub none_entry : (s : Bytes) (p : ℕ) → (p ≡ 0 → ⊥) → none_or_entry s p ≡ true → is_entry s p ≡ true
unfolding none_or_entry
none_entry s p f h = rw (ne_eqb p 0 f) at h

-- what stands at a position
module _ (s : Bytes) (p : ℕ) (r : Record) (h : Stands s p r) where
  pub record-at : record_at s p ≡ r.bytes
  unfolding record_at
  record-at = rw h.size h.bytes

  pub formed_at : well_formed (record_at s p) ≡ true
  unfolding well_formed is_none
  formed_at = rw (record-at, h.block)

  pub block_at_lem : block_at s p ≡ r.block
  unfolding block_at block_in
  block_at_lem = rw (record-at, h.block)

-- what the code needs of an entry: it lies in the store, and its record is well formed
pub record Room (s : Bytes) (p : ℕ) : Type 0 where
  pub from : 16 ≤ p
  pub inside : p + 8 + le_at 4 s (p + 4) ≤ length s
  pub formed : well_formed (record_at s p) ≡ true

pub entry_room : (s : Bytes) (p : ℕ) → is_entry s p ≡ true → Room s p
entry_room s p h =
    let x : EntryAt s p = entry_at s p h in
    let st = x.stands in
    record {
      from = omega (arith, (every_in (entries (records_of s)) x.entry (entries_within (records_of s)) x.stored).from, x.place);
      inside = omega (arith, st.inside, st.size);
      formed = formed_at s p _ st;
    }

-- a record lent as a part of the store
pub record-part : (s : Bytes) (p end : ℕ) → end ≡ p + 8 + le_at 4 s (p + 4) → take (end - (p + 8)) (drop (p + 8) s) ≡ record_at s p
unfolding record_at
record-part s p end h = rw (h, add-sub_cancel_left (p + 8) (le_at 4 s (p + 4)))

-- ---- the walk over the entries

-- i entries were read, and their positions were kept
pub record Walking (s : Bytes) (i at : ℕ) (starts : List ℕ) : Type 0 where
  pub rs : List Record
  pub walked : Walked s rs
  pub many : length rs ≡ i
  pub place : used_by rs ≡ at
  pub kept : take i starts ≡ positions rs

pub walking_start : (s : Bytes) (starts : List ℕ) → Walking s 0 16 starts
unfolding used_by positions
walking_start s starts = record { rs = []; walked = begun; many = refl; place = refl; kept = refl }

pub walking_step : (s : Bytes) (i at : ℕ) (starts : List ℕ) (r : Record) → Walking s i at starts → i < length starts → Stands s at r
    → Walking s (i + 1) (at + (8 + length r.bytes)) (set starts i at)
unfolding used_by positions
walking_step s i at starts r w h k =
    record {
      rs = r ∷ w.rs;
      walked = then {r = r} w.walked (rw w.place k);
      many = omega (arith, w.many);
      place = ap (λ (n : ℕ). n + (8 + length r.bytes)) w.place;
      kept = rw (add-one i, take-suc-set starts i at h, w.kept, w.place);
    }

-- the well-formed record that ends at a position stands there
pub stands_of : (s : Bytes) (p : ℕ) → p + 8 + le_at 4 s (p + 4) ≤ length s → well_formed (record_at s p) ≡ true → Stands s p
    (record { bytes = record_at s p; block = block_at s p })
unfolding record_at block_at
stands_of s p h f =
    let n : ℕ = le_at 4 s (p + 4) in
    let many : length (take n (drop (p + 8) s)) ≡ n = length-take-le n (drop (p + 8) s) (omega (arith, length-drop (p + 8) s)) in
    record { inside = omega (arith, many); size = sym many; bytes = ap (λ (k : ℕ). take k (drop (p + 8) s)) many; block = block_of_lem (record_at s p) f }

pub walking_on : (s : Bytes) (i at end : ℕ) (starts : List ℕ) → Walking s i at starts → i < length starts → end ≡ at + 8 + le_at 4 s (at + 4) → end ≤ length s
    → well_formed (take (end - (at + 8)) (drop (at + 8) s)) ≡ true → Walking s (i + 1) end (set starts i at)
walking_on s i at end starts w h e l f =
    let st = stands_of s at (omega arith) (subst (λ (x : Bytes). well_formed x ≡ true) (record-part s at end e) f) in
    let same : at + (8 + length (record_at s at)) ≡ end = omega (arith, st.size, e) in
    subst (λ (p : ℕ). Walking s (i + 1) p (set starts i at)) same (walking_step s i at starts _ w h st)

-- no record stands where the next should
pub walking_stop : (s : Bytes) (i at : ℕ) (starts : List ℕ) → Walking s i at starts → i < block_count s → ((r : Record) → Stands s at r → ⊥) → readable s
    ≡ false
walking_stop s i at starts w h f = fails (readable s) λ t.
    let r : Readable s = is_readable s t in
    let x = walked_on s w.rs (records_of s) w.walked r.walked (omega (arith, w.many, r.many)) in
    f x.0 (subst (λ (p : ℕ). Stands s p x.0) w.place x.1)

walking_all : (s : Bytes) (at : ℕ) (starts : List ℕ) (w : Walking s (block_count s) at starts) → readable s ≡ true → records_of s ≡ w.rs
walking_all s at starts w t =
    let r : Readable s = is_readable s t in
    walked_same s (records_of s) w.rs r.walked w.walked (r.many ∙ sym w.many)

pub walking_end : (s : Bytes) (at : ℕ) (starts : List ℕ) → header_right s ≡ true → Walking s (block_count s) at starts → eqb at (used_length s) ≡ readable s
walking_end s at starts k w =
    same_test (eqb at (used_length s)) (readable s)
    (λ h. readable_is s w.rs k w.walked w.many (w.place ∙ eqb-true at (used_length s) h))
    (λ h. eq-eqb at (used_length s) (sym w.place ∙ ap used_by (sym (walking_all s at starts w h)) ∙ (is_readable s h).used))

pub walking_kept : (s : Bytes) (at : ℕ) (starts : List ℕ) → Walking s (block_count s) at starts → readable s ≡ true → take (block_count s) starts ≡ positions
    (records_of s)
walking_kept s at starts w h = w.kept ∙ ap positions (sym (walking_all s at starts w h))

-- all were walked over
pub walking_done : (s : Bytes) (i at used : ℕ) (starts : List ℕ) → header_right s ≡ true → Walking s i at starts → i ≡ block_count s → used ≡ used_length s
    → (eqb at used ≡ readable s) × (eqb at used ≡ true → take (block_count s) starts ≡ positions (records_of s))
walking_done s i at used starts k w e u =
    let v : Walking s (block_count s) at starts = subst (λ (n : ℕ). Walking s n at starts) e w in
    let ends : eqb at used ≡ readable s = ap (eqb at) u ∙ walking_end s at starts k v in
    (ends, λ h. walking_kept s at starts v (sym ends ∙ h))

-- what a refusal says
pub refuses : {X : Type 0} {t : Bool} → t ≡ false → (false ≡ t) × (false ≡ true → X)
refuses h = (sym h, λ z. absurd (not_both z refl))

-- ---- the walk along the chain

abbrev pub place_of : Entry → ℕ
place_of e = e.position

-- k entries were passed in ascending order, the latest at `last`, and their positions were kept
pub record Visiting (s : Bytes) (rs : List Record) (k at last : ℕ) (order : List ℕ) : Type 0 where
  pub xs : List Entry
  pub linked : Linked s xs at
  pub stored : Every (λ e. e ∈ entries rs) xs
  pub falls : Descending xs
  pub many : length xs ≡ k
  pub latest : last ≡ position_of (first xs)
  pub kept : take k order ≡ map place_of (back xs [])

-- an entry is above the latest that was passed
unfoldable pub above : List Entry → Entry → Bool
above [] e = true
above (x ∷ xs) e = lower x e

module _ (s : Bytes) (rs : List Record) where
  pub visiting_start : (at : ℕ) (order : List ℕ) → at ≡ le_at 4 s 0 → Visiting s rs 0 at 0 order
  unfolding position_of first back
  visiting_start at order h = record { xs = []; linked = begins h; stored = none_of; falls = no_pairs; many = refl; latest = refl; kept = refl }

  pub visiting_step : (k at last : ℕ) (order : List ℕ) (e : Entry) (v : Visiting s rs k at last order) → k < length order → e ∈ entries rs → e.position ≡ at
      → above v.xs e ≡ true → Visiting s rs (k + 1) (le_at 4 s at) at (set order k at)
  unfolding position_of first back above
  visiting_step k at last order e v h m q a =
      record {
        xs = e ∷ v.xs;
        linked = goes {e = e} {xs = v.xs} (rw q v.linked) (ap (λ (p : ℕ). le_at 4 s p) (sym q));
        stored = and m v.stored;
        falls = more v.xs v.falls a;
        many = omega (arith, v.many);
        latest = sym q;
        kept =
            rw (add-one k, take-suc-set order k at h, v.kept)
            (sym (ap (map place_of) (back_append v.xs (e ∷ [])) ∙ map-append place_of (back v.xs []) (e ∷ []) ∙ ap
            (λ (p : ℕ). map place_of (back v.xs []) ++ (p ∷ [])) q));
      }
    where
      more : (xs : List Entry) → Descending xs → above xs e ≡ true → Descending (e ∷ xs)
      more [] d a = with_later none_of no_pairs
      more (x ∷ xs) d a = descending_more e x xs a d

  -- what comes next where the chain is right
  pub record Next (xs : List Entry) (at : ℕ) : Type 0 where
    pub entry : Entry
    pub there_is : entry ∈ entries rs
    pub place : entry.position ≡ at
    pub higher : above xs entry ≡ true

  tail_ascends : (xs ys : List Entry) → Ascending (back xs ys) → Ascending ys
  unfolding back
  tail_ascends [] ys h = h
  tail_ascends (x ∷ xs) ys h = rest (tail_ascends xs (x ∷ ys) h)
    where
      rest : {y : Entry} {zs : List Entry} → Ascending (y ∷ zs) → Ascending zs
      rest (with_later k ks) = ks

  pub visiting_next : (k at last : ℕ) (order : List ℕ) (v : Visiting s rs k at last order) → Chained s (entries rs) → k < length rs → Next v.xs at
  unfolding position_of first back above
  visiting_next k at last order v c h = by_rest t.rest t.sorted t.next
    where
      t : ToCome s rs v.xs at
      t = comes s rs c v.xs at v.linked v.stored

      after : (xs ys : List Entry) (y : Entry) → ascending (entries rs) ≡ back xs (y ∷ ys) → above xs y ≡ true
      after [] ys y q = refl
      after (x ∷ xs) ys y q = head_lower (tail_ascends xs (x ∷ y ∷ ys) (subst Ascending q (ascending_ascends (entries rs) c.distinct)))
        where
          head_lower : Ascending (x ∷ y ∷ ys) → lower x y ≡ true
          head_lower (with_later (and l ls) more) = l

      by_rest : (ys : List Entry) → ascending (entries rs) ≡ back v.xs ys → at ≡ position_of (first ys) → Next v.xs at
      by_rest [] q n =
          absurd (omega (arith, ap length q, length_back v.xs [], length_ascending (entries rs), length_entries rs, v.many))
      by_rest (y ∷ ys) q n =
          record {
            entry = y;
            there_is = ascending_in (entries rs) y (subst (λ (l : List Entry). y ∈ l) (sym q) (back_right v.xs (y ∷ ys) here));
            place = sym n;
            higher = after v.xs ys y q;
          }

-- the code tests it by the blocks at the two positions
module _ (s : Bytes) (r : Readable s) where
  pub record-of-entry : (e : Entry) → e ∈ entries (records_of s) → record_at s e.position ≡ e.bytes
  record-of-entry e m = record-at s e.position _ (every_in (entries (records_of s)) e (entries_stand s (records_of s) r.walked) m)

  pub block_of_entry : (e : Entry) → e ∈ entries (records_of s) → block_at s e.position ≡ e.block
  block_of_entry e m = block_at_lem s e.position _ (every_in (entries (records_of s)) e (entries_stand s (records_of s) r.walked) m)

  pub follows_above : (xs : List Entry) (last at : ℕ) (e : Entry) → Every (λ x. x ∈ entries (records_of s)) xs → last ≡ position_of (first xs) → e ∈ entries
      (records_of s) → e.position ≡ at
      → follows s last at ≡ above xs e
  unfolding follows above position_of first
  follows_above [] last at e none_of q m p = rw q
  follows_above (x ∷ xs) last at e (and k ks) q m p =
      let from : 16 ≤ x.position = (every_in (entries (records_of s)) x (entries_within (records_of s)) k).from in
      rw (ne_eqb last 0 (λ (z : last ≡ 0). omega arith), q, ← p, block_of_entry x k, block_of_entry e m)

  pub latest_entry : readable s ≡ true → (xs : List Entry) (last : ℕ) → Every (λ x. x ∈ entries (records_of s)) xs → last ≡ position_of (first xs)
      → none_or_entry
      s last ≡ true
  unfolding none_or_entry position_of first
  latest_entry h [] last none_of q = rw q
  latest_entry h (x ∷ xs) last (and k ks) q = or_right (eqb last 0) (is_entry s last) (rw q (is_entry_lem s x h k))

-- the order of two references decides
pub follows_by : (s : Bytes) (last at : ℕ) (x y : BlockReference) (t : Bool) → (last ≡ 0 → ⊥) → x ≡ (block_at s last).reference → y ≡ (block_at s at).reference
    →
    reference_before x y ≡ t
    → t ≡ follows s last at
unfolding follows
follows_by s last at x y t f p q h = rw (ne_eqb last 0 f, ← p, ← q) (sym h)

-- all were passed: the chain is right where it is at its end
module _ (s : Bytes) (k at last : ℕ) (order : List ℕ) (v : Visiting s (records_of s) k at last order) (all : k ≡ length (records_of s)) where
  visiting_ended : at ≡ 0 → Ended s (records_of s) v.xs
  visiting_ended z = ended s (records_of s) v.xs (rw z at v.linked) v.stored v.falls (v.many ∙ all ∙ sym (length_entries (records_of s)))

  pub visiting_end : eqb at 0 ≡ chained s
  unfolding position_of first
  visiting_end = same_test (eqb at 0) (chained s) (λ h. chained_is s (visiting_ended (eqb-true at 0 h)).chain) (λ h. eq-eqb at 0 (done (is_chained s h)))
    where
      done : Chained s (entries (records_of s)) → at ≡ 0
      done c = by_rest t.rest t.sorted t.next
        where
          t : ToCome s (records_of s) v.xs at
          t = comes s (records_of s) c v.xs at v.linked v.stored

          by_rest : (ys : List Entry) → ascending (entries (records_of s)) ≡ back v.xs ys → at ≡ position_of (first ys) → at ≡ 0
          by_rest [] q n = n
          by_rest (y ∷ ys) q n =
              absurd (omega (arith, ap length q, length_back v.xs (y ∷ ys), length_ascending (entries (records_of s)), length_entries (records_of s), v.many))

  pub visiting_kept : at ≡ 0 → take k order ≡ sorted_positions (records_of s)
  unfolding sorted_positions
  visiting_kept z = v.kept ∙ ap (map place_of) (sym (visiting_ended z).sorted)

-- the same, as the code tests it: its positions are among those of the entries
module _ (s : Bytes) (h : readable s ≡ true) (places : List ℕ) (q : places ≡ positions (records_of s)) where
  pub place_entry : (at : ℕ) → is_in at places ≡ true → is_entry s at ≡ true
  unfolding is_entry
  place_entry at m = rw (h, ← q) m

  many_places : length places ≡ length (records_of s)
  many_places = ap length q ∙ length_positions (records_of s)

  module _ (k at last : ℕ) (order : List ℕ) (v : Visiting s (records_of s) k at last order) where
    pub visiting_outside : k < length places → is_in at places ≡ false → chained s ≡ false
    visiting_outside l m = fails (chained s) λ t.
        let n : Next s (records_of s) v.xs at = visiting_next s (records_of s) k at last order v (is_chained s t) (omega (arith, many_places)) in
        not_both (subst (λ (x : List ℕ). is_in at x ≡ true) (sym q) (subst (λ (x : ℕ). is_in x (positions (records_of s)) ≡ true) n.place
        (at_stands (records_of s) n.entry n.there_is))) m

    pub visiting_falls : k < length places → follows s last at ≡ false → chained s ≡ false
    visiting_falls l f = fails (chained s) λ t.
        let n : Next s (records_of s) v.xs at = visiting_next s (records_of s) k at last order v (is_chained s t) (omega (arith, many_places)) in
        not_both (follows_above s (is_readable s h) v.xs last at n.entry v.stored v.latest n.there_is n.place ∙ n.higher) f

    pub visiting_on : (next : ℕ) → k < length order → is_in at places ≡ true → follows s last at ≡ true → next ≡ le_at 4 s at
        → Visiting s (records_of s) (k + 1)
        next at (set order k at)
    visiting_on next l m f e =
        let x : EntryAt s at = entry_at s at (place_entry at m) in
        subst (λ (n : ℕ). Visiting s (records_of s) (k + 1) n at (set order k at)) (sym e)
        (visiting_step s (records_of s) k at last order x.entry v l x.stored x.place
        (sym (follows_above s x.reads v.xs last at x.entry v.stored v.latest x.stored x.place) ∙ f))

    pub visiting_latest : none_or_entry s last ≡ true
    visiting_latest = latest_entry s (is_readable s h) h v.xs last v.stored v.latest

    pub visiting_done : k ≡ length places → (eqb at 0 ≡ chained s) × (eqb at 0 ≡ true → take (length places) order ≡ sorted_positions (records_of s))
    visiting_done l = (
      visiting_end s k at last order v (l ∙ many_places),
      λ z. ap (λ (n : ℕ). take n order) (sym l) ∙ visiting_kept s k at last order v (l ∙ many_places)
          (eqb-true at 0 z),
    )
