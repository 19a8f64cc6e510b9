-- An item against the store: the entry that it is of, or none, and the walk after it. Assumes nothing.
use mathlib.Core.Path.{◌≡◌, refl, sym, ◌∙◌}
use mathlib.Core.Logic.{◌⊎◌, inl, inr}
use mathlib.Core.Bool.{Bool, true, false}
use mathlib.Core.List.{List, [], ◌∷◌, append-nil}
use mathlib.Core.Option.{none}
use Prim.Native.Nat.{ℕ, ◌+◌, ◌≤◌, ◌<◌}
use native.Mathlib.Decide.{dec_lt}
use native.Mathlib.Omega.{arith}
use lib.Dec.{eqb}
use lib.ListN.{length, get_or}
use borrow.Author.Tests.{eqb-true, eq-eqb, ne_eqb}
use Rattle.base.specs.Lists.{pick, find, holds, ◌∈◌, here, there}
use Rattle.base.specs.Le.{Bytes}
use Rattle.base.proofs.Tests.{fails, not_both}
use Rattle.base.proofs.Places.{every_place, places_every, pairs_places}
use Rattle.base.proofs.Lists.{find_passes, find_in, every_in, every_all, all_every}
use Rattle.base.proofs.Members.{find_some}
use Rattle.record_spec.specs.Record.{block_in}
use Rattle.record_cursor.specs.Cursor.{cursor_at}
use Rattle.record_cursor.specs.declared.StatementCursor.{StatementCursor}
use Rattle.store_spec.specs.Layout.{Entry, entries, used_by}
use Rattle.store_spec.specs.Store.{records_of}
use Rattle.store_spec.specs.Entry.{readable, is_entry, record_at, block_at}
use Rattle.store_spec.proofs.Store.{entries_below, entries_within}
use Rattle.store_spec.proofs.Loops.{EntryAt, entry_at, is_entry_lem, entry_room, block_at_lem}
use Rattle.store_spec.proofs.Visit.{one_position}
use Rattle.pending_spec.specs.Items.{Item, no_item, item_before}
use Rattle.pending_spec.specs.Table.{items_of, item_suits, item_stored, table_stored}
use Rattle.pending_spec.proofs.Items.{Ordered, before_facts}
use Rattle.pending_question.specs.Step.{NotPast, OnEntry, EntryFrom, Ahead, WalkedTo}
use Rattle.pending_question.specs.declared.Walk.{Walk}
use Rattle.pending_question.proofs.Entries.{stands_next}
use Rattle.pending_question.proofs.Offsets.{placed_first, placed_later}

module _ {A : Type 0} (p : A → Bool) where
  find_none : (xs : List A) → ((x : A) → x ∈ xs → p x ≡ false) → find p xs ≡ none
  unfolding find
  find_none [] f = refl
  find_none (x ∷ xs) f = rw (f x here) (find_none xs (λ y m. f y (there m)))

module _ (s : Bytes) (x : Item) where
  at_position : Entry → Bool
  at_position e = eqb e.position x.position

  -- no entry stands at the item's position
  no_entry : ((e : Entry) → e ∈ entries (records_of s) → e.position ≡ x.position → ⊥) → item_stored (entries (records_of s)) x ≡ false
  unfolding item_stored holds at_position
  no_entry f = rw (find_none at_position (entries (records_of s)) (λ e m. ne_eqb e.position x.position (f e m)))

  -- the walk came to another position than the item's
  pub not_there : (at : ℕ) → EntryFrom s x.position at → (at ≡ x.position → ⊥) → item_stored (entries (records_of s)) x ≡ false
  not_there at f h = no_entry λ e m q. by_reached e m q f.reached
    where
      by_reached : (e : Entry) → e ∈ entries (records_of s) → e.position ≡ x.position → (at ≡ used_by (records_of s)) ⊎ (x.position ≤ at) → ⊥
      by_reached e m q (inl u) = let k : e.position < at = omega (arith, every_in (entries (records_of s)) e (entries_below (records_of s)) m) in omega
          (arith, f.passed e m k)
      by_reached e m q (inr l) = below (dec_lt x.position at)
        where
          below : Dec (x.position < at) → ⊥
          below (yes k) = omega (arith, f.passed e m (omega arith))
          below (no k) = h (omega arith)

  -- the walk came to the end of the entries
  pub not_past : (at : ℕ) → at ≡ x.position → at ≡ used_by (records_of s) → item_stored (entries (records_of s)) x ≡ false
  not_past at p u = no_entry λ e m q. omega (arith, every_in (entries (records_of s)) e (entries_below (records_of s)) m)

  -- the walk came to the item's entry
  pub is_there : is_entry s x.position ≡ true → item_stored (entries (records_of s)) x ≡ item_suits x (block_at s x.position)
  unfolding item_stored item_suits holds at_position
  is_there h =
      let k : EntryAt s x.position = entry_at s x.position h in
      let f = find_some at_position _ k.stored (eq-eqb k.entry.position x.position k.place) in
      let d : f.0 ≡ k.entry = one_position (records_of s) f.0 k.entry (find_in at_position _ f.0 f.1) k.stored
      (eqb-true _ _ (find_passes at_position (entries (records_of s)) f.0 f.1) ∙ sym k.place) in
      let b : block_at s x.position ≡ k.entry.block = block_at_lem s x.position (record { bytes = k.entry.bytes; block = k.entry.block }) k.stands in
      rw (f.1, d, b)

  -- the place of the walk, or the first of the item's block
  pub place_there : (w : Walk) (at : ℕ) (c : StatementCursor) → Ahead s w x → is_entry s x.position ≡ true → at ≡ x.position
      → c ≡ pick (eqb at w.last) w.cursor (cursor_at (record_at s x.position) 0) → NotPast (record_at s x.position) x.start c
  place_there w at c a h p e = go (eqb at w.last) refl e
    where
      r : Bytes
      r = record_at s x.position

      go : (t : Bool) → eqb at w.last ≡ t → c ≡ pick t w.cursor (cursor_at r 0) → NotPast r x.start c
      go true q z = rw z (a.placed h (sym (eqb-true at w.last q) ∙ p))
      go false q z = placed_first r x.start c z

  -- the same, of the record as it is lent
  module _ (at : ℕ) (v : Bytes) (h : is_entry s at ≡ true) (p : at ≡ x.position) (e : v ≡ record_at s at) where
    same_record : v ≡ record_at s x.position
    same_record = rw (e, p)

    same_block : block_in v ≡ block_at s x.position
    unfolding block_at
    same_block = rw (e, p)

    entry_here : is_entry s x.position ≡ true
    entry_here = rw p at h

    pub part_place : (w : Walk) (c : StatementCursor) → Ahead s w x → c ≡ pick (eqb at w.last) w.cursor (cursor_at v 0) → NotPast v x.start c
    part_place w c a q = rw same_record (place_there w at c a entry_here p (rw same_record at q))

    pub part_stored : item_stored (entries (records_of s)) x ≡ item_suits x (block_in v)
    part_stored = rw same_block (is_there entry_here)

    pub part_walked : (c : StatementCursor) → NotPast v x.end c → WalkedTo s x (record { at = at; last = at; cursor = c })
    part_walked c q = record { stands = h; at = p; last = p; placed = rw same_record at q }

  -- the items after this one are ahead of the walk
  pub walked_ahead : (w : Walk) → WalkedTo s x w → (y : Item) → item_before x y ≡ true → Ahead s w y
  walked_ahead w r y b = go (before_facts x y b)
    where
      go : (x.position < y.position) ⊎ ((x.position ≡ y.position) × (x.end ≤ y.start)) → Ahead s w y
      go (inl l) =
          record { passed = λ e m (k : e.position < w.at). omega (arith, r.at); placed = λ h (q : w.last ≡ y.position). absurd (omega (arith, r.last)) }
      go (inr l) =
          record {
            passed = λ e m (k : e.position < w.at). omega (arith, r.at, l.0);
            placed = λ h q. placed_later _ x.end y.start w.cursor l.1
                (rw l.0 at r.placed);
          }

-- a walk that begins is ahead of nothing
pub begun_ahead : (s : Bytes) (w : Walk) (x : Item) → w.at ≡ 16 → w.last ≡ 0 → Ahead s w x
begun_ahead s w x a l =
    record {
      passed = λ e m (k : e.position < w.at). absurd (omega (arith, (every_in (entries (records_of s)) e (entries_within (records_of s)) m).from));
      placed = λ h (q : w.last ≡ x.position). absurd (omega (arith, (entry_room s x.position h).from));
    }

-- it stands at the first entry, or there is none
pub begun_on : (s : Bytes) → readable s ≡ true → OnEntry s 16
unfolding used_by
begun_on s r = go (rw (append-nil (records_of s)) at (stands_next (records_of s) []))
  where
    go : ((d : Entry) × (d ∈ entries (records_of s)) × (d.position ≡ 16)) ⊎ (16 ≡ used_by (records_of s)) → OnEntry s 16
    go (inl d) = inl (rw (← d.2) (is_entry_lem s d.0 r d.1))
    go (inr u) = inr u

-- ---- all items

-- the first k items are of stored blocks, and the walk has not passed the others
pub record Checking (s : Bytes) (xs : List Item) (w : Walk) (k : ℕ) : Type 0 where
  pub most : k ≤ length xs
  pub on : OnEntry s w.at
  pub stored : (j : ℕ) → j < k → item_stored (entries (records_of s)) (get_or xs j no_item) ≡ true
  pub ahead : (j : ℕ) → k ≤ j → j < length xs → Ahead s w (get_or xs j no_item)

module _ (s : Bytes) (xs : List Item) where
  pub checking_start : (w : Walk) → readable s ≡ true → w.at ≡ 16 → w.last ≡ 0 → Checking s xs w 0
  checking_start w r a l =
      record {
        most = omega arith;
        on = rw a (begun_on s r);
        stored = λ j (h : j < 0). absurd (omega arith);
        ahead = λ j h k. begun_ahead s w
            (get_or xs j no_item) a l;
      }

  pub checking_on : (w v : Walk) (k : ℕ) (x : Item) → Ordered xs → Checking s xs w k → k < length xs → x ≡ get_or xs k no_item
      → item_stored (entries (records_of s)) x ≡ true → WalkedTo s x v → Checking s xs v (k + 1)
  checking_on w v k x o h l e t r =
      record {
        most = omega arith;
        on = inl r.stands;
        stored = λ j u. so_far j u (dec_lt j k);
        ahead = λ j (u : k + 1 ≤ j) m. walked_ahead s x v r (get_or xs j no_item) (rw e (pairs_places no_item xs k j o (omega arith) m));
      }
    where
      so_far : (j : ℕ) → j < k + 1 → Dec (j < k) → item_stored (entries (records_of s)) (get_or xs j no_item) ≡ true
      so_far j u (yes q) = h.stored j q
      so_far j u (no q) = let z : j ≡ k = omega arith in rw (z, ← e) t

module _ (s : Bytes) (t : List ℕ) where
  pub checking_no : (k : ℕ) (x : Item) → k < length (items_of t) → x ≡ get_or (items_of t) k no_item → item_stored (entries (records_of s)) x ≡ false
      → table_stored (entries (records_of s)) t ≡ false
  unfolding table_stored
  checking_no k x l e f =
      fails _ (λ a. not_both (every_place no_item (items_of t) k (all_every (item_stored (entries (records_of s))) (items_of t) a) l) (rw (← e) f))

  pub checking_all : (w : Walk) (k : ℕ) → Checking s (items_of t) w k → length (items_of t) ≤ k → table_stored (entries (records_of s)) t ≡ true
  unfolding table_stored
  checking_all w k h l = every_all (item_stored (entries (records_of s))) (items_of t)
      (places_every no_item (items_of t) (λ j (u : j < length (items_of t)). h.stored j (omega arith)))
