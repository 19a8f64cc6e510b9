-- The end of a stretch, from stop to stop. Assumes nothing.
use mathlib.Core.Path.{◌≡◌, refl, sym, ap, subst, ◌∙◌}
use mathlib.Core.Bool.{Bool, true, false, and-false}
use mathlib.Core.List.{List}
use mathlib.Core.Option.{some}
use Prim.Native.Nat.{ℕ, ◌+◌, ◌≤◌, ◌<◌}
use native.Mathlib.Omega.{arith}
use native.Mathlib.Decide.{dec_le}
use lib.ListN.{length, get_or}
use Rattle.base.specs.Lists.{pick, all_of, ◌∈◌}
use Rattle.base.specs.Le.{Bytes}
use Rattle.base.proofs.Tests.{not_both, and_both, fails, flag_same}
use Rattle.base.proofs.Members.{all_in, in_all}
use Rattle.committee.specs.Committee.{Committee}
use Rattle.record_spec.specs.Reference.{BlockReference, TransactionLocator, locator, locator_before, reference_before}
use Rattle.record_spec.specs.Block.{Block}
use Rattle.record_spec.proofs.References.{Precedes, by_block, by_offset, precedes, is_before, reference_irrefl}
use Rattle.final_spec.specs.NextFinal.{is_after}
use Rattle.final_spec.specs.Finality.{blocks_of}
use Rattle.final_readings_spec.specs.Readings.{Reading, certifies_in}
use Rattle.final_readings_spec.specs.Answers.{as_reading}
use Rattle.list_readings_spec.specs.Answers.{is_ordinary}
use Rattle.list_stretches_spec.specs.Stretches.{Listing, agree, certified_alike, goes_on, stretch_end}
use Rattle.list_stretches_spec.specs.Claims.{Lawful}
use Rattle.list_stretches_spec.proofs.Ends.{agrees, one_end, end_meant, agree_same}
use Rattle.list_readings_spec.specs.Lists.{listing}
use Rattle.list_readings_spec.proofs.Least.{lists_lawful}
use Rattle.final_block_votes.specs.Walk.{SortedStore, block_at_place}
use Rattle.final_block_votes.proofs.Sorting.{place_stored}
use Rattle.list_walk.specs.Walk.{Flags, SameWords}
use Rattle.list_reach.specs.Reach.{From}
use Rattle.list_lanes.specs.Lanes.{Lanes, lane_ranges}
use Rattle.list_lanes.specs.declared.Wanted.{Wanted}
use Rattle.list_sweep.specs.Sweep.{MarksAt}
use Rattle.list_marked.specs.Marked.{list_for, ShownAll}
use Rattle.final_certifying.specs.declared.Certifiers.{Certifiers}
use Rattle.list_marked.proofs.Lanes.{stored_at}
use Rattle.list_shown.specs.Shown.{AllAlike}
use Rattle.std.specs.Prelude.{Some}

-- ---- the words say whether the certifying blocks are the same

module _ (ordinary : Bool) (reading : Reading) (c : Committee) (s : Bytes) (order : List ℕ) (o : SortedStore s order) (l m : TransactionLocator)
    (a b : List ℕ) (f : Flags reading c s order l a) (g : Flags reading c s order m b) where
  same_there : (k : ℕ) → k < length order → get_or a k 0 ≡ get_or b k 0 → certifies_in reading c (blocks_of s) m (block_at_place s order k)
      ≡ certifies_in reading c
      (blocks_of s) l (block_at_place s order k)
  unfolding Flags
  same_there k h e = sym (flag_same _ _ (sym (f k h) ∙ e ∙ g k h))

  pub words_same : SameWords a b (length order) true → certified_alike (blocks_of s) (listing ordinary reading c (blocks_of s)) l m ≡ true
  unfolding SameWords certified_alike listing
  words_same h = in_all (λ d. agree (certifies_in reading c (blocks_of s) l d) (certifies_in reading c (blocks_of s) m d)) (blocks_of s) each
    where
      each : (d : Block) → d ∈ blocks_of s → agree (certifies_in reading c (blocks_of s) l d) (certifies_in reading c (blocks_of s) m d) ≡ true
      each d i =
          let y = stored_at s order o d i in
          agree_same _ _ (subst (λ (z : Block). certifies_in reading c (blocks_of s) m z ≡ certifies_in reading c (blocks_of s) l z) y.1.1
          (same_there y.0 y.1.0 (h y.0 y.1.0)))

  pub words_other : SameWords a b (length order) false → certified_alike (blocks_of s) (listing ordinary reading c (blocks_of s)) l m ≡ false
  unfolding SameWords Flags certified_alike listing
  words_other h =
      let k : ℕ = h.0 in
      fails (all_of (λ d. agree (certifies_in reading c (blocks_of s) l d) (certifies_in reading c (blocks_of s) m d)) (blocks_of s)) λ t.
      let e = agrees _ _ (all_in (λ d. agree (certifies_in reading c (blocks_of s) l d) (certifies_in reading c (blocks_of s) m d)) (blocks_of s) t
      (place_stored s order o k h.1.0)) in
      h.1.1 (f k h.1.0 ∙ ap {B = ℕ} (λ (z : Bool). pick z 1 0) (sym e) ∙ sym (g k h.1.0))

-- ---- while it goes on

module _ (w : Wanted) (c : Committee) (s : Bytes) (order : List ℕ) (l : TransactionLocator) where
  abbrev bs : List Block
  bs = blocks_of s

  abbrev list : Listing
  list = list_for w c bs

  abbrev lanes : Lanes
  lanes = lane_ranges w s order

  lawful : Lawful bs list
  lawful = lists_lawful (is_ordinary w.list) (as_reading w.reading) c bs

  -- the stretch goes on at every locator for which the marks are right
  abbrev pub Alike : List ℕ → Type 0
  Alike marks = (m : TransactionLocator) → MarksAt lanes marks m → (list.shows m ≡ true) × (certified_alike bs list l m ≡ true)

  -- and up to where the sweep stands
  pub record Onto (h : TransactionLocator) : Type 0 where
    pub block : h.block ≡ l.block
    pub from : l.offset ≤ h.offset
    pub on : (x : ℕ) → l.offset ≤ x → x ≤ h.offset → goes_on bs list l x ≡ true

  goes_there : (marks : List ℕ) → Alike marks → (x : ℕ) → MarksAt lanes marks (locator l.block x) → goes_on bs list l x ≡ true
  unfolding goes_on
  goes_there marks a x r = let y = a (locator l.block x) r in and_both _ _ y.0 y.1

  pub onto_start : (marks : List ℕ) → Alike marks → MarksAt lanes marks l → Onto l
  unfolding locator
  onto_start marks a r = record {
    block = refl;
    from = omega arith;
    on = λ x h k. let z : x ≡ l.offset = omega arith in rw z
        (goes_there marks a l.offset r);
  }

  module _ (marks : List ℕ) (a : Alike marks) (h : TransactionLocator) (u : Onto h) where
    -- a later offset of the block is not before
    later_offset : (x : ℕ) → h.offset ≤ x → From (some h) (locator l.block x)
    unfolding From locator
    later_offset x k = fails (locator_before (locator l.block x) h) (λ t. go (precedes (locator l.block x) h t))
      where
        go : Precedes (locator l.block x) h → ⊥
        go (by_block b) = reference_irrefl l.block (subst (λ (r : BlockReference). reference_before l.block r ≡ true) u.block b)
        go (by_offset e o) = omega arith

    -- it ends somewhere
    never : ((x : ℕ) → h.offset ≤ x → MarksAt lanes marks (locator l.block x)) → ⊥
    never f =
        let far : ℕ = lawful.bound l.block + h.offset in
        not_both (a (locator l.block far) (f far (omega arith))).0 (lawful.bounded l.block far (omega arith))

    pub never_ends : ((m : TransactionLocator) → From (some h) m → MarksAt lanes marks m) → ⊥
    never_ends f = never (λ x k. f (locator l.block x) (later_offset x k))

    module _ (q : TransactionLocator) (ahead : is_after (some h) q ≡ true)
        (quiet : (m : TransactionLocator) → From (some h) m → locator_before m q ≡ true → MarksAt lanes marks m) where
      pub record Next : Type 0 where
        pub block : q.block ≡ l.block
        pub longer : h.offset < q.offset
        pub on : (x : ℕ) → l.offset ≤ x → x < q.offset → goes_on bs list l x ≡ true

      pub next_stop : Next
      unfolding is_after locator
      next_stop = go (precedes h q ahead)
        where
          go : Precedes h q → Next
          go (by_block b) = absurd (never (λ x k. quiet (locator l.block x) (later_offset x k)
              (is_before (locator l.block x) q (by_block (subst (λ (r : BlockReference). reference_before r q.block ≡ true) u.block b)))))
          go (by_offset e o) = record { block = sym e ∙ u.block; longer = o; on = λ x i k. up_to x i k (dec_le x h.offset) }
            where
              up_to : (x : ℕ) → l.offset ≤ x → x < q.offset → Dec (x ≤ h.offset) → goes_on bs list l x ≡ true
              up_to x i k (yes j) = u.on x i j
              up_to x i k (no j) = goes_there marks a x (quiet (locator l.block x) (later_offset x (omega arith))
                  (is_before (locator l.block x) q (by_offset (sym u.block ∙ e) k)))

      -- it does not go on there: the end
      ended : list.shows l ≡ true → goes_on bs list l q.offset ≡ false → q ≡ locator l.block (stretch_end bs list l)
      unfolding locator
      ended t z =
          let n = next_stop in
          let e = one_end bs list l q.offset (stretch_end bs list l) (record { longer = omega (arith, n.longer, u.from); goes = n.on; stops = z })
          (end_meant bs list l lawful t).ends in
          let f = n.block in
          λ i. record { block = f i; offset = e i }

      at_q : q ≡ locator l.block q.offset
      unfolding locator
      at_q = let f = next_stop.block in λ i. record { block = f i; offset = q.offset }

      pub ends_hidden : list.shows l ≡ true → list.shows q ≡ false → q ≡ locator l.block (stretch_end bs list l)
      unfolding goes_on
      ends_hidden t z = ended t (rw (subst (λ (m : TransactionLocator). list.shows m ≡ false) at_q z))

      pub ends_other : list.shows l ≡ true → certified_alike bs list l q ≡ false → q ≡ locator l.block (stretch_end bs list l)
      unfolding goes_on
      ends_other t z = ended t (rw (subst (λ (m : TransactionLocator). certified_alike bs list l m ≡ false) at_q z)
          (and-false (list.shows (locator l.block q.offset))))

      -- it goes on there
      pub goes_on_lem : (marks' : List ℕ) → Alike marks' → MarksAt lanes marks' q → Onto q
      goes_on_lem marks' b r =
          let n = next_stop in
          record { block = n.block; from = omega (arith, n.longer, u.from); on = λ x i k. up_to x i k (dec_le q.offset x) }
        where
          up_to : (x : ℕ) → l.offset ≤ x → x ≤ q.offset → Dec (q.offset ≤ x) → goes_on bs list l x ≡ true
          up_to x i k (yes j) = let z : x ≡ q.offset = omega arith in rw z (goes_there marks' b q.offset (subst (MarksAt lanes marks') at_q r))
          up_to x i k (no j) = next_stop.on x i (omega arith)

-- the same words
pub same_self : (a : List ℕ) (n : ℕ) → SameWords a a n true
unfolding SameWords
same_self a n k h = refl

module _ (w : Wanted) (c : Committee) (s : Bytes) (order : List ℕ) (o : SortedStore s order) (l : TransactionLocator) (flags : List ℕ)
    (own : Flags (as_reading w.reading) c s order l flags) where
  pub alike_start : (marks : List ℕ) → AllAlike w c s order marks flags → Alike w c s order l marks
  unfolding AllAlike
  alike_start marks all m r = let y = all m r in (
    y.0,
    words_same (is_ordinary w.list) (as_reading w.reading) c s order o l m flags flags own y.1
        (same_self flags (length order)),
  )

  module _ (marks other : List ℕ) (f : Certifiers) (all : ShownAll w c s order marks other (Some f)) where
    pub alike_next : SameWords flags other (length order) true → Alike w c s order l marks
    unfolding ShownAll
    alike_next same m r = let y = all m r in (y.0, words_same (is_ordinary w.list) (as_reading w.reading) c s order o l m flags other own y.1.1 same)

    pub other_next : SameWords flags other (length order) false → (q : TransactionLocator) → MarksAt (lane_ranges w s order) marks q → certified_alike
        (blocks_of s) (list_for w c (blocks_of s)) l q ≡ false
    unfolding ShownAll
    other_next different q r = words_other (is_ordinary w.list) (as_reading w.reading) c s order o l q flags other own (all q r).1.1 different
