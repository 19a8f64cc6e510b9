-- The bound of a window: after the last locator, and where a range of a stored block begins or ends. So windows one after the other come to an end. Assumes
-- nothing.
use mathlib.Core.Path.{◌≡◌, refl, sym, ap₂, subst, ◌∙◌}
use mathlib.Core.Logic.{◌⊎◌, inl, inr}
use mathlib.Core.Bool.{true, false, not}
use mathlib.Core.List.{List, [], ◌∷◌}
use mathlib.Core.Option.{Option, some}
use Prim.Native.Nat.{ℕ, suc, ◌+◌, ◌-◌, ◌≤◌, ◌<◌}
use native.Mathlib.Omega.{arith}
use native.Mathlib.Decide.{ℕ_discrete}
use lib.ListN.{length, get_or}
use borrow.Author.Tests.{not-true}
use Rattle.base.specs.Lists.{◌∈◌}
use Rattle.base.specs.Le.{Bytes}
use Rattle.base.proofs.Tests.{and_left, and_right, and_both}
use Rattle.base.proofs.Members.{in_empty, in_append, any_in, in_any, keep_in}
use Rattle.base.proofs.Lists.{Every, every_in, Pairs}
use Rattle.record_spec.specs.Reference.{BlockReference, TransactionLocator, TransactionLocatorRange, locator, same_reference, reference_before, covers}
use Rattle.record_spec.specs.Reference.{new_range}
use Rattle.record_spec.proofs.References.{Precedes, by_block, by_offset, precedes, reference_same, same_reference_lem, reference_irrefl}
use Rattle.record_spec.proofs.Ranges.{within_yes, within_true}
use Rattle.final_spec.specs.NextFinal.{is_after}
use Rattle.list_order.specs.Row.{is_after_best}
use Rattle.record_reference_bytes.specs.Step.{reference_at}
use Rattle.list_row_sort.specs.Rows.{Row, rows_of, key_of}
use Rattle.list_row_sort.proofs.Permutations.{permuted_in}
use Rattle.list_range_rows.specs.Ranges.{new_row, row_range, row_covers, any_covers, ends_before, Apart, Proper}
use Rattle.list_edge_rows.specs.Edges.{start_edge, end_edge, edges_of, edges_from, place_of}
use Rattle.list_edge_rows.proofs.Edges.{Edge, start_of, end_of, edge_in, start_place, end_place}
use Rattle.list_edge_rows.proofs.Order.{in_pairs}
use Rattle.list_reach.specs.Reach.{Within}
use Rattle.list_kind_ranges.specs.Kinds.{any_span}
use Rattle.list_reach.proofs.Reach.{within_after, within_less}
use Rattle.list_lanes.specs.Lanes.{Lanes}
use Rattle.list_cuts.specs.Cuts.{in_window}
use Rattle.list_window.specs.Window.{Gathered}

-- the locator is where one of some ranges begins, or where it ends
pub record OfRange (qs : List TransactionLocatorRange) (l : TransactionLocator) : Type 0 where
  pub range : TransactionLocatorRange
  pub stands : range ∈ qs
  pub edge : (l ≡ locator range.block range.start) ⊎ (l ≡ locator range.block range.end)

-- ---- ranges and offsets

record Covering (q : TransactionLocatorRange) (r : BlockReference) (o : ℕ) : Type 0 where
  pub block : q.block ≡ r
  pub from : q.start ≤ o
  pub below : o < q.end

covers_of : (q : TransactionLocatorRange) (r : BlockReference) (o : ℕ) → covers q (locator r o) ≡ true → Covering q r o
unfolding covers locator
covers_of q r o h =
    let w = within_true q.start q.end o (and_right (same_reference q.block r) _ h) in
    record { block = reference_same q.block r (and_left _ _ h); from = w.0; below = w.1 }

covers_when : (q : TransactionLocatorRange) (r : BlockReference) (o : ℕ) → Covering q r o → covers q (locator r o) ≡ true
unfolding covers locator
covers_when q r o c = and_both _ _ (same_reference_lem c.block) (within_yes q.start q.end o c.from c.below)

-- rows of one reference that are apart
apart_offsets : (s : Bytes) (p r : Row) → Apart s p r → reference_at s p.at ≡ reference_at s r.at → p.mark < r.offset
unfolding Apart ends_before key_of locator
apart_offsets s p r h e = go (precedes (locator (reference_at s p.at) p.mark) (locator (reference_at s r.at) r.offset) h)
  where
    go : Precedes (locator (reference_at s p.at) p.mark) (locator (reference_at s r.at) r.offset) → p.mark < r.offset
    go (by_block b) = absurd (reference_irrefl (reference_at s r.at) (subst (λ (x : BlockReference). reference_before x (reference_at s r.at) ≡ true) e b))
    go (by_offset b o) = o

module _ (s : Bytes) (rs : List Row) (proper : Every (Proper s) rs) (apart : Pairs (Apart s) rs) (qs : List TransactionLocatorRange)
    (last bound : Option TransactionLocator)
    (same : (l : TransactionLocator) → Within last bound l → any_covers s rs l ≡ any_span qs l) where
  -- a range that covers what a row covers
  record Found (r : BlockReference) (o : ℕ) : Type 0 where
    pub range : TransactionLocatorRange
    pub stands : range ∈ qs
    pub covering : Covering range r o

  found : (p : Row) → p ∈ rs → (o : ℕ) → Within last bound (locator (reference_at s p.at) o) → p.offset ≤ o → o < p.mark → Found (reference_at s p.at) o
  unfolding any_covers row_covers row_range new_range
  found p m o w h k =
      let l = locator (reference_at s p.at) o in
      let c = covers_when (new_range (reference_at s p.at) p.offset p.mark) (reference_at s p.at) o (record { block = refl; from = h; below = k }) in
      let x = any_in (λ q. covers q l) qs (sym (same l w) ∙ in_any (row_covers s l) m c) in
      record { range = x.0; stands = x.1; covering = covers_of x.0 (reference_at s p.at) o x.2 }

  -- what a range covers beside a row is not there
  beside : (p : Row) → p ∈ rs → (q : TransactionLocatorRange) → q ∈ qs → (o : ℕ) → Within last bound (locator (reference_at s p.at) o) → Covering q
      (reference_at s p.at) o → (o + 1 ≡ p.offset) ⊎ (o ≡ p.mark) → ⊥
  unfolding any_covers row_covers row_range new_range
  beside p m q n o w c side = go side x.0 (covers_of (new_range (reference_at s x.0.at) x.0.offset x.0.mark) (reference_at s p.at) o x.2)
      (in_pairs rs apart m x.1)
    where
      l : TransactionLocator
      l = locator (reference_at s p.at) o

      x : (r : Row) × (r ∈ rs) × (row_covers s l r ≡ true)
      x = any_in (row_covers s l) rs (same l w ∙ in_any (λ q. covers q l) n (covers_when q (reference_at s p.at) o c))

      filled : p.offset < p.mark
      filled = (every_in rs p proper m).filled

      go : (o + 1 ≡ p.offset) ⊎ (o ≡ p.mark) → (r : Row) → Covering (new_range (reference_at s r.at) r.offset r.mark) (reference_at s p.at) o →
          (p ≡ r) ⊎ (Apart s p r ⊎ Apart s r p) → ⊥
      go (inl e) r d (inl f) = let g = subst (λ (y : Row). y.offset ≤ o) (sym f) d.from in omega arith
      go (inr e) r d (inl f) = let g = subst (λ (y : Row). o < y.mark) (sym f) d.below in omega arith
      go (inl e) r d (inr (inl f)) = omega (arith, apart_offsets s p r f (sym d.block), d.from, filled)
      go (inr e) r d (inr (inl f)) = omega (arith, apart_offsets s p r f (sym d.block), d.from)
      go (inl e) r d (inr (inr f)) = omega (arith, apart_offsets s r p f d.block, d.below)
      go (inr e) r d (inr (inr f)) = omega (arith, apart_offsets s r p f d.block, d.below, filled)

  -- in the window
  abbrev In : TransactionLocator → Type 0
  In l = (is_after last l ≡ true) × (is_after_best bound l ≡ false)

  at_edge : (l : TransactionLocator) → In l → Within last bound l
  at_edge l i = within_after bound l i.1 last i.0

  before_edge : (r : BlockReference) (o k : ℕ) → o + 1 ≡ k → In (locator r k) → Within last bound (locator r o)
  before_edge r o k e i =
      let j = subst (λ (x : ℕ). In (locator r x)) (sym e) i in
      within_less bound last r o j.1 j.0

  -- a row begins in the window where a range begins, and ends there where one ends
  start_ranged : (p : Row) → p ∈ rs → In (locator (reference_at s p.at) p.offset) → OfRange qs (locator (reference_at s p.at) p.offset)
  start_ranged p m i = go (ℕ_discrete p.offset f.range.start)
    where
      filled : p.offset < p.mark
      filled = (every_in rs p proper m).filled

      f : Found (reference_at s p.at) p.offset
      f = found p m p.offset (at_edge _ i) (omega arith) filled

      go : Dec (p.offset ≡ f.range.start) → OfRange qs (locator (reference_at s p.at) p.offset)
      go (yes e) = record { range = f.range; stands = f.stands; edge = inl (ap₂ locator (sym f.covering.block) e) }
      go (no e) =
          let h : f.range.start < p.offset = omega (arith, f.covering.from, e) in
          absurd (beside p m f.range f.stands (p.offset - 1) (before_edge _ (p.offset - 1) p.offset (omega arith) i)
          (record { block = f.covering.block; from = omega arith; below = omega (arith, f.covering.below) }) (inl (omega arith)))

  end_ranged : (p : Row) → p ∈ rs → In (locator (reference_at s p.at) p.mark) → OfRange qs (locator (reference_at s p.at) p.mark)
  end_ranged p m i = go (ℕ_discrete p.mark f.range.end)
    where
      filled : p.offset < p.mark
      filled = (every_in rs p proper m).filled

      f : Found (reference_at s p.at) (p.mark - 1)
      f = found p m (p.mark - 1) (before_edge _ (p.mark - 1) p.mark (omega (arith, filled)) i) (omega (arith, filled)) (omega (arith, filled))

      go : Dec (p.mark ≡ f.range.end) → OfRange qs (locator (reference_at s p.at) p.mark)
      go (yes e) = record { range = f.range; stands = f.stands; edge = inr (ap₂ locator (sym f.covering.block) e) }
      go (no e) =
          let h : p.mark < f.range.end = omega (arith, f.covering.below, e, filled) in
          absurd (beside p m f.range f.stands p.mark (at_edge _ i)
          (record { block = f.covering.block; from = omega (arith, f.covering.from, filled); below = h }) (inr refl))

  edge_ranged : (k : ℕ) {e : Row} → Edge k rs e → In (key_of s e) → OfRange qs (key_of s e)
  unfolding key_of start_edge end_edge new_row
  edge_ranged k (start_of p m) i = start_ranged p m i
  edge_ranged k (end_of p m) i = end_ranged p m i

-- ---- the edges of several blocks

in_from : (i : ℕ) (rss : List (List Row)) {e : Row} → e ∈ edges_from i rss → (k : ℕ) × ((k < length rss) × (e ∈ edges_of (i + k) (get_or rss k [])))
unfolding edges_from
in_from i [] m = absurd (in_empty m)
in_from i (rs ∷ rss) {e} m = go (in_append (edges_of i rs) m) (λ n. in_from (i + 1) rss n)
  where
    go : (e ∈ edges_of i rs) ⊎ (e ∈ edges_from (i + 1) rss) → (e ∈ edges_from (i + 1) rss → (k : ℕ) ×
        ((k < length rss) × (e ∈ edges_of (i + 1 + k) (get_or rss k []))))
        → (k : ℕ) × ((k < suc (length rss)) × (e ∈ edges_of (i + k) (get_or (rs ∷ rss) k [])))
    go (inl n) f = let z : i + 0 ≡ i = omega arith in (0, (omega arith, rw z n))
    go (inr n) f =
        let x = f n in
        let z : i + suc x.0 ≡ i + 1 + x.0 = omega arith in
        (suc x.0, (omega (arith, x.1.0), rw z x.1.1))

edge_place : (k : ℕ) {rs : List Row} {e : Row} → Edge k rs e → place_of e ≡ k
edge_place k (start_of p m) = start_place k p
edge_place k (end_of p m) = end_place k p

-- what is known of a row, and so of the bound
pub record Ahead (lanes : Lanes) (last : Option TransactionLocator) (l : TransactionLocator) : Type 0 where
  pub later : is_after last l ≡ true
  pub lane : ℕ
  pub below : lane < 3072
  pub ranged : OfRange (lanes lane) l

module _ (lanes : Lanes) (s : Bytes) (last bound : Option TransactionLocator) (t : List ℕ) (n : ℕ) (g : Gathered lanes s last bound t n) where
  pub row_ahead : (e : Row) → e ∈ rows_of t n → Ahead lanes last (key_of s e) × (is_after_best bound (key_of s e) ≡ false)
  unfolding in_window
  row_ahead e i =
      let m = keep_in (in_window s last bound) (edges_from 0 g.all.rss) (permuted_in g.all.held.rows i) in
      let k = in_from 0 g.all.rss m.0 in
      let h : k.0 < 3072 = omega (arith, k.1.0, g.all.many) in
      let own = g.all.right k.0 h in
      let later = and_left (is_after last (key_of s e)) (not (is_after_best bound (key_of s e))) m.1 in
      let short = not-true _ (and_right (is_after last (key_of s e)) (not (is_after_best bound (key_of s e))) m.1) in (
        record {
          later = later;
          lane = k.0;
          below = h;
          ranged = edge_ranged s _ own.proper own.apart _ last bound own.covering (0 + k.0) (edge_in (0 + k.0) _ k.1.1) (later, short);
        },
        short,
      )

  -- its lane
  pub row_lane : (e : Row) → e ∈ rows_of t n → place_of e < 3072
  row_lane e i =
      let m = keep_in (in_window s last bound) (edges_from 0 g.all.rss) (permuted_in g.all.held.rows i) in
      let k = in_from 0 g.all.rss m.0 in
      omega (arith, k.1.0, g.all.many, edge_place (0 + k.0) (edge_in (0 + k.0) (get_or g.all.rss k.0 []) k.1.1))

  pub bound_ahead : (l : TransactionLocator) → bound ≡ some l → Ahead lanes last l
  bound_ahead l e = let x = g.all.held.stands l e in subst (Ahead lanes last) x.1.1 (row_ahead x.0 x.1.0).0
