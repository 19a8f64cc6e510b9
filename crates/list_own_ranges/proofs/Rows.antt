-- Ranges as rows, statement by statement, and what sorting and joining leave of them. Assumes nothing.
use mathlib.Core.Path.{◌≡◌, refl, sym, ap, subst, ◌∙◌}
use mathlib.Core.Bool.{Bool, true, false, ◌||◌, or-false, or_assoc}
use mathlib.Core.List.Permᴰ
use mathlib.Core.List.{List, [], ◌∷◌, ◌++◌, map, append-nil}
use mathlib.Core.Option.{Option}
use Prim.Native.Nat.{ℕ, ◌+◌, ◌-◌, ◌*◌, ◌≤◌, ◌<◌}
use native.Mathlib.Omega.{arith}
use lib.ListN.{length, drop}
use lib.Seq.{sets, length-sets, drop-drop}
use Rattle.base.specs.Lists.{pick, any_of, keep, count_from}
use Rattle.base.specs.Le.{Bytes}
use Rattle.base.proofs.Lists.{Every, none_of, and, every_append, any_append}
use Rattle.record_spec.specs.Reference.{TransactionLocator, TransactionLocatorRange, new_range, covers}
use Rattle.record_spec.specs.Block.{Block}
use Rattle.record_reference_bytes.specs.Step.{reference_at}
use Rattle.list_row_sort.specs.Rows.{Row, row_words, rows_from, rows_of, Inside, Sortable, SortedAs}
use Rattle.list_row_sort.proofs.Permutations.{permuted_every}
use Rattle.list_row_sort.proofs.Tables.{rows_put, every_row}
use Rattle.list_range_rows.specs.Ranges.{new_row, row_range, row_covers, any_covers, Proper, Joinable, RowsJoined}
use Rattle.list_range_rows.proofs.Ranges.{covers_append, covers_permuted}
use Rattle.list_range_rows.proofs.Tables.{put_kept}
use Rattle.list_kind_ranges.specs.Kinds.{kind_ranges_at, kind_ranges, any_span}
use Rattle.list_reach.specs.Reach.{Within, in_reach}
use Rattle.list_own_ranges.specs.Own.{Roomy, OwnRanges}
use Rattle.list_kind_ranges.specs.declared.RangeKind.{RangeKind}
use Rattle.list_kind_ranges.proofs.Sharing.{kind_end}
use Rattle.list_reach.proofs.Reach.{reach_filled, far_covers}
use Rattle.list_kind_ranges.specs.Next.{StandsAt, AllStand}
use Rattle.list_own_ranges.specs.Step.{rows_as, RangePut, Written}

-- ---- one range

module _ (last bound : Option TransactionLocator) (t : List ℕ) (n at : ℕ) where
  pub none_put : RangePut last bound at [] t t n n
  unfolding rows_as keep
  none_put = record { few = omega arith; long = refl; kept = refl; rows = sym (append-nil (rows_of t n)) }

  module _ (q : TransactionLocatorRange) where
    pub far_put : in_reach last bound q ≡ false → RangePut last bound at (q ∷ []) t t n n
    unfolding rows_as keep
    far_put h = record { few = omega arith; long = refl; kept = refl; rows = rw h (sym (append-nil (rows_of t n))) }

    pub range_put : in_reach last bound q ≡ true → 3 * n + 3 ≤ length t → RangePut last bound at (q ∷ []) t
        (sets t (3 * n) (row_words (new_row at q.start q.end))) n (n + 1)
    unfolding rows_as keep
    range_put h room =
        record {
          few = omega arith;
          long = length-sets t (3 * n) (row_words (new_row at q.start q.end));
          kept = put_kept t n (n + 1) (new_row at q.start q.end) (omega arith);
          rows = rw h (rows_put t n (new_row at q.start q.end) room);
        }

-- ---- ranges whose references stand at a position

module _ (last bound : Option TransactionLocator) (s : Bytes) (at : ℕ) where
  rows_proper : (qs : List TransactionLocatorRange) → AllStand s at qs → Every (Proper s) (rows_as last bound at qs)
  unfolding AllStand StandsAt rows_as keep new_row
  rows_proper [] none_of = none_of
  rows_proper (q ∷ qs) (and h hs) = go (in_reach last bound q) refl (rows_proper qs hs)
    where
      go : (t : Bool) → in_reach last bound q ≡ t → Every (Proper s) (rows_as last bound at qs)
          → Every (Proper s) (map (λ x. new_row at x.start x.end) (pick t (q ∷ keep (in_reach last bound) qs) (keep (in_reach last bound) qs)))
      go true e k = and (record { inside = h.0; filled = reach_filled last bound q e }) k
      go false e k = k

  module _ (l : TransactionLocator) (w : Within last bound l) where
    rows_cover : (qs : List TransactionLocatorRange) → AllStand s at qs → any_covers s (rows_as last bound at qs) l ≡ any_span qs l
    unfolding AllStand StandsAt rows_as keep new_row any_covers any_of row_covers row_range new_range
    rows_cover [] none_of = refl
    rows_cover (q ∷ qs) (and h hs) = go (in_reach last bound q) refl (rows_cover qs hs)
      where
        own : covers (new_range (reference_at s at) q.start q.end) l ≡ covers q l
        own = rw h.1

        go : (t : Bool) → in_reach last bound q ≡ t → any_covers s (rows_as last bound at qs) l ≡ any_span qs l
            → any_of (row_covers s l) (map (λ x. new_row at x.start x.end) (pick t (q ∷ keep (in_reach last bound) qs) (keep (in_reach last bound) qs))) ≡
            covers q l || any_span qs l
        go true e k = rw (own, k)
        go false e k = rw (far_covers last bound q l w e) k

-- ---- statement by statement

later_kept : (t u : List ℕ) (i n : ℕ) → i ≤ n → drop (3 * i) u ≡ drop (3 * i) t → drop (3 * n) u ≡ drop (3 * n) t
later_kept t u i n h e =
    let f : 3 * i + 3 * (n - i) ≡ 3 * n = omega arith in
    rw f at (sym (drop-drop (3 * (n - i)) (3 * i) u) ∙ ap (drop (3 * (n - i))) e ∙ drop-drop (3 * (n - i)) (3 * i) t)

module _ (kind : RangeKind) (last bound : Option TransactionLocator) (s : Bytes) (b : Block) (t : List ℕ) where
  pub written_start : Written kind last bound s b t t 0 0
  unfolding rows_of rows_from count_from kind_ranges any_covers any_of
  written_start = record { few = omega arith; long = refl; kept = refl; proper = none_of; covering = λ l w. refl }

  pub written_more : (u v : List ℕ) (m i k n at : ℕ) (qs : List TransactionLocatorRange) → Written kind last bound s b t u m i → i < n → kind_ranges_at kind b i
      ≡ qs ++ kind_ranges_at kind b n
      → AllStand s at qs → RangePut last bound at qs u v m k → Written kind last bound s b t v k n
  written_more u v m i k n at qs w h e a p =
      record {
        few = omega (arith, w.few, p.few);
        long = p.long ∙ w.long;
        kept = later_kept u v (m + 1) n (omega (arith, w.few)) p.kept ∙ later_kept t u i n (omega arith) w.kept;
        proper = subst (λ (xs : List Row). Every (Proper s) xs) (sym p.rows)
            (every_append (rows_of u m) (rows_as last bound at qs) w.proper (rows_proper last bound s at qs a));
        covering = λ l y.
            ap (λ (xs : List Row). any_covers s xs l || any_span (kind_ranges_at kind b n) l) p.rows
            ∙ ap (λ (x : Bool). x || any_span (kind_ranges_at kind b n) l) (covers_append s (rows_of u m) (rows_as last bound at qs) l ∙ ap
            (λ (x : Bool). any_covers s (rows_of u m) l || x) (rows_cover last bound s at l y qs a))
            ∙ or_assoc (any_covers s (rows_of u m) l) (any_span qs l) (any_span (kind_ranges_at kind b n) l)
            ∙ ap (λ (x : Bool). any_covers s (rows_of u m) l || x) (sym (ap (λ (xs : List TransactionLocatorRange). any_span xs l) e ∙ any_append
            (λ q. covers q l) qs (kind_ranges_at kind b n)))
            ∙ w.covering l y;
      }

  -- ---- sorted and joined

  module _ (u : List ℕ) (n : ℕ) (w : Written kind last bound s b t u n (length b.statements)) (room : Roomy b t) where
    pub sortable : (spare : List ℕ) → Roomy b spare → Sortable s u spare n
    unfolding Roomy Inside
    sortable spare h = record {
      room = omega (arith, w.few, w.long, room);
      spared = omega (arith, w.few, h);
      inside = λ i l. (every_row u n w.proper i l
          ).inside;
    }

    module _ (v : List ℕ) (o : SortedAs s n u v) where
      pub joinable : Joinable s n v
      unfolding Roomy
      joinable = record {
        room = omega (arith, w.few, w.long, room, o.long);
        sorted = o.sorted;
        proper = permuted_every (Permᴰ.symm o.permuted)
            w.proper;
      }

      pub own_of : (x : List ℕ) (m : ℕ) → RowsJoined s n v x m → OwnRanges kind last bound s b t x m
      unfolding any_of
      own_of x m j =
          let all = length b.statements in
          record {
            few = omega (arith, j.few, w.few);
            long = j.long ∙ o.long ∙ w.long;
            kept = later_kept v x n all w.few j.kept ∙ later_kept u v n all w.few o.kept ∙ w.kept;
            proper = j.proper;
            apart = j.apart;
            covering = λ l i.
                j.covering l
                ∙ covers_permuted s o.permuted l
                ∙ sym (or-false (any_covers s (rows_of u n) l))
                ∙ ap (λ (x : Bool). any_covers s (rows_of u n) l || x) (sym (none_left l))
                ∙ w.covering l i;
          }
        where
          none_left : (l : TransactionLocator) → any_span (kind_ranges_at kind b (length b.statements)) l ≡ false
          none_left l = ap (λ (xs : List TransactionLocatorRange). any_span xs l) (kind_end kind b (length b.statements) (omega arith))
