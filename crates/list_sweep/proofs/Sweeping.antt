-- The marks after an edge was passed, at the next stop and in the next window. Assumes nothing.
use mathlib.Core.Path.{◌≡◌, refl, sym, ap, ap₂, subst, ◌∙◌}
use mathlib.Core.Logic.{◌⊎◌, inl, inr}
use mathlib.Core.Bool.{Bool, true, false, not}
use mathlib.Core.List.{List, [], ◌∷◌, ◌++◌, append-nil, map, flatten}
use mathlib.Core.Option.{Option, none, some, some-injective}
use Prim.Native.Nat.{ℕ, ◌+◌, ◌-◌, ◌/◌, ◌%◌, ◌≤◌, ◌<◌}
use native.Mathlib.Omega.{arith}
use native.Mathlib.Decide.{ℕ_discrete, dec_le}
use lib.Dec.{eqb}
use lib.ListN.{length, get_or, set}
use lib.Seq.{get_or-set_same, get_or-set_other}
use borrow.Author.Tests.{eq-eqb, ne_eqb}
use Rattle.base.specs.Lists.{pick, keep, is_none, count_from, ◌∈◌, here, there}
use Rattle.base.specs.Le.{Bytes}
use Rattle.base.proofs.Tests.{not_both, holds_or_not, fails}
use Rattle.base.proofs.Members.{in_flatten, in_map, in_empty, in_count_from}
use Rattle.base.proofs.Lists.{Every, keep_append}
use Rattle.record_spec.specs.Reference.{TransactionLocator, TransactionLocatorRange, locator, locator_before}
use Rattle.record_spec.proofs.References.{locator_irrefl, locator_trans, not_before_trans}
use Rattle.final_spec.specs.NextFinal.{is_after}
use Rattle.types.specs.Values.{as_maybe}
use Rattle.list_order.specs.Row.{is_after_best}
use Rattle.list_row_sort.specs.Rows.{Row, row_at, rows_from, rows_of, key_of, row_before}
use Rattle.list_row_sort.proofs.Order.{row_irrefl}
use Rattle.list_row_sort.proofs.Tables.{rows_split, rows_back, rows_every, rows_more, row_dropped, row_in, sorted_at}
use Rattle.list_edge_rows.specs.Edges.{begins, place_of, of_place, reached, last_begins}
use Rattle.list_edge_rows.proofs.Together.{keep_keep, keep_all, keep_none, swept_more}
use Rattle.list_reach.specs.Reach.{From}
use Rattle.list_lanes.specs.Lanes.{Lanes}
use Rattle.list_window.specs.Window.{said_at, Gathered}
use Rattle.list_cuts.specs.declared.Window.{Window}
use Rattle.list_window.proofs.Sweeping.{window_says}
use Rattle.list_window.proofs.Ahead.{OfRange, Ahead, row_ahead, bound_ahead, row_lane}
use Rattle.list_sweep.specs.Sweep.{MarksAt, Clear, Swept, Standing, edge_locators}
use Rattle.list_sweep.specs.Step.{Passable, Passed, StopPassed, MovedTo}
use Rattle.list_sweep.specs.declared.Sweep as sweep

-- ---- the order of locators

-- not after one that is before a third
pub le_lt : (h b x : TransactionLocator) → locator_before b h ≡ false → locator_before b x ≡ true → locator_before h x ≡ true
le_lt h b x f t = go (holds_or_not (locator_before h x))
  where
    go : (locator_before h x ≡ true) ⊎ (locator_before h x ≡ false) → locator_before h x ≡ true
    go (inl e) = e
    go (inr e) = absurd (not_both t (not_before_trans x h b e f))

-- before one that is not after a third
pub lt_le : (l q x : TransactionLocator) → locator_before l q ≡ true → locator_before x q ≡ false → locator_before l x ≡ true
lt_le l q x t f = go (holds_or_not (locator_before l x))
  where
    go : (locator_before l x ≡ true) ⊎ (locator_before l x ≡ false) → locator_before l x ≡ true
    go (inl e) = e
    go (inr e) = absurd (not_both t (not_before_trans q x l f e))

after_on : (last : Option TransactionLocator) (q l : TransactionLocator) → is_after last q ≡ true → locator_before l q ≡ false → is_after last l ≡ true
unfolding is_after
after_on none q l h f = refl
after_on (some m) q l h f = lt_le m q l h f

-- what is before a locator up to which a window is whole is so too
short_below : (bound : Option TransactionLocator) (q l : TransactionLocator) → is_after_best bound q ≡ false → locator_before l q ≡ true → is_after_best bound l
    ≡
    false
unfolding is_after_best is_after is_none
short_below none q l h f = refl
short_below (some b) q l h f = fails (locator_before b l) (λ t. not_both (locator_trans b l q t f) h)

-- ---- one edge

pub swept_on : (was : ℕ → Bool) (t marks : List ℕ) (i : ℕ) → Swept was t marks i → length marks ≡ 3072 → place_of (row_at t i) < 3072
    → Swept was t (set marks ((row_at t i).mark / 2) ((row_at t i).mark % 2)) (i + 1)
unfolding Swept of_place begins place_of
swept_on was t marks i w long h k l = go (ℕ_discrete ((row_at t i).mark / 2) k) ∙ sym
    (ap (λ (xs : List Row). last_begins (was k) (keep (of_place k) xs)) (rows_more t i) ∙ swept_more (was k) (of_place k) (rows_of t i) (row_at t i))
  where
    go : Dec ((row_at t i).mark / 2 ≡ k)
        → eqb (get_or (set marks ((row_at t i).mark / 2) ((row_at t i).mark % 2)) k 0) 1 ≡ pick (of_place k (row_at t i)) (begins (row_at t i))
        (last_begins (was k) (keep (of_place k) (rows_of t i)))
    go (yes e) = rw (eq-eqb ((row_at t i).mark / 2) k e) (ap (λ (x : ℕ). eqb x 1)
        (ap (λ (j : ℕ). get_or (set marks ((row_at t i).mark / 2) ((row_at t i).mark % 2)) j 0) (sym e) ∙ get_or-set_same marks ((row_at t i).mark / 2)
        ((row_at t i).mark % 2) 0 (omega (arith, long))))
    go (no e) = rw (ne_eqb ((row_at t i).mark / 2) k e) (ap (λ (x : ℕ). eqb x 1)
        (get_or-set_other marks ((row_at t i).mark / 2) k ((row_at t i).mark % 2) 0 (λ f. e (sym f))) ∙ w k l)

-- one row more that is not after the first
pub low_more : (s : Bytes) (t : List ℕ) (at i : ℕ) → ((j : ℕ) → at ≤ j → j < i → row_before s (row_at t at) (row_at t j) ≡ false) → row_before s (row_at t at)
    (row_at t i) ≡ false
    → (j : ℕ) → at ≤ j → j < i + 1 → row_before s (row_at t at) (row_at t j) ≡ false
low_more s t at i f h j u v = go (ℕ_discrete j i)
  where
    go : Dec (j ≡ i) → row_before s (row_at t at) (row_at t j) ≡ false
    go (yes e) = rw e h
    go (no e) = f j u (omega arith)

-- ---- marks that are right

module _ (lanes : Lanes) (s : Bytes) (last bound : Option TransactionLocator) (t : List ℕ) (n : ℕ) (g : Gathered lanes s last bound t n) where
  -- the rows that the locator reached are the first ones
  front : (at : ℕ) → at ≤ n → (l : TransactionLocator) → ((j : ℕ) → j < at → locator_before l (key_of s (row_at t j)) ≡ false) →
      ((j : ℕ) → at ≤ j → j < n → locator_before l (key_of s (row_at t j)) ≡ true)
      → keep (reached s l) (rows_of t n) ≡ rows_of t at
  unfolding reached
  front at h l low high =
      ap (keep (reached s l)) (rows_split t at n h)
      ∙ keep_append (reached s l) (rows_of t at) (rows_from t at (n - at))
      ∙ ap₂ ◌++◌ (keep_all (reached s l) (rows_of t at) (rows_every t at (λ j k. ap not (low j k)))) (keep_none (reached s l) (rows_from t at (n - at)) later)
      ∙ append-nil (rows_of t at)
    where
      later : Every (λ e. reached s l e ≡ false) (rows_from t at (n - at))
      later =
          subst (λ (xs : List Row). Every (λ e. reached s l e ≡ false) xs) (rows_back t at (n - at))
          (rows_every _ (n - at) (λ j k. rw (row_dropped t at j) (ap not (high (at + j) (omega arith) (omega arith)))))

  pub marks_right : (marks : List ℕ) (at : ℕ) → at ≤ n → Swept (λ k. said_at (lanes k) last) t marks at → (l : TransactionLocator) → is_after last l ≡ true
      → ((j : ℕ) → j < at → locator_before l (key_of s (row_at t j)) ≡ false) → Clear s t n bound at l → MarksAt lanes marks l
  unfolding Swept MarksAt
  marks_right marks at h w l a low c k m =
      w k m
      ∙ ap (last_begins (said_at (lanes k) last)) (sym (keep_keep (reached s l) (of_place k) (rows_of t n) ∙ ap (keep (of_place k)) (front at h l low c.rows)))
      ∙ window_says lanes s bound t n k m l c.short last g a

  -- ---- the next stop

  module _ (at : ℕ) (below : at < n) where
    abbrev q : TransactionLocator
    q = key_of s (row_at t at)

    known : Ahead lanes last q × (is_after_best bound q ≡ false)
    known = row_ahead lanes s last bound t n g (row_at t at) (row_in t n at below)

    -- rows behind are not before it
    behind : (j : ℕ) → at ≤ j → j < n → locator_before (key_of s (row_at t j)) q ≡ false
    unfolding row_before
    behind j h k = go (ℕ_discrete at j)
      where
        go : Dec (at ≡ j) → locator_before (key_of s (row_at t j)) q ≡ false
        go (yes e) = subst (λ (i : ℕ). locator_before (key_of s (row_at t i)) q ≡ false) e (row_irrefl s (row_at t at))
        go (no e) = sorted_at s t n at j g.sorted (omega arith) k

    module _ (marks marks' : List ℕ) (r : ℕ) (p : Passed s t marks marks' n at r) (w : Swept (λ k. said_at (lanes k) last) t marks at) where
      low : (j : ℕ) → j < r → locator_before q (key_of s (row_at t j)) ≡ false
      unfolding row_before
      low j h = go (dec_le at j)
        where
          go : Dec (at ≤ j) → locator_before q (key_of s (row_at t j)) ≡ false
          go (yes k) = p.low j k h
          go (no k) = sorted_at s t n j at g.sorted (omega arith) below

      stop_clear : Clear s t n bound r q
      unfolding row_before
      stop_clear = record { rows = λ j h k. high j h k (ℕ_discrete r j); short = known.1 }
        where
          high : (j : ℕ) → r ≤ j → j < n → Dec (r ≡ j) → locator_before q (key_of s (row_at t j)) ≡ true
          high j h k (yes e) = subst (λ (i : ℕ). locator_before q (key_of s (row_at t i)) ≡ true) e (p.high (omega arith))
          high j h k (no e) = lt_le q (key_of s (row_at t r)) (key_of s (row_at t j)) (p.high (omega arith)) (sorted_at s t n r j g.sorted (omega arith) k)

      pub stop_standing : Standing lanes s t marks' n bound r (some q)
      unfolding From
      stop_standing =
          record {
            last = last;
            gathered = g;
            inside = p.most;
            swept = p.swept (λ k. said_at (lanes k) last) w;
            clear = λ h e. subst (Clear s t n bound r) (some-injective _ _ e) stop_clear;
            right = λ l f c.
                marks_right marks' r p.most (p.swept (λ k. said_at (lanes k) last) w) l (after_on last q l known.0.later f)
                (λ j h. not_before_trans (key_of s (row_at t j)) q l (low j h) f) c;
          }

-- where a range of a lane begins or ends
edge_listed : (lanes : Lanes) (l : TransactionLocator) (k : ℕ) → k < 3072 → OfRange (lanes k) l → l ∈ edge_locators lanes
unfolding edge_locators
edge_listed lanes l k h o = in_flatten (in_flatten (own o.edge) (in_map ends o.stands))
    (in_map (λ j. flatten (map ends (lanes j))) (in_count_from 0 3072 k (omega arith) (omega arith)))
  where
    ends : TransactionLocatorRange → List TransactionLocator
    ends q = locator q.block q.start ∷ locator q.block q.end ∷ []

    own : (l ≡ locator o.range.block o.range.start) ⊎ (l ≡ locator o.range.block o.range.end) → l ∈ ends o.range
    own (inl e) = subst (λ (m : TransactionLocator). m ∈ ends o.range) (sym e) here
    own (inr e) = subst (λ (m : TransactionLocator). m ∈ ends o.range) (sym e) (there here)

module _ (lanes : Lanes) (s : Bytes) (t marks : List ℕ) (w : Window) (at : ℕ) (gone : Option TransactionLocator)
    (st : Standing lanes s t marks w.n (as_maybe w.bound) at gone) where
  pub stop_ready : length marks ≡ 3072 → at < w.n → Passable s t marks w.n at
  stop_ready long h =
      record {
        room = st.gathered.all.held.room;
        inside = st.gathered.all.held.inside;
        lanes = λ i k. row_lane lanes s st.last (as_maybe w.bound) t w.n st.gathered (row_at t i) (row_in t w.n i k);
        long = long;
        below = h;
      }

  -- on to the next stop
  pub stop_moved : at < w.n → (marks' : List ℕ) (r : sweep.Sweep) → StopPassed s t marks marks' w at r → MovedTo lanes s marks t marks' gone r
  unfolding From is_after
  stop_moved h marks' r p =
      record {
        long = p.passed.long;
        stands = rw (p.many, p.bound, p.here) (stop_standing lanes s st.last (as_maybe w.bound) t w.n st.gathered at h marks marks' r.at
            p.passed st.swept);
        ahead = rw p.here (after gone st.clear);
        edge = rw p.here (edge_listed lanes q known'.0.lane known'.0.below known'.0.ranged);
        quiet = rw p.here (λ l f b. st.right l f (record {
          rows = λ j k i. lt_le l q (key_of s (row_at t j)) b (behind lanes s st.last (as_maybe w.bound) t w.n st.gathered at h j k i);
          short = short_below (as_maybe w.bound) q l known'.1 b;
        }));
      }
    where
      q : TransactionLocator
      q = key_of s (row_at t at)

      known' : Ahead lanes st.last q × (is_after_best (as_maybe w.bound) q ≡ false)
      known' = known lanes s st.last (as_maybe w.bound) t w.n st.gathered at h

      after : (x : Option TransactionLocator) → ((y : TransactionLocator) → x ≡ some y → Clear s t w.n (as_maybe w.bound) at y) → is_after x q ≡ true
      after none c = refl
      after (some y) c = (c y refl).rows at (omega arith) h

  -- no row is left, and the window is whole: the marks stay
  pub all_passed : w.n ≤ at → as_maybe w.bound ≡ none → (l : TransactionLocator) → From gone l → MarksAt lanes marks l
  unfolding is_after_best is_none
  all_passed h e l f = st.right l f (record { rows = λ j k i. absurd (omega arith); short = rw e })

  -- ---- the next window

  module _ (b : TransactionLocator) (e : as_maybe w.bound ≡ some b) (h : w.n ≤ at) where
    none_left : (l : TransactionLocator) → locator_before b l ≡ false → Clear s t w.n (as_maybe w.bound) at l
    unfolding is_after_best is_after is_none
    none_left l f = record { rows = λ j k i. absurd (omega arith); short = rw e f }

    at_bound : MarksAt lanes marks b
    unfolding From is_after_best is_after is_none
    at_bound = st.right b (from gone st.clear) (none_left b (fails (locator_before b b) (locator_irrefl b)))
      where
        from : (x : Option TransactionLocator) → ((y : TransactionLocator) → x ≡ some y → Clear s t w.n (as_maybe w.bound) at y) → From x b
        from none c = tt
        from (some y) c = subst (λ (z : Option TransactionLocator). is_after_best z y ≡ false) e (c y refl).short

    module _ (t' : List ℕ) (v : Window) (g : Gathered lanes s (as_maybe w.bound) (as_maybe v.bound) t' v.n) where
      carried : Swept (λ k. said_at (lanes k) (as_maybe w.bound)) t' marks 0
      unfolding Swept MarksAt rows_of rows_from count_from keep last_begins said_at
      carried k m = rw e (at_bound k m)

      later_row : (j : ℕ) → j < v.n → locator_before b (key_of s (row_at t' j)) ≡ true
      unfolding is_after
      later_row j k = subst (λ (x : Option TransactionLocator). is_after x (key_of s (row_at t' j)) ≡ true) e
          (row_ahead lanes s (as_maybe w.bound) (as_maybe v.bound) t' v.n g (row_at t' j) (row_in t' v.n j k)).0.later

      -- a locator that is not after the last bound
      ahead_clear : (y : TransactionLocator) → locator_before b y ≡ false → Clear s t' v.n (as_maybe v.bound) 0 y
      unfolding is_after_best is_after is_none
      ahead_clear y f = record { rows = λ j k i. le_lt y b (key_of s (row_at t' j)) f (later_row j i); short = go (as_maybe v.bound) refl }
        where
          go : (x : Option TransactionLocator) → as_maybe v.bound ≡ x → is_after_best x y ≡ false
          go none q = refl
          go (some d) q =
              let after = subst (λ (x : Option TransactionLocator). is_after x d ≡ true) e
              (bound_ahead lanes s (as_maybe w.bound) (as_maybe v.bound) t' v.n g d q).later in
              fails (locator_before d y) (λ u. locator_irrefl d (locator_trans d y d u (le_lt y b d f after)))

      pub renewed : Standing lanes s t' marks v.n (as_maybe v.bound) 0 gone
      unfolding is_after_best is_after is_none
      renewed =
          record {
            last = as_maybe w.bound;
            gathered = g;
            inside = omega arith;
            swept = carried;
            clear = λ y q. ahead_clear y (subst (λ (x : Option TransactionLocator). is_after_best x y ≡ false) e (st.clear y q).short);
            right = λ l f c. go l f c (holds_or_not (locator_before b l));
          }
        where
          go : (l : TransactionLocator) → From gone l → Clear s t' v.n (as_maybe v.bound) 0 l → (locator_before b l ≡ true) ⊎ (locator_before b l ≡ false)
              → MarksAt lanes marks l
          go l f c (inl x) = marks_right lanes s (as_maybe w.bound) (as_maybe v.bound) t' v.n g marks 0 (omega arith) carried l (rw e x)
              (λ j k. absurd (omega arith)) c
          go l f c (inr x) = st.right l f (none_left l x)

      -- a window without rows is whole
      pub none_whole : v.n ≡ 0 → as_maybe v.bound ≡ none
      unfolding rows_of rows_from count_from
      none_whole z = go (as_maybe v.bound) refl
        where
          go : (x : Option TransactionLocator) → as_maybe v.bound ≡ x → x ≡ none
          go none q = refl
          go (some d) q = let y = g.all.held.stands d q in absurd (in_empty (subst (λ (n : ℕ). y.0 ∈ rows_of t' n) z y.1.0))
