-- The sweep stands just after a given locator. Assumes nothing.
use mathlib.Core.Path.{◌≡◌, refl, sym, subst, ◌∙◌}
use mathlib.Core.Logic.{◌⊎◌, inl, inr}
use mathlib.Core.Bool.{true, false}
use mathlib.Core.List.{List}
use mathlib.Core.Option.{Option, none, some, some-injective, none-ne-some}
use Prim.Native.Nat.{ℕ, ◌+◌, ◌≤◌, ◌<◌}
use native.Mathlib.Omega.{arith}
use native.Mathlib.Decide.{ℕ_discrete}
use lib.Dec.{eqb}
use lib.ListN.{length, get_or}
use Rattle.base.specs.Lists.{keep, is_none, count_from}
use Rattle.base.specs.Le.{Bytes}
use Rattle.base.proofs.Tests.{not_both, holds_or_not, fails}
use Rattle.record_spec.specs.Reference.{BlockReference, TransactionLocator, locator, locator_before, reference_before}
use Rattle.record_spec.proofs.References.{Precedes, by_block, by_offset, precedes, is_before, reference_irrefl, reference_trans, locator_irrefl, locator_trans}
use Rattle.record_spec.proofs.References.{locator_total, not_before_trans}
use Rattle.types.specs.Values.{as_locator, as_maybe}
use Rattle.types.specs.declared.TransactionLocator as types
use Rattle.final_spec.specs.NextFinal.{is_after}
use Rattle.list_order.specs.Row.{is_after_best}
use Rattle.list_row_sort.specs.Rows.{row_at, rows_from, rows_of, key_of, row_before}
use Rattle.list_row_sort.proofs.Tables.{row_in, sorted_at}
use Rattle.list_edge_rows.specs.Edges.{last_begins}
use Rattle.list_reach.specs.Reach.{From}
use Rattle.list_lanes.specs.Lanes.{Lanes}
use Rattle.list_window.specs.Window.{said_at, Gathered}
use Rattle.list_cuts.specs.declared.Window.{Window}
use Rattle.list_window.proofs.Ahead.{row_ahead, bound_ahead}
use Rattle.list_sweep.specs.Sweep.{MarksAt, Clear, Swept, Standing}
use Rattle.list_sweep.specs.Step.{Moved}
use Rattle.list_sweep.specs.declared.Sweep as sweep
use Rattle.list_sweep.proofs.Sweeping.{lt_le, le_lt, marks_right}
use Rattle.list_sweep_start.specs.Begin.{just_after, Stood, none_there, some_there, StoodAfter, BegunAt, Begun}
use Rattle.std.specs.Prelude.{None, Some}
use Rattle.std.specs.declared.option.Option as code

-- ---- nothing stands between a locator and the one just after it

pub next_before : (g : TransactionLocator) → locator_before g (locator g.block (g.offset + 1)) ≡ true
unfolding locator
next_before g = is_before g (locator g.block (g.offset + 1)) (by_offset refl (omega arith))

pub next_least : (g x : TransactionLocator) → locator_before g x ≡ true → locator_before x (locator g.block (g.offset + 1)) ≡ false
unfolding locator
next_least g x h = fails (locator_before x next) (λ t. go (precedes g x h) (precedes x next t))
  where
    next : TransactionLocator
    next = locator g.block (g.offset + 1)

    go : Precedes g x → Precedes x next → ⊥
    go (by_block a) (by_block b) = reference_irrefl g.block (reference_trans g.block x.block g.block a b)
    go (by_block a) (by_offset e o) = reference_irrefl g.block (subst (λ (r : BlockReference). reference_before g.block r ≡ true) e a)
    go (by_offset e o) (by_block b) = reference_irrefl g.block (subst (λ (r : BlockReference). reference_before r g.block ≡ true) (sym e) b)
    go (by_offset e o) (by_offset f p) = omega arith

offset_same : (g : types.TransactionLocator) → (as_locator g).offset ≡ g.offset
unfolding as_locator locator
offset_same g = refl

module _ (lanes : Lanes) (s : Bytes) (t marks : List ℕ) (w : Window) where
  swept_none : (last : Option TransactionLocator) → ((k : ℕ) → k < 3072 → eqb (get_or marks k 0) 1 ≡ said_at (lanes k) last)
      → Swept (λ k. said_at (lanes k) last)
      t marks 0
  unfolding Swept rows_of rows_from count_from keep last_begins
  swept_none last f k m = f k m

  -- ---- before all edges

  pub start_standing : Gathered lanes s none (as_maybe w.bound) t w.n → ((k : ℕ) → get_or marks k 0 ≡ 0) → Standing lanes s t marks w.n
      (as_maybe w.bound) 0 none
  unfolding said_at is_after
  start_standing g z =
      let zero-marks : ((k : ℕ) → k < 3072 → eqb (get_or marks k 0) 1 ≡ said_at (lanes k) none) = λ k m. rw (z k) in
      record {
        last = none;
        gathered = g;
        inside = omega arith;
        swept = swept_none none zero-marks;
        clear = λ h e. absurd (none_some h e);
        right = λ l f c. marks_right lanes s none (as_maybe w.bound) t w.n g marks 0 (omega arith) (swept_none none zero-marks) l refl
            (λ j h. absurd (omega arith)) c;
      }
    where
      none_some : (h : TransactionLocator) → ◌≡◌ {A = Option TransactionLocator} none (some h) → ⊥
      none_some h e = none-ne-some h e

  pub start_begun : ((k : ℕ) → get_or marks k 0 ≡ 0) → (t' marks' : List ℕ) (r : code.Option sweep.Sweep) → length marks ≡ 3072
      → Moved lanes s marks t' marks' none r → Begun
      lanes s t' marks' none r
  unfolding Moved Begun MarksAt From is_after
  start_begun z t' marks' (Some r) long m =
      record {
        long = m.long ∙ long;
        stands = m.stands;
        from = tt;
        later = λ h. refl;
        bare = λ l a b k h. sym (m.quiet l tt b k h) ∙ rw (z k);
      }
  start_begun z t' marks' None long m = λ l a k h. sym (m l tt k h) ∙ rw (z k)

  -- ---- after a given locator

  module _ (given : types.TransactionLocator) (g : Gathered lanes s (some (as_locator given)) (as_maybe w.bound) t w.n)
      (right : MarksAt lanes marks (as_locator given)) where
    abbrev gl : TransactionLocator
    gl = as_locator given

    read : Swept (λ k. said_at (lanes k) (some gl)) t marks 0
    unfolding said_at MarksAt
    read = swept_none (some gl) right

    later_row : (j : ℕ) → j < w.n → locator_before gl (key_of s (row_at t j)) ≡ true
    unfolding is_after
    later_row j h = (row_ahead lanes s (some gl) (as_maybe w.bound) t w.n g (row_at t j) (row_in t w.n j h)).0.later

    -- a locator that is at the given one or just after it is not past the bound
    bound_far : (y : TransactionLocator) → ((x : TransactionLocator) → locator_before gl x ≡ true → locator_before x y ≡ false) → is_after_best
        (as_maybe w.bound) y ≡ false
    unfolding is_after_best is_after is_none
    bound_far y f = go (as_maybe w.bound) refl
      where
        go : (x : Option TransactionLocator) → as_maybe w.bound ≡ x → is_after_best x y ≡ false
        go none q = refl
        go (some d) q = f d (bound_ahead lanes s (some gl) (as_maybe w.bound) t w.n g d q).later

    -- at the given one itself
    pub given_standing : Standing lanes s t marks w.n (as_maybe w.bound) 0 (some gl)
    unfolding From is_after
    given_standing =
        record {
          last = some gl;
          gathered = g;
          inside = omega arith;
          swept = read;
          clear = λ h e. subst (Clear s t w.n (as_maybe w.bound) 0) (some-injective _ _ e) here_clear;
          right = λ l f c. at_or_after l f c (holds_or_not (locator_before gl l));
        }
      where
        here_clear : Clear s t w.n (as_maybe w.bound) 0 gl
        here_clear = record {
          rows = λ j h k. later_row j k;
          short = bound_far gl
              (λ x h. fails (locator_before x gl) (λ u. locator_irrefl gl (locator_trans gl x gl h u)));
        }

        at_or_after : (l : TransactionLocator) → locator_before l gl ≡ false → Clear s t w.n (as_maybe w.bound) 0 l → (locator_before gl l ≡ true) ⊎
            (locator_before gl l ≡ false) → MarksAt lanes marks l
        at_or_after l f c (inl x) = marks_right lanes s (some gl) (as_maybe w.bound) t w.n g marks 0 (omega arith) read l x (λ j h. absurd (omega arith)) c
        at_or_after l f c (inr x) = subst (MarksAt lanes marks) (locator_total gl l x f) right

    -- just after it
    abbrev next : TransactionLocator
    next = just_after given

    beyond : (marks' : List ℕ) (at : ℕ) → at ≤ w.n → Swept (λ k. said_at (lanes k) (some gl)) t marks' at →
        ((j : ℕ) → j < at → locator_before next (key_of s (row_at t j)) ≡ false)
        → ((j : ℕ) → at ≤ j → j < w.n → locator_before next (key_of s (row_at t j)) ≡ true) → Standing lanes s t marks' w.n (as_maybe w.bound) at (some next)
    unfolding From is_after
    beyond marks' at most swept low high =
        record {
          last = some gl;
          gathered = g;
          inside = most;
          swept = swept;
          clear = λ h e. subst (Clear s t w.n (as_maybe w.bound) at) (some-injective _ _ e)
              (record { rows = high; short = bound_far next (λ x h. next_least gl x h) });
          right = λ l f c. marks_right lanes s (some gl) (as_maybe w.bound) t w.n g marks' at most swept l (lt_le gl next l (next_before gl) f)
              (λ j h. not_before_trans (key_of s (row_at t j)) next l (low j h) f) c;
        }

    behind : (i j : ℕ) → i ≤ j → j < w.n → (x : TransactionLocator) → locator_before x (key_of s (row_at t i)) ≡ true → locator_before x (key_of s (row_at t j))
        ≡
        true
    unfolding row_before
    behind i j h k x b = go (ℕ_discrete i j)
      where
        go : Dec (i ≡ j) → locator_before x (key_of s (row_at t j)) ≡ true
        go (yes e) = subst (λ (y : ℕ). locator_before x (key_of s (row_at t y)) ≡ true) e b
        go (no e) = lt_le x (key_of s (row_at t i)) (key_of s (row_at t j)) b (sorted_at s t w.n i j g.sorted (omega arith) k)

    pub next_standing : (marks' : List ℕ) (at : ℕ) → Stood s t marks w.n next marks' at → Standing lanes s t marks' w.n (as_maybe w.bound) at
        (some next)
    unfolding row_before
    next_standing marks' at (none_there e z f) = rw (z, e) (beyond marks 0 (omega arith) read (λ j h. absurd (omega arith))
        (λ j h k. behind 0 j (omega arith) k next (f (omega arith))))
    next_standing marks' at (some_there h f p) =
        beyond marks' at p.most (p.swept (λ k. said_at (lanes k) (some gl)) read)
        (λ j k. not_before_trans (key_of s (row_at t j)) (key_of s (row_at t 0)) next (p.low j (omega arith) k) f)
        (λ j k i. le_lt next (key_of s (row_at t 0)) (key_of s (row_at t j)) (next_least gl (key_of s (row_at t 0)) (later_row 0 h))
        (behind at j k i (key_of s (row_at t 0)) (p.high (omega arith))))

    pub given_begun : length marks ≡ 3072 → given.offset ≡ 18446744073709551615 → BegunAt lanes s t marks (some gl)
        (record { n = w.n; bound = w.bound; at = 0; here = given })
    unfolding is_after From
    given_begun long e =
        record {
          long = long;
          stands = given_standing;
          from = fails (locator_before gl gl) (locator_irrefl gl);
          later = λ h. absurd (omega (arith, offset_same given));
          bare = λ m a b. absurd (locator_irrefl m (locator_trans m gl m b a));
        }

    pub next_begun : (marks' : List ℕ) (r : sweep.Sweep) → StoodAfter s t marks marks' w given r → length marks' ≡ 3072 → BegunAt lanes s t marks' (some gl) r
    unfolding is_after From
    next_begun marks' r x long =
        record {
          long = long;
          stands = rw (x.many, x.bound, x.here) (next_standing marks' r.at x.stood);
          from = rw x.here (fails (locator_before next gl) (λ u. locator_irrefl gl (locator_trans gl next gl (next_before gl) u)));
          later = λ h. rw x.here (next_before gl);
          bare = λ m a b. absurd (not_both b (rw x.here (next_least gl m a)));
        }
