-- Room made in a table that was sorted and cut. Assumes nothing.
use mathlib.Core.Path.{◌≡◌, sym, subst}
use mathlib.Core.List.{List}
use mathlib.Core.Option.{some}
use Prim.Native.Nat.{ℕ, ◌+◌, ◌-◌, ◌*◌, ◌/◌, ◌≤◌, ◌<◌}
use native.Mathlib.Omega.{arith}
use lib.ListN.{length}
use Rattle.base.specs.Le.{Bytes}
use Rattle.record_spec.specs.Reference.{TransactionLocator}
use Rattle.types.specs.Values.{as_locator, as_maybe}
use Rattle.types.specs.declared.TransactionLocator as types
use Rattle.list_row_sort.specs.Rows.{row_at, key_of, SortedAs}
use Rattle.list_row_sort.proofs.Tables.{inside_permuted}
use Rattle.list_cuts.specs.Cuts.{Cuttable, CutAt, Held}
use Rattle.list_cuts.specs.Room.{Halvable, Shorter, RoomMade}
use Rattle.list_cuts.specs.declared.Window.{Window}
use Rattle.list_cuts.proofs.Narrowing.{cut_held, cut_shorter, cut_short}
use Rattle.std.specs.Prelude.{Some}

module _ (s : Bytes) (u : List ℕ) (w : Window) (more : ℕ) (spare v : List ℕ) (can : Halvable s u spare w.n more) (sorted : SortedAs s w.n u v) where
  pub sorted_cuttable : length u / 3 - w.n < more → (at : ℕ) → at ≤ w.n / 2 → Cuttable s v w.n at
  sorted_cuttable h at k =
      record {
        room = omega (arith, can.can.room, sorted.long);
        inside = inside_permuted s u v w.n sorted.permuted can.can.inside;
        sorted = sorted.sorted;
        below = omega (arith, can.wide);
      }

  module _ (at m : ℕ) (cut : CutAt s v w.n at m) where
    -- the table is cut
    pub room_cut : (l : types.TransactionLocator) → as_locator l ≡ key_of s (row_at v at) → 3 * (m + more) ≤ length v → RoomMade s u v w
        (record { n = m; bound = Some l }) more
    unfolding as_maybe
    room_cut l e fit =
        record {
          long = sorted.long;
          held = λ last es h. subst (λ (x : TransactionLocator). Held s last (some x) v m es) (sym e)
              (cut_held s w.n at m u v sorted cut last (as_maybe w.bound) es h);
          short = λ last es h. subst (λ (x : TransactionLocator). Shorter (as_maybe w.bound) (some x)) (sym e)
              (cut_shorter s w.n at m u v sorted cut last (as_maybe w.bound) es h);
          fit = fit;
        }

    -- low enough, there is room, however many are at one locator
    pub cut_fits : at ≤ w.n / 16 → 3 * (m + more) ≤ length v
    cut_fits h = omega (arith, cut_short s w.n at m u v sorted cut 3072 can.few, can.wide, sorted.long)
