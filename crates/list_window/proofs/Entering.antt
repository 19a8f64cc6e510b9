-- The block of an entry of the store, and the room that was made for its edges. Assumes nothing.
use mathlib.Core.Path.{◌≡◌, refl, sym, ap, subst, ◌∙◌}
use mathlib.Core.Bool.{true}
use mathlib.Core.List.{List, [], append-nil}
use mathlib.Core.Option.{Option}
use Prim.Native.Nat.{ℕ, ◌+◌, ◌-◌, ◌*◌}
use native.Mathlib.Omega.{arith}
use lib.ListN.{length, take, drop, length-drop}
use lib.Seq.{length-take-le}
use Rattle.base.specs.Le.{Bytes, le_at}
use Rattle.record_spec.specs.Reference.{TransactionLocator}
use Rattle.record_spec.specs.Block.{Block}
use Rattle.store_spec.specs.Entry.{block_at, is_entry}
use Rattle.store_spec.proofs.Loops.{entry_room, record-part}
use Rattle.list_block_spans.specs.Joined.{VotesFit}
use Rattle.types.specs.Values.{as_maybe}
use Rattle.base.specs.Lists.{any_of}
use Rattle.base.proofs.Lists.{none_of, no_pairs}
use Rattle.list_row_sort.specs.Rows.{Row}
use Rattle.list_range_rows.specs.Ranges.{any_covers}
use Rattle.list_edge_rows.specs.Edges.{edges_of}
use Rattle.list_kind_ranges.specs.Kinds.{kind_ranges}
use Rattle.list_own_ranges.specs.Own.{Recorded}
use Rattle.list_kind_ranges.specs.declared.RangeKind.{RangeKind}
use Rattle.list_cuts.specs.Cuts.{Held}
use Rattle.list_cuts.specs.Room.{Shorter, RoomMade}
use Rattle.list_block_edges.specs.Taken.{BlockTaken}
use Rattle.list_window.specs.Step.{NextTaken}
use Rattle.list_cuts.specs.declared.Window.{Window}
use Rattle.list_block_edges.proofs.Growing.{held_more}

pub recorded : (s : Bytes) (p end : ℕ) → is_entry s p ≡ true → VotesFit (block_at s p) → end ≡ p + 8 + le_at 4 s (p + 4) → Recorded s (p + 8)
    (take (end - (p + 8)) (drop (p + 8) s))
unfolding block_at
recorded s p end h v e =
    let room = entry_room s p h in
    let size = length-take-le (end - (p + 8)) (drop (p + 8) s) (omega (arith, length-drop (p + 8) s, room.inside)) in
    record {
      formed = rw (record-part s p end e) room.formed;
      fits = rw (record-part s p end e) v;
      stands = ap (λ (k : ℕ). take k (drop (p + 8) s)) size;
    }

pub next_more : (kind : RangeKind) (s : Bytes) (b : Block) (last : Option TransactionLocator) (u v x : List ℕ) (w r : Window) (place more k : ℕ) → RoomMade s
    u v w r more → more ≡ 2 * length b.statements
    → BlockTaken kind s b last (as_maybe r.bound) v x place r.n k → NextTaken s (kind_ranges kind b) last u x w (record { n = k; bound = r.bound }) place
next_more kind s b last u v x w r place more k room size t =
    record {
      long = t.long ∙ room.long;
      short = room.short last;
      held = λ es h. record {
        own = t.own;
        right = t.right;
        held = held_more kind s b last (as_maybe r.bound) v x place r.n k t es (room.held last es h) (omega (arith, room.fit));
      };
    }

-- a lane without ranges
pub lane_none : (s : Bytes) (last : Option TransactionLocator) (u : List ℕ) (w : Window) (lane : ℕ) → NextTaken s [] last u u w w lane
unfolding any_covers any_of edges_of Shorter
lane_none s last u w lane =
    record {
      long = refl;
      short = λ es h l i. i;
      held = λ es h. record {
        own = [];
        right = record { proper = none_of; apart = no_pairs; covering = λ l i. refl };
        held = subst (λ (xs : List Row). Held s last (as_maybe w.bound) u w.n xs) (sym (append-nil es)) h;
      };
    }
