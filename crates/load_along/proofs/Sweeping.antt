-- Stretches of the ordinary list found by a sweep that is kept from one to the next. Assumes nothing.
use mathlib.Core.Path.{◌≡◌, sym, ap, subst, ◌∙◌}
use mathlib.Core.Bool.{true}
use mathlib.Core.List.{List, [], ◌∷◌, replicate}
use mathlib.Core.Option.{Option, none, some}
use Prim.Native.Nat.{ℕ, ◌-◌, ◌<◌}
use native.Mathlib.Omega.{arith}
use lib.ListN.{length, length-replicate}
use Rattle.base.specs.Le.{Bytes}
use Rattle.base.proofs.Le.{AllBytes}
use Rattle.committee.specs.Committee.{Committee}
use Rattle.committee.specs.declared.Stake.{Stake}
use Rattle.record_spec.specs.Reference.{TransactionLocator, locator, new_range}
use Rattle.types.specs.Values.{as_locator, as_range, as_maybe}
use Rattle.types.specs.declared.TransactionLocatorRange as ranges
use Rattle.final_spec.specs.Finality.{blocks_of}
use Rattle.list_stretches_spec.specs.Stretches.{Listing, last_locator, stretch_end, stretch_at, from_found, stretches}
use Rattle.list_stretches_spec.proofs.Spreading.{shown_ends}
use Rattle.list_stretch_bytes.proofs.Filling.{stretches_none}
use Rattle.final_readings_spec.specs.Readings.{Reading}
use Rattle.final_readings_spec.specs.Answers.{as_reading}
use Rattle.list_readings_spec.specs.Answers.{is_ordinary}
use Rattle.list_readings_spec.specs.Lists.{listing}
use Rattle.list_readings_spec.proofs.Least.{lists_lawful}
use Rattle.list_lanes.specs.Lanes.{lane_ranges}
use Rattle.list_lanes.specs.declared.Wanted.{Wanted}
use Rattle.list_sweep.specs.Sweep.{Stands}
use Rattle.list_sweep.specs.declared.Sweep as sweep
use Rattle.list_sweep_start.specs.Begin.{Begun}
use Rattle.list_marked.specs.Marked.{list_for}
use Rattle.list_shown.specs.Shown.{Lent, Reaching}
use Rattle.list_shown.proofs.Reaching.{begun_reaching, begun_none, shown_offset, after_stretch}
use Rattle.load_along.specs.Along.{Tables, HeldAt, Held, share_list, ahead, Found}
use Rattle.load_along.specs.declared.Along.{Along}
use Rattle.std.specs.Prelude.{None, Some}
use Rattle.std.specs.declared.option.Option as code

-- where the sweep begins
pub begun_held : (w : Wanted) (c : Committee) (total : Stake) (s : Bytes) (t : Tables) → AllBytes s
    → ((flags : List ℕ) → length flags ≡ 1024 → Lent c total s t.order t.sets t.edges t.marks flags) → (o : code.Option sweep.Sweep) → Begun
    (lane_ranges w s t.order) s t.edges t.marks none o → HeldAt w c s t none o
unfolding HeldAt Begun
begun_held w c total s t bytes lent (Some v) b =
    let l = lent (replicate {A = ℕ} 1024 0) (length-replicate {A = ℕ} 1024 0) in (
      b.stands,
      begun_reaching w c s t.order l.room.sorted l.walk.few none t.edges t.marks v b
          (shown_offset w c s bytes l.walk.sorted.in_order),
    )
begun_held w c total s t bytes lent None b =
    let l = lent (replicate {A = ℕ} 1024 0) (length-replicate {A = ℕ} 1024 0) in
    begun_none w c s t.order l.room.sorted l.walk.few none b

module _ (c : Committee) (s : Bytes) (t : Tables) (a : Along) where
  abbrev list : Listing
  list = list_for a.wanted c (blocks_of s)

  list_is : (reading : Reading) → Held reading c s t a → list ≡ share_list reading c s
  list_is reading h = let p = h.shares in let q = h.reads in λ i. listing (p i) (q i) c (blocks_of s)

  -- where the sweep stands
  pub held_at : (v : sweep.Sweep) → a.at ≡ Some v → (reading : Reading) → Held reading c s t a → Stands
      (lane_ranges a.wanted s t.order) s t.edges t.marks v × Reaching a.wanted c s (as_maybe a.after) (as_locator v.here)
  unfolding HeldAt
  held_at v e reading h = subst (HeldAt a.wanted c s t (as_maybe a.after)) e h.stands

  pub held_end : a.at ≡ None → (reading : Reading) → Held reading c s t a → list.next (as_maybe a.after) ≡ none
  unfolding HeldAt
  held_end e reading h = subst (HeldAt a.wanted c s t (as_maybe a.after)) e h.stands

  -- nothing is shown any more
  pub found_ended : (reading : Reading) → Held reading c s t a → list.next (as_maybe a.after) ≡ none → (last : Option TransactionLocator) → Found reading c
      s (as_maybe a.after) last None
  unfolding Found
  found_ended reading h e last = stretches_none c (blocks_of s) (share_list reading c s) 1 (as_maybe a.after)
      (subst (λ (k : Listing). k.next (as_maybe a.after) ≡ none) (list_is reading h) e)

  -- a locator is shown, and the sweep stands at the end of its stretch
  module _ (l : TransactionLocator) (shown : list.shows l ≡ true) (is : list.next (as_maybe a.after) ≡ some l) (h : TransactionLocator)
      (e : h ≡ locator l.block (stretch_end (blocks_of s) list l)) where
    far : l.offset < stretch_end (blocks_of s) list l
    far = (shown_ends c (blocks_of s) list (lists_lawful (is_ordinary a.wanted.list) (as_reading a.wanted.reading) c (blocks_of s)) l shown).longer

    end_is : h.offset ≡ stretch_end (blocks_of s) list l
    unfolding locator
    end_is = ap (λ (m : TransactionLocator). m.offset) e

    pub ends_later : l.offset < h.offset
    ends_later = omega (arith, far, end_is)

    -- nothing is shown between its last locator and there
    pub reaching_on : (m : TransactionLocator) → m ≡ locator l.block (h.offset - 1) → Reaching a.wanted c s (some m) h
    unfolding locator
    reaching_on m p =
        subst (λ (x : TransactionLocator). Reaching a.wanted c s (some x) h) (sym p)
        (subst (λ (x : TransactionLocator). Reaching a.wanted c s (some (locator l.block (x.offset - 1))) x) (sym e)
        (after_stretch a.wanted c s l.block (stretch_end (blocks_of s) list l) (omega (arith, far))))

    module _ (reading : Reading) (g : Held reading c s t a) where
      end_there : h.offset ≡ stretch_end (blocks_of s) (share_list reading c s) l
      end_there = end_is ∙ ap (λ (k : Listing). stretch_end (blocks_of s) k l) (list_is reading g)

      one_ahead : ahead reading c s 1 (as_maybe a.after) ≡ stretch_at c (blocks_of s) (share_list reading c s) l ∷ []
      unfolding stretches from_found
      one_ahead = rw (subst (λ (k : Listing). k.next (as_maybe a.after) ≡ some l) (list_is reading g) is)

      pub found_stretch : (q : ranges.TransactionLocatorRange) → as_range q ≡ new_range l.block l.offset h.offset → (m : TransactionLocator) → m ≡
          locator l.block (h.offset - 1)
          → Found reading c s (as_maybe a.after) (some m) (Some q)
      unfolding Found stretch_at last_locator
      found_stretch q range m p = (
        stretch_at c (blocks_of s) (share_list reading c s) l,
        one_ahead,
        range ∙ ap (new_range l.block l.offset) end_there,
        ap
            {B = Option TransactionLocator} some (p ∙ ap (λ (n : ℕ). locator l.block (n - 1)) end_there),
      )
