-- Runs of shares registered one after the other. Assumes nothing.
use mathlib.Core.Path.{◌≡◌, refl, sym, ap, ◌∙◌}
use mathlib.Core.Bool.{Bool, true, false}
use mathlib.Core.List.{List, [], ◌∷◌, ◌++◌, map, append_assoc, append-nil}
use Prim.Native.Nat.{ℕ, ◌*◌, ◌≤◌, ◌<◌}
use native.Mathlib.Omega.{arith}
use lib.ListN.{length, length-append}
use borrow.Author.Tests.{le-leb, lt-leb, ltb-true}
use Rattle.base.specs.Lists.{all_of, pairwise}
use Rattle.base.proofs.Lists.{all_left, pairwise_pairs, all_every, every}
use Rattle.base.proofs.Tests.{and_both, and_left, and_right, not_both}
use Rattle.committee.specs.Committee.{AuthorityIndex, Committee}
use Rattle.record_spec.specs.Reference.{new_range}
use Rattle.record_spec.specs.Block.{Block, shared_ranges}
use Rattle.record_shared_ranges.specs.Cursor.{runs_left, runs_told}
use Rattle.std.specs.Prelude.{Some, None}
use Rattle.record_shared_ranges.specs.declared.SharedRange.{SharedRange}
use Rattle.pending_spec.specs.Items.{Item, item_before, item_full, first_vote, registered, register}
use Rattle.pending_spec.specs.Table.{table_of, items_of, room, HoldsItems}
use Rattle.pending_votes.proofs.Voting.{Written, written}
use Rattle.pending_words.proofs.Slots.{table_holding}
use Rattle.feed_aggregator.specs.Step.{Orderly, Registered}

pairwise_left : {A : Type 0} (p : A → A → Bool) (xs ys : List A) → pairwise p (xs ++ ys) ≡ true → pairwise p xs ≡ true
unfolding pairwise
pairwise_left p [] ys h = refl
pairwise_left p (x ∷ xs) ys h = and_both (all_of (p x) xs) (pairwise p xs) (all_left (p x) xs ys (and_left (all_of (p x) (xs ++ ys)) _ h))
    (pairwise_left p xs ys (and_right (all_of (p x) (xs ++ ys)) _ h))

module _ (c : Committee) (a : AuthorityIndex) (p : ℕ) (b : Block) (t : List ℕ) where
  abbrev pub all : List Item
  all = register c a p (shared_ranges b) (items_of t)

  -- the runs before the statement of index i are registered
  pub record Adding (i : ℕ) (u : List ℕ) : Type 0 where
    pub ys : List Item
    pub rest : ys ++ map (registered c a p) (runs_left b i) ≡ all
    pub table : u ≡ table_of (length t) ys
    pub held : length ys ≤ room t

  module _ (laid : HoldsItems t) (ok : Orderly all) where
    pub adding_start : Adding 0 t
    unfolding register runs_left shared_ranges room
    adding_start = record { ys = items_of t; rest = refl; table = laid.laid; held = omega (arith, (table_holding t (items_of t) laid.laid).fits) }

    module _ (i : ℕ) (u : List ℕ) (h : Adding i u) where
      pub adding_written : Written u (length t) h.ys
      unfolding room item_full
      adding_written =
          written u (length t) h.ys h.table fits (pairwise_pairs item_before h.ys ordered)
          (every (λ x e. ltb-true x.start x.end e) h.ys (all_every item_full h.ys full))
        where
          fits : 6 * length h.ys < length t
          fits = omega (arith, h.held, (table_holding t (items_of t) laid.laid).fits)

          ordered : pairwise item_before h.ys ≡ true
          ordered = pairwise_left item_before h.ys (map (registered c a p) (runs_left b i)) (rw h.rest ok.ordered)

          full : all_of item_full h.ys ≡ true
          full = all_left item_full h.ys (map (registered c a p) (runs_left b i)) (rw h.rest ok.full)

      same_room : room u ≡ room t
      unfolding room
      same_room = rw adding_written.long

      module _ (run : SharedRange) (e : runs_left b i ≡ runs_told b (Some run)) where
        later : h.ys ++ first_vote c a p run.start run.end ∷ map (registered c a p) (runs_left b run.next.index) ≡ all
        unfolding runs_told registered new_range
        later = rw e at h.rest

        pub adding_on : length (items_of u) < room u → (v : List ℕ) → v ≡ table_of (length u) (items_of u ++ first_vote c a p run.start run.end ∷ []) → Adding
            run.next.index v
        adding_on l v w =
            record {
              ys = h.ys ++ (first_vote c a p run.start run.end ∷ []);
              rest = append_assoc h.ys _ _ ∙ later;
              table = rw (adding_written.long, adding_written.items) at w;
              held = omega (arith, length-append h.ys (first_vote c a p run.start run.end ∷ []), rw (adding_written.items, same_room) at l);
            }

        pub adding_stop : room u ≤ length (items_of u) → (v : List ℕ) → Registered all t false v
        adding_stop l v =
            record {
              fits = sym (lt-leb (length all) (room t) (omega (
                arith,
                rw (adding_written.items, same_room) at l,
                ap (λ (xs : List Item). length xs) later,
                length-append h.ys (first_vote c a p run.start run.end ∷ map (registered c a p) (runs_left b run.next.index)),
              )));
              table = λ q. absurd (not_both q refl);
            }

      pub adding_end : runs_left b i ≡ runs_told b None → Registered all t true u
      unfolding runs_told
      adding_end e =
          let done : h.ys ≡ all = sym (append-nil h.ys) ∙ (rw e at h.rest) in
          record { fits = sym (le-leb (length all) (room t) (rw (← done) h.held)); table = λ _. rw (← done) h.table }
