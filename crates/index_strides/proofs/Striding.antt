-- Runs in a row, from the piece with which they begin: what is known after them. Assumes nothing.
use mathlib.Core.Path.{◌≡◌, refl, sym, ap, subst, ◌∙◌}
use mathlib.Core.List.{List, ◌∷◌, ◌++◌}
use mathlib.Core.Option.{Option, some}
use Prim.Native.Nat.{ℕ, ◌+◌}
use native.Mathlib.Omega.{arith}
use lib.ListN.{length, drop}
use Rattle.committee_set.specs.AuthoritySet.{AuthoritySet, united}
use Rattle.record_spec.specs.Reference.{TransactionLocator}
use Rattle.index_spec.specs.Runs.{Run}
use Rattle.index_spec.specs.Part.{RunsOf}
use Rattle.index_spec.specs.Walk.{Place, beyond, At, runs_from}
use Rattle.index_spec.proofs.Reading.{length_runs}
use Rattle.index_pieces.specs.Pieces.{PieceOr}
use Rattle.index_pieces.proofs.Pieces.{pieces_same}
use Rattle.index_runs.specs.Values.{as_run, as_maybe, as_place}
use Rattle.index_pieces.specs.Sources.{named_by, Moved, together, Merging, GrownFrom}
use Rattle.index_cursors.specs.Spots.{after}
use Rattle.index_shared.specs.Shared.{Nexts, onward, CommonPassed}
use Rattle.index_shared.specs.declared.Common.{Common}
use Rattle.index_strides.specs.Strides.{stride_runs, Strode}
use Rattle.index_strides.specs.declared.Stride.{Stride}
use Rattle.index_strides.proofs.Stepping.{Left, Stepping, nexts_at, nexts_same, Begun, begun, moved_names, moved_piece}

-- ---- made

module _ (own ms₀ ms₁ ix : List ℕ) (n : ℕ) (cs₀ cs₁ cs₂ : List ℕ) (first x : Run) (piece : Option Run)
    (g : GrownFrom own ms₀ ms₁ ix n cs₀ cs₁ first x piece) (c : Common)
    (h : CommonPassed own ms₁ ix n cs₁ cs₂ (beyond x.reference x.end) c) where
  abbrev f : TransactionLocator → AuthoritySet
  f = together own ms₀ ix cs₀ n

  abbrev runs : List Run
  runs = runs_from c.runs (drop c.pos ix)

  merging : Merging f own ms₀ ix cs₀ n first
  merging = record { told = λ l a. refl }

  past_one : (l : TransactionLocator) → At (beyond x.reference x.end) l.block l.offset → together own ms₁ ix cs₁ n l ≡ f l
  past_one = (g.merging f merging).told

  common_nexts : Nexts f (beyond x.reference x.end) runs (as_place c.place)
  common_nexts = nexts_same past_one
      (subst (Nexts (together own ms₁ ix cs₁ n) (beyond x.reference x.end) runs) (sym h.place) h.passed.nexts)

  past_all : (l : TransactionLocator) → At (as_place c.place) l.block l.offset → together own ms₁ ix cs₂ n l ≡ f l
  unfolding together
  past_all l a =
      ap (united (named_by own ms₁ 1 l)) ((subst (λ (p : Place). Moved ix n p cs₁ cs₂) (sym h.place) h.passed.moved).names l a)
      ∙ past_one l (nexts_at common_nexts l a)

  module _ (r : Stride) (run : as_run r.run ≡ x) (pos : r.pos ≡ c.pos) (more : r.more ≡ c.runs) where
    stride_is : x ∷ runs ≡ stride_runs ix r
    unfolding stride_runs
    stride_is = λ i. sym run i ∷ runs_from (sym more i) (drop (sym pos i) ix)

    -- the cursors moved on to the place after them
    strode : (ms cs : List ℕ) → Moved ix n (as_place c.place) cs₂ cs → Moved own 1 (as_place c.place) ms₁ ms → PieceOr (together own ms ix cs n)
        (as_place c.place) (as_maybe r.next)
        → Strode own ms₀ ms ix n cs₀ cs first r
    strode ms cs m w d =
        record {
          place = as_place c.place;
          inside = omega (arith, h.inside);
          nexts = λ p k. subst (λ (ys : List Run). Nexts f p ys (as_place c.place)) stride_is (onward (g.run f p merging k) common_nexts);
          long = m.long ∙ h.passed.moved.long ∙ g.long;
          own_long = w.long ∙ g.own_long;
          ready = m.ready;
          own_ready = w.ready;
          told = λ l a. moved_names own ms₁ ix n cs₂ (as_place c.place) ms cs m w l a ∙ past_all l a;
          piece = d;
        }

    -- nothing is shared: the piece after the run is at hand
    pub strode_one : c.runs ≡ 0 → as_maybe r.next ≡ piece → Strode own ms₀ ms₁ ix n cs₀ cs₂ first r
    unfolding runs_from after
    strode_one e d =
        let p : as_place c.place ≡ beyond x.reference x.end = h.place ∙ ap
        (λ (m : ℕ). after (beyond x.reference x.end) (runs_from m (drop c.pos ix))) e in
        strode ms₁ cs₂ (record { long = refl; ready = h.passed.moved.ready; names = λ l a. refl })
        (record { long = refl; ready = g.own_ready; names = λ l a. refl })
        (subst (PieceOr (together own ms₁ ix cs₂ n) (as_place c.place)) (sym d)
        (pieces_same f (together own ms₁ ix cs₂ n) (as_place c.place) piece (λ l a. sym (past_all l a))
        (subst (λ (q : Place). PieceOr f q piece) (sym p) (g.piece f merging))))

    -- the piece after them was asked for
    pub strode_more : (ms cs : List ℕ) → PieceOr (together own ms₁ ix cs₂ n) (as_place c.place) (as_maybe r.next) → Moved ix n (as_place c.place) cs₂ cs
        → Moved own 1 (as_place c.place) ms₁ ms → Strode own ms₀ ms ix n cs₀ cs first r
    strode_more ms cs d m w = strode ms cs m w (moved_piece own ms₁ ix n cs₂ (as_place c.place) ms cs m w (as_maybe r.next) d)

-- ---- passed

module _ (own ms₀ ix : List ℕ) (n : ℕ) (cs₀ ms cs : List ℕ) (next : Option Run) (k : ℕ) (s : Stepping own ms₀ ms ix n cs₀ cs next k)
    (x : Run) (e : next ≡ some x) (ms' cs' : List ℕ) (r : Stride) (w : Strode own ms ms' ix n cs cs' x r) where
  abbrev all : TransactionLocator → AuthoritySet
  all = together own ms₀ ix cs₀ n

  stride_nexts : Nexts all s.place (stride_runs ix r) w.place
  unfolding PieceOr
  stride_nexts = nexts_same s.standing.told (w.nexts s.place (subst (PieceOr (together own ms ix cs n) s.place) e s.piece))

  pub stride_length : k + length (stride_runs ix r) ≡ k + 1 + r.more
  unfolding stride_runs
  stride_length = omega (arith, length_runs r.more (drop r.pos ix))

  module _ (xs : List Run) (q : RunsOf all xs) where
    stride_begun : Begun all w.place k (stride_runs ix r) xs
    stride_begun = begun k xs stride_nexts (s.standing.left xs q)

    pub stride_left : Left all w.place (k + 1 + r.more) xs
    stride_left = subst (λ (m : ℕ). Left all w.place m xs) stride_length stride_begun.left

    pub stride_are : drop k xs ≡ stride_runs ix r ++ drop (k + length (stride_runs ix r)) xs
    stride_are = stride_begun.are

  pub stepping_over : Stepping own ms₀ ms' ix n cs₀ cs' (as_maybe r.next) (k + 1 + r.more)
  stepping_over =
      record {
        place = w.place;
        standing = record {
          long = w.long ∙ s.standing.long;
          own_long = w.own_long ∙ s.standing.own_long;
          ready = w.ready;
          own_ready = w.own_ready;
          told = λ l a. w.told l a ∙ s.standing.told l (nexts_at stride_nexts l a);
          left = stride_left;
        };
        piece = w.piece;
      }
