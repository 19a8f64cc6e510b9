-- The words of a part held against its sources, several runs at a time. Assumes nothing.
use mathlib.Core.Path.{◌≡◌, sym, ap, subst, ◌∙◌}
use mathlib.Core.Bool.{true}
use mathlib.Core.List.{List, ◌∷◌, ◌++◌}
use mathlib.Core.Option.{Option, none, some}
use Prim.Native.Nat.{ℕ, ◌+◌, ◌-◌, ◌*◌, ◌≤◌, ◌<◌}
use native.Mathlib.Omega.{arith}
use lib.ListN.{length, get_or, drop}
use Rattle.committee_set.specs.AuthoritySet.{AuthoritySet, united}
use Rattle.record_spec.specs.Reference.{TransactionLocator}
use Rattle.index_spec.specs.Runs.{Run}
use Rattle.index_spec.specs.Part.{RunsOf}
use Rattle.index_spec.specs.Index.{run_words, part_words}
use Rattle.index_spec.specs.Walk.{Place, anywhere, beyond, At, NextRun, runs_from}
use Rattle.index_spec.proofs.Reading.{part_length, length_runs}
use Rattle.index_runs.specs.Values.{as_place, starts_with}
use Rattle.index_pieces.specs.Pieces.{PieceOr}
use Rattle.index_pieces.proofs.Pieces.{at_beyond}
use Rattle.index_pieces.specs.Sources.{named_by, Ready, Moved, together}
use Rattle.index_cursors.specs.Spots.{SpotAfter}
use Rattle.index_shared.specs.Shared.{Nexts, onward, RunsPassed}
use Rattle.index_cursors.specs.declared.Spot.{Spot}
use Rattle.index_parts.specs.Parts.{RunPassed, StoodOver, Compared}
use Rattle.index_strides.proofs.Words.{runs_words, part_count, part_body, run_stands, Stood, stood_start, stood_on, stood_part, row_stands}
use Rattle.index_strides.proofs.Stepping.{Left, Standing, next_same, Begun, begun, nexts_at, nexts_same, standing_start, standing_none, standing_more}
use Rattle.index_strides.proofs.Stepping.{standing_first}
use Rattle.std.specs.Prelude.{None, Some}

-- ---- a run and those that the sources share after it

module _ (own ms₀ ms ix : List ℕ) (n : ℕ) (cs₀ cs₁ cs : List ℕ) (s t r : Spot) (x : Run) (more : ℕ)
    (w : RunPassed own ms₀ ms ix n cs₀ cs₁ (as_place s.place) x)
    (place : as_place t.place ≡ beyond x.reference x.end) (pos : t.pos ≡ s.pos + 10) (left : t.left + 1 ≡ s.left)
    (h : RunsPassed own ms ix n cs₁ cs (as_place t.place) t.pos more) (a : SpotAfter ix t more r) where
  abbrev g : TransactionLocator → AuthoritySet
  g = together own ms ix cs₁ n

  shared_nexts : Nexts g (beyond x.reference x.end) (runs_from more (drop (s.pos + 10) ix)) (as_place r.place)
  shared_nexts =
      subst (λ (i : ℕ). Nexts g (beyond x.reference x.end) (runs_from more (drop i ix)) (as_place r.place)) pos
      (subst (λ (p : Place). Nexts g p (runs_from more (drop t.pos ix)) (as_place r.place)) place
      (subst (Nexts g (as_place t.place) (runs_from more (drop t.pos ix))) (sym a.place) h.nexts))

  moved_past : Moved ix n (as_place r.place) cs₁ cs
  moved_past = subst (λ (p : Place). Moved ix n p cs₁ cs) (sym a.place) h.moved

  pub stood_over : starts_with (run_words x) (drop s.pos ix) ≡ true → StoodOver own ms₀ ms ix n cs₀ cs s r
  unfolding together
  stood_over e =
      record {
        first = x;
        more = more;
        stands = e;
        next = w.next;
        nexts = nexts_same w.told shared_nexts;
        pos = omega (arith, a.pos, pos);
        left = omega (arith, a.left, left);
        long = h.moved.long ∙ w.long;
        own_long = w.own_long;
        ready = h.moved.ready;
        own_ready = w.own_ready;
        told = λ l b. ap (united (named_by own ms 1 l)) (moved_past.names l b) ∙ w.told l (nexts_at shared_nexts l b);
      }

-- ---- all of them

-- k runs stand after a position, and the cursors at a place
pub record Held (own ms₀ ms ix : List ℕ) (n : ℕ) (cs₀ cs : List ℕ) (p : Place) (at k : ℕ) : Type 0 where
  pub standing : Standing own ms₀ ms ix n cs₀ cs p k
  pub stood : (xs : List Run) → RunsOf (together own ms₀ ix cs₀ n) xs → Stood ix at k xs

pub held_start : (own ms ix : List ℕ) (n : ℕ) (cs : List ℕ) (at : ℕ) → Ready ix cs n → Ready own ms 1 → Held own ms ms ix n cs cs anywhere at 0
held_start own ms ix n cs at r o = record { standing = standing_start own ms ix n cs r o; stood = λ xs h. stood_start ix at xs }

module _ (own ms₀ ms ix : List ℕ) (n : ℕ) (cs₀ cs : List ℕ) (at k : ℕ) (s r : Spot) (h : Held own ms₀ ms ix n cs₀ cs (as_place s.place) at k)
    (ms' cs' : List ℕ) (o : StoodOver own ms ms' ix n cs cs' s r) where
  abbrev f : TransactionLocator → AuthoritySet
  f = together own ms₀ ix cs₀ n

  abbrev p : Place
  p = as_place s.place

  abbrev x : Run
  x = o.first

  -- from its end on
  past_first : (l : TransactionLocator) → At (beyond x.reference x.end) l.block l.offset → At p l.block l.offset
  past_first l a = at_beyond p x.reference x.start x.end o.next.there (omega (arith, o.next.stretch.full)) l.block l.offset a

  first_told : NextRun f p x
  first_told = next_same (together own ms ix cs n) f p x h.standing.told o.next

  nexts_told : Nexts f (beyond x.reference x.end) (runs_from o.more (drop (s.pos + 10) ix)) (as_place r.place)
  nexts_told = nexts_same (λ l a. h.standing.told l (past_first l a)) o.nexts

  module _ (pos : s.pos ≡ at + 1 + 10 * k) (room : s.pos + 10 * s.left ≤ length ix) (words : (i : ℕ) → get_or ix i 0 < 18446744073709551616) where
    abbrev stride : List Run
    stride = x ∷ runs_from o.more (drop (s.pos + 10) ix)

    stride_length : k + length stride ≡ k + 1 + o.more
    stride_length = omega (arith, length_runs o.more (drop (s.pos + 10) ix))

    held_begun : (xs : List Run) → RunsOf f xs → Begun f (as_place r.place) k stride xs
    held_begun xs q = begun k xs (onward first_told nexts_told) (h.standing.left xs q)

    stride_stands : drop (at + 1 + 10 * k) ix ≡ runs_words stride ++ drop (at + 1 + 10 * (k + length stride)) ix
    stride_stands =
        let e : s.pos + 10 * (1 + o.more) ≡ at + 1 + 10 * (k + length stride) = omega (arith, pos, stride_length) in
        ap (λ (i : ℕ). drop i ix) (sym pos) ∙ row_stands ix s.pos x o.more words o.stands (omega (arith, o.left)) ∙ ap
        (λ (i : ℕ). runs_words stride ++ drop i ix) e

    pub held_over : Held own ms₀ ms' ix n cs₀ cs' (as_place r.place) at (k + 1 + o.more)
    held_over =
        record {
          standing = record {
            long = o.long ∙ h.standing.long;
            own_long = o.own_long ∙ h.standing.own_long;
            ready = o.ready;
            own_ready = o.own_ready;
            told = λ l a. o.told l a ∙ h.standing.told l (past_first l (nexts_at nexts_told l a));
            left = λ xs q. subst (λ (m : ℕ). Left f (as_place r.place) m xs) stride_length (held_begun xs q).left;
          };
          stood = λ xs q. subst (λ (m : ℕ). Stood ix at m xs) stride_length (stood_on ix at xs k stride (h.stood xs q) (held_begun xs q).are stride_stands);
        }

-- ---- the loop over a part, of as many runs as the word at a position says

pub record Holding (own ms₀ ms ix : List ℕ) (n : ℕ) (cs₀ cs : List ℕ) (s : Spot) (at : ℕ) : Type 0 where
  pub left : s.left ≤ get_or ix at 0
  pub pos : s.pos ≡ at + 1 + 10 * (get_or ix at 0 - s.left)
  pub held : Held own ms₀ ms ix n cs₀ cs (as_place s.place) at (get_or ix at 0 - s.left)

pub holding_start : (own ms ix : List ℕ) (n : ℕ) (cs : List ℕ) (s : Spot) (at : ℕ) → Ready ix cs n → Ready own ms 1 → as_place s.place ≡ anywhere → s.pos
    ≡ at + 1 → s.left ≡ get_or ix at 0
    → Holding own ms ms ix n cs cs s at
holding_start own ms ix n cs s at r o p e d =
    let z : 0 ≡ get_or ix at 0 - s.left = omega arith in
    record {
      left = omega arith;
      pos = omega arith;
      held = subst (Held own ms ms ix n cs cs (as_place s.place) at) z
          (subst (λ (q : Place). Held own ms ms ix n cs cs q at 0) (sym p) (held_start own ms ix n cs at r o));
    }

module _ (own ms₀ ms ix : List ℕ) (n : ℕ) (cs₀ cs : List ℕ) (s : Spot) (at : ℕ) (h : Holding own ms₀ ms ix n cs₀ cs s at)
    (room : at + 1 + 10 * get_or ix at 0 ≤ length ix) where
  abbrev count : ℕ
  count = get_or ix at 0

  abbrev all : TransactionLocator → AuthoritySet
  all = together own ms₀ ix cs₀ n

  pub holding_on : (r : Spot) (ms' cs' : List ℕ) → StoodOver own ms ms' ix n cs cs' s r → ((i : ℕ) → get_or ix i 0 < 18446744073709551616) → Holding own ms₀
      ms' ix n cs₀ cs' r at
  holding_on r ms' cs' o words =
      let k : count - s.left + 1 + o.more ≡ count - r.left = omega (arith, o.left, h.left) in
      record {
        left = omega (arith, o.left, h.left);
        pos = omega (arith, o.pos, o.left, h.left, h.pos);
        held = subst (Held own ms₀ ms' ix n cs₀ cs' (as_place r.place) at) k
            (held_over own ms₀ ms ix n cs₀ cs at (count - s.left) s r h.held ms' cs' o h.pos (omega (arith, h.pos, h.left)) words);
      }

  -- the next run does not stand there
  pub holding_differs : 0 < s.left →
      ((y : Run) → NextRun (together own ms ix cs n) (as_place s.place) y → starts_with (run_words y) (drop s.pos ix) ≡ true → ⊥)
      → (xs : List Run) → RunsOf all xs → Compared ix at xs None
  unfolding Compared
  holding_differs g differs xs r rest e =
      let m = part_count ix at xs rest e in
      let k : count - s.left < length xs = omega (arith, m, h.left) in
      let y = standing_first own ms₀ ix n cs₀ ms cs (as_place s.place) (count - s.left) h.held.standing xs r k in
      differs y.0 y.1.0
      (subst (λ (q : ℕ). starts_with (run_words y.0) (drop q ix) ≡ true) (sym h.pos)
      (run_stands ix at xs rest (part_body ix at xs rest e) (count - s.left) y.0 k y.1.1))

  module _ (done : s.left ≡ 0) (o : Option Run) (d : PieceOr (together own ms ix cs n) (as_place s.place) o) where
    -- nobody is named any more
    pub holding_end : o ≡ none → (xs : List Run) → RunsOf all xs → Compared ix at xs (Some s.pos)
    unfolding Compared
    holding_end e xs r =
        let m : length xs ≡ count - s.left = standing_none own ms₀ ix n cs₀ ms cs (as_place s.place) (count - s.left) h.held.standing o d e xs r in
        let z : count ≡ length xs = omega (arith, m, done) in
        let p : s.pos ≡ at + length (part_words xs) = omega (arith, m, h.pos, part_length xs) in (
          p,
          (
            omega (arith, h.pos, room, done),
            stood_part ix at xs (omega (arith, room)) z (subst (λ (j : ℕ). Stood ix at j xs) (sym m) (h.held.stood xs r)) ∙ ap
                (λ (q : ℕ). part_words xs ++ drop q ix) (sym p),
          ),
        )

    -- a run is left
    pub holding_more : (x : Run) → o ≡ some x → (xs : List Run) → RunsOf all xs → Compared ix at xs None
    unfolding Compared
    holding_more x e xs r rest f =
        omega
        (arith, part_count ix at xs rest f, done, standing_more own ms₀ ix n cs₀ ms cs (as_place s.place) (count - s.left) h.held.standing o d x e xs r)
