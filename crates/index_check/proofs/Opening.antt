-- The parts of a block's includes opened as sources: together with its own votes they make its part. Assumes nothing.
use mathlib.Core.Path.{◌≡◌, refl, sym, ap, subst, ◌∙◌}
use mathlib.Core.List.{List, [], ◌∷◌, ◌++◌, map, flatten}
use Prim.Native.Nat.{ℕ, zero, suc, ◌+◌, ◌*◌, ◌≤◌, ◌<◌}
use native.Mathlib.Omega.{arith}
use native.Mathlib.Decide.{dec_lt}
use lib.ListN.{length, get_or, take, drop, set, length-set}
use lib.Seq.{take-suc, take-length, get_or-set_same, get_or-set_other}
use Rattle.base.specs.Le.{Bytes}
use Rattle.base.proofs.Places.{in_place}
use Rattle.committee_set.specs.AuthoritySet.{AuthoritySet, united}
use Rattle.committee_set.proofs.Words.{nobody_united}
use Rattle.record_spec.specs.Reference.{BlockReference, TransactionLocator}
use Rattle.record_spec.specs.Block.{Block}
use Rattle.record_spec.specs.Record.{no_reference}
use Rattle.final_spec.specs.Voters.{own_vote, unions}
use Rattle.final_block_votes.specs.Walk.{block_at_place}
use Rattle.index_spec.specs.Runs.{Run, voters_in}
use Rattle.index_spec.specs.Part.{RunsOf, own_runs, part_from, part_in}
use Rattle.index_spec.specs.Walk.{Place, anywhere, runs_from, part_at}
use Rattle.index_spec.proofs.Chain.{Anything, Chain, end, link, Differs}
use Rattle.index_spec.proofs.Relation.{runs_chain}
use Rattle.index_spec.proofs.Ascending.{stretched_runs}
use Rattle.index_spec.proofs.Parts.{part_runs, from_names}
use Rattle.index_pieces.specs.Sources.{cursor_at, cursor_left, source, named_by, Ready, together}
use Rattle.index_own_runs.specs.Own.{OwnRuns}
use Rattle.final_spec.proofs.Spoken.{unions_more}
use Rattle.index_check.specs.Known.{Stands, Known, Rooted, Opened}

map_last : {A B : Type 0} (f : A → B) (xs : List A) (x : A) → map f (xs ++ (x ∷ [])) ≡ map f xs ++ (f x ∷ [])
map_last f [] x = refl
map_last f (y ∷ xs) x = ap (λ ys. f y ∷ ys) (map_last f xs x)

loosened : {p : Place} (xs : List Run) → Chain Differs p xs → Chain Anything p xs
loosened [] end = end
loosened (x ∷ xs) (link a g d h) = link a g tt (loosened xs h)

-- ---- one include after the other

-- the first j cursors stand before the parts of the first j includes
pub record Opening (bs : List Block) (b : Block) (ix cs : List ℕ) (j : ℕ) : Type 0 where
  pub inside : (m : ℕ) → m < j → cursor_at cs m + 10 * cursor_left cs m ≤ length ix
  pub are : (m : ℕ) → m < j → source ix cs m ≡ part_in bs (get_or b.includes m no_reference)

module _ (s : Bytes) (order ix starts : List ℕ) (bs : List Block) (b : Block) where
  pub opening_start : (cs : List ℕ) → Opening bs b ix cs 0
  opening_start cs = record { inside = λ m h. absurd (omega arith); are = λ m h. absurd (omega arith) }

  -- where the part of include j stands
  pub include_stands : Known s order ix starts bs → Rooted s bs b → (j k : ℕ) → j < length b.includes → k < length order
      → (block_at_place s order k).reference ≡ get_or b.includes j no_reference → Stands ix (get_or starts k 0) (part_in bs (get_or b.includes j no_reference))
  include_stands known rooted j k h m e =
      let i : BlockReference = get_or b.includes j no_reference in
      let d = rooted.found i (in_place no_reference b.includes j h) in
      subst (λ (r : BlockReference). Stands ix (get_or starts k 0) (part_in bs r)) d.2 (known.parts k m d.0 d.1 (d.2 ∙ sym e))

  module _ (cs : List ℕ) (j start : ℕ) (room : 2 * j + 1 < length cs) where
    abbrev next_cs : List ℕ
    next_cs = set (set cs (2 * j) (start + 1)) (2 * j + 1) (get_or ix start 0)

    at_same : cursor_at next_cs j ≡ start + 1
    unfolding cursor_at
    at_same = get_or-set_other (set cs (2 * j) (start + 1)) (2 * j + 1) (2 * j) (get_or ix start 0) 0 (λ (e : 2 * j ≡ 2 * j + 1). omega arith) ∙ get_or-set_same
        cs (2 * j) (start + 1) 0 (omega arith)

    left_same : cursor_left next_cs j ≡ get_or ix start 0
    unfolding cursor_left
    left_same = let h : 2 * j + 1 < length (set cs (2 * j) (start + 1)) = omega (arith, length-set cs (2 * j) (start + 1)) in get_or-set_same (set cs (2 * j)
        (start + 1)) (2 * j + 1) (get_or ix start 0) 0 h

    at_before : (m : ℕ) → m < j → cursor_at next_cs m ≡ cursor_at cs m
    unfolding cursor_at
    at_before m h =
        get_or-set_other (set cs (2 * j) (start + 1)) (2 * j + 1) (2 * m) (get_or ix start 0) 0 (λ (e : 2 * m ≡ 2 * j + 1). omega arith)
        ∙ get_or-set_other cs (2 * j) (2 * m) (start + 1) 0 (λ (e : 2 * m ≡ 2 * j). omega arith)

    left_before : (m : ℕ) → m < j → cursor_left next_cs m ≡ cursor_left cs m
    unfolding cursor_left
    left_before m h =
        get_or-set_other (set cs (2 * j) (start + 1)) (2 * j + 1) (2 * m + 1) (get_or ix start 0) 0 (λ (e : 2 * m + 1 ≡ 2 * j + 1). omega arith)
        ∙ get_or-set_other cs (2 * j) (2 * m + 1) (start + 1) 0 (λ (e : 2 * m + 1 ≡ 2 * j). omega arith)

    pub opening_on : Opening bs b ix cs j → Stands ix start (part_in bs (get_or b.includes j no_reference)) → Opening bs b ix (set (set cs (2 * j) (start +
        1)) (2 * j + 1) (get_or ix start 0)) (j + 1)
    unfolding source part_at
    opening_on h k =
        record {
          inside = λ m n. within m (dec_lt m j) n;
          are = λ m n. equal m (dec_lt m j) n;
        }
      where
        within : (m : ℕ) → Dec (m < j) → m < j + 1 → cursor_at next_cs m + 10 * cursor_left next_cs m ≤ length ix
        within m (yes n) u = rw (at_before m n, left_before m n) (h.inside m n)
        within m (no n) u = let z : m ≡ j = omega arith in rw (z, at_same, left_same) k.inside

        equal : (m : ℕ) → Dec (m < j) → m < j + 1 → runs_from (cursor_left next_cs m) (drop (cursor_at next_cs m) ix) ≡ part_in bs (get_or b.includes m
            no_reference)
        equal m (yes n) u = rw (at_before m n, left_before m n) (h.are m n)
        equal m (no n) u = let z : m ≡ j = omega arith in rw (z, at_same, left_same) k.are

  pub opening_end : (cs : List ℕ) (n : ℕ) → n ≡ length b.includes → 2 * n ≤ length cs → Opening bs b ix cs n → Opened bs b ix cs n
  unfolding named_by unions
  opening_end cs n e room h =
      record {
        ready = record {
          room = room;
          inside = h.inside;
          chains = λ k m. subst (λ (xs : List Run). Chain Anything anywhere xs) (sym (h.are k m))
              (loosened (part_in bs (get_or b.includes k no_reference))
              (runs_chain (part_in bs (get_or b.includes k no_reference)) (part_runs bs (get_or b.includes k no_reference))));
        };
        names = λ l. all l n (omega arith) ∙ ap (λ (is : List BlockReference). unions (map (λ i. voters_in (part_in bs i) l) is))
            (ap (λ (k : ℕ). take k b.includes) e ∙ take-length b.includes);
      }
    where
      all : (l : TransactionLocator) (k : ℕ) → k ≤ n → named_by ix cs k l ≡ unions (map (λ i. voters_in (part_in bs i) l) (take k b.includes))
      all l zero m = refl
      all l (suc k) m =
          let f : BlockReference → AuthoritySet = λ i. voters_in (part_in bs i) l in
          let i : BlockReference = get_or b.includes k no_reference in
          ap (λ (v : AuthoritySet). united v (voters_in (source ix cs k) l)) (all l k (omega arith))
          ∙ ap (λ (xs : List Run). united (unions (map (λ i. voters_in (part_in bs i) l) (take k b.includes))) (voters_in xs l)) (h.are k (omega arith))
          ∙ sym (unions_more (map (λ i. voters_in (part_in bs i) l) (take k b.includes)) (voters_in (part_in bs i) l))
          ∙ sym (ap unions (ap (map (λ i. voters_in (part_in bs i) l)) (take-suc b.includes k no_reference (omega arith)) ∙ map_last (λ i. voters_in (part_in
          bs i) l) (take k b.includes) i))

-- ---- the part

-- a block's own runs as a source
module _ (b : Block) (ws : List ℕ) (m : ℕ) (o : OwnRuns b ws m) (ms : List ℕ) (long : length ms ≡ 2) (first : get_or ms 0 0 ≡ 0) (left : get_or ms 1 0 ≡ m)
  where
    own_source : source ws ms 0 ≡ runs_from m ws
    unfolding source cursor_at cursor_left
    own_source = ap (λ (k : ℕ). runs_from k (drop (get_or ms 0 0) ws)) left ∙ ap (λ (k : ℕ). runs_from m (drop k ws)) first

    alone : (k : ℕ) → k < 1 → k ≡ 0
    alone k h = omega arith

    pub own_ready : Ready ws ms 1
    unfolding cursor_at cursor_left
    own_ready =
        record {
          room = omega arith;
          inside = λ k h. rw (alone k h) (omega (arith, first, left, o.inside));
          chains = λ k h. rw (alone k h, own_source) o.chain;
        }

    own_names : (l : TransactionLocator) → named_by ws ms 1 l ≡ own_vote b l
    unfolding named_by
    own_names l = nobody_united (voters_in (source ws ms 0) l) ∙ ap (λ (xs : List Run). voters_in xs l) own_source ∙ o.names l

    pub opened_runs : (bs : List Block) (ix cs : List ℕ) (n : ℕ) → Opened bs b ix cs n
        → RunsOf (together ws ms ix cs n) (part_from b (map (part_in bs) b.includes))
    unfolding part_from together
    opened_runs bs ix cs n h =
        stretched_runs (λ l. united (named_by ws ms 1 l) (named_by ix cs n l)) (own_runs b ++ flatten (map (part_in bs) b.includes))
        (λ l.
        from_names b (part_in bs) (λ i. voters_in (part_in bs i) l) l (λ r. refl)
        ∙ ap (united (own_vote b l)) (sym (h.names l))
        ∙ ap (λ (v : AuthoritySet). united v (named_by ix cs n l)) (sym (own_names l)))
