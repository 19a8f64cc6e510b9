-- Finding the blocks of which a test holds one after the other, in ascending reference order: their positions and authors. Assumes nothing.
use mathlib.Core.Path.{◌≡◌, refl, sym, ap, subst, ◌∙◌}
use mathlib.Core.Bool.{Bool, true, false, ◌||◌, or-false}
use mathlib.Core.List.{List, [], ◌∷◌, ◌++◌, map, append-nil}
use Prim.Native.Nat.{ℕ, ◌+◌, ◌<◌, ◌≤◌}
use native.Mathlib.Omega.{arith}
use native.Mathlib.Numerals.{add-one}
use lib.Dec.{eqb}
use lib.ListN.{length, get_or, set, take, drop, length-take, length-append, length-set}
use lib.Seq.{take-suc, take-length}
use Rattle.base.specs.Lists.{pick, any_of, keep, ◌∈◌, here, there}
use Rattle.base.specs.Le.{Bytes}
use Rattle.base.proofs.Tests.{same_test}
use Rattle.base.proofs.Lists.{length_keep, keep_append}
use Rattle.base.proofs.Members.{any_in, in_any, in_map, map_in, in_keep, keep_in}
use Rattle.committee.specs.Committee.{AuthorityIndex, Committee}
use Rattle.committee_set.specs.AuthoritySet.{AuthoritySet, nobody, member, inserted, set_of}
use Rattle.committee_set.proofs.Words.{Small, small_nobody, small_inserted, set_ext}
use Rattle.committee_set.proofs.Votes.{member_nobody, member_inserted, member_set_of}
use Rattle.record_spec.specs.Block.{Block, author}
use Rattle.store_spec.specs.Layout.{Entry, entries, ascending}
use Rattle.store_spec.specs.Store.{records_of}
use Rattle.store_spec.specs.Entry.{block_at, sorted_positions}
use Rattle.store_spec.proofs.Loops.{block_of_entry}
use Rattle.store_spec.proofs.Search.{laid_out_lem}
use Rattle.store_spec.proofs.Visit.{ascending_in, in_ascending}
use Rattle.store_spec.proofs.Lookups.{block_entry}
use Rattle.final_spec.specs.Finality.{blocks_of}
use Rattle.final_block_votes.specs.Walk.{Sorted}
use Rattle.final_block_votes.proofs.Sorting.{some_committee, entry_block, sorted_authors}

-- ---- a list written over the front of another

pub written_more : (f q : List ℕ) (x : ℕ) → length f < length q → set (f ++ drop (length f) q) (length f) x ≡ (f ++ (x ∷ [])) ++ drop (length (f ++ (x ∷ []))) q
written_more f [] x h = absurd (omega arith)
written_more [] (y ∷ q) x h = refl
written_more (z ∷ f) (y ∷ q) x h = ap (λ (l : List ℕ). z ∷ l) (written_more f q x (omega arith))

-- ---- the blocks by their positions

module _ (test : Block → Bool) (s : Bytes) where
  abbrev pub holds_at : ℕ → Bool
  holds_at p = test (block_at s p)

  abbrev pub found : List ℕ → ℕ → List ℕ
  found order k = keep holds_at (take k order)

  pub found_yes : (order : List ℕ) (k : ℕ) → k < length order → holds_at (get_or order k 0) ≡ true → found order (k + 1) ≡ found order k
      ++ (get_or order k 0 ∷ [])
  unfolding keep
  found_yes order k h e = rw (add-one k, take-suc order k 0 h, keep_append holds_at (take k order) (get_or order k 0 ∷ []), e)

  pub found_no : (order : List ℕ) (k : ℕ) → k < length order → holds_at (get_or order k 0) ≡ false → found order (k + 1) ≡ found order k
  unfolding keep
  found_no order k h e = rw (add-one k, take-suc order k 0 h, keep_append holds_at (take k order) (get_or order k 0 ∷ []), e) (append-nil _)

  found_few : (order : List ℕ) (k : ℕ) → k ≤ length order → length (found order k) ≤ k
  found_few order k h = omega (arith, length_keep holds_at (take k order), length-take k order)

  keep_map : (es : List Entry) → ((e : Entry) → e ∈ es → block_at s e.position ≡ e.block)
      → keep holds_at (map (λ e. e.position) es) ≡ map (λ e. e.position) (keep (λ e. test e.block) es)
  unfolding keep
  keep_map [] f = refl
  keep_map (e ∷ es) f = rw (f e here, keep_map es (λ d m. f d (there m))) (go (test e.block))
    where
      go : (t : Bool) → pick t (e.position ∷ map (λ d. d.position) (keep (λ d. test d.block) es)) (map (λ d. d.position) (keep (λ d. test d.block) es))
          ≡ map (λ d. d.position) (pick t (e ∷ keep (λ d. test d.block) es) (keep (λ d. test d.block) es))
      go true = refl
      go false = refl

  pub found_all : (c : Committee) (order : List ℕ) → Sorted c s order → found order (length order) ≡ map (λ e. e.position)
      (keep (λ e. test e.block) (ascending (entries (records_of s))))
  unfolding sorted_positions
  found_all c order o =
      rw (take-length order, o.places)
      (keep_map (ascending (entries (records_of s))) (λ e m. block_of_entry s (laid_out_lem s o.laid).reads e (ascending_in (entries (records_of s)) e m)))

-- ---- their authors

any_more : {A : Type 0} (p : ℕ → Bool) (g : A → ℕ) (xs : List A) (x : A) → any_of p (map g (xs ++ (x ∷ []))) ≡ any_of p (map g xs) || p (g x)
unfolding any_of
any_more p g [] x = or-false (p (g x))
any_more p g (y ∷ ys) x = go (p (g y)) (any_more p g ys x)
  where
    go : (t : Bool) → any_of p (map g (ys ++ (x ∷ []))) ≡ any_of p (map g ys) || p (g x) → t || any_of p (map g (ys ++ (x ∷ []))) ≡ (t || any_of p (map g ys))
        ||
        p (g x)
    go true h = refl
    go false h = h

small_set : (as' : List AuthorityIndex) → ((a : AuthorityIndex) → a ∈ as' → a < 128) → Small (set_of as')
unfolding set_of
small_set [] f = small_nobody
small_set (a ∷ as') f = small_inserted (set_of as') a (f a here) (small_set as' (λ x m. f x (there m)))

-- a set holds the authors of the blocks at some positions
pub record Authors (s : Bytes) (ps : List ℕ) (v : AuthoritySet) : Type 0 where
  pub small : Small v
  pub are : (a : AuthorityIndex) → member v a ≡ any_of (eqb a) (map (λ p. author (block_at s p)) ps)

pub authors_none : (s : Bytes) → Authors s [] nobody
unfolding any_of
authors_none s = record { small = small_nobody; are = λ a. member_nobody a }

pub authors_more : (s : Bytes) (ps : List ℕ) (v : AuthoritySet) (p : ℕ) → author (block_at s p) < 128 → Authors s ps v → Authors s (ps ++ (p ∷ []))
    (inserted v (author (block_at s p)))
authors_more s ps v p h w =
    record {
      small = small_inserted v (author (block_at s p)) h w.small;
      are = λ a.
          member_inserted v (author (block_at s p)) a ∙ ap (λ (t : Bool). t || eqb a (author (block_at s p))) (w.are a)
          ∙ sym (any_more (eqb a) (λ q. author (block_at s q)) ps p);
    }

module _ (c : Committee) (s : Bytes) (order : List ℕ) (o : Sorted c s order) where
  pub position_block : (p : ℕ) → p ∈ order → block_at s p ∈ blocks_of s
  unfolding blocks_of sorted_positions
  position_block p m =
      let e = map_in (λ d. d.position) (ascending (entries (records_of s))) (subst (λ (ps : List ℕ). p ∈ ps) o.places m) in
      let k = ascending_in (entries (records_of s)) e.0 e.1 in
      rw (← e.2, block_of_entry s (laid_out_lem s o.laid).reads e.0 k) (entry_block (records_of s) e.0 k)

  pub block_position : (b : Block) → b ∈ blocks_of s → (p : ℕ) × (p ∈ order) × (block_at s p ≡ b)
  unfolding blocks_of sorted_positions
  block_position b m =
      let e = block_entry (records_of s) b m in
      let k : e.0.position ∈ sorted_positions (records_of s) = in_map (λ d. d.position) (in_ascending (entries (records_of s)) e.0 e.1) in
      (e.0.position, subst (λ (ps : List ℕ). e.0.position ∈ ps) (sym o.places) k, block_of_entry s (laid_out_lem s o.laid).reads e.0 e.1 ∙ e.2)

  pub authors_all : (test : Block → Bool) (v : AuthoritySet) → Authors s (found test s order (length order)) v → v
      ≡ set_of (map author (keep test (blocks_of s)))
  authors_all test v w =
      set_ext v (set_of (map author (keep test (blocks_of s)))) w.small (small_set (map author (keep test (blocks_of s))) below)
      (λ a h. w.are a ∙ same_test _ _ (there_too a) (back a) ∙ sym (member_set_of (map author (keep test (blocks_of s))) a))
    where
      below : (a : AuthorityIndex) → a ∈ map author (keep test (blocks_of s)) → a < 128
      below a m =
          let b = map_in author (keep test (blocks_of s)) m in
          rw (← b.2) (sorted_authors s order (some_committee o) b.0 (keep_in test (blocks_of s) b.1).0)

      there_too : (a : AuthorityIndex) → any_of (eqb a) (map (λ p. author (block_at s p)) (found test s order (length order))) ≡ true → any_of (eqb a)
          (map author (keep test (blocks_of s))) ≡ true
      there_too a h =
          let x = any_in (eqb a) (map (λ p. author (block_at s p)) (found test s order (length order))) h in
          let p = map_in (λ q. author (block_at s q)) (found test s order (length order)) x.1 in
          let k = keep_in (holds_at test s) (take (length order) order) p.1 in
          let m : p.0 ∈ order = subst (λ (ps : List ℕ). p.0 ∈ ps) (take-length order) k.0 in
          in_any (eqb a) (in_map author (in_keep test (blocks_of s) (position_block p.0 m) k.1)) (ap (eqb a) p.2 ∙ x.2)

      back : (a : AuthorityIndex) → any_of (eqb a) (map author (keep test (blocks_of s))) ≡ true → any_of (eqb a)
          (map (λ p. author (block_at s p)) (found test s order (length order))) ≡ true
      back a h =
          let x = any_in (eqb a) (map author (keep test (blocks_of s))) h in
          let b = map_in author (keep test (blocks_of s)) x.1 in
          let k = keep_in test (blocks_of s) b.1 in
          let p = block_position b.0 k.0 in
          let m : p.0 ∈ take (length order) order = subst (λ (ps : List ℕ). p.0 ∈ ps) (sym (take-length order)) p.1 in
          let e : author (block_at s p.0) ≡ x.0 = ap author p.2 ∙ b.2 in
          in_any (eqb a) (in_map (λ q. author (block_at s q)) (in_keep (holds_at test s) (take (length order) order) m (ap test p.2 ∙ k.1)))
          (ap (eqb a) e ∙ x.2)

-- what a walk has when it has read the blocks at the first k places
pub record Walked (test : Block → Bool) (s : Bytes) (order ps₀ ps : List ℕ) (authors : AuthoritySet) (n k : ℕ) : Type 0 where
  pub inside : k ≤ length order
  pub few : n ≤ k
  pub room : length ps ≡ length ps₀
  pub many : n ≡ length (found test s order k)
  pub written : ps ≡ found test s order k ++ drop (length (found test s order k)) ps₀
  pub authored : Authors s (found test s order k) authors

pub walked_start : (test : Block → Bool) (s : Bytes) (order ps : List ℕ) → Walked test s order ps ps nobody 0 0
unfolding keep
walked_start test s order ps = record { inside = omega arith; few = omega arith; room = refl; many = refl; written = refl; authored = authors_none s }

module _ (test : Block → Bool) (s : Bytes) (order ps₀ ps : List ℕ) (authors : AuthoritySet) (n k : ℕ) (w : Walked test s order ps₀ ps authors n k)
    (h : k < length order) where
  pub walked_no : holds_at test s (get_or order k 0) ≡ false → Walked test s order ps₀ ps authors n (k + 1)
  walked_no e =
      let f = found_no test s order k h e in
      record {
        inside = omega arith;
        few = omega (arith, w.few);
        room = w.room;
        many = w.many ∙ ap length (sym f);
        written = rw f w.written;
        authored = subst (λ (qs : List ℕ). Authors s qs authors) (sym f) w.authored;
      }

  pub walked_yes : holds_at test s (get_or order k 0) ≡ true → author (block_at s (get_or order k 0)) < 128 → length order ≤ length ps₀
      → Walked test s order ps₀ (set ps n (get_or order k 0)) (inserted authors (author (block_at s (get_or order k 0)))) (n + 1) (k + 1)
  walked_yes e a q =
      let f = found_yes test s order k h e in
      let qs : List ℕ = found test s order k in
      let p : ℕ = get_or order k 0 in
      record {
        inside = omega arith;
        few = omega (arith, w.few);
        room = length-set ps n p ∙ w.room;
        many = omega (arith, w.many, ap length f, length-append qs (p ∷ []));
        written = rw (f, w.many, w.written) (written_more qs ps₀ p (omega (arith, found_few test s order k w.inside)));
        authored = subst (λ (xs : List ℕ). Authors s xs (inserted authors (author (block_at s p)))) (sym f) (authors_more s qs authors p a w.authored);
      }
