-- Laws for the functions that write a slip: distances include by include, whom they make a voter, where the certifiers stand. Assumes nothing.
use mathlib.Core.Path.{◌≡◌, refl, sym, ap, ap₂, ◌∙◌}
use mathlib.Core.Bool.{Bool, true, false, not, ◌||◌}
use mathlib.Core.List.{List, [], ◌∷◌, ◌++◌, map}
use mathlib.Core.Option.{Option, none, some}
use Prim.Native.Nat.{ℕ, suc, ◌<◌}
use native.Mathlib.Omega.{arith}
use native.Mathlib.Decide.{dec_lt}
use lib.Dec.{ltb}
use lib.ListN.{length}
use borrow.Author.Tests.{lt-ltb, le-ltb}
use Rattle.base.specs.Lists.{pick, any_of, keep, is_none, ◌∈◌, here, there}
use Rattle.base.specs.Le.{Bytes}
use Rattle.base.proofs.Tests.{same_test, not_both, neither_left, neither_right}
use Rattle.base.proofs.Members.{keep_in}
use Rattle.committee.specs.Committee.{AuthorityIndex, Committee}
use Rattle.committee_set.specs.AuthoritySet.{member}
use Rattle.record_spec.specs.Reference.{TransactionLocator}
use Rattle.record_spec.specs.Block.{Block}
use Rattle.store_spec.specs.Layout.{Record, Entry, entries, placed, ascending}
use Rattle.store_spec.specs.Store.{records_of, store_in_order}
use Rattle.store_spec.specs.Entry.{block_at}
use Rattle.store_spec.proofs.Stored.{WellStored}
use Rattle.store_spec.proofs.Loops.{block_of_entry}
use Rattle.store_spec.proofs.Search.{laid_out_lem}
use Rattle.store_spec.proofs.Check.{order_laid}
use Rattle.store_spec.proofs.Visit.{ascending_in}
use Rattle.final_spec.specs.Voters.{voters}
use Rattle.final_spec.specs.Finality.{blocks_of}
use Rattle.final_spec.proofs.Voters.{voter_counted, counted_voter}
use Rattle.final_readings_spec.specs.Readings.{Reading, certifies_in}
use Rattle.final_readings_spec.specs.Finality.{certifying_positions_in}
use Rattle.slip_spec.specs.Paths.{lesser_distance, least_distance, distance, first_place, steps_from}
use Rattle.slip_spec.specs.Reading.{votes_as}
use Rattle.slip_spec.specs.Writing.{placed_block, ascending_blocks, ordered_certifiers}
use Rattle.slip_spec.proofs.Paths.{on_path_in}
use Rattle.slip_spec.proofs.Accepted.{path_voter}
use Rattle.slip_spec.proofs.Distances.{path_least, steps_lead}
use Rattle.slip_spec.proofs.Naming.{voter_path}
use Rattle.slip_spec.proofs.Ordered.{lower}

-- ---- one include more: the least distance so far, and the first place that has it

lesser_none : (o : Option ℕ) → lesser_distance o none ≡ o
unfolding lesser_distance
lesser_none none = refl
lesser_none (some n) = refl

lesser_same : (o p q : Option ℕ) → lesser_distance o (lesser_distance p q) ≡ lesser_distance (lesser_distance o p) q
unfolding lesser_distance
lesser_same none p q = refl
lesser_same (some k) none q = refl
lesser_same (some k) (some m) none = sym (lesser_none (pick (ltb m k) (some m) (some k)))
lesser_same (some k) (some m) (some n) = split (dec_lt m k) (dec_lt n m) (dec_lt n k)
  where
    split : Dec (m < k) → Dec (n < m) → Dec (n < k)
        → lesser_distance (some k) (lesser_distance (some m) (some n)) ≡ lesser_distance (lesser_distance (some k) (some m)) (some n)
    split (yes a) (yes b) (yes d) = rw (lt-ltb n m b, lt-ltb m k a, lt-ltb n k d, lt-ltb n m b)
    split (yes a) (yes b) (no d) = absurd (omega arith)
    split (yes a) (no b) d = rw (le-ltb n m (omega arith), lt-ltb m k a, le-ltb n m (omega arith))
    split (no a) (yes b) d = rw (lt-ltb n m b, le-ltb m k (omega arith))
    split (no a) (no b) (yes d) = absurd (omega arith)
    split (no a) (no b) (no d) = rw (le-ltb n m (omega arith), le-ltb m k (omega arith), le-ltb n k (omega arith))

pub least_more : (os : List (Option ℕ)) (o : Option ℕ) → least_distance (os ++ (o ∷ [])) ≡ lesser_distance (least_distance os) o
unfolding least_distance
least_more [] o = lesser_none o ∙ unfold lesser_distance in refl
least_more (p ∷ os) o = ap (lesser_distance p) (least_more os o) ∙ lesser_same p (least_distance os) o

module _ {A : Type 0} (p : A → Bool) where
  -- once it holds of an element, the first place stays
  pub place_stays : (xs ys : List A) → any_of p xs ≡ true → first_place p (xs ++ ys) ≡ first_place p xs
  unfolding first_place any_of
  place_stays [] ys h = absurd (not_both h refl)
  place_stays (x ∷ xs) ys h = go (p x) h (place_stays xs ys)
    where
      go : (t : Bool) → t || any_of p xs ≡ true → (any_of p xs ≡ true → first_place p (xs ++ ys) ≡ first_place p xs) → pick t 0 (suc (first_place p (xs ++ ys)))
          ≡
          pick t 0 (suc (first_place p xs))
      go true k ih = refl
      go false k ih = ap suc (ih k)

  -- where it holds of none so far, it is the next that passes
  pub place_new : (xs ys : List A) (y : A) → any_of p xs ≡ false → p y ≡ true → first_place p (xs ++ y ∷ ys) ≡ length xs
  unfolding first_place any_of
  place_new [] ys y h e = rw e
  place_new (x ∷ xs) ys y h e = rw (neither_left (p x) _ h) (ap suc (place_new xs ys y (neither_right (p x) _ h) e))

-- ---- voters

-- a stored block's voters are the authors whose votes are some distance away
pub voter_distance : {bs : List Block} → WellStored bs → (l : TransactionLocator) (a : AuthorityIndex) (b : Block) → b ∈ bs
    → member (voters bs l b.reference) a ≡ not (is_none (distance (votes_as l a) bs b.reference))
voter_distance {bs} w l a b m = same_test _ _ there_is is_there
  where
    away : Option ℕ
    away = distance (votes_as l a) bs b.reference

    there_is : member (voters bs l b.reference) a ≡ true → not (is_none away) ≡ true
    there_is h =
        let p = voter_path w l a b (counted_voter w l a b m h) in
        ap (λ (o : Option ℕ). not (is_none o)) (path_least (votes_as l a) bs w p.0 b m p.1).is ∙ unfold is_none in refl

    some_away : (o : Option ℕ) → away ≡ o → not (is_none o) ≡ true → member (voters bs l b.reference) a ≡ true
    some_away none e h = absurd (not_both h (unfold is_none in refl))
    some_away (some n) e h =
        voter_counted w l a b m
        (path_voter bs bs l a b (steps_from (votes_as l a) bs n b) (steps_lead (votes_as l a) bs w n b m e)
        (λ x y. on_path_in bs (steps_from (votes_as l a) bs n b) b x m y))

    is_there : not (is_none away) ≡ true → member (voters bs l b.reference) a ≡ true
    is_there h = some_away away refl h

-- ---- the certifiers, by their positions

abbrev block_of : Entry → Block
block_of e = e.block

entries_blocks : (rs : List Record) → map block_of (entries rs) ≡ map (λ r. r.block) rs
unfolding entries
entries_blocks [] = refl
entries_blocks (r ∷ rs) = ap {B = List Block} (λ bs. r.block ∷ bs) (entries_blocks rs)

placed_blocks : (e : Entry) (ds : List Entry) → placed_block e.block (map block_of ds) ≡ map block_of (placed e ds)
unfolding placed_block placed
placed_blocks e [] = refl
placed_blocks e (d ∷ ds) = go (lower e.block d.block) (placed_blocks e ds)
  where
    go : (t : Bool) → placed_block e.block (map block_of ds) ≡ map block_of (placed e ds)
        → pick t (e.block ∷ d.block ∷ map block_of ds) (d.block ∷ placed_block e.block (map block_of ds)) ≡ map block_of
        (pick t (e ∷ d ∷ ds) (d ∷ placed e ds))
    go true q = refl
    go false q = ap {B = List Block} (λ bs. d.block ∷ bs) q

ascending_blocks_lem : (es : List Entry) → ascending_blocks (map block_of es) ≡ map block_of (ascending es)
unfolding ascending_blocks ascending
ascending_blocks_lem [] = refl
ascending_blocks_lem (e ∷ es) = ap (placed_block e.block) (ascending_blocks_lem es) ∙ placed_blocks e (ascending es)

keep_map : {A B : Type 0} (f : A → B) (p : B → Bool) (xs : List A) → keep p (map f xs) ≡ map f (keep (λ x. p (f x)) xs)
unfolding keep
keep_map f p [] = refl
keep_map {A} {B} f p (x ∷ xs) = go (p (f x)) (keep_map f p xs)
  where
    go : (t : Bool) → keep p (map f xs) ≡ map f (keep (λ y. p (f y)) xs) → pick t (f x ∷ keep p (map f xs)) (keep p (map f xs)) ≡ map f
        (pick t (x ∷ keep (λ y. p (f y)) xs) (keep (λ y. p (f y)) xs))
    go true q = ap {B = List B} (λ ys. f x ∷ ys) q
    go false q = q

at_positions : (s : Bytes) (es : List Entry) → ((e : Entry) → e ∈ es → block_at s e.position ≡ e.block) → map block_of es ≡ map (block_at s)
    (map (λ e. e.position) es)
at_positions s [] f = refl
at_positions s (e ∷ es) f = ap₂ {C = List Block} (λ b bs. b ∷ bs) (sym (f e here)) (at_positions s es (λ d m. f d (there m)))

stored_blocks : (s : Bytes) → blocks_of s ≡ map block_of (entries (records_of s))
unfolding blocks_of
stored_blocks s = sym (entries_blocks (records_of s))

-- they are the blocks at the positions that the finality question answers
pub certifiers_at : (reading : Reading) (c : Committee) (s : Bytes) (l : TransactionLocator) → store_in_order c s ≡ true
    → ordered_certifiers reading c (blocks_of s) l ≡ map (block_at s) (certifying_positions_in reading c s l)
unfolding ordered_certifiers certifying_positions_in
certifiers_at reading c s l o =
    ap (keep test) sorted ∙ keep_map block_of test (ascending (entries (records_of s)))
    ∙ at_positions s kept (λ e m. block_of_entry s (laid_out_lem s (order_laid c s o)).reads e
    (ascending_in (entries (records_of s)) e (keep_in _ (ascending (entries (records_of s))) m).0))
  where
    test : Block → Bool
    test b = certifies_in reading c (blocks_of s) l b

    kept : List Entry
    kept = keep (λ e. test e.block) (ascending (entries (records_of s)))

    sorted : ascending_blocks (blocks_of s) ≡ map block_of (ascending (entries (records_of s)))
    sorted = ap ascending_blocks (stored_blocks s) ∙ ascending_blocks_lem (entries (records_of s))
