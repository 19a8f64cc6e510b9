-- One step of a path, as the tables of distances tell it. Assumes nothing.
use mathlib.Core.Path.{◌≡◌, refl, sym, ap, ◌∙◌}
use mathlib.Core.Bool.{Bool, true, false, ◌||◌}
use mathlib.Core.List.{List, [], ◌∷◌, map}
use mathlib.Core.Option
use mathlib.Core.Option.{Option, none, some}
use Prim.Native.Nat.{ℕ, zero, suc, ◌+◌, ◌-◌, ◌*◌, ◌<◌}
use native.Mathlib.Omega.{arith}
use native.Mathlib.Numerals.{add-one, sub-one}
use lib.ListN.{length, get_or, set}
use lib.Seq.{sets}
use borrow.Author.Tests.{eqb-true}
use Rattle.base.specs.Lists.{pick, any_of, holds}
use Rattle.base.specs.Le.{Bytes}
use Rattle.base.proofs.Tests.{not_both}
use Rattle.committee.specs.Committee.{AuthorityIndex}
use Rattle.record_spec.specs.Reference.{BlockReference, TransactionLocator}
use Rattle.record_spec.specs.Block.{Block}
use Rattle.record_spec.specs.Record.{no_reference}
use Rattle.final_spec.specs.Finality.{blocks_of}
use Rattle.final_block_votes.specs.Walk.{SortedStore, block_at_place}
use Rattle.final_block_votes.proofs.Sorting.{sorted_well, place_stored}
use Rattle.slip_spec.specs.Paths.{least_distance, is_away, first_place, steps_from, path_to}
use Rattle.slip_spec.specs.Reading.{votes_as}
use Rattle.slip_spec.proofs.Distances.{named_stored, distance_step, suc_only}
use Rattle.slip_write_distances.specs.Near.{away, word, Distances}
use Rattle.slip_write_distances.proofs.Folding.{some_near}

-- the test holds at the first place, where it holds of some element
place_holds : {A : Type 0} (d : A) (p : A → Bool) (xs : List A) → any_of p xs ≡ true → (first_place p xs < length xs)
    × (p (get_or xs (first_place p xs) d) ≡ true)
unfolding first_place any_of
place_holds d p [] h = absurd (not_both h refl)
place_holds d p (x ∷ xs) h = go (p x) refl h (place_holds d p xs)
  where
    go : (t : Bool) → p x ≡ t → t || any_of p xs ≡ true → (any_of p xs ≡ true → (first_place p xs < length xs) × (p (get_or xs (first_place p xs) d) ≡ true))
        → (pick t 0 (suc (first_place p xs)) < suc (length xs)) × (p (get_or (x ∷ xs) (pick t 0 (suc (first_place p xs))) d) ≡ true)
    go true e k ih = (omega arith, e)
    go false e k ih = let r = ih k in (omega (arith, r.0), r.1)

is_away_lem : (n : ℕ) (o : Option ℕ) → is_away n o ≡ true → o ≡ some n
unfolding is_away holds
is_away_lem n none h = absurd (not_both h refl)
is_away_lem n (some k) h = ap some (eqb-true k n h)

word_some : (o : Option ℕ) (n : ℕ) → word o ≡ n + 1 → o ≡ some n
unfolding word
word_some none n h = absurd (omega arith)
word_some (some k) n h = let e : k ≡ n = omega arith in ap some e

module _ (s : Bytes) (order : List ℕ) (l : TransactionLocator) (near steps : List ℕ) (o : SortedStore s order)
    (d : Distances s order l near steps (length order))
    (p : ℕ) (h : p < length order) (a : AuthorityIndex) (w : a < 128) where
  abbrev b : Block
  b = block_at_place s order p

  abbrev votes : Block → Bool
  votes = votes_as l a

  away_is : (n : ℕ) → get_or near (128 * p + a) 0 ≡ n + 1 → away s l a b.reference ≡ some n
  away_is n e = word_some (away s l a b.reference) n (sym (d.known p h a w) ∙ e)

  -- the whole path, of as many steps as the table says
  pub path_starts : (n : ℕ) → get_or near (128 * p + a) 0 ≡ n + 1 → path_to votes (blocks_of s) b ≡ steps_from votes (blocks_of s) n b
  unfolding path_to away
  path_starts n e = ap (λ (x : Option ℕ). steps_from votes (blocks_of s) (Option.get_or x 0) b) (away_is n e)

  module _ (n : ℕ) (e : get_or near (128 * p + a) 0 ≡ suc n + 1) where
    abbrev j : ℕ
    j = get_or steps (128 * p + a) 0

    least : least_distance (map (away s l a) b.includes) ≡ some n
    unfolding away
    least = suc_only (votes b) _ n (sym (distance_step votes (sorted_well s order o) b (place_stored s order o p h)) ∙ away_is (suc n) e)

    first : j ≡ first_place (λ i. is_away n (away s l a i)) b.includes
    first = d.led p h a w n (away_is (suc n) e)

    found : (j < length b.includes) × (is_away n (away s l a (get_or b.includes j no_reference)) ≡ true)
    found = rw first (place_holds no_reference (λ i. is_away n (away s l a i)) b.includes (some_near (away s l a) n b.includes least))

    one_word : (i : ℕ) → i < length order → (block_at_place s order i).reference ≡ get_or b.includes j no_reference → get_or near (128 * i + a) 0 ≡ n + 1
    unfolding word
    one_word i m q =
        d.known i m a w ∙ ap (λ (r : BlockReference). word (away s l a r)) q ∙ ap word (is_away_lem n _ found.1) ∙ sym (add-one n)

    one_step : (i : ℕ) → i < length order → (block_at_place s order i).reference ≡ get_or b.includes j no_reference
        → steps_from votes (blocks_of s) (suc n) b ≡ j ∷ steps_from votes (blocks_of s) n (block_at_place s order i)
    unfolding steps_from away
    one_step i m q =
        rw (← first, ← q, named_stored (sorted_well s order o) (block_at_place s order i) (place_stored s order o i m))

  module _ (left : ℕ) (more : 0 < left) (e : get_or near (128 * p + a) 0 ≡ left + 1) where
    -- the include is there
    pub step_inside : get_or steps (128 * p + a) 0 < length b.includes
    step_inside = go left more e
      where
        go : (n : ℕ) → 0 < n → get_or near (128 * p + a) 0 ≡ n + 1 → get_or steps (128 * p + a) 0 < length b.includes
        go zero m f = absurd (omega arith)
        go (suc n) m f = (found n f).0

    module _ (i : ℕ) (m : i < length order) (q : (block_at_place s order i).reference ≡ get_or b.includes (get_or steps (128 * p + a) 0) no_reference) where
      -- and its block is one nearer
      pub step_word : get_or near (128 * i + a) 0 ≡ left - 1 + 1
      step_word = go left more e
        where
          go : (n : ℕ) → 0 < n → get_or near (128 * p + a) 0 ≡ n + 1 → get_or near (128 * i + a) 0 ≡ n - 1 + 1
          go zero k f = absurd (omega arith)
          go (suc n) k f = rw (sub-one (suc n)) (one_word n f i m q)

      pub step_written : (out : List ℕ) (to : ℕ)
          → sets out to (steps_from votes (blocks_of s) left b) ≡ sets (set out to (get_or steps (128 * p + a) 0)) (to + 1)
          (steps_from votes (blocks_of s) (left - 1) (block_at_place s order i))
      step_written out to = go left more e
        where
          go : (n : ℕ) → 0 < n → get_or near (128 * p + a) 0 ≡ n + 1
              → sets out to (steps_from votes (blocks_of s) n b) ≡ sets (set out to (get_or steps (128 * p + a) 0)) (to + 1)
              (steps_from votes (blocks_of s) (n - 1) (block_at_place s order i))
          go zero k f = absurd (omega arith)
          go (suc n) k f = rw (one_step n f i m q, add-one to, sub-one (suc n))

-- no step left
pub steps_none : (n : ℕ) → n ≡ 0 → (votes : Block → Bool) (bs : List Block) (b : Block) (out : List ℕ) (to : ℕ) → sets out to (steps_from votes bs n b) ≡ out
unfolding steps_from
steps_none n e votes bs b out to = rw e
