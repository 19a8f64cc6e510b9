-- The rows of one block after the other. Assumes nothing.
use mathlib.Core.Path.{◌≡◌, refl, sym, ap, ◌∙◌, subst}
use mathlib.Core.Bool.{Bool, true, false, and-false}
use mathlib.Core.List.{List, [], ◌∷◌, ◌++◌, map}
use mathlib.Core.Option
use mathlib.Core.Option.{Option, none, some, none-ne-some, some-injective}
use Prim.Native.Nat.{ℕ, suc, ◌+◌, ◌*◌, ◌≤◌, ◌<◌}
use native.Mathlib.Omega.{arith}
use native.Mathlib.Decide.{ℕ_discrete}
use native.Mathlib.Numerals.{add-one}
use lib.Dec.{eqb}
use lib.ListN.{length, get_or, set, take, length-map, length-set}
use lib.Seq.{get_or-set_same, get_or-set_other, take-suc, take-length, length-take-le}
use borrow.Author.Tests.{eq-eqb, ne_eqb}
use Rattle.base.specs.Lists.{pick}
use Rattle.base.specs.Le.{Bytes}
use Rattle.base.proofs.Le.{AllBytes}
use Rattle.base.proofs.Tests.{or_right}
use Rattle.committee.specs.Committee.{AuthorityIndex}
use Rattle.committee_set.specs.AuthoritySet.{nobody, member, inserted}
use Rattle.committee_set.proofs.Votes.{member_nobody, member_inserted}
use Rattle.record_spec.specs.Reference.{BlockReference, TransactionLocator}
use Rattle.record_spec.specs.Block.{Block, author}
use Rattle.record_spec.specs.Record.{no_reference}
use Rattle.final_spec.specs.Voters.{votes_for, own_vote}
use Rattle.final_spec.specs.Finality.{blocks_of}
use Rattle.store_spec.specs.Store.{records_of}
use Rattle.final_block_votes.proofs.Along.{sorted_count}
use Rattle.final_block_votes.specs.Walk.{SortedStore, block_at_place}
use Rattle.final_block_votes.proofs.Sorting.{sorted_well, place_stored, place_author}
use Rattle.slip_spec.specs.Paths.{least_distance, distance, is_away, first_place}
use Rattle.slip_spec.specs.Reading.{votes_as}
use Rattle.slip_spec.proofs.Distances.{distance_step}
use Rattle.slip_spec.proofs.Fitting.{distance_below}
use Rattle.final_spec.proofs.Fits.{block_fits}
use Rattle.slip_write_distances.specs.Near.{away, word, Distances}
use Rattle.slip_write_rows.specs.Rows.{Beside, Row, Folded}
use Rattle.slip_write_rows.proofs.Rows.{beside_start, beside_more}
use Rattle.slip_write_distances.proofs.Folding.{nearer_word, least_next, first_next}

-- the author of a block that votes is in the set of its own vote
pub own_member : (b : Block) (l : TransactionLocator) → member (own_vote b l) (author b) ≡ votes_for b l
unfolding own_vote
own_member b l = go (votes_for b l)
  where
    go : (t : Bool) → member (pick t (inserted nobody (author b)) nobody) (author b) ≡ t
    go true = member_inserted nobody (author b) (author b) ∙ or_right (member nobody (author b)) _ (eq-eqb (author b) (author b) refl)
    go false = member_nobody (author b)

module _ (s : Bytes) (order : List ℕ) (l : TransactionLocator) where
  -- the least distance of the first j includes of the block at a place
  abbrev pub least_of : ℕ → ℕ → AuthorityIndex → Option ℕ
  least_of k j a = least_distance (map (away s l a) (take j (block_at_place s order k).includes))

  -- when the first j includes of the block at place k are read
  pub record Reading (near₀ steps₀ : List ℕ) (k : ℕ) (near steps : List ℕ) (j : ℕ) : Type 0 where
    pub words : Row near₀ near k 128 (λ a. word (Option.map suc (least_of k j a)))
    pub beside : Beside steps₀ steps k 128
    pub firsts : (a : ℕ) → a < 128 → (m : ℕ) → least_of k j a ≡ some m
        → get_or steps (128 * k + a) 0 ≡ first_place (λ i. is_away m (away s l a i)) (take j (block_at_place s order k).includes)

  module _ (near₀ steps₀ : List ℕ) (k : ℕ) (d : Distances s order l near₀ steps₀ k) where
    abbrev is : List BlockReference
    is = (block_at_place s order k).includes

    pub reading_start : Reading near₀ steps₀ k near₀ steps₀ 0
    unfolding least_distance word
    reading_start =
        record {
          words = record { beside = beside_start near₀ k 128; are = λ a h. d.fresh (128 * k + a) (omega arith) };
          beside = beside_start steps₀ k 128;
          firsts = λ a h m e. absurd (none-ne-some m e);
        }

    module _ (near steps : List ℕ) (j : ℕ) (r : Reading near₀ steps₀ k near steps j) (inside : j < length is) (i : ℕ) (low : i < k)
        (at : (block_at_place s order i).reference ≡ get_or is j no_reference) where
      -- the include's row
      pub include_word : (a : ℕ) → a < 128 → get_or near (128 * i + a) 0 ≡ word (away s l a (get_or is j no_reference))
      include_word a h = r.words.beside.below (128 * i + a) (omega arith) ∙ d.known i low a h ∙ ap (λ (q : BlockReference). word (away s l a q)) at

      next : take (j + 1) is ≡ take j is ++ (get_or is j no_reference ∷ [])
      next = rw (add-one j) (take-suc is j no_reference inside)

      pub reading_more : (near' steps' : List ℕ) → Folded near steps k i j near' steps' 128 → Reading near₀ steps₀ k near' steps' (j + 1)
      reading_more near' steps' w =
          record {
            words = record { beside = beside_more near₀ near near' k 128 r.words.beside w.words.beside; are = words };
            beside = beside_more steps₀ steps steps' k 128 r.beside w.firsts.beside;
            firsts = firsts;
          }
        where
          words : (a : ℕ) → a < 128 → get_or near' (128 * k + a) 0 ≡ word (Option.map suc (least_of k (j + 1) a))
          words a h =
              rw (w.words.are a h, include_word a h, r.words.are a h, next, least_next (away s l a) (take j is) (get_or is j no_reference))
              (nearer_word (least_of k j a) (away s l a (get_or is j no_reference)))

          firsts : (a : ℕ) → a < 128 → (m : ℕ) → least_of k (j + 1) a ≡ some m → get_or steps' (128 * k + a) 0 ≡ first_place (λ q. is_away m (away s l a q))
              (take (j + 1) is)
          firsts a h m e =
              rw (w.firsts.are a h, include_word a h, r.words.are a h, next)
              (first_next (away s l a) (take j is) (get_or is j no_reference) j (get_or steps (128 * k + a) 0) (sym (length-take-le j is (omega arith)))
              (r.firsts a h) m
              (subst (λ (rs : List BlockReference). least_distance (map (away s l a) rs) ≡ some m) next e))

    module _ (o : SortedStore s order) (h : k < length order) (near steps : List ℕ) (r : Reading near₀ steps₀ k near steps (length is)) (room : k < 1024) where
      abbrev b : Block
      b = block_at_place s order k

      all_least : (a : ℕ) → least_of k (length is) a ≡ least_distance (map (away s l a) is)
      all_least a = ap (λ (rs : List BlockReference). least_distance (map (away s l a) rs)) (take-length is)

      step : (a : ℕ) → away s l a b.reference ≡ pick (votes_as l a b) (some 0) (Option.map suc (least_of k (length is) a))
      unfolding away
      step a =
          distance_step (votes_as l a) (sorted_well s order o) b (place_stored s order o k h)
          ∙ ap (λ (x : Option ℕ). pick (votes_as l a b) (some 0) (Option.map suc x)) (sym (all_least a))

      other : (a : ℕ) → votes_as l a b ≡ false → away s l a b.reference ≡ Option.map suc (least_of k (length is) a)
      other a e = step a ∙ rw e

      own_votes : votes_for b l ≡ true → votes_as l (author b) b ≡ true
      unfolding votes_as
      own_votes e = rw (eq-eqb (author b) (author b) refl, e)

      own : votes_for b l ≡ true → away s l (author b) b.reference ≡ some 0
      own e = step (author b) ∙ rw (own_votes e)

      small : author b < 128
      small = place_author s order o k h

      -- the index of the first include that is one nearer
      led_here : (a : ℕ) → a < 128 → (m : ℕ) → away s l a b.reference ≡ some (suc m) → get_or steps (128 * k + a) 0 ≡ first_place
          (λ i. is_away m (away s l a i)) is
      led_here a n m e = go (votes_as l a b) refl
        where
          least : (x : Option ℕ) → Option.map suc x ≡ some (suc m) → x ≡ some m
          least none q = absurd (none-ne-some (suc m) q)
          least (some y) q = let z : suc y ≡ suc m = some-injective _ _ q in let u : y ≡ m = omega arith in ap some u

          go : (t : Bool) → votes_as l a b ≡ t → get_or steps (128 * k + a) 0 ≡ first_place (λ i. is_away m (away s l a i)) is
          go true q =
              let z : 0 ≡ suc m = some-injective _ _ (sym (step a ∙ rw q) ∙ e) in
              absurd (omega arith)
          go false q = r.firsts a n m (least _ (sym (other a q) ∙ e)) ∙ ap (λ (rs : List BlockReference). first_place (λ i. is_away m (away s l a i)) rs)
              (take-length is)

      led_all : (q : ℕ) → q < k + 1 → (a : ℕ) → a < 128 → (m : ℕ) → away s l a (block_at_place s order q).reference ≡ some (suc m)
          → get_or steps (128 * q + a) 0 ≡ first_place (λ i. is_away m (away s l a i)) (block_at_place s order q).includes
      led_all q n a w m e = go (ℕ_discrete q k)
        where
          go : Dec (q ≡ k) → get_or steps (128 * q + a) 0 ≡ first_place (λ i. is_away m (away s l a i)) (block_at_place s order q).includes
          go (yes z) = rw z (led_here a w m (subst (λ (x : ℕ). away s l a (block_at_place s order x).reference ≡ some (suc m)) z e))
          go (no z) = r.beside.below (128 * q + a) (omega arith) ∙ d.led q (omega arith) a w m e

      -- no vote of its own: the row is what the includes give
      reading_without : votes_for b l ≡ false → Distances s order l near steps (k + 1)
      reading_without e =
          record {
            long = r.words.beside.long ∙ d.long;
            long_steps = r.beside.long ∙ d.long_steps;
            known = λ q n a w. known q n a w (ℕ_discrete q k);
            led = led_all;
            fresh = λ x n. r.words.beside.above x (omega arith) ∙ d.fresh x (omega arith);
          }
        where
          nobody : (a : ℕ) → votes_as l a b ≡ false
          nobody a = unfold votes_as in rw e (and-false (eqb (author b) a))

          known : (q : ℕ) → q < k + 1 → (a : ℕ) → a < 128 → Dec (q ≡ k) → get_or near (128 * q + a) 0 ≡ word (away s l a (block_at_place s order q).reference)
          known q n a w (yes z) = rw z (r.words.are a w ∙ ap word (sym (other a (nobody a))))
          known q n a w (no z) = r.words.beside.below (128 * q + a) (omega arith) ∙ d.known q (omega arith) a w

      reading_own : votes_for b l ≡ true → Distances s order l (set near (128 * k + author b) 1) steps (k + 1)
      reading_own e =
          record {
            long = length-set near (128 * k + author b) 1 ∙ r.words.beside.long ∙ d.long;
            long_steps = r.beside.long ∙ d.long_steps;
            known = λ q n a w. known q n a w (ℕ_discrete q k);
            led = led_all;
            fresh = λ x (n : 128 * (k + 1) ≤ x). get_or-set_other near (128 * k + author b) x 1 0 (λ (z : x ≡ 128 * k + author b). omega (arith, small))
                ∙ r.words.beside.above x (omega arith) ∙ d.fresh x (omega arith);
          }
        where
          here : (a : ℕ) → a < 128 → Dec (a ≡ author b) → get_or (set near (128 * k + author b) 1) (128 * k + a) 0 ≡ word (away s l a b.reference)
          here a w (yes z) =
              rw z (get_or-set_same near (128 * k + author b) 1 0 (omega (arith, small, r.words.beside.long, d.long)) ∙ unfold word in ap word (sym (own e)))
          here a w (no z) =
              let f : votes_as l a b ≡ false = unfold votes_as in rw (ne_eqb (author b) a (λ (u : author b ≡ a). z (sym u))) in
              get_or-set_other near (128 * k + author b) (128 * k + a) 1 0 (λ (u : 128 * k + a ≡ 128 * k + author b). z (omega arith)) ∙ r.words.are a w ∙ ap
              word (sym (other a f))

          known : (q : ℕ) → q < k + 1 → (a : ℕ) → a < 128 → Dec (q ≡ k) → get_or (set near (128 * k + author b) 1) (128 * q + a) 0 ≡ word
              (away s l a (block_at_place s order q).reference)
          known q n a w (yes z) = rw z (here a w (ℕ_discrete a (author b)))
          known q n a w (no z) =
              get_or-set_other near (128 * k + author b) (128 * q + a) 1 0 (λ (u : 128 * q + a ≡ 128 * k + author b). omega (arith, small))
              ∙ r.words.beside.below (128 * q + a) (omega arith)
              ∙ d.known q (omega arith) a w

      pub reading_done : (near' : List ℕ) → near' ≡ pick (votes_for b l) (set near (128 * k + author b) 1) near → Distances s order l near' steps (k + 1)
      reading_done near' e = rw e (go (votes_for b l) refl)
        where
          go : (t : Bool) → votes_for b l ≡ t → Distances s order l (pick t (set near (128 * k + author b) 1) near) steps (k + 1)
          go true q = reading_own q
          go false q = reading_without q

  -- ---- what the tables hold fits

  few_blocks : SortedStore s order → length (blocks_of s) ≡ length order
  unfolding blocks_of SortedStore
  few_blocks o = length-map (records_of s) (λ r. r.block) ∙ sym (ap length o.1.places ∙ sorted_count s o.1.laid)

  pub few_steps : SortedStore s order → (a : AuthorityIndex) (r : BlockReference) → word (away s l a r) ≤ length order
  unfolding away word
  few_steps o a r = go (distance (votes_as l a) (blocks_of s) r) refl
    where
      go : (x : Option ℕ) → distance (votes_as l a) (blocks_of s) r ≡ x → word x ≤ length order
      go none e = omega arith
      go (some n) e = omega (arith, distance_below (votes_as l a) (blocks_of s) r n e, few_blocks o)

  -- the index of an include is a byte
  pub few_includes_lem : SortedStore s order → AllBytes s → (k : ℕ) → k < length order → length (block_at_place s order k).includes ≤ 256
  few_includes_lem o bytes k h = (block_fits s bytes (block_at_place s order k) (place_stored s order o k h)).few_includes

  pub fresh_tables : (near steps : List ℕ) → length near ≡ 131072 → length steps ≡ 131072 → ((x : ℕ) → get_or near x 0 ≡ 0) → Distances s order l near steps 0
  fresh_tables near steps p q f =
      record {
        long = p;
        long_steps = q;
        known = λ k (h : k < 0) a w. absurd (omega arith);
        led = λ k (h : k < 0) a w m e. absurd (omega arith);
        fresh = λ x n. f x;
      }
