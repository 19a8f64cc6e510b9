-- Pending items, offset by offset: cuts change nothing, a vote is counted in its range, an item with quorum leaves. Assumes nothing.
use mathlib.Core.Path.{◌≡◌, refl, sym, ◌∙◌}
use mathlib.Core.Logic.{◌⊎◌, inl, inr}
use mathlib.Core.List.{List, [], ◌∷◌, ◌++◌, map, flatten}
use mathlib.Core.Option
use mathlib.Core.Option.{Option, none, some}
use mathlib.Core.Bool.{Bool, true, false, not, ◌&&◌, ◌||◌, and-false}
use Prim.Native.Nat.{ℕ, ◌≤◌, ◌<◌}
use native.Mathlib.Omega.{arith}
use native.Mathlib.Nat.{lt_irrefl}
use native.Mathlib.Decide.{dec_lt, dec_le}
use lib.Dec.{ltb, leb, eqb}
use borrow.Author.Tests.{lt-ltb, le-ltb, le-leb, lt-leb, ltb-true, ltb-false, leb-true, eqb-true, eqb-false, eq-eqb, ne_eqb}
use Rattle.base.specs.Lists.{pick, any_of, find, keep}
use Rattle.base.proofs.Tests.{and_left, and_right}
use Rattle.base.proofs.Lists.{Every, none_of, and, every, every_one, every_keep, every_map, every_flatten, Pairs, no_pairs, with_later, pairs_keep, pairs_map}
use Rattle.base.proofs.Lists.{pairs_flatten}
use Rattle.committee.specs.Committee.{AuthorityIndex, Committee, total_stake, is_quorum}
use Rattle.committee_aggregator.specs.StakeAggregator.{StakeAggregator, no_votes, counted, has_quorum}
use Rattle.record_spec.specs.Reference.{TransactionLocatorRange, within}
use Rattle.record_spec.specs.Block.{Block, is_share_at, shared_ranges}
use Rattle.record_spec.proofs.Ranges.{within_yes, within_no, within_true, within_parts}
use Rattle.record_spec.proofs.Runs.{shared_cover}
use Rattle.pending_spec.specs.Items.{Item, item_before, item_holds, item_at, falls_inside, front_of, back_of, cut_item, cut_at, both_cuts, item_within}
use Rattle.pending_spec.specs.Items.{voted_item}
use Rattle.pending_spec.specs.Items.{vote_over, stays, after_leaving, first_vote, registered, register}

-- ---- the view by locator

-- the votes that are held at the offset o of the entry at p
unfoldable pub held_at : List Item → ℕ → ℕ → Option StakeAggregator
held_at xs p o = Option.map (λ x. x.aggregator) (item_at xs p o)

held_cons : (x : Item) (xs : List Item) (p o : ℕ) → held_at (x ∷ xs) p o ≡ pick (item_holds p o x) (some x.aggregator) (held_at xs p o)
unfolding held_at item_at find
held_cons x xs p o = go (item_holds p o x)
  where
    go : (t : Bool) → Option.map (λ y. y.aggregator) (pick t (some x) (find (item_holds p o) xs)) ≡ pick t (some x.aggregator)
        (Option.map (λ y. y.aggregator) (find (item_holds p o) xs))
    go true = refl
    go false = refl

-- ---- cuts

either_part : {A : Type 0} (z u w : Bool) (v r : A) → pick (z && u) v (pick (z && w) v r) ≡ pick (z && (u || w)) v r
either_part false u w v r = refl
either_part true true w v r = refl
either_part true false w v r = refl

-- an item in two parts says of each offset what it said
two_parts : (x : Item) (c p o : ℕ) (r : Option StakeAggregator) → x.start ≤ c → c ≤ x.end
    → pick (item_holds p o (front_of x c)) (some x.aggregator) (pick (item_holds p o (back_of x c)) (some x.aggregator) r) ≡ pick (item_holds p o x)
    (some x.aggregator) r
unfolding item_holds
two_parts x c p o r h k =
    rw (within_parts x.start c x.end o h k) (either_part (eqb x.position p) (within x.start c o) (within c x.end o) (some x.aggregator) r)

-- the test of a cut, by cases
pub data Cut (q c : ℕ) (x : Item) : List Item → Type 0 where
  two : x.position ≡ q → x.start < c → c < x.end → Cut q c x (front_of x c ∷ back_of x c ∷ [])
  complete : (x.position ≡ q → x.start < c → c < x.end → ⊥) → Cut q c x (x ∷ [])

pub cut : (q c : ℕ) (x : Item) → Cut q c x (cut_item q c x)
unfolding cut_item falls_inside
cut q c x = go (eqb x.position q) (ltb x.start c) (ltb c x.end) refl refl refl
  where
    go : (t u v : Bool) → eqb x.position q ≡ t → ltb x.start c ≡ u → ltb c x.end ≡ v
        → Cut q c x (pick (t && (u && v)) (front_of x c ∷ back_of x c ∷ []) (x ∷ []))
    go true true true a b d = two (eqb-true _ _ a) (ltb-true _ _ b) (ltb-true _ _ d)
    go true true false a b d = complete (λ h k (l : c < x.end). omega (arith, ltb-false c x.end d))
    go true false v a b d = complete (λ h (k : x.start < c) l. omega (arith, ltb-false x.start c b))
    go false u v a b d = complete (λ h k l. eqb-false _ _ a h)

held_cut : (q c : ℕ) (x : Item) (ys xs : List Item) (p o : ℕ) → Cut q c x ys → held_at (ys ++ xs) p o ≡ held_at (x ∷ xs) p o
held_cut q c x ys xs p o (two e h k) =
    held_cons (front_of x c) (back_of x c ∷ xs) p o
    ∙ rw (held_cons (back_of x c) xs p o, held_cons x xs p o) (two_parts x c p o (held_at xs p o) (omega arith) (omega arith))
held_cut q c x ys xs p o (complete f) = refl

-- a cut changes what is held at no offset
pub held_cut_at : (q c : ℕ) (xs : List Item) (p o : ℕ) → held_at (cut_at q c xs) p o ≡ held_at xs p o
unfolding cut_at flatten
held_cut_at q c [] p o = refl
held_cut_at q c (x ∷ xs) p o =
    held_cut q c x (cut_item q c x) (cut_at q c xs) p o (cut q c x)
    ∙ rw (held_cons x (cut_at q c xs) p o, held_cons x xs p o, held_cut_at q c xs p o)

-- nor do both
pub held_both_cuts : (q s e : ℕ) (xs : List Item) (p o : ℕ) → held_at (both_cuts q s e xs) p o ≡ held_at xs p o
unfolding both_cuts
held_both_cuts q s e xs p o = go (ltb s e)
  where
    go : (t : Bool) → held_at (pick t (cut_at q e (cut_at q s xs)) xs) p o ≡ held_at xs p o
    go true = held_cut_at q e (cut_at q s xs) p o ∙ held_cut_at q s xs p o
    go false = refl

-- ---- what a cut leaves

-- a piece of an item: of the same entry, within it, with its votes
pub record Piece (x y : Item) : Type 0 where
  pub same : y.position ≡ x.position
  pub lower : x.start ≤ y.start
  pub upper : y.end ≤ x.end
  pub full : x.start < x.end → y.start < y.end
  pub votes : y.aggregator ≡ x.aggregator

pieces_of : (q c : ℕ) (x : Item) (ys : List Item) → Cut q c x ys → Every (Piece x) ys
pieces_of q c x ys (two e h k) =
    and {x = front_of x c} (record { same = refl; lower = omega arith; upper = omega arith; full = λ f. h; votes = refl })
    (and {x = back_of x c} (record { same = refl; lower = omega arith; upper = omega arith; full = λ f. k; votes = refl }) none_of)
pieces_of q c x ys (complete f) = and {x = x} (record { same = refl; lower = omega arith; upper = omega arith; full = λ g. g; votes = refl }) none_of

pub pieces : (q c : ℕ) (x : Item) → Every (Piece x) (cut_item q c x)
pieces q c x = pieces_of q c x (cut_item q c x) (cut q c x)

-- what every piece has where the item has it is kept by a cut
pub every_cut : {P : Item → Type 0} → ((x y : Item) → Piece x y → P x → P y) → (q c : ℕ) (xs : List Item) → Every P xs → Every P (cut_at q c xs)
unfolding cut_at
every_cut f q c xs h = every_flatten (cut_item q c) (λ x p. every (λ y s. f x y s p) (cut_item q c x) (pieces q c x)) xs h

-- the item of the entry at q has not c inside
unfoldable pub Uncut : ℕ → ℕ → Item → Type 0
Uncut q c x = x.position ≡ q → x.start < c → c < x.end → ⊥

uncut_parts : (q c : ℕ) (x : Item) (ys : List Item) → Cut q c x ys → Every (Uncut q c) ys
unfolding Uncut
uncut_parts q c x ys (two e h k) = and (λ m n l. lt_irrefl c l) (and (λ m n l. lt_irrefl c n) none_of)
uncut_parts q c x ys (complete f) = and f none_of

uncut_cut : (q c : ℕ) (xs : List Item) → Every (Uncut q c) (cut_at q c xs)
unfolding cut_at
uncut_cut q c xs = every_flatten {P = λ x. Unit {0}} (cut_item q c) (λ x u. uncut_parts q c x (cut_item q c x) (cut q c x)) xs (every_one (λ x. tt) xs)

uncut_piece : (q c : ℕ) (x y : Item) → Piece x y → Uncut q c x → Uncut q c y
unfolding Uncut
uncut_piece q c x y s f e h k = f (sym s.same ∙ e) (omega (arith, s.lower)) (omega (arith, s.upper))

-- the same, unless the range s..e is empty
unfoldable pub Clear : ℕ → ℕ → ℕ → ℕ → Item → Type 0
Clear q s e c x = s < e → Uncut q c x

clear_cuts : (q s e c : ℕ) (xs : List Item) → Every (Uncut q c) (cut_at q e (cut_at q s xs)) → Every (Clear q s e c) (both_cuts q s e xs)
unfolding both_cuts Clear
clear_cuts q s e c xs h = go (ltb s e) refl
  where
    go : (t : Bool) → ltb s e ≡ t → Every (λ x. s < e → Uncut q c x) (pick t (cut_at q e (cut_at q s xs)) xs)
    go true k = every (λ x u l. u) (cut_at q e (cut_at q s xs)) h
    go false k = every_one (λ x (l : s < e). absurd (omega (arith, ltb-false s e k))) xs

-- after both cuts no item has start or end inside
clear_start : (q s e : ℕ) (xs : List Item) → Every (Clear q s e s) (both_cuts q s e xs)
clear_start q s e xs = clear_cuts q s e s xs (every_cut (uncut_piece q s) q e (cut_at q s xs) (uncut_cut q s xs))

clear_end : (q s e : ℕ) (xs : List Item) → Every (Clear q s e e) (both_cuts q s e xs)
clear_end q s e xs = clear_cuts q s e e xs (uncut_cut q e (cut_at q s xs))

-- ---- a vote

same_within : (a b o s e : ℕ) → s ≤ o → o < e → (a < b → s < a → a < e → ⊥) → (a < b → s < b → b < e → ⊥) → leb a s && leb e b ≡ within a b o
same_within a b o s e h k p q = split (dec_le a o) (dec_lt o b) (dec_le a s) (dec_le e b)
  where
    split : Dec (a ≤ o) → Dec (o < b) → Dec (a ≤ s) → Dec (e ≤ b) → leb a s && leb e b ≡ within a b o
    split (yes m) (yes n) (yes u) (yes v) = rw (le-leb a s u, le-leb e b v, within_yes a b o m n)
    split (yes m) (yes n) (yes u) (no v) = absurd (q (omega arith) (omega arith) (omega arith))
    split (yes m) (yes n) (no u) d = absurd (p (omega arith) (omega arith) (omega arith))
    split (yes m) (no n) (yes u) d = rw (le-leb a s u, lt-leb e b (omega arith), within_no a b o (λ i j. n j))
    split (yes m) (no n) (no u) d = rw (lt-leb a s (omega arith), within_no a b o (λ i j. n j))
    split (no m) c d v = rw (lt-leb a s (omega arith), within_no a b o (λ i j. m i))

-- what it says that an item holds an offset
pub holds_facts : (p o : ℕ) (x : Item) → item_holds p o x ≡ true → (x.position ≡ p) × (x.start ≤ o) × (o < x.end)
unfolding item_holds
holds_facts p o x h =
    let w = within_true x.start x.end o (and_right (eqb x.position p) _ h) in
    (eqb-true _ _ (and_left (eqb x.position p) _ h), w.0, w.1)

-- an item that holds an offset, with neither start nor end inside, lies in the range where the offset does
within_same : (q s e p o : ℕ) (x : Item) → Clear q s e s x → Clear q s e e x → item_holds p o x ≡ true → item_within q s e x ≡ eqb p q && within s e o
unfolding item_within Uncut Clear
within_same q s e p o x f g h = rw fact.0 (go (eqb p q) refl)
  where
    fact : (x.position ≡ p) × (x.start ≤ o) × (o < x.end)
    fact = holds_facts p o x h

    go : (t : Bool) → eqb p q ≡ t → t && (leb s x.start && leb x.end e) ≡ t && within s e o
    go false k = refl
    go true k =
        let there : x.position ≡ q = fact.0 ∙ eqb-true p q k in
        same_within s e o x.start x.end fact.1 fact.2 (λ (l : s < e). f l there) (λ (l : s < e). g l there)

module _ (c : Committee) (a : AuthorityIndex) (q s e : ℕ) where
  -- the item after the vote
  voted : Item → Item
  voted x = pick (item_within q s e x) (voted_item c a x) x

  with_vote : Option StakeAggregator → Option StakeAggregator
  with_vote g = Option.map (λ v. counted c v a) g

  holds_voted : (p o : ℕ) (x : Item) → item_holds p o (voted x) ≡ item_holds p o x
  unfolding voted voted_item item_holds
  holds_voted p o x = go (item_within q s e x)
    where
      go : (t : Bool) → item_holds p o (pick t (voted_item c a x) x) ≡ item_holds p o x
      go true = refl
      go false = refl

  votes_voted : (x : Item) → (voted x).aggregator ≡ pick (item_within q s e x) (counted c x.aggregator a) x.aggregator
  unfolding voted voted_item
  votes_voted x = go (item_within q s e x)
    where
      go : (t : Bool) → (pick t (voted_item c a x) x).aggregator ≡ pick t (counted c x.aggregator a) x.aggregator
      go true = refl
      go false = refl

  some_either : (t : Bool) (u v : StakeAggregator) → ◌≡◌ {A = Option StakeAggregator} (some (pick t u v)) (pick t (some u) (some v))
  some_either true u v = refl
  some_either false u v = refl

  either_none : (t : Bool) → none ≡ pick t (with_vote none) none
  unfolding with_vote
  either_none true = refl
  either_none false = refl

  held_voted : (xs : List Item) → Every (Clear q s e s) xs → Every (Clear q s e e) xs → (p o : ℕ)
      → held_at (map voted xs) p o ≡ pick (eqb p q && within s e o) (with_vote (held_at xs p o)) (held_at xs p o)
  unfolding held_at item_at find with_vote
  held_voted [] none_of none_of p o = either_none (eqb p q && within s e o)
  held_voted (x ∷ xs) (and f fs) (and g gs) p o =
      held_cons (voted x) (map voted xs) p o
      ∙ rw (holds_voted p o x, votes_voted x, held_cons x xs p o) (go (item_holds p o x) refl (held_voted xs fs gs p o))
    where
      go : (t : Bool) → item_holds p o x ≡ t → held_at (map voted xs) p o ≡ pick (eqb p q && within s e o) (with_vote (held_at xs p o)) (held_at xs p o)
          → pick t (some (pick (item_within q s e x) (counted c x.aggregator a) x.aggregator)) (held_at (map voted xs) p o)
          ≡ pick (eqb p q && within s e o) (with_vote (pick t (some x.aggregator) (held_at xs p o))) (pick t (some x.aggregator) (held_at xs p o))
      go false h ih = ih
      go true h ih = rw (within_same q s e p o x f g h) (some_either (eqb p q && within s e o) (counted c x.aggregator a) x.aggregator)

  -- a vote is counted exactly at the offsets of its range
  pub held_vote_over : (xs : List Item) (p o : ℕ)
      → held_at (vote_over c a q s e xs) p o ≡ pick (eqb p q && within s e o) (Option.map (λ v. counted c v a) (held_at xs p o)) (held_at xs p o)
  unfolding vote_over voted with_vote
  held_vote_over xs p o =
      held_voted (both_cuts q s e xs) (clear_start q s e xs) (clear_end q s e xs) p o
      ∙ rw (held_both_cuts q s e xs p o)

-- ---- order

-- one item stands before another: of an earlier entry, or below it
pub before_facts : (x y : Item) → item_before x y ≡ true → (x.position < y.position) ⊎ ((x.position ≡ y.position) × (x.end ≤ y.start))
unfolding item_before
before_facts x y h = go (ltb x.position y.position) refl h
  where
    go : (t : Bool) → ltb x.position y.position ≡ t → t || (eqb x.position y.position && leb x.end y.start) ≡ true
        → (x.position < y.position) ⊎ ((x.position ≡ y.position) × (x.end ≤ y.start))
    go true e k = inl (ltb-true _ _ e)
    go false e k = inr (eqb-true _ _ (and_left (eqb x.position y.position) _ k), leb-true _ _ (and_right (eqb x.position y.position) _ k))

pub before_from : (x y : Item) → (x.position < y.position) ⊎ ((x.position ≡ y.position) × (x.end ≤ y.start)) → item_before x y ≡ true
unfolding item_before
before_from x y (inl h) = rw (lt-ltb x.position y.position h)
before_from x y (inr h) = rw (
  le-ltb x.position y.position (omega (arith, h.0)),
  eq-eqb x.position y.position h.0,
  le-leb x.end y.start
      h.1,
)

-- items ascend and are disjoint
abbrev pub Ordered : List Item → Type 0
Ordered xs = Pairs (λ x y. item_before x y ≡ true) xs

-- pieces stand as their items do
before_pieces : (x y v w : Item) → Piece x v → Piece y w → item_before x y ≡ true → item_before v w ≡ true
before_pieces x y v w s t h = before_from v w (go (before_facts x y h))
  where
    go : (x.position < y.position) ⊎ ((x.position ≡ y.position) × (x.end ≤ y.start)) → (v.position < w.position) ⊎
        ((v.position ≡ w.position) × (v.end ≤ w.start))
    go (inl k) = inl (omega (arith, s.same, t.same))
    go (inr k) = inr (omega (arith, s.same, t.same, k.0), omega (arith, s.upper, t.lower, k.1))

ordered_parts : (q c : ℕ) (x : Item) (ys : List Item) → Cut q c x ys → Ordered ys
ordered_parts q c x ys (two e h k) =
    with_later {x = front_of x c} (and {x = back_of x c} (before_from (front_of x c) (back_of x c) (inr (refl, omega arith))) none_of)
    (with_later none_of no_pairs)
ordered_parts q c x ys (complete f) = with_later none_of no_pairs

-- a cut keeps the order
pub ordered_cut_at : (q c : ℕ) (xs : List Item) → Ordered xs → Ordered (cut_at q c xs)
unfolding cut_at
ordered_cut_at q c xs h =
    pairs_flatten (cut_item q c) (λ x. ordered_parts q c x (cut_item q c x) (cut q c x))
    (λ x y b. every (λ v s. every (λ w t. before_pieces x y v w s t b) (cut_item q c y) (pieces q c y)) (cut_item q c x) (pieces q c x)) xs h

pub ordered_both_cuts : (q s e : ℕ) (xs : List Item) → Ordered xs → Ordered (both_cuts q s e xs)
unfolding both_cuts
ordered_both_cuts q s e xs h = go (ltb s e)
  where
    go : (t : Bool) → Ordered (pick t (cut_at q e (cut_at q s xs)) xs)
    go true = ordered_cut_at q e (cut_at q s xs) (ordered_cut_at q s xs h)
    go false = h

-- an item that stands where another stood
pub record Place (x y : Item) : Type 0 where
  pub same : y.position ≡ x.position
  pub start : y.start ≡ x.start
  pub end : y.end ≡ x.end

place_voted : (c : Committee) (a : AuthorityIndex) (q s e : ℕ) (x : Item) → Place x (voted c a q s e x)
unfolding voted voted_item
place_voted c a q s e x = go (item_within q s e x)
  where
    go : (t : Bool) → Place x (pick t (voted_item c a x) x)
    go true = record { same = refl; start = refl; end = refl }
    go false = record { same = refl; start = refl; end = refl }

before_places : (x y v w : Item) → Place x v → Place y w → item_before x y ≡ true → item_before v w ≡ true
unfolding item_before
before_places x y v w s t h = rw (s.same, t.same, s.end, t.start) h

-- a vote keeps the order
pub ordered_vote_over : (c : Committee) (a : AuthorityIndex) (q s e : ℕ) (xs : List Item) → Ordered xs → Ordered (vote_over c a q s e xs)
unfolding vote_over voted
ordered_vote_over c a q s e xs h =
    pairs_map (voted c a q s e) (λ x y b. before_places x y _ _ (place_voted c a q s e x) (place_voted c a q s e y) b) (both_cuts q s e xs)
    (ordered_both_cuts q s e xs h)

-- so does leaving
pub ordered_after_leaving : (c : Committee) (q s e : ℕ) (xs : List Item) → Ordered xs → Ordered (after_leaving c q s e xs)
unfolding after_leaving
ordered_after_leaving c q s e xs h = pairs_keep _ xs h

-- ---- leaving

-- where an item holds an offset, no later one does
held_later : (x : Item) (p o : ℕ) → item_holds p o x ≡ true → (ys : List Item) → Every (λ y. item_before x y ≡ true) ys → held_at ys p o ≡ none
unfolding held_at item_at find
held_later x p o h [] none_of = refl
held_later x p o h (y ∷ ys) (and b bs) = held_cons y ys p o ∙ rw (free (item_holds p o y) refl) (held_later x p o h ys bs)
  where
    free : (t : Bool) → item_holds p o y ≡ t → item_holds p o y ≡ false
    free false e = e
    free true e = absurd (clash (before_facts x y b))
      where
        fx : (x.position ≡ p) × (x.start ≤ o) × (o < x.end)
        fx = holds_facts p o x h

        fy : (y.position ≡ p) × (y.start ≤ o) × (o < y.end)
        fy = holds_facts p o y e

        clash : (x.position < y.position) ⊎ ((x.position ≡ y.position) × (x.end ≤ y.start)) → ⊥
        clash (inl k) = omega (arith, fx.0, fy.0)
        clash (inr k) = omega (arith, fx.2, fy.1, k.1)

-- what is there, unless the test holds of it
unfoldable pub unless : {A : Type 0} → (A → Bool) → Option A → Option A
unless t none = none
unless t (some x) = pick (t x) none (some x)

module _ (c : Committee) (q s e : ℕ) where
  -- the votes held at an offset are gone exactly where it lies in the range and they hold quorum
  pub held_leaving : (xs : List Item) → Every (Clear q s e s) xs → Every (Clear q s e e) xs → Ordered xs → (p o : ℕ)
      → held_at (after_leaving c q s e xs) p o ≡ unless (λ g. eqb p q && within s e o && has_quorum c g) (held_at xs p o)
  unfolding after_leaving stays keep has_quorum is_quorum held_at item_at find unless
  held_leaving [] none_of none_of no_pairs p o = refl
  held_leaving (x ∷ xs) (and f fs) (and g gs) (with_later b bs) p o =
      go (item_holds p o x) (item_within q s e x) (has_quorum c x.aggregator) refl refl refl (held_leaving xs fs gs bs p o)
    where
      rest : List Item
      rest = after_leaving c q s e xs

      out : StakeAggregator → Bool
      out v = eqb p q && within s e o && has_quorum c v

      go : (t u v : Bool) → item_holds p o x ≡ t → item_within q s e x ≡ u → has_quorum c x.aggregator ≡ v
          → held_at rest p o ≡ unless out (held_at xs p o)
          → held_at (pick (not (u && v)) (x ∷ rest) rest) p o ≡ unless out (held_at (x ∷ xs) p o)
      go false true true et eu ev ih = rw et ih
      go false true false et eu ev ih = rw et ih
      go false false v et eu ev ih = rw et ih
      go true true true et eu ev ih =
          rw (et, ← within_same q s e p o x f g et, eu, ev) (held_later x p o et rest (every_keep (stays (total_stake c) q s e) xs b))
      go true true false et eu ev ih = rw (et, ← within_same q s e p o x f g et, eu, ev)
      go true false v et eu ev ih = rw (et, ← within_same q s e p o x f g et, eu)

  clear_place : (d : ℕ) (x y : Item) → Place x y → Clear q s e d x → Clear q s e d y
  unfolding Clear Uncut
  clear_place d x y s f = rw (s.same, s.start, s.end) f

  clear_vote_over : (a : AuthorityIndex) (d : ℕ) (xs : List Item) → Every (Clear q s e d) (both_cuts q s e xs) → Every (Clear q s e d) (vote_over c a q s e xs)
  unfolding vote_over voted
  clear_vote_over a d xs h = every_map (voted c a q s e) (λ x u. clear_place d x _ (place_voted c a q s e x) u) (both_cuts q s e xs) h

  -- after a vote and the leaving: the votes held at an offset are the old ones outside of the range; inside, with the new one, and gone with quorum
  pub held_after_vote : (a : AuthorityIndex) (xs : List Item) → Ordered xs → (p o : ℕ)
      → held_at (after_leaving c q s e (vote_over c a q s e xs)) p o
      ≡ pick (eqb p q && within s e o) (unless (has_quorum c) (Option.map (λ v. counted c v a) (held_at xs p o))) (held_at xs p o)
  unfolding unless
  held_after_vote a xs h p o =
      held_leaving (vote_over c a q s e xs) (clear_vote_over a s xs (clear_start q s e xs)) (clear_vote_over a e xs (clear_end q s e xs))
      (ordered_vote_over c a q s e xs h) p o
      ∙ rw (held_vote_over c a q s e xs p o) (go (eqb p q && within s e o) (held_at xs p o))
    where
      go : (t : Bool) (g : Option StakeAggregator)
          → unless (λ v. t && has_quorum c v) (pick t (Option.map (λ v. counted c v a) g) g) ≡ pick t
          (unless (has_quorum c) (Option.map (λ v. counted c v a) g)) g
      go true none = refl
      go true (some g) = refl
      go false none = refl
      go false (some g) = refl

-- ---- registering

-- what is held in two lists of items, one after the other
held_append : (xs ys : List Item) (p o : ℕ) → held_at ys p o ≡ none → held_at (xs ++ ys) p o ≡ held_at xs p o
unfolding held_at item_at find
held_append [] ys p o h = h
held_append (x ∷ xs) ys p o h = held_cons x (xs ++ ys) p o ∙ rw (held_cons x xs p o, held_append xs ys p o h)

held_elsewhere : (xs ys : List Item) (p o : ℕ) → Every (λ x. x.position < p) xs → held_at (xs ++ ys) p o ≡ held_at ys p o
unfolding item_holds
held_elsewhere [] ys p o none_of = refl
held_elsewhere (x ∷ xs) ys p o (and h hs) = held_cons x (xs ++ ys) p o ∙ rw (ne_eqb x.position p (λ e. omega arith)) (held_elsewhere xs ys p o hs)

held_below : (xs : List Item) (p o : ℕ) → Every (λ x. x.position < p) xs → held_at xs p o ≡ none
unfolding held_at item_at find item_holds
held_below [] p o none_of = refl
held_below (x ∷ xs) p o (and h hs) = held_cons x xs p o ∙ rw (ne_eqb x.position p (λ e. omega arith)) (held_below xs p o hs)

held_registered : (c : Committee) (a : AuthorityIndex) (q : ℕ) (runs : List TransactionLocatorRange) (p o : ℕ)
    → held_at (map (registered c a q) runs) p o ≡ pick (eqb q p && any_of (λ x. within x.start x.end o) runs) (some (counted c no_votes a)) none
unfolding held_at item_at find any_of registered first_vote item_holds
held_registered c a q [] p o = rw (and-false (eqb q p))
held_registered c a q (x ∷ runs) p o =
    held_cons (registered c a q x) (map (registered c a q) runs) p o
    ∙ rw (held_registered c a q runs p o) (either_part (eqb q p) (within x.start x.end o) (any_of (λ y. within y.start y.end o) runs)
    (some (counted c no_votes a)) none)

-- a block's shares, registered at a new position, are held with its author's vote; all else as before
pub held_register : (c : Committee) (a : AuthorityIndex) (q : ℕ) (b : Block) (xs : List Item) → Every (λ x. x.position < q) xs → (p o : ℕ)
    → held_at (register c a q (shared_ranges b) xs) p o ≡ pick (eqb q p && is_share_at b o) (some (counted c no_votes a)) (held_at xs p o)
unfolding register
held_register c a q b xs h p o = go (eqb q p) refl
  where
    more : List Item
    more = map (registered c a q) (shared_ranges b)

    held_more : held_at more p o ≡ pick (eqb q p && is_share_at b o) (some (counted c no_votes a)) none
    held_more = rw (← shared_cover b o) (held_registered c a q (shared_ranges b) p o)

    go : (t : Bool) → eqb q p ≡ t → held_at (xs ++ more) p o ≡ pick (t && is_share_at b o) (some (counted c no_votes a)) (held_at xs p o)
    go true e =
        let here : Every (λ x. x.position < p) xs = rw (eqb-true q p e) at h in
        held_elsewhere xs more p o here ∙ held_more ∙ rw (e, held_below xs p o here)
    go false e = held_append xs more p o (held_more ∙ rw e)
