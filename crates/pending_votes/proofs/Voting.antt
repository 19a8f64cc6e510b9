-- Votes over items in a table: what the loops leave is what the definitions say. Assumes nothing.
use mathlib.Core.Path.{◌≡◌, refl, ap, ◌∙◌}
use mathlib.Core.Bool.{Bool, true, false}
use mathlib.Core.List.{List, [], ◌∷◌, map, flatten}
use Prim.Native.Nat.{ℕ, ◌+◌, ◌*◌, ◌≤◌, ◌<◌}
use native.Mathlib.Omega.{arith}
use lib.Dec.{leb, eqb}
use lib.ListN.{length, get_or, length-append}
use borrow.Author.Tests.{lt-ltb, le-ltb, leb-true}
use Rattle.base.specs.Lists.{pick, all_of, pairwise, same}
use Rattle.base.proofs.Tests.{and_left, and_right, fails}
use Rattle.base.proofs.Lists.{Every, none_of, and, every, all_every, every_all, pairs_pairwise}
use Rattle.base.proofs.Orders.{same_true}
use Rattle.base.proofs.Places.{every_place}
use Rattle.committee.specs.Committee.{AuthorityIndex, Stake, Committee, broken, known, get_stake}
use Rattle.committee_aggregator.specs.StakeAggregator.{counted, aggregator_in_order}
use Rattle.committee_aggregator.proofs.Adding.{vote_fits}
use Rattle.committee_aggregator.proofs.Aggregators.{no_votes_order}
use Rattle.pending_words.specs.declared.Item as declared
use Rattle.pending_spec.specs.Items.{Item, no_item, item_before, item_full, cut_item, cut_at, both_cuts, item_within, voted_item, vote_over}
use Rattle.pending_spec.specs.Table.{table_of, room, items_of, HoldsItems, table_formed}
use Rattle.pending_words.specs.Answers.{as_item}
use Rattle.pending_words.specs.Step.{slot, Countable, voted_in}
use Rattle.pending_spec.proofs.Items.{Ordered, Cut, two, complete, cut, every_cut, ordered_cut_at}
use Rattle.pending_spec.proofs.Table.{items_of_table_of, length_table_of}
use Rattle.pending_words.proofs.Slots.{holds_holding, Full, holds_ordered, holds_full}
use Rattle.pending_words.proofs.Moves.{Mapped}

-- ---- a table written from items

pub record Written (u : List ℕ) (n : ℕ) (xs : List Item) : Type 0 where
  pub long : length u ≡ n
  pub items : items_of u ≡ xs
  pub holds : HoldsItems u

full_tests : (xs : List Item) → Full xs → all_of item_full xs ≡ true
unfolding item_full
full_tests xs h = every_all item_full xs (every (λ x k. lt-ltb x.start x.end k) xs h)

pub written : (u : List ℕ) (n : ℕ) (xs : List Item) → u ≡ table_of n xs → 6 * length xs < n → Ordered xs → Full xs → Written u n xs
written u n xs e h o f =
    record {
      long = long;
      items = items;
      holds = record { laid = e ∙ rw (long, items); ordered = rw items (pairs_pairwise item_before xs o); full = rw items (full_tests xs f) };
    }
  where
    long : length u ≡ n
    long = ap (λ l. length l) e ∙ length_table_of n xs (omega arith)

    items : items_of u ≡ xs
    items = ap items_of e ∙ items_of_table_of n xs

-- ---- a table in form

pub record Formed (c : Committee) (t : List ℕ) : Type 0 where
  pub holds : HoldsItems t
  pub votes : Every (λ x. aggregator_in_order c x.aggregator ≡ true) (items_of t)

pub formed : (c : Committee) (t : List ℕ) → table_formed c t ≡ true → Formed c t
unfolding table_formed
formed c t h =
    let a : Bool = same t (table_of (length t) (items_of t)) in
    let b : Bool = pairwise item_before (items_of t) in
    let d : Bool = all_of item_full (items_of t) in
    let k = and_right a _ h in
    let l = and_right b _ k in
    record {
      holds = record { laid = same_true _ _ (and_left a _ h); ordered = and_left b _ k; full = and_left d _ l };
      votes = all_every (λ x. aggregator_in_order c x.aggregator) (items_of t) (and_right d _ l);
    }

-- room for items is words for them
pub room_words : (t : List ℕ) (n : ℕ) → HoldsItems t → n ≤ room t → 6 * n < length t
unfolding room
room_words t n h k = omega (arith, (holds_holding t h).fits)

-- ---- a vote in each item

-- the item that the loop is at has not been changed yet
pub vote_item_fits : (s : Stake) (t u : List ℕ) (k : ℕ) (f : Item → Item) (x : declared.Item) → HoldsItems t → Countable s (items_of t) → Mapped f t k u
    → k < length (items_of t) → as_item x ≡ slot u k → x.aggregator.stake.0 + s < 18446744073709551616
unfolding as_item
vote_item_fits s t u k f x h c m l e =
    let same : as_item x ≡ get_or (items_of t) k no_item = e ∙ m.above k (omega arith) ∙ (holds_holding t h).items k in
    omega (arith, c.fits k l, ap (λ y. y.aggregator.stake) same)

pub countable : (c : Committee) (a : AuthorityIndex) (xs : List Item) → broken c ≡ false → known c a ≡ true → Every
    (λ x. aggregator_in_order c x.aggregator ≡ true) xs → Countable (get_stake c a) xs
countable c a xs h k e = record { fits = λ i l. (vote_fits c (get_or xs i no_item).aggregator a h (every_place no_item xs i e l) k).1 }

pub few : (c : Committee) (a : AuthorityIndex) → broken c ≡ false → known c a ≡ true → a < 128
few c a h k = (vote_fits c no_item.aggregator a h (no_votes_order c) k).0

-- both cuts, and then the vote in each item
pub voted_over : (c : Committee) (a : AuthorityIndex) (s p start end : ℕ) (xs : List Item) → s ≡ get_stake c a → start < end
    → map (voted_in s a p start end) (cut_at p end (cut_at p start xs)) ≡ vote_over c a p start end xs
unfolding vote_over both_cuts voted_item counted voted_in
voted_over c a s p start end xs e h = rw (lt-ltb start end h, e)

-- no item lies in an empty range
none_within : (p start end : ℕ) (x : Item) → x.start < x.end → end ≤ start → item_within p start end x ≡ false
unfolding item_within
none_within p start end x f h =
    fails (item_within p start end x)
    (λ e. let k = and_right (eqb x.position p) _ e in omega (
      arith,
      leb-true start x.start (and_left (leb start x.start) _ k),
      leb-true x.end end
          (and_right (leb start x.start) _ k),
    ))

-- 01: "An empty range does nothing"
pub empty_vote : (c : Committee) (a : AuthorityIndex) (p start end : ℕ) (xs : List Item) → Full xs → end ≤ start → vote_over c a p start end xs ≡ xs
unfolding vote_over both_cuts
empty_vote c a p start end xs f h = rw (le-ltb start end h) (go xs f)
  where
    go : (ys : List Item) → Full ys → map (λ x. pick (item_within p start end x) (voted_item c a x) x) ys ≡ ys
    go [] none_of = refl
    go (y ∷ ys) (and k ks) = rw (none_within p start end y k h, go ys ks)

-- ---- cuts keep what they should

pub full_cut_at : (p o : ℕ) (xs : List Item) → Full xs → Full (cut_at p o xs)
full_cut_at p o xs h = every_cut (λ x y s f. s.full f) p o xs h

pub votes_cut_at : (c : Committee) (p o : ℕ) (xs : List Item) → Every (λ x. aggregator_in_order c x.aggregator ≡ true) xs
    → Every (λ x. aggregator_in_order c x.aggregator ≡ true) (cut_at p o xs)
votes_cut_at c p o xs h = every_cut (λ x y s e. rw s.votes e) p o xs h

cut_grows : (p o : ℕ) (xs : List Item) → length xs ≤ length (cut_at p o xs)
unfolding cut_at flatten
cut_grows p o [] = omega arith
cut_grows p o (x ∷ xs) = omega (arith, cut_grows p o xs, length-append (cut_item p o x) (cut_at p o xs), one (cut_item p o x) (cut p o x))
  where
    one : (ys : List Item) → Cut p o x ys → 1 ≤ length ys
    one ys (two a b d) = omega arith
    one ys (complete f) = omega arith

-- ---- the steps of a vote over a range

-- a vote over start..end of the entry at p: a range that is not empty, and room for both cuts
pub record VoteRange (c : Committee) (t : List ℕ) (p start end : ℕ) : Type 0 where
  pub table : Formed c t
  pub range : start < end
  pub enough : length (both_cuts p start end (items_of t)) ≤ room t

pub vote_range : {c : Committee} {t : List ℕ} {p start end : ℕ} → table_formed c t ≡ true → start < end → length (both_cuts p start end (items_of t)) ≤ room t →
    VoteRange c t p start end
vote_range {c} {t} f h k = record { table = formed c t f; range = h; enough = k }

module _ {c : Committee} {t : List ℕ} {p start end : ℕ} (h : VoteRange c t p start end) where
  first : List Item
  first = cut_at p start (items_of t)

  both : List Item
  both = cut_at p end (cut_at p start (items_of t))

  words : 6 * length both < length t
  unfolding both both_cuts
  words = room_words t (length both) h.table.holds (rw (lt-ltb start end h.range) at h.enough)

  pub first_room : 6 * length (cut_at p start (items_of t)) < length t
  unfolding both
  first_room = omega (arith, words, cut_grows p end (cut_at p start (items_of t)))

  ordered_first : Ordered first
  unfolding first
  ordered_first = ordered_cut_at p start (items_of t) (holds_ordered t h.table.holds)

  full_first : Full first
  unfolding first
  full_first = full_cut_at p start (items_of t) (holds_full t h.table.holds)

  pub first_cut : {u : List ℕ} → u ≡ table_of (length t) (cut_at p start (items_of t)) → Written u (length t) (cut_at p start (items_of t))
  unfolding first
  first_cut {u} e = written u (length t) (cut_at p start (items_of t)) e first_room ordered_first full_first

  pub second_room : {u : List ℕ} → Written u (length t) (cut_at p start (items_of t)) → 6 * length (cut_at p end (items_of u)) < length u
  unfolding both
  second_room w = rw (w.items, w.long) words

  pub second_cut : {u v : List ℕ} → Written u (length t) (cut_at p start (items_of t)) → v ≡ table_of (length u) (cut_at p end (items_of u))
      → Written v (length t) (cut_at p end (cut_at p start (items_of t)))
  unfolding first both
  second_cut {u} {v} w e =
      written v (length t) (cut_at p end (cut_at p start (items_of t))) (e ∙ rw (w.items, w.long)) words
      (ordered_cut_at p end (cut_at p start (items_of t)) ordered_first) (full_cut_at p end (cut_at p start (items_of t)) full_first)

  pub cut_countable : (a : AuthorityIndex) {v : List ℕ} {s : Stake} → Written v (length t) (cut_at p end (cut_at p start (items_of t))) → s ≡ get_stake c a
      → broken c ≡ false → known c a ≡ true → Countable s (items_of v)
  cut_countable a w e b k =
      rw (w.items, e)
      (countable c a (cut_at p end (cut_at p start (items_of t))) b k
      (votes_cut_at c p end (cut_at p start (items_of t)) (votes_cut_at c p start (items_of t) h.table.votes)))

  pub all_voted : (a : AuthorityIndex) {v r : List ℕ} {s : Stake} → Written v (length t) (cut_at p end (cut_at p start (items_of t))) → s ≡ get_stake c a
      → r ≡ table_of (length v) (map (voted_in s a p start end) (items_of v)) → r ≡ table_of (length t) (vote_over c a p start end (items_of t))
  all_voted a {s = s} w e d = d ∙ rw (w.items, w.long, voted_over c a s p start end (items_of t) e h.range)
