-- The pending table in order: what it says, and that registering, voting and leaving keep it. Assumes nothing.
use mathlib.Core.Path.{◌≡◌, refl, ap}
use mathlib.Core.Logic.{inl, inr}
use mathlib.Core.List.{List, [], ◌∷◌, map}
use mathlib.Core.Option.{Option, some}
use mathlib.Core.Bool.{Bool, true, false}
use Prim.Native.Nat.{ℕ, ◌+◌, ◌-◌, ◌*◌, ◌≤◌, ◌<◌}
use native.Mathlib.Omega.{arith}
use lib.Dec.{ltb, eqb}
use lib.ListN.{length, length-map}
use borrow.Author.Tests.{lt-ltb, ltb-true, eqb-true, ne_eqb, eq-eqb}
use Rattle.base.specs.Lists.{pick, pairwise, find, holds, same, count_from}
use Rattle.base.proofs.Tests.{and_left, and_right}
use Rattle.base.proofs.Orders.{same_true, same_refl}
use Rattle.base.proofs.Lists.{Every, every, every_append, every_keep, every_map, every_all, all_every, count_from_every, every_count_from, pairs_append}
use Rattle.base.proofs.Lists.{pairs_map, pairwise_pairs, pairs_pairwise, find_passes, find_every, holds_some, length_keep}
use Rattle.committee.specs.Committee.{AuthorityIndex, Committee, known}
use Rattle.committee_set.specs.AuthoritySet.{member}
use Rattle.committee_aggregator.specs.StakeAggregator.{no_votes, aggregator_in_order}
use Rattle.committee_aggregator.proofs.Aggregators.{counted_in_order, counted_member, counted_keeps, no_votes_order}
use Rattle.record_spec.specs.Reference.{TransactionLocatorRange}
use Rattle.record_spec.specs.Block.{Block, author, is_share_at, shared_ranges}
use Rattle.record_spec.proofs.Runs.{SharedRun, shared_runs, shared_below}
use Rattle.store_spec.specs.Layout.{Entry}
use Rattle.pending_spec.specs.Items.{Item, item_before, item_full, cut_at, both_cuts, item_within, voted_item, vote_over, after_leaving, first_vote, registered}
use Rattle.pending_spec.specs.Items.{register}
use Rattle.pending_spec.specs.Table.{table_of, items_of, room, shares_in, item_suits, item_stored, item_in_order, table_in_order}
use Rattle.pending_spec.proofs.Items.{Ordered, before_from, Piece, every_cut}
use Rattle.pending_spec.proofs.Table.{items_of_table_of, length_table_of}

-- ---- an item in order

-- the entry where the item is
abbrev at : List Entry → Item → Option Entry
at es x = find (λ e. eqb e.position x.position) es

-- what "in order" says of an item
pub record Pending (c : Committee) (es : List Entry) (x : Item) : Type 0 where
  pub full : x.start < x.end
  pub votes : aggregator_in_order c x.aggregator ≡ true
  pub entry : Entry
  pub found : at es x ≡ some entry
  pub shares : (o : ℕ) → x.start ≤ o → o < x.end → is_share_at entry.block o ≡ true
  pub sharer : member x.aggregator.votes (author entry.block) ≡ true

shares_at : (b : Block) (s e : ℕ) → shares_in b s e ≡ true → (o : ℕ) → s ≤ o → o < e → is_share_at b o ≡ true
unfolding shares_in
shares_at b s e h o l u = count_from_every s (e - s) (all_every (is_share_at b) (count_from s (e - s)) h) o l (omega arith)

-- all of a range are shares
pub shares_from : (b : Block) (s e : ℕ) → ((o : ℕ) → s ≤ o → o < e → is_share_at b o ≡ true) → shares_in b s e ≡ true
unfolding shares_in
shares_from b s e f = every_all (is_share_at b) (count_from s (e - s)) (every_count_from s (e - s) (λ o l (u : o < s + (e - s)). f o l (omega arith)))

pub item_pending : (c : Committee) (es : List Entry) (x : Item) → item_in_order c es x ≡ true → Pending c es x
unfolding item_in_order item_full item_stored item_suits
item_pending c es x h =
    let h₁ = and_right (ltb x.start x.end) _ h in
    let f = holds_some (λ e. item_suits x e.block) (at es x) (and_left (holds (λ e. item_suits x e.block) (at es x)) _ h₁) in
    record {
      full = ltb-true _ _ (and_left (ltb x.start x.end) _ h);
      votes = and_right (holds (λ e. item_suits x e.block) (at es x)) _ h₁;
      entry = f.0;
      found = f.1;
      shares = shares_at f.0.block x.start x.end (and_left (shares_in f.0.block x.start x.end) _ f.2);
      sharer = and_right (shares_in f.0.block x.start x.end) _ f.2;
    }

pub pending_item : (c : Committee) (es : List Entry) (x : Item) → Pending c es x → item_in_order c es x ≡ true
unfolding item_in_order item_full item_stored item_suits holds
pending_item c es x p =
    rw (lt-ltb x.start x.end p.full, p.found, shares_from p.entry.block x.start x.end p.shares, p.sharer) p.votes

-- ---- it stays so

pending_piece : (c : Committee) (es : List Entry) (x y : Item) → Piece x y → Pending c es x → Pending c es y
pending_piece c es x y s p =
    record {
      full = s.full p.full;
      votes = rw s.votes p.votes;
      entry = p.entry;
      found = rw s.same p.found;
      shares = λ o (l : y.start ≤ o) (u : o < y.end). p.shares o (omega (arith, s.lower)) (omega (arith, s.upper));
      sharer = rw s.votes p.sharer;
    }

pub pending_both_cuts : (c : Committee) (es : List Entry) (q s e : ℕ) (xs : List Item) → Every (Pending c es) xs → Every (Pending c es) (both_cuts q s e xs)
unfolding both_cuts
pending_both_cuts c es q s e xs h = go (ltb s e)
  where
    go : (t : Bool) → Every (Pending c es) (pick t (cut_at q e (cut_at q s xs)) xs)
    go true = every_cut (pending_piece c es) q e (cut_at q s xs) (every_cut (pending_piece c es) q s xs h)
    go false = h

pending_voted : (c : Committee) (es : List Entry) (a : AuthorityIndex) → known c a ≡ true → (x : Item) → Pending c es x → Pending c es (voted_item c a x)
unfolding voted_item
pending_voted c es a k x p =
    record {
      full = p.full;
      votes = counted_in_order c x.aggregator a k p.votes;
      entry = p.entry;
      found = p.found;
      shares = p.shares;
      sharer = counted_keeps c a x.aggregator (author p.entry.block) p.sharer;
    }

pub pending_vote_over : (c : Committee) (es : List Entry) (a : AuthorityIndex) → known c a ≡ true → (q s e : ℕ) (xs : List Item)
    → Every (Pending c es) xs → Every (Pending c es) (vote_over c a q s e xs)
unfolding vote_over
pending_vote_over c es a k q s e xs h =
    every_map (λ x. pick (item_within q s e x) (voted_item c a x) x) (λ x p. go (item_within q s e x) x p) (both_cuts q s e xs)
    (pending_both_cuts c es q s e xs h)
  where
    go : (t : Bool) (x : Item) → Pending c es x → Pending c es (pick t (voted_item c a x) x)
    go true x p = pending_voted c es a k x p
    go false x p = p

pub pending_after_leaving : (c : Committee) (es : List Entry) (q s e : ℕ) (xs : List Item) → Every (Pending c es) xs → Every (Pending c es)
    (after_leaving c q s e xs)
unfolding after_leaving
pending_after_leaving c es q s e xs h = every_keep _ xs h

-- ---- a new entry, after all others

module _ (c : Committee) (es : List Entry) (new : Entry) (last : Every (λ e. e.position < new.position) es) where
  -- an item stands at an entry that is there
  pub pending_position : (x : Item) → Pending c es x → x.position < new.position
  pending_position x p =
      let here : p.entry.position ≡ x.position = eqb-true _ _ (find_passes (λ e. eqb e.position x.position) es p.entry p.found) in
      omega (arith, here, find_every (λ e. eqb e.position x.position) es p.entry p.found last)

  pub pending_more : (x : Item) → Pending c es x → Pending c (new ∷ es) x
  unfolding find
  pending_more x p =
      record {
        full = p.full;
        votes = p.votes;
        entry = p.entry;
        found = rw (ne_eqb new.position x.position (λ e. omega (arith, pending_position x p))) p.found;
        shares = p.shares;
        sharer = p.sharer;
      }

  pending_registered : (x : TransactionLocatorRange) → known c (author new.block) ≡ true → SharedRun new.block x → Pending c (new ∷ es)
      (registered c (author new.block) new.position x)
  unfolding registered first_vote find
  pending_registered x k r =
      record {
        full = r.full;
        votes = counted_in_order c no_votes (author new.block) k (no_votes_order c);
        entry = new;
        found = rw (eq-eqb new.position new.position refl);
        shares = r.shares;
        sharer = counted_member c (author new.block) no_votes;
      }

  -- registering the new entry's shares keeps items in order
  pub pending_register : known c (author new.block) ≡ true → (xs : List Item) → Every (Pending c es) xs
      → Every (Pending c (new ∷ es)) (register c (author new.block) new.position (shared_ranges new.block) xs)
  unfolding register
  pending_register k xs h =
      every_append xs _ (every pending_more xs h) (every_map (registered c (author new.block) new.position) (λ x r. pending_registered x k r)
      (shared_ranges new.block) (shared_runs new.block))

  pub ordered_register : (xs : List Item) → Every (Pending c es) xs → Ordered xs → Ordered
      (register c (author new.block) new.position (shared_ranges new.block) xs)
  unfolding register registered first_vote
  ordered_register xs h o =
      pairs_append xs (map make runs) o
      (pairs_map make (λ x y b. before_from (make x) (make y) (inr (refl, b))) runs (shared_below new.block))
      (every (λ x p. every_map make (λ y u. before_from x (make y) (inl (pending_position x p))) runs (shared_runs new.block)) xs h)
    where
      make : TransactionLocatorRange → Item
      make = registered c (author new.block) new.position

      runs : List TransactionLocatorRange
      runs = shared_ranges new.block

-- ---- the table

-- what "in order" says of a table
pub record InOrder (c : Committee) (es : List Entry) (t : List ℕ) : Type 0 where
  pub laid : t ≡ table_of (length t) (items_of t)
  pub ordered : Ordered (items_of t)
  pub items : Every (Pending c es) (items_of t)

pub in_order_lem : (c : Committee) (es : List Entry) (t : List ℕ) → table_in_order c es t ≡ true → InOrder c es t
unfolding table_in_order
in_order_lem c es t h =
    let first : Bool = same t (table_of (length t) (items_of t)) in
    let h₁ = and_right first _ h in
    record {
      laid = same_true _ _ (and_left first _ h);
      ordered = pairwise_pairs item_before (items_of t) (and_left (pairwise item_before (items_of t)) _ h₁);
      items = every (item_pending c es) (items_of t) (all_every (item_in_order c es) (items_of t) (and_right (pairwise item_before (items_of t)) _ h₁));
    }

-- a table of n words written from items in order is in order, and holds them
pub order_table_of : (c : Committee) (es : List Entry) (n : ℕ) (xs : List Item) → 1 + 6 * length xs ≤ n → Ordered xs → Every (Pending c es) xs
    → table_in_order c
    es (table_of n xs) ≡ true
unfolding table_in_order
order_table_of c es n xs h o p =
    rw (
      items_of_table_of n xs,
      length_table_of n xs h,
      same_refl (table_of n xs),
      pairs_pairwise item_before xs o,
      every_all (item_in_order c es) xs (every (pending_item c es) xs p),
    )

-- a table in order has a word at least
pub some_word : (c : Committee) (es : List Entry) (t : List ℕ) → InOrder c es t → 1 ≤ length t
unfolding table_of
some_word c es [] h = let n : 0 ≡ length (table_of 0 (items_of [])) = ap (λ (l : List ℕ). length l) h.laid in omega arith
some_word c es (x ∷ t) h = omega arith

-- items that the table has room for fit it
pub room_fits : (c : Committee) (es : List Entry) (t : List ℕ) (n : ℕ) → InOrder c es t → n ≤ room t → 1 + 6 * n ≤ length t
unfolding room
room_fits c es t n h k = omega (arith, some_word c es t h)

-- ---- lengths

pub length_vote_over : (c : Committee) (a : AuthorityIndex) (q s e : ℕ) (xs : List Item) → length (vote_over c a q s e xs) ≡ length (both_cuts q s e xs)
unfolding vote_over
length_vote_over c a q s e xs = length-map (both_cuts q s e xs) _

pub length_after_leaving : (c : Committee) (q s e : ℕ) (xs : List Item) → length (after_leaving c q s e xs) ≤ length xs
unfolding after_leaving
length_after_leaving c q s e xs = length_keep _ xs
