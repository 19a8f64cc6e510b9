-- The pending table: items as words, in order or not. Assumes nothing: these are definitions.
use Rattle.std.specs.Prelude.{ℕ, ◌+◌, ◌-◌, ◌*◌, ◌/◌, ◌≡◌, Bool, true, ◌&&◌, eqb, length, drop, get_or, replicate}
use mathlib.Core.List.{List, [], ◌∷◌, ◌++◌, map, flatten}
use Rattle.std.proofs.Math.Option.{Option, none, some}
use Rattle.base.specs.Lists.{all_of, pairwise, find, holds, same, count_from}
use Rattle.base.specs.Read.{Part, Read, give, ◌>>=◌, items, repeated}
use Rattle.committee.specs.Committee.{Committee}
use Rattle.committee_set.specs.AuthoritySet.{member}
use Rattle.committee_aggregator.specs.StakeAggregator.{aggregator_in_order}
use Rattle.record_spec.specs.Block.{Block, author, is_share_at}
use Rattle.store_spec.specs.Layout.{Entry}
use Rattle.pending_spec.specs.Items.{Item, item_before, item_full}

-- 01: "six words an item: entry position, start, end, votes low, votes high, stake"
unfoldable pub item_words : Item → List ℕ
item_words x =
    x.position ∷ x.start ∷ x.end
    ∷ x.aggregator.votes.low ∷ x.aggregator.votes.high ∷ x.aggregator.stake
    ∷ []

-- 01: "item count, then six words an item ..; the rest zero": a table of n words
unfoldable pub table_of : ℕ → List Item → List ℕ
table_of n xs = length xs ∷ flatten (map item_words xs) ++ replicate (n - 1 - 6 * length xs) 0

-- 01: "(length - 1) / 6 rounded down"
unfoldable pub room : List ℕ → ℕ
room t = (length t - 1) / 6

-- the item in the six words from b on
unfoldable pub item_from : List ℕ → ℕ → Item
item_from t b =
    record {
      position = get_or t b 0;
      start = get_or t (b + 1) 0;
      end = get_or t (b + 2) 0;
      aggregator = record { votes = record { low = get_or t (b + 3) 0; high = get_or t (b + 4) 0 }; stake = get_or t (b + 5) 0 };
    }

unfoldable pub read_item : Read Item
read_item = do
  words ← items 6
  give (item_from words 0)

unfoldable pub items_read : Option (Part (List Item)) → List Item
items_read none = []
items_read (some p) = p.value

-- the items of a table (no items where it has too few words for them: then it is not in order)
unfoldable pub items_of : List ℕ → List Item
items_of t = items_read (repeated (get_or t 0 0) read_item (drop 1 t))

-- the table is laid out as 01 says
abbrev pub Laid : List ℕ → Type 0
Laid t = t ≡ table_of (length t) (items_of t)

-- the table is laid out as 01 says; its items ascend, are disjoint and not empty
pub record HoldsItems (t : List ℕ) : Type 0 where
  pub laid : t ≡ table_of (length t) (items_of t)
  pub ordered : pairwise item_before (items_of t) ≡ true
  pub full : all_of item_full (items_of t) ≡ true

-- every offset in start..end is a share's
unfoldable pub shares_in : Block → ℕ → ℕ → Bool
shares_in b start end = all_of (is_share_at b) (count_from start (end - start))

-- 01: "offsets shares, votes .. holding the sharer"
unfoldable pub item_suits : Item → Block → Bool
item_suits x b = shares_in b x.start x.end && member x.aggregator.votes (author b)

-- 01: "positions stored, offsets shares, votes .. holding the sharer": what the store has to say of an item
unfoldable pub item_stored : List Entry → Item → Bool
item_stored es x = holds (λ e. item_suits x e.block) (find (λ e. eqb e.position x.position) es)

-- 01: "not empty", "positions stored, offsets shares, votes known and holding the sharer, stake their sum"
unfoldable pub item_in_order : Committee → List Entry → Item → Bool
item_in_order c es x = item_full x && (item_stored es x && aggregator_in_order c x.aggregator)

-- 01: "11 pending table of no words or not in order (layout above, positions stored, offsets shares, ..)"
unfoldable pub table_in_order : Committee → List Entry → List ℕ → Bool
table_in_order c es t =
    same t (table_of (length t) (items_of t))
    && (pairwise item_before (items_of t) && all_of (item_in_order c es) (items_of t))

-- the part of it that needs no store
unfoldable pub table_formed : Committee → List ℕ → Bool
table_formed c t =
    same t (table_of (length t) (items_of t))
    && (pairwise item_before (items_of t)
    && (all_of item_full (items_of t) && all_of (λ x. aggregator_in_order c x.aggregator) (items_of t)))

-- the part that does
unfoldable pub table_stored : List Entry → List ℕ → Bool
table_stored es t = all_of (item_stored es) (items_of t)
