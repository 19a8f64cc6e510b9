-- Machinery for the contracts of inner functions: what stands at an index of the table, what a loop over items leaves.
-- Assumes nothing: these are definitions.
use Rattle.std.specs.Prelude.{ℕ, ◌+◌, ◌-◌, ◌*◌, ◌≤◌, ◌<◌, ◌≡◌, Bool, ◌&&◌, ◌||◌, List, ◌∷◌, ◌++◌, eqb, length, get_or, take, drop}
use Rattle.base.specs.Lists.{pick}
use Rattle.committee.specs.Committee.{AuthorityIndex, Stake}
use Rattle.committee_aggregator.specs.StakeAggregator.{with_vote}
use Rattle.pending_spec.specs.Items.{Item, no_item, item_before, item_full, front_of, back_of, item_within}
use Rattle.pending_spec.specs.Table.{item_from}

-- the item at index i of a table, also past the items that it counts
abbrev pub slot : List ℕ → ℕ → Item
slot t i = item_from t (6 * i + 1)

-- the items i..n stand one index higher; the others, and the count, as they were
pub record MovedUp (t : List ℕ) (i n : ℕ) (u : List ℕ) : Type 0 where
  pub long : length u ≡ length t
  pub count : get_or u 0 0 ≡ get_or t 0 0
  pub same : (j : ℕ) → j ≤ i → slot u j ≡ slot t j
  pub moved : (j : ℕ) → i ≤ j → j < n → slot u (j + 1) ≡ slot t j
  pub above : (j : ℕ) → n < j → slot u j ≡ slot t j

-- the items i..n are zero; the others, and the count, as they were
pub record Cleared (t : List ℕ) (i n : ℕ) (u : List ℕ) : Type 0 where
  pub long : length u ≡ length t
  pub count : get_or u 0 0 ≡ get_or t 0 0
  pub below : (j : ℕ) → j < i → slot u j ≡ slot t j
  pub zero : (j : ℕ) → i ≤ j → j < n → slot u j ≡ no_item
  pub above : (j : ℕ) → n ≤ j → slot u j ≡ slot t j

-- the item at index i in two parts, at o
unfoldable pub in_two : List Item → ℕ → ℕ → List Item
in_two xs i o = take i xs ++ front_of (get_or xs i no_item) o ∷ back_of (get_or xs i no_item) o ∷ drop (i + 1) xs

-- one more vote for any of the items fits a word
pub record Countable (s : Stake) (xs : List Item) : Type 0 where
  pub fits : (i : ℕ) → i < length xs → (get_or xs i no_item).aggregator.stake + s < 18446744073709551616

-- the item, with the vote of an author whose stake is s if it lies in start..end of the entry at p
unfoldable pub voted_in : Stake → AuthorityIndex → ℕ → ℕ → ℕ → Item → Item
voted_in s a p start end x =
    pick (item_within p start end x)
    (record { position = x.position; start = x.start; end = x.end; aggregator = with_vote s x.aggregator a })
    x

-- the item at index k is not empty, and stands after the one before it
unfoldable pub stands_at : List Item → ℕ → Bool
stands_at xs k = item_full (get_or xs k no_item) && (eqb k 0 || item_before (get_or xs (k - 1) no_item) (get_or xs k no_item))
