-- Votes over items, and the words of a table: worked examples; 01's marked card stands in crate cards. Assumes nothing: these are definitions.
use Rattle.std.specs.Prelude.{ℕ, ◌≡◌, [], ◌∷◌}
use Rattle.pending_spec.specs.Items.{Item, vote_over, after_leaving}
use Rattle.pending_spec.specs.Table.{table_of, items_of}

-- an item of the entry at 16: offsets, voters in the low word, stake
abbrev pub item : ℕ → ℕ → ℕ → ℕ → Item
item start end votes stake =
    record { position = 16; start = start; end = end; aggregator = record { votes = record { low = votes; high = 0 }; stake = stake } }

pub record Examples : Type 0 where
  -- an empty range cuts nothing
  pub empty_uncut : vote_over (1 ∷ 1 ∷ 1 ∷ 1 ∷ []) 2 16 3 3 (item 0 8 1 1 ∷ []) ≡ item 0 8 1 1 ∷ []
  -- a repeated vote adds no stake; items are never joined
  pub again : vote_over (1 ∷ 1 ∷ 1 ∷ 1 ∷ []) 1 16 0 8 (item 0 3 1 1 ∷ item 3 5 3 2 ∷ item 5 8 1 1 ∷ []) ≡ item 0 3 3 2 ∷ item 3 5 3 2 ∷ item 5 8 3 2 ∷ []
  -- what holds quorum leaves
  pub leaves : after_leaving (1 ∷ 1 ∷ 1 ∷ 1 ∷ []) 16 0 8 (item 0 3 3 2 ∷ item 3 5 7 3 ∷ []) ≡ item 0 3 3 2 ∷ []
  -- written and read back
  pub words : table_of 14 (item 0 3 3 2 ∷ item 3 5 7 3 ∷ []) ≡ 2 ∷ 16 ∷ 0 ∷ 3 ∷ 3 ∷ 0 ∷ 2 ∷ 16 ∷ 3 ∷ 5 ∷ 7 ∷ 0 ∷ 3 ∷ 0 ∷ []
  pub read_back : items_of (table_of 14 (item 0 3 3 2 ∷ item 3 5 7 3 ∷ [])) ≡ item 0 3 3 2 ∷ item 3 5 7 3 ∷ []
