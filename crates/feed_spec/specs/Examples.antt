-- Shares registered and votes counted over entries: worked examples; 01's marked card stands in crate cards. Assumes nothing: these are definitions.
use Rattle.std.specs.Prelude.{ℕ, ◌≡◌, false, List, [], ◌∷◌}
use Rattle.std.proofs.Math.Option.{none}
use Rattle.committee.specs.Committee.{Committee}
use Rattle.record_spec.specs.Reference.{BlockReference, new_range}
use Rattle.record_spec.specs.Block.{Statement, share, accept, reject, vote_range, Block, event_room}
use Rattle.store_spec.specs.Layout.{Entry}
use Rattle.pending_spec.specs.Items.{Item}
use Rattle.feed_spec.specs.ProcessBlock.{Event, process_block}

abbrev pub ref : ℕ → ℕ → BlockReference
ref a k = record { authority = a; round = k; digest = k ∷ [] }

abbrev pub block : BlockReference → List Statement → Block
block r ss = record { reference = r; marked = false; includes = []; statements = ss }

abbrev pub entry : ℕ → Block → Entry
entry p b = record { position = p; bytes = []; block = b }

abbrev pub item : ℕ → ℕ → ℕ → ℕ → ℕ → Item
item p start end votes stake =
    record { position = p; start = start; end = end; aggregator = record { votes = record { low = votes; high = 0 }; stake = stake } }

abbrev pub event : ℕ → ℕ → ℕ → Event
event kind statement offset = record { kind = kind; statement = statement; offset = offset }

abbrev pub four : Committee
four = 1 ∷ 1 ∷ 1 ∷ 1 ∷ []

abbrev pub shares : Block
shares = block (ref 0 1) (share [] ∷ share [] ∷ reject (record { block = ref 0 1; offset = 0 }) none ∷ share [] ∷ [])

-- a sole owner's vote in the same block processes it; the share is registered before, whatever the order of the statements
abbrev pub at_once : Block
at_once = block (ref 0 1) (accept (record { block = ref 0 1; offset = 1 }) ∷ share [] ∷ [])

-- a range over 0..5: 0 gets its third voter, 1 its second; 2 is a reject, 3 a share that has left, 4 nothing: processed, none, unknown, late, unknown
abbrev pub ranged : Block
ranged = block (ref 2 2) (vote_range (new_range (ref 0 1) 0 5) ∷ [])

-- a block that is not stored: every offset is unknown, and nothing is cut
abbrev pub astray : Block
astray = block (ref 1 2) (accept (record { block = ref 3 1; offset = 7 }) ∷ vote_range (new_range (ref 0 1) 1 1) ∷ [])

pub record Examples : Type 0 where
  -- two runs of a sole owner stay pending, also with quorum
  pub sole_owner : process_block (1 ∷ []) (entry 16 shares ∷ []) shares []
      ≡ record { items = item 16 0 2 1 1 ∷ item 16 3 4 1 1 ∷ []; events = []; most = 2 }
  pub votes_itself : process_block (1 ∷ []) (entry 16 at_once ∷ []) at_once [] ≡ record { items = []; events = event 1 0 1 ∷ []; most = 1 }
  pub mixed : process_block four (entry 90 ranged ∷ entry 16 shares ∷ []) ranged (item 16 0 1 3 2 ∷ item 16 1 2 1 1 ∷ [])
      ≡ record { items = item 16 1 2 5 2 ∷ []; events = event 1 0 0 ∷ event 3 0 2 ∷ event 2 0 3 ∷ event 3 0 4 ∷ []; most = 2 }
  -- 15 counts every offset, also where no event comes of it; rejects and shares cost nothing
  pub room_of : event_room ranged ≡ 15
  pub not_stored : process_block four (entry 90 astray ∷ entry 16 shares ∷ []) astray (item 16 0 2 1 1 ∷ [])
      ≡ record { items = item 16 0 2 1 1 ∷ []; events = event 3 0 7 ∷ []; most = 1 }
