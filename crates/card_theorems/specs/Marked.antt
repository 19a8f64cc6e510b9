-- 01, "Edge cards (M: marked)": the marked ones as one table, each with its words. Assumes nothing: these are definitions.
use Rattle.std.specs.Prelude.{ℕ, ◌≡◌, Bool, true, false, List, [], ◌∷◌, ◌++◌, map, replicate}
use Rattle.base.specs.Le.{Bytes}
use Rattle.base.specs.Checks.{refusal, Answer, refused, answered}
use Rattle.committee.specs.Committee.{Committee, total_stake, new_committee, is_quorum, is_valid}
use Rattle.record_spec.specs.Reference.{BlockReference, TransactionLocator, new_range}
use Rattle.record_spec.specs.Block.{Statement, share, accept, vote_range, Block, shared_ranges}
use Rattle.record_spec.specs.Verify.{statement_checks}
use Rattle.pending_spec.specs.Items.{Item, vote_over}
use Rattle.record_spec.specs.Record.{block_bytes}
use Rattle.feed_spec.specs.Pending.{pending}
use Rattle.final_spec.specs.Voters.{certifies}
use Rattle.final_spec.specs.Finality.{Finality, finality, blocks_of}
use Rattle.mission_theorems.specs.Feeds.{Engine, fresh, run}

-- ---- what the cards speak of

abbrev pub four : Committee
four = 1 ∷ 1 ∷ 1 ∷ 1 ∷ []

-- an item of the entry at 16: offsets, voters in the low word, stake
abbrev pub item : ℕ → ℕ → ℕ → ℕ → Item
item start end votes stake =
    record { position = 16; start = start; end = end; aggregator = record { votes = record { low = votes; high = 0 }; stake = stake } }

-- author, round and the last byte of the digest
abbrev pub ref : ℕ → ℕ → ℕ → BlockReference
ref a r d = record { authority = a; round = r; digest = replicate 31 0 ++ (d ∷ []) }

abbrev pub block : BlockReference → Bool → List BlockReference → List Statement → Block
block r m is ss = record { reference = r; marked = m; includes = is; statements = ss }

-- the engine that was fed the records of some blocks, the last first, from fresh
abbrev pub fed : Committee → List Block → Engine
fed c bs = run c (fresh (replicate 2700 0) 13) (map (λ b. record { bytes = block_bytes b; work = replicate 13 0; events = replicate 3 0 }) bs)

-- a sole owner's share
abbrev pub sole : Committee
sole = 1 ∷ []

abbrev pub sole_share : List Block
sole_share = block (ref 0 1 2) false (ref 0 0 1 ∷ []) (share [] ∷ []) ∷ block (ref 0 0 1) false [] [] ∷ []

-- the blocks of authors 0 to 2 in round 0; in round 1 that of author 0 shares; in round 2 those of authors 1 and 2 accept it, and author 3 has one
abbrev pub it : TransactionLocator
it = record { block = ref 0 1 0; offset = 0 }

abbrev pub three : ℕ → List BlockReference
three r = ref 0 r 0 ∷ ref 1 r 0 ∷ ref 2 r 0 ∷ []

abbrev pub accepting : List Block
accepting =
    block (ref 3 2 0) false (three 1) []
    ∷ block (ref 2 2 0) false (three 1) (accept it ∷ [])
    ∷ block (ref 1 2 0) false (three 1) (accept it ∷ [])
    ∷ block (ref 0 2 0) false (three 1) []
    ∷ block (ref 2 1 0) false (three 0) []
    ∷ block (ref 1 1 0) false (three 0) []
    ∷ block (ref 0 1 0) false (three 0) (share [] ∷ [])
    ∷ block (ref 2 0 0) false [] []
    ∷ block (ref 1 0 0) false [] []
    ∷ block (ref 0 0 0) false [] []
    ∷ []

-- in round 3 the block of author 0 includes both votes, those of authors 1 and 2 one of them; in round 4 a block includes these three
abbrev pub marked : Block
marked = block (ref 0 3 0) true (three 2) []

abbrev pub beside : ℕ → Block
beside a = block (ref a 3 0) false (ref 0 2 0 ∷ ref 1 2 0 ∷ ref 3 2 0 ∷ []) []

abbrev pub child : Block
child = block (ref 1 4 0) false (three 3) []

abbrev pub under_mark : List Block
under_mark = child ∷ beside 2 ∷ beside 1 ∷ marked ∷ accepting

-- in round 3 one block of author 0 and two of author 1 include both votes
abbrev pub above : ℕ → ℕ → Block
above a d = block (ref a 3 d) false (three 2) []

abbrev pub twice : List Block
twice = above 1 1 ∷ above 1 0 ∷ above 0 0 ∷ accepting

-- the answer of the finality question after these records
abbrev pub asked : Committee → List Block → TransactionLocator → Answer Finality
asked c bs l = (finality c (fed c bs).store (replicate 15 0) l).answer

-- ---- the table

pub record MarkedCards : Type 0 where
  -- "T = 4: 3 quorum, 2 not, 2 valid, 1 not"
  pub four_quorum : (c : Committee) → total_stake c ≡ 4 → is_quorum c 3 ≡ true
  pub four_no_quorum : (c : Committee) → total_stake c ≡ 4 → is_quorum c 2 ≡ false
  pub four_valid : (c : Committee) → total_stake c ≡ 4 → is_valid c 2 ≡ true
  pub four_not_valid : (c : Committee) → total_stake c ≡ 4 → is_valid c 1 ≡ false
  -- "T = 3: 3 quorum, 2 not"
  pub three_quorum : (c : Committee) → total_stake c ≡ 3 → is_quorum c 3 ≡ true
  pub three_no_quorum : (c : Committee) → total_stake c ≡ 3 → is_quorum c 2 ≡ false
  -- "T = 1: 1 quorum"
  pub one_quorum : (c : Committee) → total_stake c ≡ 1 → is_quorum c 1 ≡ true
  -- "T = 2^63 - 1 taken, 2^63 gives 4"
  pub largest_taken : new_committee (9223372036854775806 ∷ 1 ∷ []) ≡ answered 9223372036854775807
  pub larger_refused : new_committee (9223372036854775807 ∷ 1 ∷ []) ≡ refused 4
  -- "0..1048575 taken; 0..1048576 gives 27; 5..4 gives 26"
  pub range_taken : (r : BlockReference) → refusal (statement_checks (vote_range (new_range r 0 1048575))) ≡ 0
  pub range_too_far : (r : BlockReference) → refusal (statement_checks (vote_range (new_range r 0 1048576))) ≡ 27
  pub range_backwards : (r : BlockReference) → refusal (statement_checks (vote_range (new_range r 5 4))) ≡ 26
  -- "shares at 0, 1, 3: 0..2 and 3..4"
  pub runs : (r : BlockReference) (v w x : Bytes) (l : TransactionLocator)
      → shared_ranges (record { reference = r; marked = false; includes = []; statements = share v ∷ share w ∷ accept l ∷ share x ∷ [] })
      ≡ new_range r 0 2 ∷ new_range r 3 4 ∷ []
  -- "item 0..8, vote 3..5: 0..3, 3..5, 5..8; then 3..3 changes nothing"
  pub cut : vote_over four 1 16 3 5 (item 0 8 1 1 ∷ []) ≡ item 0 3 1 1 ∷ item 3 5 3 2 ∷ item 5 8 1 1 ∷ []
  pub empty_range : vote_over four 2 16 3 3 (item 0 3 1 1 ∷ item 3 5 3 2 ∷ item 5 8 1 1 ∷ []) ≡ item 0 3 1 1 ∷ item 3 5 3 2 ∷ item 5 8 1 1 ∷ []
  -- "Wrong turns: .. joining items after a vote": three items that have the same votes stay three
  pub never_joined : vote_over four 1 16 0 8 (item 0 3 1 1 ∷ item 3 5 3 2 ∷ item 5 8 1 1 ∷ []) ≡ item 0 3 3 2 ∷ item 3 5 3 2 ∷ item 5 8 3 2 ∷ []
  -- "sole owner shares: final, pending"
  pub sole_final : asked sole sole_share (record { block = ref 0 1 2; offset = 0 }) ≡ answered (record { final = true; certifying = 1 })
  pub sole_pending : pending sole (fed sole sole_share).store (fed sole sole_share).table (record { block = ref 0 1 2; offset = 0 })
      ≡ answered (record { stake = 1; voters = 1 })
  -- "marked block with quorum below it: no certificate, its child certifies": all records are accepted, and the child is the only one that certifies
  pub under_mark_lem : blocks_of (fed four under_mark).store ≡ under_mark
  pub marked_not : certifies four under_mark it marked ≡ false
  pub child_certifies : certifies four under_mark it child ≡ true
  pub child_alone : asked four under_mark it ≡ answered (record { final = false; certifying = 1 })
  -- "two blocks of one author: stake once": authors 0 and 1 certify, 1 with two blocks; and with author 2 it is final
  pub author_once : asked four twice it ≡ answered (record { final = false; certifying = 3 })
  pub third_author : asked four (above 2 0 ∷ twice) it ≡ answered (record { final = true; certifying = 4 })
