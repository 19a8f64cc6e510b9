-- Withdrawn votes over blocks, the newest first: worked examples. Assumes nothing: these are definitions.
use Rattle.std.specs.Prelude.{ℕ, ◌≡◌, false, List, [], ◌∷◌, ◌++◌, map}
use Rattle.std.proofs.Math.Option.{none, some}
use Rattle.committee.specs.Committee.{Committee}
use Rattle.committee_set.specs.AuthoritySet.{members}
use Rattle.record_spec.specs.Reference.{BlockReference, TransactionLocator, new_range}
use Rattle.record_spec.specs.Block.{Statement, share, accept, reject, vote_range, Block}
use Rattle.final_readings_spec.specs.Readings.{old, withdrawing, voters_in, certifies_in}
use Rattle.final_readings_spec.specs.NextFinal.{least_final_in, final_list_in, reject_edges}

abbrev pub ref : ℕ → ℕ → BlockReference
ref a r = record { authority = a; round = r; digest = [] }

abbrev pub block : ℕ → ℕ → List BlockReference → List Statement → Block
block a r is ss = record { reference = ref a r; marked = false; includes = is; statements = ss }

abbrev pub four : Committee
four = 1 ∷ 1 ∷ 1 ∷ 1 ∷ []

-- author 0 shares in round 1; authors 1 and 2 accept in round 2; author 1 rejects in round 3, and author 3 accepts there and rejects another with the
-- share as second locator
abbrev pub the : TransactionLocator
the = record { block = ref 0 1; offset = 0 }

abbrev pub other : TransactionLocator
other = record { block = ref 0 1; offset = 7 }

abbrev pub shared : Block
shared = block 0 1 [] (share [] ∷ [])

abbrev pub vote_of : ℕ → Block
vote_of a = block a 2 (ref 0 1 ∷ []) (accept the ∷ [])

abbrev pub below : Block
below = block 0 3 (ref 1 2 ∷ ref 2 2 ∷ []) []

abbrev pub turned : Block
turned = block 1 3 (ref 1 2 ∷ ref 2 2 ∷ []) (reject the none ∷ [])

abbrev pub second : Block
second = block 3 3 (ref 1 2 ∷ ref 2 2 ∷ []) (accept the ∷ reject other (some the) ∷ [])

abbrev pub above : Block
above = block 0 4 (ref 1 3 ∷ ref 3 3 ∷ []) []

abbrev pub all : List Block
all = above ∷ second ∷ turned ∷ below ∷ vote_of 2 ∷ vote_of 1 ∷ shared ∷ []

-- an owner accepts again above his own reject, and the sharer rejects his share
abbrev pub again : List Block
again = block 1 5 (ref 0 4 ∷ []) (accept the ∷ []) ∷ all

abbrev pub taken : List Block
taken = block 0 2 (ref 0 1 ∷ []) (reject the none ∷ []) ∷ shared ∷ []

-- a sole owner's range 0..10 of an unknown block, with offset 3 withdrawn
abbrev pub unknown : ℕ → TransactionLocator
unknown o = record { block = ref 7 9; offset = o }

abbrev pub alone : List Block
alone = block 0 0 [] (vote_range (new_range (ref 7 9) 0 10) ∷ reject (unknown 3) none ∷ []) ∷ []

pub record Examples : Type 0 where
  -- 02: "for that block only": the block that does not know of the reject keeps the vote
  pub not_known : members (voters_in withdrawing all the (ref 0 3)) ≡ 0 ∷ 1 ∷ 2 ∷ []
  -- the reject cancels for its own block; the old reading keeps the vote there
  pub own_block : members (voters_in withdrawing all the (ref 1 3)) ≡ 0 ∷ 2 ∷ []
  pub own_block_old : members (voters_in old all the (ref 1 3)) ≡ 0 ∷ 1 ∷ 2 ∷ []
  pub own_certifies : certifies_in withdrawing four all the turned ≡ false
  -- 02: "(its first)": a second locator withdraws nothing
  pub its_first : members (voters_in withdrawing all the (ref 3 3)) ≡ 0 ∷ 1 ∷ 2 ∷ 3 ∷ []
  -- above both, the one vote is cancelled
  pub above_both : members (voters_in withdrawing all the (ref 0 4)) ≡ 0 ∷ 2 ∷ 3 ∷ []
  -- and stays so, whatever the owner says later
  pub voted_again : members (voters_in withdrawing again the (ref 1 5)) ≡ 0 ∷ 2 ∷ 3 ∷ []
  -- "cancels that owner's accepts, ranges and share for it"
  pub share_taken : members (voters_in withdrawing taken the (ref 0 2)) ≡ []
  -- the list is shorter than the old one's by the withdrawn locator, and the next one stands where no vote begins
  pub all_old : final_list_in old (1 ∷ []) alone ≡ map unknown (0 ∷ 1 ∷ 2 ∷ 3 ∷ 4 ∷ 5 ∷ 6 ∷ 7 ∷ 8 ∷ 9 ∷ [])
  pub but_one : final_list_in withdrawing (1 ∷ []) alone ≡ map unknown (0 ∷ 1 ∷ 2 ∷ []) ++ map unknown (4 ∷ 5 ∷ 6 ∷ 7 ∷ 8 ∷ 9 ∷ [])
  pub after_reject : least_final_in withdrawing (1 ∷ []) alone (some (unknown 2)) ≡ some (unknown 4)
  pub edges_of : reject_edges alone (ref 7 9) ≡ 3 ∷ 4 ∷ []
