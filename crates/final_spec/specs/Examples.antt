-- Certificates, final locators and lists over blocks: worked examples, and a certificate shown by hand; 01's marked cards stand in crate cards.
-- Assumes nothing: these are definitions.
use Rattle.std.specs.Prelude.{ℕ, ◌≡◌, Bool, true, false, List, [], ◌∷◌}
use Rattle.std.proofs.Math.Option.{none, some}
use Rattle.committee.specs.Committee.{Committee}
use Rattle.committee_set.specs.AuthoritySet.{members}
use Rattle.record_spec.specs.Reference.{BlockReference, TransactionLocator, new_range}
use Rattle.record_spec.specs.Block.{Statement, share, accept, vote_range, Block}
use Rattle.final_spec.specs.ByHand.{ByHand}
use Rattle.final_spec.specs.Voters.{voters, certifies}
use Rattle.final_spec.specs.NextFinal.{least_final, final_list}

abbrev pub ref : ℕ → ℕ → ℕ → BlockReference
ref a r k = record { authority = a; round = r; digest = k ∷ [] }

abbrev pub block : BlockReference → Bool → List BlockReference → List Statement → Block
block r m is ss = record { reference = r; marked = m; includes = is; statements = ss }

abbrev pub four : Committee
four = 1 ∷ 1 ∷ 1 ∷ 1 ∷ []

-- author 0 shares two in a block of round 1; authors 1 and 2 accept the first in round 2
abbrev pub the : TransactionLocator
the = record { block = ref 0 1 5; offset = 0 }

abbrev pub shared : Block
shared = block (ref 0 1 5) false [] (share [] ∷ share [] ∷ [])

abbrev pub vote_of : ℕ → Block
vote_of a = block (ref a 2 a) false (ref 0 1 5 ∷ []) (accept the ∷ [])

abbrev pub votes : List Block
votes = vote_of 2 ∷ vote_of 1 ∷ shared ∷ []

abbrev pub top : ℕ → ℕ → Bool → List BlockReference → Block
top a r m is = block (ref a r a) m is []

-- a marked block passes the votes beneath it on
abbrev pub marked_top : Block
marked_top = top 0 3 true (ref 1 2 1 ∷ ref 2 2 2 ∷ [])

abbrev pub child : Block
child = top 1 4 false (ref 0 3 0 ∷ [])

abbrev pub grown : List Block
grown = child ∷ marked_top ∷ votes

-- blocks on top of both votes
abbrev pub certified : ℕ → Block
certified a = top a 3 false (ref 1 2 1 ∷ ref 2 2 2 ∷ [])

-- final also where its block is not stored: a sole owner's range over 3..6 of an unknown block, and an empty one
abbrev pub unknown : ℕ → TransactionLocator
unknown o = record { block = ref 7 9 0; offset = o }

abbrev pub alone : List Block
alone = block (ref 0 0 1) false [] (vote_range (new_range (ref 7 9 0) 3 6) ∷ vote_range (new_range (ref 7 9 0) 8 8) ∷ []) ∷ []

pub record Examples : Type 0 where
  pub below_marked : members (voters grown the (ref 0 3 0)) ≡ 0 ∷ 1 ∷ 2 ∷ []
  -- two votes of one author count once
  pub voter_twice : certifies four (top 3 3 false (ref 1 2 1 ∷ ref 1 2 9 ∷ []) ∷ block (ref 1 2 9) false (ref 0 1 5 ∷ []) (accept the ∷ []) ∷ votes) the
      (top 3 3 false (ref 1 2 1 ∷ ref 1 2 9 ∷ [])) ≡ false
  -- the other share has no quorum; the first is the only final locator
  pub only_the : final_list four (certified 2 ∷ certified 1 ∷ certified 0 ∷ votes) ≡ the ∷ []
  pub least_the : least_final four (certified 2 ∷ certified 1 ∷ certified 0 ∷ votes) none ≡ some the
  pub none_after : least_final four (certified 2 ∷ certified 1 ∷ certified 0 ∷ votes) (some the) ≡ none
  pub not_stored : final_list (1 ∷ []) alone ≡ unknown 3 ∷ unknown 4 ∷ unknown 5 ∷ []
  pub inside : least_final (1 ∷ []) alone (some (unknown 3)) ≡ some (unknown 4)
  pub past : least_final (1 ∷ []) alone (some (unknown 5)) ≡ none
  -- a certificate and finality, shown by hand
  pub by_hand : ByHand
