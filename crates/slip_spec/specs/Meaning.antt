-- What a slip says, as relations: paths, slips that are accepted, and what is named. Assumes nothing: these are definitions.
use Rattle.std.specs.Prelude.{ℕ, ◌≤◌, ◌≡◌, Bool, true, false, List, ◌∷◌, map, length}
use Rattle.std.proofs.Math.Option.{none, some}
use Rattle.std.proofs.Math.ListN.{get_elem?}
use Rattle.base.specs.Lists.{before, ◌∈◌}
use Rattle.base.specs.Le.{Bytes}
use Rattle.committee.specs.Committee.{AuthorityIndex, Committee, broken}
use Rattle.committee.specs.Quorum.{HoldQuorum}
use Rattle.record_spec.specs.Reference.{BlockReference, TransactionLocator}
use Rattle.record_spec.specs.Block.{Block}
use Rattle.store_spec.specs.Layout.{Record}
use Rattle.final_spec.specs.Ancestry.{Ancestor}
use Rattle.final_readings_spec.specs.Readings.{Reading, old, withdrawing, certifies_in, is_final_in}
use Rattle.final_readings_spec.specs.Withdrawing.{Rejecter, VoterIn, WholeAncestry}
use Rattle.slip_spec.specs.Slip.{SlipVoter, SlipCertifier, Slip, read_slip}
use Rattle.slip_spec.specs.Supplied.{supplied_records, right_blocks}
use Rattle.slip_spec.specs.Paths.{named, to_block, leads}
use Rattle.slip_spec.specs.Reading.{votes_as}

-- ---- paths

-- the block stands on the path, its first and its last block among them
pub data OnPath (bs : List Block) (d : Block) : List ℕ → Block → Type 0 where
  start : {ps : List ℕ} → OnPath bs d ps d
  later : {p : ℕ} {ps : List ℕ} {b i : Block} {r : BlockReference} → get_elem? b.includes p ≡ some r → named bs r ≡ some i → OnPath bs d ps i
      → OnPath bs d (p ∷ ps) b

-- a path that leads to a vote
pub record LeadsToVote (votes : Block → Bool) (bs : List Block) (ps : List ℕ) (b : Block) : Type 0 where
  pub vote : Block
  pub leading : leads bs ps b ≡ to_block vote
  pub voting : votes vote ≡ true

-- 02: "by the shortest, then first, path": no path to a vote is shorter, and of those as long none comes before it in the order of places
pub record ShortestThenFirst (votes : Block → Bool) (bs : List Block) (b : Block) (ps : List ℕ) : Type 0 where
  pub leading : LeadsToVote votes bs ps b
  pub shortest : (qs : List ℕ) → LeadsToVote votes bs qs b → length ps ≤ length qs
  pub first : (qs : List ℕ) → LeadsToVote votes bs qs b → length qs ≡ length ps → before qs ps ≡ false

-- ---- reading

-- a path that goes on to a block which is not given
pub data PathMissing (bs : List Block) : List ℕ → Block → Type 0 where
  next : {p : ℕ} {ps : List ℕ} {b : Block} {r : BlockReference} → get_elem? b.includes p ≡ some r → named bs r ≡ none → PathMissing bs (p ∷ ps) b
  further : {p : ℕ} {ps : List ℕ} {b i : Block} {r : BlockReference} → get_elem? b.includes p ≡ some r → named bs r ≡ some i → PathMissing bs ps i
      → PathMissing bs (p ∷ ps) b

-- an ancestor of the block has an include that is not given
pub record AncestorMissing (bs : List Block) (b : Block) : Type 0 where
  pub above : Block
  pub ancestor : Ancestor bs above b
  pub include : BlockReference
  pub among : include ∈ above.includes
  pub absent : named bs include ≡ none

-- 02: "one named, also by path, but not supplied", and of "every block of each certifier's ancestry (a missing one is 53)"
pub data NotSupplied (bs : List Block) (s : Slip) : Type 0 where
  no_certifier : (k : SlipCertifier) → k ∈ s.certifiers → named bs k.reference ≡ none → NotSupplied bs s
  not_on_path : (k : SlipCertifier) (v : SlipVoter) (b : Block) → k ∈ s.certifiers → v ∈ k.voters → named bs k.reference ≡ some b
      → PathMissing bs v.path b → NotSupplied bs s
  not_in_ancestry : s.reading ≡ withdrawing → (k : SlipCertifier) (b : Block) → k ∈ s.certifiers → named bs k.reference ≡ some b → AncestorMissing bs b
      → NotSupplied bs s

-- 02: "a new slip must come with every block of each certifier's ancestry .., and does not hold if a listed voter rejects there"
pub record Standing (bs : List Block) (l : TransactionLocator) (vs : List SlipVoter) (b : Block) : Type 0 where
  pub whole : WholeAncestry bs b
  pub kept : (v : SlipVoter) → v ∈ vs → Rejecter bs b l v.author → ⊥

-- nothing more is asked of an old one
abbrev pub StandingIn : Reading → List Block → TransactionLocator → List SlipVoter → Block → Type 0
StandingIn old bs l vs b = Unit {0}
StandingIn withdrawing bs l vs b = Standing bs l vs b

-- 02: "every path ends at its author's vote, each block is unmarked and lists quorum voters"
pub record RightCertifier (reading : Reading) (c : Committee) (bs : List Block) (l : TransactionLocator) (k : SlipCertifier) : Type 0 where
  pub block : Block
  pub given : named bs k.reference ≡ some block
  pub unmarked : block.marked ≡ false
  pub ends : (v : SlipVoter) → v ∈ k.voters → LeadsToVote (votes_as l v.author) bs v.path block
  pub standing : StandingIn reading bs l k.voters block
  pub quorum : HoldQuorum c (λ a. (v : SlipVoter) × (v ∈ k.voters) × (v.author ≡ a))

-- 02: "and their authors hold quorum"
pub record RightSlip (c : Committee) (bs : List Block) (s : Slip) : Type 0 where
  pub certifiers : (k : SlipCertifier) → k ∈ s.certifiers → RightCertifier s.reading c bs s.locator k
  pub quorum : HoldQuorum c (λ a. (k : SlipCertifier) × (k ∈ s.certifiers) × (k.reference.authority ≡ a))

-- 02: "accepts a slip, with at least the records it names .., exactly if ..", with the number of its certifiers
pub record AcceptedSlip (c : Committee) (r q : Bytes) (n : ℕ) : Type 0 where
  pub sound : broken c ≡ false
  pub slip : Slip
  pub records : List Record
  pub reads : read_slip r ≡ some slip
  pub supplied : supplied_records q ≡ some records
  pub right : right_blocks c (map (λ x. x.block) records) ≡ true
  pub holding : RightSlip c (map (λ x. x.block) records) slip
  pub many : length slip.certifiers ≡ n

-- 02: "the records it names": the block of a certifier, every block on the path of a voter and, of a new slip, "every block of each certifier's
-- ancestry"
pub data NamedBy (bs : List Block) (s : Slip) (d : Block) : Type 0 where
  as_certifier : (k : SlipCertifier) → k ∈ s.certifiers → named bs k.reference ≡ some d → NamedBy bs s d
  by_path : (k : SlipCertifier) (v : SlipVoter) (b : Block) → k ∈ s.certifiers → v ∈ k.voters → named bs k.reference ≡ some b
      → OnPath bs d v.path b → NamedBy bs s d
  in_ancestry : s.reading ≡ withdrawing → (k : SlipCertifier) (b : Block) → k ∈ s.certifiers → named bs k.reference ≡ some b → Ancestor bs d b
      → NamedBy bs s d

-- 02: "with at least the records it names": right ones, in any order and whatever others come along, among which is each block that the slip names
-- among the blocks bs
pub record Supplies (c : Committee) (bs : List Block) (s : Slip) (q : Bytes) : Type 0 where
  pub records : List Record
  pub supplied : supplied_records q ≡ some records
  pub right : right_blocks c (map (λ x. x.block) records) ≡ true
  pub names : (d : Block) → NamedBy bs s d → d ∈ map (λ x. x.block) records

-- a listed block among stored ones that certifies, in the slip's reading
pub record Certifies (c : Committee) (bs : List Block) (s : Slip) (k : SlipCertifier) : Type 0 where
  pub block : Block
  pub stored : block ∈ bs
  pub listed : block.reference ≡ k.reference
  pub certifying : certifies_in s.reading c bs s.locator block ≡ true

-- 02: "they then really certify"; and so the locator is final
pub record ReallyFinal (c : Committee) (bs : List Block) (s : Slip) : Type 0 where
  pub certifying : (k : SlipCertifier) → k ∈ s.certifiers → Certifies c bs s k
  pub final : is_final_in s.reading c bs s.locator ≡ true

-- ---- writing

-- the voters named for a block are its voters
pub record NamesVoters (reading : Reading) (bs : List Block) (l : TransactionLocator) (b : Block) (vs : List SlipVoter) : Type 0 where
  pub every : (a : AuthorityIndex) → VoterIn reading bs b l a → (v : SlipVoter) × (v ∈ vs) × (v.author ≡ a)
  pub only : (v : SlipVoter) → v ∈ vs → VoterIn reading bs b l v.author
  pub paths : (v : SlipVoter) → v ∈ vs → ShortestThenFirst (votes_as l v.author) bs b v.path

pub record NamesCertifier (reading : Reading) (c : Committee) (bs : List Block) (l : TransactionLocator) (k : SlipCertifier) : Type 0 where
  pub block : Block
  pub stored : block ∈ bs
  pub listed : block.reference ≡ k.reference
  pub certifying : certifies_in reading c bs l block ≡ true
  pub voters : NamesVoters reading bs l block k.voters

-- 02: "naming all certifiers and voters by the shortest, then first, path", and no others
pub record NamesAll (c : Committee) (bs : List Block) (s : Slip) : Type 0 where
  pub every : (b : Block) → b ∈ bs → certifies_in s.reading c bs s.locator b ≡ true → (k : SlipCertifier) × (k ∈ s.certifiers) ×
      (k.reference ≡ b.reference)
  pub only : (k : SlipCertifier) → k ∈ s.certifiers → NamesCertifier s.reading c bs s.locator k

-- bytes that are read as a slip of the reading and the locator which names all
pub record SaysAll (reading : Reading) (c : Committee) (bs : List Block) (l : TransactionLocator) (r : Bytes) : Type 0 where
  pub slip : Slip
  pub reads : read_slip r ≡ some slip
  pub chosen : slip.reading ≡ reading
  pub asked : slip.locator ≡ l
  pub names : NamesAll c bs slip
