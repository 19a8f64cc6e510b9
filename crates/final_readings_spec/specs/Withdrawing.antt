-- Rejects, voters, certificates and finality of both readings as relations: what the computed answers mean. Assumes nothing: these are definitions.
use Rattle.std.specs.Prelude.{◌≡◌, false, List}
use Rattle.std.proofs.Math.Option.{Option}
use Rattle.base.specs.Lists.{◌∈◌}
use Rattle.committee.specs.Committee.{AuthorityIndex, Committee}
use Rattle.committee.specs.Quorum.{HoldQuorum}
use Rattle.record_spec.specs.Reference.{BlockReference, TransactionLocator}
use Rattle.record_spec.specs.Block.{reject, Block, author}
use Rattle.final_spec.specs.Ancestry.{Ancestor, Voter}
use Rattle.final_readings_spec.specs.Readings.{Reading, old, withdrawing}

-- 02: "a reject .. for a locator (its first)", whatever its second one is
pub record Rejects (b : Block) (l : TransactionLocator) : Type 0 where
  pub other : Option TransactionLocator
  pub stands : reject l other ∈ b.statements

-- 02: "in a block's inclusive ancestry, a reject by an owner for a locator"
pub record Rejecter (bs : List Block) (b : Block) (l : TransactionLocator) (a : AuthorityIndex) : Type 0 where
  pub rejecting : Block
  pub ancestor : Ancestor bs rejecting b
  pub rejects : Rejects rejecting l
  pub authored : author rejecting ≡ a

-- 02: such a reject "cancels that owner's accepts, ranges and share for it, for that block only"
abbrev pub VoterIn : Reading → List Block → Block → TransactionLocator → AuthorityIndex → Type 0
VoterIn old bs b l a = Voter bs b l a
VoterIn withdrawing bs b l a = Voter bs b l a × (Rejecter bs b l a → ⊥)

-- 01: "An unmarked block with quorum voters certifies": a stored one of author a
pub record CertificateIn (reading : Reading) (c : Committee) (bs : List Block) (l : TransactionLocator) (a : AuthorityIndex) : Type 0 where
  pub block : Block
  pub stored : block ∈ bs
  pub unmarked : block.marked ≡ false
  pub quorum : HoldQuorum c (VoterIn reading bs block l)
  pub authored : author block ≡ a

-- 01: "A locator is final when the certifiers' authors hold quorum, each author once"
abbrev pub FinalIn : Reading → Committee → List Block → TransactionLocator → Type 0
FinalIn reading c bs l = HoldQuorum c (CertificateIn reading c bs l)

-- 02: "With no rejects in the store"
abbrev pub NoRejects : List Block → Type 0
NoRejects bs = (b : Block) → b ∈ bs → (l : TransactionLocator) → Rejects b l → ⊥

-- 02: "a new slip must come with every block of each certifier's ancestry": every include of an ancestor is one of the blocks
abbrev pub WholeAncestry : List Block → Block → Type 0
WholeAncestry bs b = (x : Block) → Ancestor bs x b → (i : BlockReference) → i ∈ x.includes → (d : Block) × (d ∈ bs) × (d.reference ≡ i)
