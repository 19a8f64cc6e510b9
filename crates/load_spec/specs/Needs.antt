-- What a payload needs, and the payload of a stored share. Assumes nothing: these are definitions.
use Rattle.std.specs.Prelude.{ℕ, ◌≡◌, ◌&&◌, List, [], map, leb, eqb, length, get_or}
use Rattle.std.proofs.Math.Option.{Option, none, some}
use Rattle.std.proofs.Math.ListN.{get_elem?}
use Rattle.base.specs.Lists.{pick, find, ◌∈◌}
use Rattle.base.specs.Le.{Bytes}
use Rattle.record_spec.specs.Reference.{BlockReference, TransactionLocator, same_reference}
use Rattle.record_spec.specs.Block.{Statement, share, accept, reject, vote_range, Block}
use Rattle.record_reference_bytes.specs.Step.{locator_at}

-- 02: "A payload may begin with the byte 1 and a 56-byte locator: the program which this change needs"; "a payload of another beginning, or of
-- fewer than 57 bytes, needs nothing"
unfoldable pub needed_by : Bytes → Option TransactionLocator
needed_by p = pick (leb 57 (length p) && eqb (get_or p 0 0) 1) (some (locator_at p 1)) none

-- the locator names a stored share with this payload
pub record SharedAs (bs : List Block) (l : TransactionLocator) (payload : Bytes) : Type 0 where
  pub block : Block
  pub stored : block ∈ bs
  pub named : block.reference ≡ l.block
  pub stands : get_elem? block.statements l.offset ≡ some (share payload)

-- ---- the same, computed

-- the stored block of a reference
unfoldable pub stored_block : List Block → BlockReference → Option Block
stored_block bs r = find (λ b. same_reference b.reference r) bs

unfoldable pub shared_payload : Option Statement → Option Bytes
shared_payload none = none
shared_payload (some (share payload)) = some payload
shared_payload (some (accept l)) = none
shared_payload (some (reject l other)) = none
shared_payload (some (vote_range r)) = none

unfoldable pub payload_of : Option Block → ℕ → Option Bytes
payload_of none o = none
payload_of (some b) o = shared_payload (get_elem? b.statements o)

-- the payload of the stored share that the locator names; none where it names none
unfoldable pub payload_in : List Block → TransactionLocator → Option Bytes
payload_in bs l = payload_of (stored_block bs l.block) l.offset

-- ---- a block without its payloads

unfoldable pub emptied : Statement → Statement
emptied (share payload) = share []
emptied (accept l) = accept l
emptied (reject l other) = reject l other
emptied (vote_range r) = vote_range r

unfoldable pub without_payloads : Block → Block
without_payloads b = record { reference = b.reference; marked = b.marked; includes = b.includes; statements = map emptied b.statements }
