-- Machinery for the contracts of inner functions: a certifying block that was read at a position. Assumes nothing: these are definitions.
use Rattle.std.specs.Prelude.{ℕ, ◌+◌, ◌*◌, ◌≤◌, ◌≡◌, false, List, map, length, drop}
use Rattle.std.proofs.Math.Option.{Option, none, some}
use Rattle.base.specs.Le.{Bytes}
use Rattle.committee.specs.Committee.{Committee, total_stake, broken}
use Rattle.committee_set.specs.AuthoritySet.{AuthoritySet}
use Rattle.record_spec.specs.Reference.{TransactionLocator}
use Rattle.record_spec.specs.Block.{Block}
use Rattle.final_readings_spec.specs.Readings.{Reading}
use Rattle.record_reference_bytes.specs.Step.{reference_at}
use Rattle.slip_spec.specs.Slip.{SlipVoter, SlipCertifier, read_certifier}
use Rattle.slip_spec.specs.Supplied.{supplied_blocks}
use Rattle.slip_spec.specs.Paths.{named, to_block, on_from}
use Rattle.slip_read_records.specs.Places.{Places}
use Rattle.slip_read_paths.specs.Walk.{Noted, LedTo}
use Rattle.slip_read_paths.specs.declared.Led as code
use Rattle.slip_read_voters.specs.Step.{Speak}
use Rattle.slip_read_ancestry.specs.Lacking.{Right, LackingIn}
use Rattle.slip_read_rejecters.specs.Rejecting.{RejectingIn}
use Rattle.slip_read_certifier.specs.Verdict.{standing_verdict, certifier_verdict}
use Rattle.std.specs.Prelude.{Some, None}
use Rattle.std.specs.declared.option.Option as taken

-- what the ancestry of a certifier, which is led to, shows with a set of listed voters
unfoldable pub Stands : List ℕ → List ℕ → code.Led → AuthoritySet → ℕ → Type 0
Stands lacking rejecting certifier voters shown =
    (reading : Reading) (q : Bytes) (order : List ℕ) (l : TransactionLocator) (vs : List SlipVoter) (o : Option Block)
    → Right q → Places q (supplied_blocks q) order → LackingIn reading q order lacking → RejectingIn reading q order l rejecting
    → Speak voters (map (λ v. v.author) vs) → LedTo q order certifier (on_from to_block o) → shown ≡ standing_verdict reading (supplied_blocks q) l vs o

-- what is noted for each place: votes, missing ancestors, and who rejects, for a locator in a reading
pub record Known (reading : Reading) (q : Bytes) (order : List ℕ) (l : TransactionLocator) (votes lacking rejecting : List ℕ) : Type 0 where
  pub noted : Noted q order l (length order) votes
  pub lacks : LackingIn reading q order lacking
  pub rejects : RejectingIn reading q order l rejecting

-- what is at hand when the slip is read: a committee with its total, the places of right records, and room for what is noted of them
pub record Ready (c : Committee) (total : ℕ) (q : Bytes) (order votes lacking rejecting : List ℕ) : Type 0 where
  pub sound : broken c ≡ false
  pub all : total ≡ total_stake c
  pub places : Places q (supplied_blocks q) order
  pub right : Right q
  pub room : length order ≤ length votes
  pub lack_room : length order ≤ length lacking
  pub reject_room : 2 * length order ≤ length rejecting

-- the certifier that was read at a position, and what it shows
pub record ReadOne (c : Committee) (s : Bytes) (p : ℕ) (q : Bytes) (order votes lacking rejecting : List ℕ) (end shown : ℕ) : Type 0 where
  pub certifier : SlipCertifier
  pub reads : read_certifier (drop p s) ≡ some (record { value = certifier; rest = drop end s })
  pub long : p + 49 ≤ length s
  pub inside : end ≤ length s
  pub named_by : (certifier).reference ≡ reference_at s p
  pub shows : (reading : Reading) (l : TransactionLocator) → Known reading q order l votes lacking rejecting
      → shown ≡ certifier_verdict reading c (supplied_blocks q) l (certifier).voters (named (supplied_blocks q) (certifier).reference)

unfoldable pub TookCertifier : Committee → Bytes → ℕ → Bytes → List ℕ → List ℕ → List ℕ → List ℕ → taken.Option (ℕ × ℕ) → Type 0
TookCertifier c s p q order votes lacking rejecting (Some (end, shown)) = ReadOne c s p q order votes lacking rejecting end shown
TookCertifier c s p q order votes lacking rejecting None = read_certifier (drop p s) ≡ none
