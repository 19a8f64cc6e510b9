-- What slips mean, as claims: each is owed with the reader and the writer. Assumes nothing: these are definitions.
use Rattle.std.specs.Prelude.{ℕ, ◌≤◌, ◌≡◌, ◌↔◌, Bool, true, false, List, map, length, take}
use Rattle.std.proofs.Math.Option.{some}
use Rattle.base.specs.Lists.{◌∈◌, Once}
use Rattle.base.specs.Le.{Bytes}
use Rattle.base.specs.Checks.{answered}
use Rattle.committee.specs.Committee.{Committee, broken}
use Rattle.record_spec.specs.Reference.{TransactionLocator}
use Rattle.record_spec.specs.Block.{Block}
use Rattle.record_spec.specs.Claims.{are_bytes}
use Rattle.store_spec.specs.Layout.{Record}
use Rattle.store_spec.specs.Store.{records_of, store_in_order}
use Rattle.final_spec.specs.Finality.{blocks_of}
use Rattle.final_spec.specs.Claims.{Stored}
use Rattle.final_readings_spec.specs.Readings.{Reading, withdrawing, certifiers_in, is_final_in}
use Rattle.slip_spec.specs.Slip.{Slip, read_slip, slip_in, slip_bytes, fits_slip}
use Rattle.slip_spec.specs.Supplied.{supplied_in, supplied_blocks, right_blocks, supplied_bytes}
use Rattle.slip_spec.specs.Paths.{path_to}
use Rattle.slip_spec.specs.Reading.{missing, read_answer}
use Rattle.slip_spec.specs.Writing.{slip_for, write_slip}
use Rattle.slip_spec.specs.Meaning.{LeadsToVote, ShortestThenFirst, NotSupplied, AcceptedSlip, NamedBy, Supplies, ReallyFinal, NamesAll, SaysAll}

-- every fitting slip that is written reads as itself
unfoldable pub SlipReadsBack : Type 0
SlipReadsBack = (s : Slip) → fits_slip s ≡ true → read_slip (slip_bytes s) ≡ some s

-- what is read is what is written
unfoldable pub SlipWritesBack : Type 0
SlipWritesBack = (r : Bytes) (s : Slip) → are_bytes r ≡ true → read_slip r ≡ some s → slip_bytes s ≡ r

-- 02: "accepts a slip .. exactly if every path ends at its author's vote, each block is unmarked and lists quorum voters, and their authors
-- hold quorum", and a new one only where its certifiers' ancestry is whole and no listed voter rejects there
unfoldable pub ReadingMeant : Type 0
ReadingMeant = (c : Committee) (r q : Bytes) (n : ℕ) → (read_answer c r q ≡ answered n) ↔ AcceptedSlip c r q n

-- 02: "53 for one named, also by path, but not supplied", among any blocks; of a new slip's ancestry too, among blocks that are right by themselves
unfoldable pub MissingMeant : Type 0
MissingMeant = (c : Committee) (bs : List Block) (s : Slip) → (s.reading ≡ withdrawing → right_blocks c bs ≡ true) → (missing bs s ≡ true) ↔ NotSupplied bs s

-- 02: "in every store under that committee with those records they then really certify": among all blocks stored under the committee that
-- contain the blocks of the records which the slip names, in the slip's own reading
unfoldable pub AcceptedCertifies : Type 0
AcceptedCertifies = (c : Committee) (r q : Bytes) (n : ℕ) → read_answer c r q ≡ answered n
    → (bs : List Block) → Stored c bs → ((d : Block) → NamedBy (supplied_blocks q) (slip_in r) d → d ∈ bs) → ReallyFinal c bs (slip_in r)

-- the same of a store in order that holds the records which the slip names
unfoldable pub AcceptedInStore : Type 0
AcceptedInStore = (c : Committee) (r q : Bytes) (n : ℕ) → read_answer c r q ≡ answered n → (t : Bytes) → store_in_order c t ≡ true
    → ((x : Record) → x ∈ supplied_in q → NamedBy (supplied_blocks q) (slip_in r) x.block → x ∈ records_of t) → ReallyFinal c (blocks_of t) (slip_in r)

-- 02: "by the shortest, then first, path", wherever some path leads to a vote, whatever a vote is
unfoldable pub PathsMeant : Type 0
PathsMeant = (c : Committee) (bs : List Block) → Stored c bs → (votes : Block → Bool) (b : Block) → b ∈ bs
    → (qs : List ℕ) → LeadsToVote votes bs qs b → ShortestThenFirst votes bs b (path_to votes bs b)

-- 02: "naming all certifiers and voters"
unfoldable pub WrittenNamesAll : Type 0
WrittenNamesAll = (reading : Reading) (c : Committee) (bs : List Block) → Stored c bs → (l : TransactionLocator) → NamesAll c bs (slip_for reading c bs l)

-- 02: "The node's writer makes, for every final locator, a slip accepted under its committee", "with at least the records it names": in either
-- reading, whatever right records come with it, in any order, if those that it names in the store are among them
unfoldable pub WrittenAccepted : Type 0
WrittenAccepted = (reading : Reading) (c : Committee) (t : Bytes) → broken c ≡ false → are_bytes t ≡ true → store_in_order c t ≡ true
    → (l : TransactionLocator) → is_final_in reading c (blocks_of t) l ≡ true → (q : Bytes) → Supplies c (blocks_of t) (slip_for reading c (blocks_of t) l) q
    → read_answer c (slip_bytes (slip_for reading c (blocks_of t) l)) q ≡ answered (length (certifiers_in reading c (blocks_of t) l))

-- the same of the slice that was lent to the writer
unfoldable pub WrittenReads : Type 0
WrittenReads = (reading : Reading) (c : Committee) (t out : Bytes) (l : TransactionLocator) (n : ℕ) → are_bytes t ≡ true
    → (write_slip reading c t out l).answer ≡ answered n → (q : Bytes) → Supplies c (blocks_of t) (slip_for reading c (blocks_of t) l) q
    → read_answer c (take n (write_slip reading c t out l).out) q ≡ answered (length (certifiers_in reading c (blocks_of t) l))

-- so with records of the store, each once and in any order, if those that it names are among them
unfoldable pub WrittenCarried : Type 0
WrittenCarried = (reading : Reading) (c : Committee) (t out : Bytes) (l : TransactionLocator) (n : ℕ) → are_bytes t ≡ true
    → (write_slip reading c t out l).answer ≡ answered n → (rs : List Record) → ((x : Record) → x ∈ rs → x ∈ records_of t) → Once rs → length rs ≤ 1024
    → ((d : Block) → NamedBy (blocks_of t) (slip_for reading c (blocks_of t) l) d → d ∈ map (λ x. x.block) rs)
    → read_answer c (take n (write_slip reading c t out l).out) (supplied_bytes rs) ≡ answered (length (certifiers_in reading c (blocks_of t) l))

-- and with all of them
unfoldable pub WrittenWhole : Type 0
WrittenWhole = (reading : Reading) (c : Committee) (t out : Bytes) (l : TransactionLocator) (n : ℕ) → are_bytes t ≡ true
    → (write_slip reading c t out l).answer ≡ answered n
    → read_answer c (take n (write_slip reading c t out l).out) (supplied_bytes (records_of t)) ≡ answered (length (certifiers_in reading c (blocks_of t) l))

-- 02: "naming all certifiers and voters": what the writer wrote is read as the slip that names all, so no count of blocks, voters or places is cut
unfoldable pub WrittenSays : Type 0
WrittenSays = (reading : Reading) (c : Committee) (t out : Bytes) (l : TransactionLocator) (n : ℕ) → are_bytes t ≡ true
    → (write_slip reading c t out l).answer ≡ answered n → SaysAll reading c (blocks_of t) l (take n (write_slip reading c t out l).out)

pub record Claims : Type 0 where
  pub reads : SlipReadsBack
  pub writes : SlipWritesBack
  pub reading : ReadingMeant
  pub missing : MissingMeant
  pub certifies : AcceptedCertifies
  pub in_store : AcceptedInStore
  pub paths : PathsMeant
  pub names : WrittenNamesAll
  pub accepted : WrittenAccepted
  pub written : WrittenReads
  pub carried : WrittenCarried
  pub whole : WrittenWhole
  pub says : WrittenSays
