-- What the index means, as claims. Assumes nothing: these are definitions.
use Rattle.std.specs.Prelude.{ℕ, ◌+◌, ◌≤◌, ◌<◌, ◌≡◌, ◌↔◌, true, false, List, [], ◌∷◌, ◌++◌, map, length}
use Rattle.std.proofs.Math.Option.{some}
use Rattle.base.specs.Lists.{◌∈◌}
use Rattle.base.specs.Le.{Bytes}
use Rattle.base.specs.Checks.{passes}
use Rattle.committee.specs.Committee.{AuthorityIndex, Committee, is_quorum}
use Rattle.committee_set.specs.AuthoritySet.{AuthoritySet, member, united, set_of, stake_of}
use Rattle.record_spec.specs.Reference.{TransactionLocator, locator}
use Rattle.record_spec.specs.Block.{Block, author}
use Rattle.store_spec.specs.Layout.{Record, read_record}
use Rattle.store_spec.specs.Accept.{block_checks}
use Rattle.store_spec.specs.Store.{records_of, store_in_order, store_full, store_holding}
use Rattle.final_spec.specs.Ancestry.{Voter}
use Rattle.final_spec.specs.Voters.{certifiers, is_final}
use Rattle.final_spec.specs.Finality.{blocks_of}
use Rattle.final_spec.specs.Claims.{Stored}
use Rattle.index_spec.specs.Runs.{Run, voters_in, merged}
use Rattle.index_spec.specs.Part.{RunsOf, PartOf, Longest, part_in}
use Rattle.index_spec.specs.Index.{part_words, Indexed, indexed, body_words, used_words, index_words, index_of, fresh_index, used_part, index_agrees}
use Rattle.index_spec.specs.Index.{index_short}
use Rattle.index_spec.specs.Index.{index_holding, appended, Kept}
use Rattle.index_spec.specs.Certified.{certified}

-- ---- runs

-- what 02 says of a block's runs, one list meets
unfoldable pub OneList : Type 0
OneList = (f : TransactionLocator → AuthoritySet) (xs ys : List Run) → RunsOf f xs → RunsOf f ys → xs ≡ ys

-- 02: "each the longest stretch with the same voters"
unfoldable pub LongestRuns : Type 0
LongestRuns = (f : TransactionLocator → AuthoritySet) (xs : List Run) → RunsOf f xs → (x : Run) → x ∈ xs → Longest f x

-- a merge names at each locator whom either list names there
unfoldable pub MergedNames : Type 0
MergedNames = (xs ys : List Run) (l : TransactionLocator) → voters_in (merged xs ys) l ≡ united (voters_in xs l) (voters_in ys l)

-- in the longest stretches, whatever the lists were
unfoldable pub MergedRuns : Type 0
MergedRuns = (xs ys : List Run) → RunsOf (λ l. united (voters_in xs l) (voters_in ys l)) (merged xs ys)

-- ---- parts

-- the computed part of a block is its part, and names its voters at every locator
unfoldable pub PartMeant : Type 0
PartMeant = (bs : List Block) (b : Block) → PartOf bs b (part_in bs b.reference)

-- the votes of a run are the voters at each of its offsets, "at least one"
pub record Voted (bs : List Block) (b : Block) (x : Run) (o : ℕ) : Type 0 where
  pub voters : (a : AuthorityIndex) → (member x.votes a ≡ true) ↔ Voter bs b (locator x.reference o) a
  pub one : (a : AuthorityIndex) × Voter bs b (locator x.reference o) a

unfoldable pub RunsVoted : Type 0
RunsVoted = (c : Committee) (bs : List Block) → Stored c bs → (b : Block) → b ∈ bs → (x : Run) → x ∈ part_in bs b.reference
    → (o : ℕ) → x.start ≤ o → o < x.end → Voted bs b x o

-- ---- the index

-- 02: "for each stored block in order of arrival a run count and its runs": each block has one part, and it is its part among all the stored blocks
unfoldable pub IndexedBlocks : Type 0
IndexedBlocks = (bs : List Block) → map (λ x. x.block) (indexed bs) ≡ bs

unfoldable pub IndexedParts : Type 0
IndexedParts = (c : Committee) (bs : List Block) → Stored c bs → (x : Indexed) → x ∈ indexed bs → PartOf bs x.block x.runs

-- 02: "words used (fresh 1)"
unfoldable pub IndexFresh : Type 0
IndexFresh = index_words [] ≡ fresh_index

-- the index of one block more: the used word grows by the new part, which stands at the end
unfoldable pub IndexGrows : Type 0
IndexGrows = (b : Block) (bs : List Block)
    → index_words (b ∷ bs) ≡ (used_words (indexed bs) + length (part_words (part_in (b ∷ bs) b.reference))) ∷
    (body_words (indexed bs) ++ part_words (part_in (b ∷ bs) b.reference))

-- 02: "Feeding a block appends that block's part only": that is all that is written into an index that agrees and has room, and it agrees again
unfoldable pub IndexAppends : Type 0
IndexAppends = (b : Block) (bs : List Block) (ix : List ℕ) → index_agrees bs ix ≡ true → index_short (b ∷ bs) ix ≡ false
    → index_holding (b ∷ bs) ix ≡ appended ix (part_in (b ∷ bs) b.reference)

unfoldable pub IndexHolds : Type 0
IndexHolds = (bs : List Block) (ix : List ℕ) → index_agrees bs (index_holding bs ix) ≡ true

-- 02: "After any list of feeds with it the index equals the one worked out afresh from the store"
unfoldable pub IndexKept : Type 0
IndexKept = (bs : List Block) (ix : List ℕ) → Kept bs ix → used_part ix ≡ index_words bs

-- the same of one feed, over the bytes of the store
unfoldable pub IndexFed : Type 0
IndexFed = (c : Committee) (s : Bytes) (r : Record) (ix : List ℕ) → store_in_order c s ≡ true → read_record r.bytes ≡ some r
    → passes (block_checks c (records_of s) r.block) ≡ true → store_full s r ≡ false
    → index_agrees (blocks_of s) ix ≡ true → index_short (r.block ∷ blocks_of s) ix ≡ false
    → used_part (appended ix (part_in (r.block ∷ blocks_of s) r.block.reference)) ≡ index_of (store_holding (r ∷ records_of s) s)

-- ---- the final list

-- the certifiers' authors at every locator, read off the index: where they hold quorum a locator is final
unfoldable pub CertifiedMeant : Type 0
CertifiedMeant = (c : Committee) (bs : List Block) → Stored c bs → RunsOf (λ l. set_of (map author (certifiers c bs l))) (certified c (indexed bs))

-- 02: "listings with it equal listings without it": what is final is told by the index
unfoldable pub FinalByIndex : Type 0
FinalByIndex = (c : Committee) (bs : List Block) → Stored c bs → (l : TransactionLocator)
    → is_final c bs l ≡ is_quorum c (stake_of c (voters_in (certified c (indexed bs)) l))

pub record Claims : Type 0 where
  pub one_list : OneList
  pub longest_runs : LongestRuns
  pub merged_names : MergedNames
  pub merged_runs : MergedRuns
  pub part : PartMeant
  pub runs : RunsVoted
  pub indexed_blocks : IndexedBlocks
  pub indexed_parts : IndexedParts
  pub fresh : IndexFresh
  pub grows : IndexGrows
  pub appends : IndexAppends
  pub holds : IndexHolds
  pub kept : IndexKept
  pub fed : IndexFed
  pub certified : CertifiedMeant
  pub final : FinalByIndex
