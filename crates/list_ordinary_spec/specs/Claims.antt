-- What the computed list means, as claims. Assumes nothing: these are definitions.
use Rattle.std.specs.Prelude.{ℕ, ◌≤◌, ◌<◌, ◌≡◌, ◌↔◌, true, false, length}
use mathlib.Core.List.{List, map, flatten}
use Rattle.std.proofs.Math.Option.{Option}
use Rattle.base.specs.Lists.{pairwise, keep, sum_of, ◌∈◌, Once}
use Rattle.base.specs.Le.{Bytes}
use Rattle.committee.specs.Committee.{Committee, broken}
use Rattle.record_spec.specs.Reference.{TransactionLocator, locator, locator_before, locators}
use Rattle.record_spec.specs.Block.{Block, shared_ranges}
use Rattle.store_spec.specs.Layout.{entries, ascending}
use Rattle.store_spec.specs.Store.{records_of, store_in_order}
use Rattle.store_spec.specs.Shares.{is_stored_share, StoredShare}
use Rattle.final_spec.specs.Ancestry.{Final}
use Rattle.final_spec.specs.Voters.{is_final}
use Rattle.final_spec.specs.Finality.{blocks_of}
use Rattle.final_spec.specs.NextFinal.{AskedOn}
use Rattle.final_spec.specs.Claims.{Stored}
use Rattle.list_stretches_spec.specs.Stretches.{wide, stretch_end}
use Rattle.list_stretches_spec.specs.Claims.{Lawful, Gives}
use Rattle.list_ordinary_spec.specs.Shares.{shares_of, stored_shares}
use Rattle.list_ordinary_spec.specs.FinalShares.{is_final_share, LeastFinalShare, least_final_share, SharesAskedOn, FinalShareList, final_shares}
use Rattle.list_ordinary_spec.specs.Ordinary.{ordinary}

-- the same blocks, in whatever order they came
abbrev pub SameBlocks : List Block → List Block → Type 0
SameBlocks bs cs = (b : Block) → (b ∈ bs) ↔ (b ∈ cs)

-- ---- all stored shares

-- the list of all stored shares has them, ascending, each once
pub record AllShares (bs : List Block) : Type 0 where
  pub exactly : (l : TransactionLocator) → (l ∈ stored_shares bs) ↔ StoredShare bs l
  pub ascending : pairwise locator_before (stored_shares bs) ≡ true
  pub once : Once (stored_shares bs)

-- the shares of a block, run by run
unfoldable pub ByRuns : Type 0
ByRuns = (b : Block) → shares_of b ≡ flatten (map locators (shared_ranges b))

-- the stored shares, entry by entry along the chain, and how many there are
pub record AlongChain (s : Bytes) : Type 0 where
  pub through : stored_shares (blocks_of s) ≡ flatten (map (λ e. shares_of e.block) (ascending (entries (records_of s))))
  pub many : length (stored_shares (blocks_of s)) ≡ sum_of (map (λ e. length (shares_of e.block)) (ascending (entries (records_of s))))

unfoldable pub SharesAlongChain : Type 0
SharesAlongChain = (c : Committee) (s : Bytes) → store_in_order c s ≡ true → AlongChain s

-- ---- the ordinary list

unfoldable pub LeastFinalShareMeant : Type 0
LeastFinalShareMeant = (c : Committee) (bs : List Block) (after : Option TransactionLocator) → LeastFinalShare c bs after (least_final_share c bs after)

-- 02: "the ordinary list adds being a stored share": of what the wide question gives, asked on after a locator, the stored shares
unfoldable pub WideKept : Type 0
WideKept = (c : Committee) (s : Bytes) → broken c ≡ false → store_in_order c s ≡ true → (after : Option TransactionLocator) (ls : List TransactionLocator)
    → AskedOn c s after ls → SharesAskedOn c s after (keep (is_stored_share (blocks_of s)) ls)

-- the computed list is the one that the question gives when it is asked on, and no other
pub record Given (c : Committee) (s : Bytes) : Type 0 where
  pub given : FinalShareList c s (final_shares c (blocks_of s))
  pub only : (ls : List TransactionLocator) → FinalShareList c s ls → ls ≡ final_shares c (blocks_of s)

unfoldable pub FinalShareListMeant : Type 0
FinalShareListMeant = (c : Committee) (s : Bytes) → broken c ≡ false → store_in_order c s ≡ true → Given c s

-- 02: "Wide membership keeps the exact condition of the mission's last statement; the ordinary list adds being a stored share"
pub record Exactly (c : Committee) (bs : List Block) : Type 0 where
  pub exactly : (l : TransactionLocator) → (l ∈ final_shares c bs) ↔ (StoredShare bs l × Final c bs l)
  pub ascending : pairwise locator_before (final_shares c bs) ≡ true
  pub once : Once (final_shares c bs)
  -- going through the stored shares in ascending order gives the same
  pub through : final_shares c bs ≡ keep (is_final c bs) (stored_shares bs)

unfoldable pub ListsFinalShares : Type 0
ListsFinalShares = (c : Committee) (bs : List Block) → Stored c bs → Exactly c bs

-- the same for every order of arrival
pub record SameShares (c : Committee) (bs cs : List Block) : Type 0 where
  pub shares : stored_shares bs ≡ stored_shares cs
  pub test : (l : TransactionLocator) → is_stored_share bs l ≡ is_stored_share cs l
  pub final : final_shares c bs ≡ final_shares c cs
  pub next : (after : Option TransactionLocator) → least_final_share c bs after ≡ least_final_share c cs after

unfoldable pub AnyOrder : Type 0
AnyOrder = (c : Committee) (bs cs : List Block) → Stored c bs → Stored c cs → SameBlocks bs cs → SameShares c bs cs

-- ---- in bulk

-- between the edges of votes nothing changes for the ordinary list either, so its stretches are the longest runs of final stored shares with
-- the same certifying blocks, and one after the other they are what the question, asked on, would give
unfoldable pub OrdinaryLawful : Type 0
OrdinaryLawful = (c : Committee) (bs : List Block) → Lawful bs (ordinary c bs)

-- its locators, asked on, are those that the question gives
unfoldable pub OrdinaryGives : Type 0
OrdinaryGives = (c : Committee) (s : Bytes) → broken c ≡ false → store_in_order c s ≡ true → (after : Option TransactionLocator) (ls : List TransactionLocator)
    → Gives (ordinary c (blocks_of s)) after ls ↔ SharesAskedOn c s after ls

-- "cutting a wide stretch at the ends of runs of shares is enough": a stretch of the ordinary list ends where the wide one of its first
-- locator does, or before it where a stored share's run ends
pub record CutShort (c : Committee) (bs : List Block) (l : TransactionLocator) (end : ℕ) : Type 0 where
  pub inside : end ≤ stretch_end bs (wide c bs) l
  pub shares : (o : ℕ) → l.offset ≤ o → o < end → is_stored_share bs (locator l.block o) ≡ true
  pub cut : end < stretch_end bs (wide c bs) l → is_stored_share bs (locator l.block end) ≡ false

unfoldable pub WideCut : Type 0
WideCut = (c : Committee) (bs : List Block) (l : TransactionLocator) → is_final_share c bs l ≡ true → CutShort c bs l (stretch_end bs (ordinary c bs) l)

pub record Claims : Type 0 where
  pub all_shares : (bs : List Block) → AllShares bs
  pub by_runs : ByRuns
  pub along_chain : SharesAlongChain
  pub least_final_share : LeastFinalShareMeant
  pub wide_kept : WideKept
  pub final_share_list : FinalShareListMeant
  pub lists : ListsFinalShares
  pub any_order : AnyOrder
  pub lawful : OrdinaryLawful
  pub gives : OrdinaryGives
  pub wide_cut : WideCut
