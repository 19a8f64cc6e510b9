-- What the stretches mean, as claims: each is owed with the question. Assumes nothing: these are definitions.
use Rattle.std.specs.Prelude.{ℕ, ◌+◌, ◌≤◌, ◌≡◌, ◌↔◌, true, false, length}
use mathlib.Core.List.{List, [], ◌∷◌, ◌++◌, map, flatten}
use Rattle.std.proofs.Math.Option.{Option, none, some}
use Rattle.base.specs.Lists.{◌∈◌}
use Rattle.base.specs.Le.{Bytes}
use Rattle.committee.specs.Committee.{Committee, broken}
use Rattle.committee_set.specs.AuthoritySet.{set_of, stake_of}
use Rattle.record_spec.specs.Reference.{BlockReference, TransactionLocator, locator}
use Rattle.record_spec.specs.Block.{Block, author}
use Rattle.store_spec.specs.Store.{store_in_order}
use Rattle.final_spec.specs.Voters.{certifiers, is_final}
use Rattle.final_spec.specs.Finality.{blocks_of, certifying_positions}
use Rattle.final_spec.specs.NextFinal.{LeastOf, AskedOn}
use Rattle.list_stretches_spec.specs.Stretches.{Listing, wide, FinalStretch, stretch_locators, EndsAt, end_among, stretch_end, stretches, reached}
use Rattle.list_stretches_spec.specs.Stretches.{more_follow}

-- ---- what is asked of a list

-- an offset at which a list says of a block's locators what it says at the one before
pub record SameBefore (bs : List Block) (k : Listing) (r : BlockReference) (o : ℕ) : Type 0 where
  pub shows : k.shows (locator r (o + 1)) ≡ k.shows (locator r o)
  pub certifies : (b : Block) → b ∈ bs → k.certifies (locator r (o + 1)) b ≡ k.certifies (locator r o) b

-- some edges of a block: between them nothing changes
abbrev pub Edges : List Block → Listing → BlockReference → List ℕ → Type 0
Edges bs k r es = (o : ℕ) → (o + 1 ∈ es → ⊥) → SameBefore bs k r o

pub record Lawful (bs : List Block) (k : Listing) : Type 0 where
  pub next : (after : Option TransactionLocator) → LeastOf k.shows after (k.next after)
  pub edges : (r : BlockReference) → Edges bs k r (k.edges r)
  -- a block has an offset from which on nothing is shown
  pub bound : BlockReference → ℕ
  pub bounded : (r : BlockReference) (o : ℕ) → bound r ≤ o → k.shows (locator r o) ≡ false

-- ---- a stretch is the longest

-- whatever the edges: the end is the one that the relation says, and the only one
pub record EndMeant (bs : List Block) (k : Listing) (l : TransactionLocator) : Type 0 where
  pub ends : EndsAt bs k l (stretch_end bs k l)
  pub only : (e : ℕ) → EndsAt bs k l e → e ≡ stretch_end bs k l
  pub among : (es : List ℕ) → Edges bs k l.block es → end_among bs k l es ≡ stretch_end bs k l

unfoldable pub StretchEndMeant : Type 0
StretchEndMeant = (bs : List Block) (k : Listing) → Lawful bs k → (l : TransactionLocator) → k.shows l ≡ true → EndMeant bs k l

-- ---- the stretches of a list

-- a stretch begins at a locator that is shown, and is as long as can be
pub record Longest (bs : List Block) (k : Listing) (t : FinalStretch) : Type 0 where
  pub ends : EndsAt bs k (locator t.block t.first) t.end
  pub shown : k.shows (locator t.block t.first) ≡ true

unfoldable pub StretchesLongest : Type 0
StretchesLongest = (c : Committee) (bs : List Block) (k : Listing) → Lawful bs k → (n : ℕ) (after : Option TransactionLocator) (t : FinalStretch)
    → t ∈ stretches c bs k n after → Longest bs k t

-- what a list gives, asked on after a locator
pub data Gives (k : Listing) : Option TransactionLocator → List TransactionLocator → Type 0 where
  done : {after : Option TransactionLocator} → k.next after ≡ none → Gives k after []
  onward : {after : Option TransactionLocator} {l : TransactionLocator} {ls : List TransactionLocator} → k.next after ≡ some l → Gives k (some l) ls → Gives
      k after (l ∷ ls)

-- what the single questions, asked on, give: first the locators of the stretches, then what they give after the last one; none is left
-- exactly where the answer says that none follow, and while more follow as many stretches are given as were asked for
pub record Spread (k : Listing) (n : ℕ) (after : Option TransactionLocator) (ls : List TransactionLocator) (ts : List FinalStretch) : Type 0 where
  pub rest : List TransactionLocator
  pub splits : ls ≡ flatten (map stretch_locators ts) ++ rest
  pub onward : Gives k (reached after ts) rest
  pub none_left : (more_follow k (reached after ts) ≡ false) ↔ (rest ≡ [])
  pub full : more_follow k (reached after ts) ≡ true → length ts ≡ n

unfoldable pub StretchesSpread : Type 0
StretchesSpread = (c : Committee) (bs : List Block) (k : Listing) → Lawful bs k → (n : ℕ) (after : Option TransactionLocator) (ls : List TransactionLocator)
    → Gives k after ls → Spread k n after ls (stretches c bs k n after)

-- ---- the final list

unfoldable pub WideLawful : Type 0
WideLawful = (c : Committee) (bs : List Block) → Lawful bs (wide c bs)

-- its locators, asked on, are those that the question gives
unfoldable pub WideGives : Type 0
WideGives = (c : Committee) (s : Bytes) → broken c ≡ false → store_in_order c s ≡ true → (after : Option TransactionLocator) (ls : List TransactionLocator)
    → Gives (wide c (blocks_of s)) after ls ↔ AskedOn c s after ls

-- a locator of a stretch is final, with the certifying blocks of the first one, as many as told and with the stake told
pub record Alike (c : Committee) (s : Bytes) (t : FinalStretch) (l : TransactionLocator) : Type 0 where
  pub final : is_final c (blocks_of s) l ≡ true
  pub certifying : certifying_positions c s l ≡ certifying_positions c s (locator t.block t.first)
  pub many : length (certifying_positions c s l) ≡ t.blocks
  pub stake : stake_of c (set_of (map author (certifiers c (blocks_of s) l))) ≡ t.stake

unfoldable pub StretchesAlike : Type 0
StretchesAlike = (c : Committee) (s : Bytes) → store_in_order c s ≡ true → (n : ℕ) (after : Option TransactionLocator) (t : FinalStretch)
    → t ∈ stretches c (blocks_of s) (wide c (blocks_of s)) n after → (l : TransactionLocator) → l ∈ stretch_locators t → Alike c s t l

pub record Claims : Type 0 where
  pub ends : StretchEndMeant
  pub longest : StretchesLongest
  pub spread : StretchesSpread
  pub wide_lawful : WideLawful
  pub wide_gives : WideGives
  pub alike : StretchesAlike
