-- Which stored shares are loadable, in either reading of a reject, and the list of them, over a list of blocks, the newest first.
-- Assumes nothing: these are definitions.
use Rattle.std.specs.Prelude.{ℕ, zero, suc, ◌<◌, ◌≡◌, Bool, true, false, ◌&&◌, List, [], ◌∷◌, ◌++◌, ltb}
use Rattle.std.proofs.Math.Option.{Option, none, some}
use Rattle.base.specs.Lists.{pick, any_of, keep, holds}
use Rattle.base.specs.Le.{Bytes}
use Rattle.committee.specs.Committee.{Committee}
use Rattle.record_spec.specs.Reference.{TransactionLocator, same_locator}
use Rattle.record_spec.specs.Block.{Block}
use Rattle.final_spec.specs.Ancestry.{Final}
use Rattle.final_readings_spec.specs.Readings.{Reading, is_final_in}
use Rattle.final_readings_spec.specs.Withdrawing.{FinalIn}
use Rattle.list_ordinary_spec.specs.Shares.{stored_shares}
use Rattle.load_spec.specs.Needs.{needed_by, SharedAs, payload_in}

-- 02: "Only a stored share is loadable: when it is final, and the change it needs, if any, is a stored share of a lower round that is itself
-- loadable"; what is final is given
pub data LoadableGiven (final : TransactionLocator → Type 0) (bs : List Block) : TransactionLocator → Type 0 where
  alone : {l : TransactionLocator} {p : Bytes} → SharedAs bs l p → final l → needed_by p ≡ none → LoadableGiven final bs l
  following : {l m : TransactionLocator} {p : Bytes} → SharedAs bs l p → final l → needed_by p ≡ some m
      → m.block.round < l.block.round → LoadableGiven final bs m → LoadableGiven final bs l

-- by the rule in which an owner cannot withdraw: final as 01 says it
abbrev pub Loadable : Committee → List Block → TransactionLocator → Type 0
Loadable c bs = LoadableGiven (Final c bs) bs

-- in either reading: a share and what it needs are judged in the same one
abbrev pub LoadableIn : Reading → Committee → List Block → TransactionLocator → Type 0
LoadableIn reading c bs = LoadableGiven (FinalIn reading c bs) bs

-- ---- the same, computed

-- what a share needs, if anything, is of a lower round and passes the test
unfoldable pub met : (TransactionLocator → Bool) → TransactionLocator → Option TransactionLocator → Bool
met loaded l none = true
met loaded l (some m) = ltb m.block.round l.block.round && loaded m

-- a final stored share that needs nothing, or what passes the test
unfoldable pub loadable_by : (TransactionLocator → Bool) → Reading → Committee → List Block → TransactionLocator → Bool
loadable_by loaded reading c bs l = is_final_in reading c bs l && holds (λ p. met loaded l (needed_by p)) (payload_in bs l)

-- with at most n shares, one needing the next
unfoldable pub loadable_within : ℕ → Reading → Committee → List Block → TransactionLocator → Bool
loadable_within zero reading c bs l = false
loadable_within (suc n) reading c bs l = loadable_by (loadable_within n reading c bs) reading c bs l

-- 02: "Give yes or no for a locator": rounds fall, so there are no more shares than rounds
unfoldable pub is_loadable_in : Reading → Committee → List Block → TransactionLocator → Bool
is_loadable_in reading c bs l = loadable_within (suc l.block.round) reading c bs l

-- 02: "the list of all loadable stored shares in ascending locator order"
unfoldable pub loadable_list_in : Reading → Committee → List Block → List TransactionLocator
loadable_list_in reading c bs = keep (is_loadable_in reading c bs) (stored_shares bs)

-- ---- the same, one share after the other in ascending order

-- whether the next one is loadable, by those found so far
unfoldable pub loadable_after : Reading → Committee → List Block → List TransactionLocator → TransactionLocator → Bool
loadable_after reading c bs found l = loadable_by (λ m. any_of (same_locator m) found) reading c bs l

-- those found among the next ones too
unfoldable pub found_on : Reading → Committee → List Block → List TransactionLocator → List TransactionLocator → List TransactionLocator
found_on reading c bs found [] = found
found_on reading c bs found (l ∷ ls) = found_on reading c bs (pick (loadable_after reading c bs found l) (found ++ l ∷ []) found) ls
