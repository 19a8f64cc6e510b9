-- What a list with the index is, as claims. Assumes nothing: these are definitions.
use Rattle.std.specs.Prelude.{ℕ, ◌≡◌, true, false, List}
use Rattle.std.proofs.Math.Option.{Option}
use Rattle.base.specs.Le.{Bytes}
use Rattle.base.specs.Checks.{passes, refused}
use Rattle.committee.specs.Committee.{Committee}
use Rattle.record_spec.specs.Reference.{TransactionLocator}
use Rattle.final_spec.specs.Finality.{blocks_of}
use Rattle.final_spec.specs.NextFinal.{next_final_checks}
use Rattle.list_stretches_spec.specs.Stretches.{Listing}
use Rattle.list_stretches_spec.specs.Bulk.{list_stretches}
use Rattle.index_spec.specs.Index.{index_agrees, Kept}
use Rattle.index_list_spec.specs.Indexed.{list_stretches_indexed}

-- 02: "listings with it equal listings without it": of any list, wherever the index agrees with the store
unfoldable pub SameLists : Type 0
SameLists = (c : Committee) (s : Bytes) (ix : List ℕ) (k : Listing) (out : Bytes) (after : Option TransactionLocator) → index_agrees (blocks_of s) ix ≡ true
    → list_stretches_indexed c s ix k out after ≡ list_stretches c s k out after

-- 02: "After any list of feeds with it": so with every index that went from feed to feed with the store
unfoldable pub KeptLists : Type 0
KeptLists = (c : Committee) (s : Bytes) (ix : List ℕ) (k : Listing) (out : Bytes) (after : Option TransactionLocator) → Kept (blocks_of s) ix
    → list_stretches_indexed c s ix k out after ≡ list_stretches c s k out after

-- 5 and 10 come first, whatever the index
unfoldable pub RefusedAlike : Type 0
RefusedAlike = (c : Committee) (s : Bytes) (ix : List ℕ) (k : Listing) (out : Bytes) (after : Option TransactionLocator) → passes (next_final_checks c s)
    ≡ false
    → list_stretches_indexed c s ix k out after ≡ list_stretches c s k out after

-- 02: "An index that disagrees with the store answers 54"; the slice is as it was
unfoldable pub Disagreeing : Type 0
Disagreeing = (c : Committee) (s : Bytes) (ix : List ℕ) (k : Listing) (out : Bytes) (after : Option TransactionLocator) → passes (next_final_checks c s) ≡ true
    → index_agrees (blocks_of s) ix ≡ false
    → list_stretches_indexed c s ix k out after ≡ record { answer = refused 54; out = out }

pub record Claims : Type 0 where
  pub same : SameLists
  pub kept : KeptLists
  pub refused : RefusedAlike
  pub disagreeing : Disagreeing
