-- Marks taken away, stretch by stretch. Assumes nothing.
use mathlib.Core.Path.{◌≡◌, refl, sym, subst}
use mathlib.Core.Bool.{true}
use mathlib.Core.List.{List}
use mathlib.Core.Option.{Option}
use Prim.Native.Nat.{ℕ}
use native.Mathlib.Omega.{arith}
use Rattle.base.specs.Lists.{◌∈◌}
use Rattle.base.specs.Le.{Bytes}
use Rattle.base.proofs.Tests.{and_left}
use Rattle.base.proofs.Members.{in_left, in_right}
use Rattle.committee.specs.Committee.{Committee}
use Rattle.record_spec.specs.Reference.{TransactionLocator, locator, locators}
use Rattle.types.specs.Values.{as_range, as_maybe}
use Rattle.types.specs.declared.TransactionLocatorRange as ranges
use Rattle.store_spec.specs.Store.{records_of}
use Rattle.store_spec.specs.Accept.{is_stored}
use Rattle.store_spec.specs.Shares.{is_stored_share}
use Rattle.final_spec.specs.Finality.{blocks_of}
use Rattle.final_spec.proofs.FinalList.{covered_in}
use Rattle.final_readings_spec.specs.Readings.{Reading}
use Rattle.list_readings_spec.specs.Lists.{is_listed, all_listed}
use Rattle.list_readings_spec.proofs.Whole.{all_in}
use Rattle.load_along.specs.Along.{Tables, Found}
use Rattle.load_along.specs.declared.Along.{Along}
use Rattle.load_along.proofs.Going.{Passing, passing_end, later, passing_splits, passing_longer}
use Rattle.load_chain.proofs.Chains.{share_block}
use Rattle.load_mark_words.specs.Marks.{Cleared}
use Rattle.std.specs.Prelude.{None, Some}

-- the block of the next stretch is stored
pub stretch_stored : (reading : Reading) (c : Committee) (s : Bytes) (tables : Tables) (along : Along) (gone : List TransactionLocator)
    (w : Passing reading c s tables along gone) (q : ranges.TransactionLocatorRange)
    (last : Option TransactionLocator) (f : Found reading c s (as_maybe along.after) last (Some q)) → is_stored (records_of s) (as_range q).block ≡ true
unfolding locator is_listed
stretch_stored reading c s tables along gone w q last f =
    let l : TransactionLocator = locator (as_range q).block (as_range q).start in
    let m : l ∈ locators (as_range q) = covered_in (as_range q) l (record
    { of = refl; from = omega arith; below = passing_longer reading c s tables along gone w q last f }) in
    let i = subst (λ (ls : List TransactionLocator). l ∈ ls) (sym (passing_splits reading c s tables along gone w q last f))
    (in_right gone (in_left (later reading c s tables along gone w q last f) m)) in
    share_block s l (and_left (is_stored_share (blocks_of s) l) _ ((all_in true reading c (blocks_of s) l).0 i))

-- the marks of what was passed are taken away
pub record Clearing (reading : Reading) (c : Committee) (s : Bytes) (order : List ℕ) (marks₀ marks : List ℕ) (tables : Tables) (along : Along) : Type 0 where
  pub gone : List TransactionLocator
  pub passing : Passing reading c s tables along gone
  pub cleared : Cleared s order gone marks₀ marks

pub clearing_end : (reading : Reading) (c : Committee) (s : Bytes) (order marks₀ marks : List ℕ) (tables : Tables) (along : Along) → Clearing reading c s
    order marks₀ marks tables along
    → (last : Option TransactionLocator) → Found reading c s (as_maybe along.after) last None → Cleared s order (all_listed true reading c (blocks_of s))
    marks₀ marks
clearing_end reading c s order marks₀ marks tables along w last e =
    subst (λ (ls : List TransactionLocator). Cleared s order ls marks₀ marks) (passing_end reading c s tables along w.gone w.passing last e) w.cleared
