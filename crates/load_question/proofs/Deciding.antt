-- A share is loadable exactly where no mark of its chain is left. Assumes nothing.
use mathlib.Core.Path.{◌≡◌, sym, ap, ◌∙◌}
use mathlib.Core.Bool.{Bool, true, false}
use mathlib.Core.List.{List}
use Prim.Native.Nat.{ℕ, ◌<◌}
use lib.ListN.{length, get_or}
use Rattle.base.specs.Lists.{◌∈◌}
use Rattle.base.specs.Le.{Bytes}
use Rattle.base.proofs.Tests.{and_both, and_right, fails}
use Rattle.committee.specs.Committee.{Committee}
use Rattle.record_spec.specs.Reference.{TransactionLocator}
use Rattle.store_spec.specs.Store.{store_in_order}
use Rattle.store_spec.specs.Shares.{is_stored_share}
use Rattle.final_spec.specs.Finality.{blocks_of}
use Rattle.final_readings_spec.specs.Readings.{Reading, is_final_in}
use Rattle.list_readings_spec.specs.Lists.{is_listed, all_listed}
use Rattle.list_readings_spec.proofs.Whole.{all_in}
use Rattle.final_block_votes.specs.Walk.{block_at_place}
use Rattle.load_spec.specs.Loadable.{is_loadable_in}
use Rattle.load_chain.specs.Chain.{share_in, AllFinal, Chain}
use Rattle.load_mark_words.specs.Marks.{mark_left, Cleared, NoneLeft}
use Rattle.load_mark_words.proofs.Left.{left_some, left_zero}

module _ (reading : Reading) (c : Committee) (s : Bytes) (x : store_in_order c s ≡ true) (order : List ℕ) (l : TransactionLocator) (marks after : List ℕ)
    (chain : Chain s order l marks)
    (cleared : Cleared s order (all_listed true reading c (blocks_of s)) marks after) where
  abbrev finals : List TransactionLocator
  finals = all_listed true reading c (blocks_of s)

  listed_final : (k o : ℕ) → share_in s order k o ∈ finals → is_final_in reading c (blocks_of s) (share_in s order k o) ≡ true
  unfolding is_listed
  listed_final k o m = and_right (is_stored_share (blocks_of s) (share_in s order k o)) _ ((all_in true reading c (blocks_of s) (share_in s order k o)).0 m)

  final_listed : (k o : ℕ) → is_stored_share (blocks_of s) (share_in s order k o) ≡ true → is_final_in reading c (blocks_of s) (share_in s order k o) ≡ true
      → share_in
      s order k o ∈ finals
  unfolding is_listed
  final_listed k o h f = (all_in true reading c (blocks_of s) (share_in s order k o)).1 (and_both _ _ h f)

  all_gone : ((k : ℕ) → k < length order → get_or after k 0 ≡ 0) → AllFinal reading c s order marks
  unfolding AllFinal
  all_gone f k o i e =
      listed_final k o
      (left_zero finals (block_at_place s order k).reference o
      (ap (mark_left finals (block_at_place s order k).reference) (sym e) ∙ sym (cleared.each k i) ∙ f k i))

  one_left : (k : ℕ) → k < length order → (get_or after k 0 ≡ 0 → ⊥) → AllFinal reading c s order marks → ⊥
  unfolding AllFinal
  one_left k i d f =
      let y = left_some finals (block_at_place s order k).reference (get_or marks k 0) (λ e. d (cleared.each k i ∙ e)) in
      y.2 (final_listed k y.0 (chain.shares k y.0 i y.1) (f k y.0 i y.1))

  pub decided : (t : Bool) → NoneLeft after (length order) t → t ≡ is_loadable_in reading c (blocks_of s) l
  unfolding NoneLeft
  decided true f = sym ((chain.means reading c x).1 (all_gone f))
  decided false f = sym (fails _ (λ h. one_left f.0 f.1 f.2 ((chain.means reading c x).0 h)))
