-- The checks of feeding with the index, one group after the other, and what such a feed gives in each case. Assumes nothing.
use mathlib.Core.Path.{◌≡◌, refl, ap, ◌∙◌}
use mathlib.Core.Bool.{Bool, true, false, not, ◌&&◌, and-true}
use mathlib.Core.List.{List, ◌∷◌, ◌++◌}
use mathlib.Core.Option.{Option, some}
use Prim.Native.Nat.{ℕ}
use lib.Dec.{lit<}
use Rattle.base.specs.Lists.{pick, all_of}
use Rattle.base.specs.Le.{Bytes}
use Rattle.base.specs.Checks.{refusal, passes}
use Rattle.base.proofs.Lists.{none_of, and, every_append}
use Rattle.base.proofs.Checks.{refusal_append}
use Rattle.base.proofs.Passing.{passes_append}
use Rattle.base.proofs.Refusals.{Numbered, refusal_first, refusal_then}
use Rattle.committee.specs.Committee.{Committee}
use Rattle.store_spec.specs.Layout.{Record}
use Rattle.feed_spec.specs.Pending.{pending_checks}
use Rattle.feed_spec.specs.Feed.{Lent, lent_checks, feed_checks}
use Rattle.feed_spec.proofs.Checks.{pending_numbered}
use Rattle.final_spec.specs.Finality.{blocks_of}
use Rattle.index_spec.specs.Index.{index_agrees, index_short}
use Rattle.index_feed_spec.specs.IndexedFeed.{indexed_lent_checks, room_checks, indexed_checks}

module _ (c : Committee) (s : Bytes) (t ix : List ℕ) where
  pub lent_numbered : Numbered (indexed_lent_checks c s t ix)
  unfolding indexed_lent_checks
  lent_numbered = every_append (pending_checks c s t) _ (pending_numbered c s t) (and (lit< tt) none_of)

  -- 5, 10, 11
  pub lent_pending : (refusal (pending_checks c s t) ≡ 0 → ⊥) → refusal (indexed_lent_checks c s t ix) ≡ refusal (pending_checks c s t)
  unfolding indexed_lent_checks
  lent_pending h = refusal_first (pending_checks c s t) _ h

  -- 54
  pub lent_index : refusal (pending_checks c s t) ≡ 0 → refusal (indexed_lent_checks c s t ix) ≡ pick (index_agrees (blocks_of s) ix) 0 54
  unfolding indexed_lent_checks refusal
  lent_index z = refusal_then (pending_checks c s t) _ (pending_numbered c s t) z ∙ turned (index_agrees (blocks_of s) ix)
    where
      turned : (b : Bool) → pick {A = ℕ} (not b) 54 0 ≡ pick b 0 54
      turned true = refl
      turned false = refl

module _ (c : Committee) (m : Lent) (ix : List ℕ) (o : Option Record) where
  -- 5, 10, 11, 54
  pub lent_refuses : (refusal (indexed_lent_checks c m.store m.table ix) ≡ 0 → ⊥) → refusal (indexed_checks c m ix o) ≡ refusal
      (indexed_lent_checks c m.store m.table ix)
  unfolding indexed_checks
  lent_refuses h = refusal_first (indexed_lent_checks c m.store m.table ix) _ h

  module _ (h : index_agrees (blocks_of m.store) ix ≡ true) where
    -- with an index that agrees, the checks are those of feeding, and the room for the new part
    pub agreed_refusal : refusal (indexed_checks c m ix o) ≡ refusal (feed_checks c m o ++ room_checks m ix o)
    unfolding indexed_checks indexed_lent_checks feed_checks lent_checks pending_checks refusal
    agreed_refusal = rw h

    agreed_passes : passes (indexed_checks c m ix o) ≡ passes (feed_checks c m o ++ room_checks m ix o)
    unfolding indexed_checks indexed_lent_checks feed_checks lent_checks pending_checks passes all_of
    agreed_passes = rw h

    -- 12, 20 to 30, 15, 13, 14
    pub record-refuses : (refusal (feed_checks c m o) ≡ 0 → ⊥) → refusal (indexed_checks c m ix o) ≡ refusal (feed_checks c m o)
    record-refuses f = agreed_refusal ∙ refusal_first (feed_checks c m o) _ f

-- 55 comes last: a record that passes the checks of feeding
module _ (c : Committee) (m : Lent) (ix : List ℕ) (r : Record) (h : index_agrees (blocks_of m.store) ix ≡ true) where
  pub room_refusal : passes (feed_checks c m (some r)) ≡ true → refusal (indexed_checks c m ix (some r)) ≡ pick (index_short (r.block ∷ blocks_of m.store) ix)
      55 0
  unfolding room_checks refusal
  room_refusal p = agreed_refusal c m ix (some r) h ∙ refusal_append (feed_checks c m (some r)) _ ∙ rw p

  pub room_passes : passes (indexed_checks c m ix (some r)) ≡ passes (feed_checks c m (some r)) && not (index_short (r.block ∷ blocks_of m.store) ix)
  unfolding room_checks passes all_of
  room_passes = agreed_passes c m ix (some r) h ∙ (unfold passes in passes_append (feed_checks c m (some r)) _) ∙ ap
      (λ (t : Bool). passes (feed_checks c m (some r)) && t) (and-true _)
