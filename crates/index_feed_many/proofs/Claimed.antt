-- The claims. Assumes nothing.
use mathlib.Core.Path.{◌≡◌, refl}
use mathlib.Core.Bool.{true}
use mathlib.Core.List.{List, [], ◌∷◌}
use Prim.Native.Nat.{ℕ}
use native.Mathlib.Omega.{arith}
use lib.ListN.{drop}
use borrow.Author.Tests.{not-false}
use Rattle.base.specs.Le.{Bytes}
use Rattle.base.specs.Checks.{passes, Answer, refused, answered}
use Rattle.base.proofs.Checks.{passes_first, passes_left, passes_right}
use Rattle.base.proofs.Refusals.{passes_zero}
use Rattle.committee.specs.Committee.{Committee}
use Rattle.feed_spec.specs.Pending.{pending_checks}
use Rattle.feed_spec.specs.Feed.{Lent, lent_of, refused_feed}
use Rattle.feed_spec.proofs.Keeping.{State, feed_keeps}
use Rattle.pending_question.proofs.Lending.{lying}
use Rattle.final_spec.specs.Finality.{blocks_of}
use Rattle.index_spec.specs.Index.{used_part, index_of, index_agrees}
use Rattle.index_part_places.proofs.Standing.{used_words_lem}
use Rattle.index_feed_spec.specs.IndexedFeed.{indexed_lent_checks, feed_indexed}
use Rattle.index_feed_spec.specs.Claims.{AsWithout, RefusedLeaves, StaysAgreed}
use Rattle.index_feed_spec.proofs.Claimed.{as_without_lem, refused_leaves, stays_agreed}
use Rattle.feed_many.specs.Records.{words_told}
use Rattle.index_feed_many.specs.Records.{feed_all_indexed}

-- a feed leaves memory in order
state_kept : (c : Committee) (m : Lent) (ix : List ℕ) (bytes : Bytes) → State c m.store m.table → index_agrees (blocks_of m.store) ix ≡ true
    → State c (feed_indexed c m ix bytes).fed.store (feed_indexed c m ix bytes).fed.table
unfolding AsWithout RefusedLeaves refused_feed
state_kept c m ix bytes st h = go (feed_indexed c m ix bytes).fed.answer refl
  where
    go : (x : Answer ℕ) → (feed_indexed c m ix bytes).fed.answer ≡ x → State c (feed_indexed c m ix bytes).fed.store (feed_indexed c m ix bytes).fed.table
    go (refused n) e = rw (refused_leaves c m ix bytes n e).0 st
    go (answered n) e =
        rw (as_without_lem c m ix bytes h (λ (z : (feed_indexed c m ix bytes).fed.answer ≡ refused 55). let y : ◌≡◌ {A = ℕ} 0 1 = cc in omega arith))
        (feed_keeps c m bytes st).state

all_agree : (c : Committee) (m : Lent) (ix : List ℕ) (rs : List Bytes) → State c m.store m.table → index_agrees (blocks_of m.store) ix ≡ true
    → index_agrees (blocks_of (feed_all_indexed c m ix rs).store) (feed_all_indexed c m ix rs).index ≡ true
unfolding feed_all_indexed StaysAgreed
all_agree c m ix [] st h = h
all_agree c m ix (r ∷ rs) st h =
    let f = feed_indexed c m ix r in
    all_agree c (lent_of f.fed.store f.fed.table m.work (drop (words_told f.fed.answer) f.fed.events)) f.index rs
    (state_kept c m ix r st h) (stays_agreed c m ix r st.store h)

pub afresh : (c : Committee) (m : Lent) (ix : List ℕ) (rs : List Bytes) → passes (indexed_lent_checks c m.store m.table ix) ≡ true
    → used_part (feed_all_indexed c m ix rs).index ≡ index_of (feed_all_indexed c m ix rs).store
unfolding indexed_lent_checks index_of
afresh c m ix rs h =
    let p = passes_zero _ (passes_left (pending_checks c m.store m.table) _ h) in
    let l = lying c m.store m.table p in
    let a = not-false _ (passes_first _ _ (passes_right (pending_checks c m.store m.table) _ h)) in
    used_words_lem (blocks_of (feed_all_indexed c m ix rs).store) (feed_all_indexed c m ix rs).index
    (all_agree c m ix rs (record { store = l.store; table = l.table }) a)
