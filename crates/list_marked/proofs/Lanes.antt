-- What the marks of each kind of lane say of the stored blocks. Assumes nothing.
use mathlib.Core.Path.{◌≡◌, sym, ap, subst, ◌∙◌}
use mathlib.Core.Bool.{Bool, true, false}
use mathlib.Core.List.{List}
use Prim.Native.Nat.{ℕ, ◌+◌, ◌%◌, ◌≤◌, ◌<◌}
use native.Mathlib.Omega.{arith}
use lib.Dec.{eqb}
use lib.ListN.{length, get_or, take, drop}
use lib.Seq.{get_or-take, get_or-drop}
use borrow.Author.Tests.{lt-ltb, le-ltb}
use Rattle.base.specs.Lists.{any_of, ◌∈◌}
use Rattle.base.specs.Le.{Bytes}
use Rattle.base.proofs.Tests.{fails, not_both}
use Rattle.base.proofs.Members.{any_in, in_any}
use Rattle.base.proofs.Places.{member_place}
use Rattle.record_spec.specs.Reference.{TransactionLocator}
use Rattle.record_spec.specs.Block.{Block}
use Rattle.store_spec.specs.Entry.{block_at}
use Rattle.store_spec.specs.Shares.{is_share_of, is_stored_share}
use Rattle.final_spec.specs.Voters.{votes_for}
use Rattle.final_spec.specs.Finality.{blocks_of}
use Rattle.final_readings_spec.specs.Rejecting.{rejects}
use Rattle.list_readings_spec.specs.Answers.{is_ordinary}
use Rattle.final_block_votes.specs.Walk.{SortedStore, block_at_place}
use Rattle.final_block_votes.proofs.Sorting.{place_stored}
use Rattle.final_certifying.proofs.Finding.{block_position}
use Rattle.list_block_spans.specs.Joined.{joined_at, joined_spans}
use Rattle.list_block_spans.specs.Ranges.{ranges_at, ranges_of}
use Rattle.list_block_spans.proofs.Joining.{joined_votes}
use Rattle.list_block_spans.proofs.Rejecting.{rejected_covers}
use Rattle.list_ancestry.specs.Heard.{Owned, AnyMarked}
use Rattle.list_kind_ranges.specs.Kinds.{kind_ranges_at, kind_ranges}
use Rattle.list_kind_ranges.specs.declared.RangeKind.TheVariants.{Votes, Rejects, Shares}
use Rattle.list_kind_ranges.proofs.Sharing.{shares_cover}
use Rattle.list_lanes.specs.Lanes.{wants_rejects, lane_kind, wants_lane, lane_ranges}
use Rattle.list_lanes.specs.declared.Wanted.{Wanted}
use Rattle.list_sweep.specs.Sweep.{MarksAt}

-- the block of a stored one's place
pub stored_at : (s : Bytes) (order : List ℕ) → SortedStore s order → (d : Block) → d ∈ blocks_of s → (k : ℕ) ×
    ((k < length order) × (block_at_place s order k ≡ d))
unfolding SortedStore block_at_place
stored_at s order o d m =
    let p = block_position o.0 s order o.1 d m in
    let y = member_place 0 order p.1 in
    (y.0, (y.1.0, ap (block_at s) y.1.1 ∙ p.2))

module _ (w : Wanted) (s : Bytes) (order marks : List ℕ) (few : length order ≤ 1024) (l : TransactionLocator) (right : MarksAt (lane_ranges w s order) marks l)
    (k : ℕ) (h : k < length order) where
  vote_ranges : lane_ranges w s order k ≡ kind_ranges Votes (block_at_place s order k)
  unfolding lane_ranges wants_lane lane_kind
  vote_ranges = let z : k % 1024 ≡ k = omega arith in rw (lt-ltb k 1024 (omega arith), z, lt-ltb k (length order) h)

  pub vote_mark : eqb (get_or marks k 0) 1 ≡ votes_for (block_at_place s order k) l
  unfolding MarksAt kind_ranges kind_ranges_at ranges_at joined_at joined_spans
  vote_mark = right k (omega arith) ∙ rw vote_ranges (joined_votes (block_at_place s order k) l)

  reject_ranges : wants_rejects w.reading ≡ true → lane_ranges w s order (1024 + k) ≡ kind_ranges Rejects (block_at_place s order k)
  unfolding lane_ranges wants_lane lane_kind
  reject_ranges t = let z : (1024 + k) % 1024 ≡ k = omega arith in rw
      (le-ltb (1024 + k) 1024 (omega arith), lt-ltb (1024 + k) 2048 (omega arith), t, z, lt-ltb k (length order) h)

  pub reject_mark : wants_rejects w.reading ≡ true → (l.offset ≡ 18446744073709551615 → ⊥) → eqb (get_or marks (1024 + k) 0) 1 ≡ rejects
      (block_at_place s order k) l
  unfolding MarksAt kind_ranges kind_ranges_at ranges_of
  reject_mark t n = right (1024 + k) (omega arith) ∙ rw (reject_ranges t) (rejected_covers (block_at_place s order k) l n)

  share_ranges : is_ordinary w.list ≡ true → lane_ranges w s order (2048 + k) ≡ kind_ranges Shares (block_at_place s order k)
  unfolding lane_ranges wants_lane lane_kind
  share_ranges t = let z : (2048 + k) % 1024 ≡ k = omega arith in rw
      (le-ltb (2048 + k) 1024 (omega arith), le-ltb (2048 + k) 2048 (omega arith), t, z, lt-ltb k (length order) h)

  pub share_mark : is_ordinary w.list ≡ true → eqb (get_or marks (2048 + k) 0) 1 ≡ is_share_of (block_at_place s order k) l
  unfolding MarksAt
  share_mark t = right (2048 + k) (omega arith) ∙ rw (share_ranges t) (shares_cover (block_at_place s order k) l)

module _ (w : Wanted) (s : Bytes) (order marks : List ℕ) (few : length order ≤ 1024) (l : TransactionLocator) (right : MarksAt (lane_ranges w s order) marks l)
  where
    -- a part of the marks
    pub owned_votes : Owned false s order l (take 1024 marks)
    unfolding Owned
    owned_votes k h = rw (get_or-take 1024 marks k 0 (omega arith)) (vote_mark w s order marks few l right k h)

    pub owned_rejects : wants_rejects w.reading ≡ true → (l.offset ≡ 18446744073709551615 → ⊥) → Owned true s order l (take 1024 (drop 1024 marks))
    unfolding Owned
    owned_rejects t n k h = rw (get_or-take 1024 (drop 1024 marks) k 0 (omega arith), get_or-drop 1024 marks k 0)
        (reject_mark w s order marks few l right k h t n)

    pub shares_marked : SortedStore s order → is_ordinary w.list ≡ true → (b : Bool) → AnyMarked (take 1024 (drop 2048 marks)) (length order) b →
        is_stored_share (blocks_of s) l ≡ b
    unfolding AnyMarked is_stored_share
    shares_marked o t true (k, h) =
        in_any (λ b. is_share_of b l) (place_stored s order o k h.0)
        (sym (share_mark w s order marks few l right k h.0 t) ∙ sym
        (ap (λ (x : ℕ). eqb x 1) (get_or-take 1024 (drop 2048 marks) k 0 (omega (arith, h.0)) ∙ get_or-drop 2048 marks k 0)) ∙ h.1)
    shares_marked o t false f = fails (any_of (λ b. is_share_of b l) (blocks_of s)) λ e.
        let x = any_in (λ b. is_share_of b l) (blocks_of s) e in
        let p = stored_at s order o x.0 x.1 in
        not_both x.2
        (subst (λ (b : Block). is_share_of b l ≡ false) p.1.1
        (sym (share_mark w s order marks few l right p.0 p.1.0 t) ∙ sym
        (ap (λ (x : ℕ). eqb x 1) (get_or-take 1024 (drop 2048 marks) p.0 0 (omega (arith, p.1.0)) ∙ get_or-drop 2048 marks p.0 0)) ∙ f p.0 p.1.0))
