-- Before the first place that is marked nobody votes, and no block certifies. Assumes nothing.
use mathlib.Core.Path.{◌≡◌, refl, sym, ap, ◌∙◌}
use mathlib.Core.Bool.{Bool, true, false, not, and-false}
use mathlib.Core.List.{List, [], replicate}
use Prim.Native.Nat.{ℕ, zero, suc, ◌+◌, ◌*◌, ◌≤◌, ◌<◌}
use native.Mathlib.Omega.{arith}
use native.Mathlib.Numerals.{add-one}
use native.Mathlib.Decide.{ℕ_discrete}
use lib.Bits.{and_zero_l, xor_zero_l}
use lib.Dec.{eqb}
use lib.ListN.{length, get_or, set, length-set}
use lib.Seq.{get_or-set_same, get_or-set_other}
use borrow.Author.Tests.{le-ltb}
use Rattle.base.specs.Lists.{keep}
use Rattle.base.specs.Le.{Bytes}
use Rattle.base.proofs.Lists.{zeros_at}
use Rattle.committee.specs.Committee.{Committee, total_stake, is_quorum}
use Rattle.committee_set.specs.AuthoritySet.{AuthoritySet, nobody, stake_of, without}
use Rattle.committee_set.proofs.Votes.{stake_nobody}
use Rattle.committee_set.proofs.Words.{united_nobody}
use Rattle.record_spec.specs.Reference.{TransactionLocator}
use Rattle.store_spec.specs.Entry.{block_at}
use Rattle.final_spec.specs.Voters.{own_vote}
use Rattle.final_spec.specs.Finality.{blocks_of}
use Rattle.final_readings_spec.specs.Readings.{Reading, voters_in, certifies_in}
use Rattle.final_block_votes.specs.Walk.{SortedStore, block_at_place}
use Rattle.final_voters.specs.Walk.{spoken_at}
use Rattle.final_certifying.proofs.Finding.{holds_at, found, found_no, authors_none}
use Rattle.list_includes_spec.specs.Places.{set_at}
use Rattle.list_include_sets.specs.Sets.{Included}
use Rattle.list_include_sets.proofs.Gathering.{SaidBefore, quiet_below}
use Rattle.list_ancestry.specs.Heard.{Owned, HeardBelow}
use Rattle.list_ancestry.proofs.Spreading.{all_heard}
use Rattle.list_walk.specs.Walk.{counted, CountedRight, Skipped}
use Rattle.list_walk.proofs.Walking.{Walking}

-- ---- skipping

pub skipped_start : (own : List ℕ) (n : ℕ) (f : List ℕ) → Skipped own n f f 0
skipped_start own n f = record { inside = omega arith; long = refl; unmarked = λ k h. absurd (omega arith); zeros = λ k h. absurd (omega arith) }

pub skipped_more : (own : List ℕ) (n : ℕ) (f₀ f : List ℕ) (r : ℕ) → Skipped own n f₀ f r → r < n → n ≤ length f₀ → eqb (get_or own r 0) 1 ≡ false → Skipped own
    n f₀ (set f r 0) (r + 1)
skipped_more own n f₀ f r w h room e =
    record {
      inside = omega arith;
      long = length-set f r 0 ∙ w.long;
      unmarked = λ k l. unmarked_too k l (ℕ_discrete k r);
      zeros = λ k l. zeros_too k l
          (ℕ_discrete k r);
    }
  where
    unmarked_too : (k : ℕ) → k < r + 1 → Dec (k ≡ r) → eqb (get_or own k 0) 1 ≡ false
    unmarked_too k l (yes q) = rw q e
    unmarked_too k l (no q) = w.unmarked k (omega arith)

    zeros_too : (k : ℕ) → k < r + 1 → Dec (k ≡ r) → get_or (set f r 0) k 0 ≡ 0
    zeros_too k l (yes q) = rw q (get_or-set_same f r 0 0 (omega (arith, w.long)))
    zeros_too k l (no q) = get_or-set_other f r k 0 0 q ∙ w.zeros k (omega arith)

-- ---- nobody votes

pub nobody_counts : (rejected : Bool) (x : AuthoritySet) → counted rejected nobody x ≡ nobody
unfolding counted without
nobody_counts true x =
    let e = and_zero_l x.low in
    let f = and_zero_l x.high in
    rw (e, f) (let z = xor_zero_l 0 in λ i. record { low = z i; high = z i })
nobody_counts false x = refl

none_set : (j : ℕ) → set_at (replicate 2048 0) j ≡ nobody
unfolding set_at
none_set j =
    let e = zeros_at 2048 (2 * j) in
    let f = zeros_at 2048 (2 * j + 1) in
    λ i. record { low = e i; high = f i }

module _ (s : Bytes) (order : List ℕ) (o : SortedStore s order) (l : TransactionLocator) (own : List ℕ) (w : Owned false s order l own) (sets : List ℕ)
    (x : Included s order sets (length order)) where
  quiet_voters : (n : ℕ) → n ≤ length order → ((k : ℕ) → k < n → eqb (get_or own k 0) 1 ≡ false) → (k : ℕ) → k < n → spoken_at own_vote s order l k ≡ nobody
  quiet_voters zero h f k m = absurd (omega arith)
  quiet_voters (suc n) h f k m = go (ℕ_discrete k n) (quiet_voters n (omega arith) (λ j q. f j (omega arith)))
    where
      go : Dec (k ≡ n) → ((j : ℕ) → j < n → spoken_at own_vote s order l j ≡ nobody) → spoken_at own_vote s order l k ≡ nobody
      go (yes q) g =
          rw q (sym (all_heard false s order o l n (omega arith) own w nobody (quiet_below s order o own_vote l sets x n (omega arith) g)) ∙ rw
          (f n (omega arith)) (united_nobody nobody))
      go (no q) g = g k (omega arith)

  module _ (n : ℕ) (h : n ≤ length order) (f : (k : ℕ) → k < n → eqb (get_or own k 0) 1 ≡ false) where
    pub quiet_heard : HeardBelow own_vote s order l (replicate 2048 0) n
    quiet_heard j m = none_set j ∙ sym (quiet_voters n h f j m)

    pub quiet_said : SaidBefore own_vote s order l n nobody
    quiet_said j q = quiet_below s order o own_vote l sets x j (omega arith) (λ i m. quiet_voters n h f i (omega arith))

    -- and no block certifies
    module _ (rejected : Bool) (reading : Reading) (c : Committee) (rejecters : List ℕ) (right : CountedRight rejected reading s order l rejecters) where
      none_holds : (k : ℕ) → k < n → holds_at (certifies_in reading c (blocks_of s) l) s (get_or order k 0) ≡ false
      unfolding certifies_in block_at_place is_quorum stake_of
      none_holds k m =
          let e : voters_in reading (blocks_of s) l (block_at_place s order k).reference ≡ nobody = sym (right k (omega arith)) ∙ ap
          (λ (v : AuthoritySet). counted rejected v (set_at rejecters k)) (quiet_voters n h f k m) ∙ nobody_counts rejected (set_at rejecters k) in
          rw (e, stake_nobody c 0, le-ltb (2 * total_stake c) 0 (omega arith)) (and-false (not (block_at s (get_or order k 0)).marked))

      none_found : (k : ℕ) → k ≤ n → [] ≡ found (certifies_in reading c (blocks_of s) l) s order k
      unfolding keep
      none_found zero m = refl
      none_found (suc k) m =
          none_found k (omega arith)
          ∙ sym (found_no (certifies_in reading c (blocks_of s) l) s order k (omega arith) (none_holds k (omega arith)))
          ∙ ap (found (certifies_in reading c (blocks_of s) l) s order) (add-one k)

      pub quiet_walking : (flags : List ℕ) → ((k : ℕ) → k < n → get_or flags k 0 ≡ 0) → Walking reading c s l order flags nobody 0 n
      quiet_walking flags zeros =
          let e = none_found n (omega arith) in
          record {
            many = ap length e;
            authored = rw e at (authors_none s);
            flagged = λ j m. rw (none_holds j m) (zeros j m);
          }
