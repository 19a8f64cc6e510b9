-- The marks of a chain, member by member. Assumes nothing.
use mathlib.Core.Path.{◌≡◌, sym, ap, subst, ◌∙◌}
use mathlib.Core.Logic.{◌⊎◌, inl, inr, ◌↔◌}
use mathlib.Core.Bool.{true, ◌&&◌}
use mathlib.Core.List.{List}
use Prim.Native.Nat.{ℕ, suc, ◌+◌, ◌≤◌, ◌<◌}
use native.Mathlib.Numerals.{add-one}
use native.Mathlib.Omega.{arith}
use native.Mathlib.Decide.{ℕ_discrete}
use lib.ListN.{length, get_or, set}
use lib.Seq.{get_or-set_same, get_or-set_other}
use Rattle.base.specs.Le.{Bytes}
use Rattle.base.proofs.Tests.{and_both, and_left, and_right, fails, not_both}
use Rattle.committee.specs.Committee.{Committee}
use Rattle.record_spec.specs.Reference.{BlockReference, TransactionLocator, locator}
use Rattle.store_spec.specs.Store.{store_in_order, records_of}
use Rattle.store_spec.specs.Accept.{is_stored}
use Rattle.store_spec.specs.Shares.{is_stored_share}
use Rattle.store_spec.proofs.Shares.{stored_share}
use Rattle.store_spec.proofs.Lookups.{block_entry, stored_entry}
use Rattle.final_spec.specs.Finality.{blocks_of}
use Rattle.final_readings_spec.specs.Readings.{Reading, is_final_in}
use Rattle.final_block_votes.specs.Walk.{block_at_place}
use Rattle.load_spec.specs.Loadable.{is_loadable_in}
use Rattle.load_chain.specs.Chain.{Placed, Never, share_in, AllFinal, Chain}

-- a stored share's block is stored, and it has few statements
pub share_block : (s : Bytes) (l : TransactionLocator) → is_stored_share (blocks_of s) l ≡ true → is_stored (records_of s) l.block ≡ true
unfolding blocks_of
share_block s l h =
    let x = stored_share (blocks_of s) l h in
    let e = block_entry (records_of s) x.block x.stored in
    stored_entry (records_of s) l.block e.0 e.1 (ap (λ b. b.reference) e.2 ∙ x.named)

-- a member more
module _ (s : Bytes) (order marks : List ℕ) (fits : length order ≤ length marks) (l : TransactionLocator) (k : ℕ) (p : Placed s order l k) where
  abbrev marked : List ℕ
  marked = set marks k (l.offset + 1)

  at_place : get_or marked k 0 ≡ suc l.offset
  at_place = get_or-set_same marks k (l.offset + 1) 0 (let i = p.inside in omega arith) ∙ add-one l.offset

  itself : share_in s order k l.offset ≡ l
  unfolding locator
  itself = λ i. record { block = p.block i; offset = l.offset }

  -- a mark is the new one, or was there
  mark_of : (j o : ℕ) → get_or marked j 0 ≡ suc o → ((j ≡ k) × (o ≡ l.offset)) ⊎ (get_or marks j 0 ≡ suc o)
  mark_of j o h = go (ℕ_discrete j k)
    where
      go : Dec (j ≡ k) → ((j ≡ k) × (o ≡ l.offset)) ⊎ (get_or marks j 0 ≡ suc o)
      go (yes e) = inl (e, (let q : suc o ≡ suc l.offset = sym h ∙ ap (λ (i : ℕ). get_or marked i 0) e ∙ at_place in omega arith))
      go (no d) = inr (sym (get_or-set_other marks k j (l.offset + 1) 0 d) ∙ h)

  -- so what holds of the share and of every marked one holds of every one marked then
  marked_all : (P : TransactionLocator → Type 0) → P l → ((j o : ℕ) → j < length order → get_or marks j 0 ≡ suc o → P (share_in s order j o))
      → (j o : ℕ) → j < length order → get_or marked j 0 ≡ suc o → P (share_in s order j o)
  marked_all P own others j o i h = go (mark_of j o h)
    where
      go : ((j ≡ k) × (o ≡ l.offset)) ⊎ (get_or marks j 0 ≡ suc o) → P (share_in s order j o)
      go (inl e) = subst P (sym (ap (λ (x : ℕ). share_in s order x o) e.0 ∙ ap (λ (x : ℕ). share_in s order k x) e.1 ∙ itself)) own
      go (inr e) = others j o i e

  -- and the other way, where no mark is of that place
  module _ (free : (o : ℕ) → get_or marks k 0 ≡ suc o → ⊥) (P : TransactionLocator → Type 0)
      (all : (j o : ℕ) → j < length order → get_or marked j 0 ≡ suc o → P (share_in s order j o)) where
    all_own : P l
    all_own = subst P itself (all k l.offset p.inside at_place)

    all_others : (j o : ℕ) → j < length order → get_or marks j 0 ≡ suc o → P (share_in s order j o)
    all_others j o i h = go (ℕ_discrete j k)
      where
        go : Dec (j ≡ k) → P (share_in s order j o)
        go (yes e) = absurd (free o (ap (λ (x : ℕ). get_or marks x 0) (sym e) ∙ h))
        go (no d) = all j o i (get_or-set_other marks k j (l.offset + 1) 0 d ∙ h)

-- the marks above a change: all of these are final and it is loadable exactly where the share is loadable
pub record Collecting (s : Bytes) (order : List ℕ) (l : TransactionLocator) (marks : List ℕ) (change : TransactionLocator) : Type 0 where
  pub fits : length order ≤ length marks
  pub shares : (k o : ℕ) → k < length order → get_or marks k 0 ≡ suc o → is_stored_share (blocks_of s) (share_in s order k o) ≡ true
  pub above : (k o : ℕ) → k < length order → get_or marks k 0 ≡ suc o → change.block.round < (block_at_place s order k).reference.round
  pub means : (reading : Reading) (c : Committee) → store_in_order c s ≡ true
      → (is_loadable_in reading c (blocks_of s) l ≡ true) ↔ (AllFinal reading c s order marks × (is_loadable_in reading c (blocks_of s) change ≡ true))

pub collecting_start : (s : Bytes) (order : List ℕ) (l : TransactionLocator) (marks : List ℕ) → length order ≤ length marks → ((k : ℕ) → get_or marks k 0 ≡ 0) →
    Collecting s order l marks l
unfolding AllFinal
collecting_start s order l marks fits clear =
    record {
      fits = fits;
      shares = λ k o i h. absurd (none_marked k o h);
      above = λ k o i h. absurd (none_marked k o h);
      means = λ reading c x. (λ h. (λ k o i e. absurd (none_marked k o e), h), λ y. y.1);
    }
  where
    none_marked : (k o : ℕ) → get_or marks k 0 ≡ suc o → ⊥
    none_marked k o h = let e = clear k in omega arith

module _ (s : Bytes) (order : List ℕ) (l : TransactionLocator) (marks : List ℕ) (change : TransactionLocator) (w : Collecting s order l marks change) where
  pub collecting_never : Never s change → Never s l
  unfolding Never
  collecting_never n reading c x = fails _ (λ h. not_both ((w.means reading c x).0 h).1 (n reading c x))

  module _ (k : ℕ) (p : Placed s order change k) where
    own_round : (block_at_place s order k).reference.round ≡ change.block.round
    own_round = ap (λ (r : BlockReference). r.round) p.block

    free : (o : ℕ) → get_or marks k 0 ≡ suc o → ⊥
    free o h = let a = w.above k o p.inside h in let e = own_round in omega arith

    still_shares : (j o : ℕ) → j < length order → get_or (set marks k (change.offset + 1)) j 0 ≡ suc o → is_stored_share (blocks_of s) (share_in s order j o)
        ≡ true
    still_shares = marked_all s order marks w.fits change k p (λ x. is_stored_share (blocks_of s) x ≡ true) p.stored w.shares

    pub collected : ((reading : Reading) (c : Committee) → store_in_order c s ≡ true → is_loadable_in reading c (blocks_of s) change ≡ is_final_in reading c
        (blocks_of s) change)
        → Chain s order l (set marks k (change.offset + 1))
    unfolding AllFinal
    collected e =
        record {
          shares = still_shares;
          means = λ reading c x. (
            λ h. let y = (w.means reading c x).0 h in
                marked_all s order marks w.fits change k p (λ z. is_final_in reading c (blocks_of s) z ≡ true) (sym (e reading c x) ∙ y.1) y.0,
            λ all.
                (w.means reading c x).1 (
                  all_others s order marks w.fits change k p free (λ z. is_final_in reading c (blocks_of s) z ≡ true) all,
                  e reading c x ∙ all_own s order marks w.fits change k p free (λ z. is_final_in reading c (blocks_of s) z ≡ true) all,
                ),
          );
        }

    pub collecting_on : (m : TransactionLocator) → m.block.round < change.block.round
        → ((reading : Reading) (c : Committee) → store_in_order c s ≡ true → is_loadable_in reading c (blocks_of s) change ≡ is_final_in reading c (blocks_of s)
        change && is_loadable_in reading c (blocks_of s) m)
        → length (set marks k (change.offset + 1)) ≡ length marks → Collecting s order l (set marks k (change.offset + 1)) m
    unfolding AllFinal locator
    collecting_on m low e long =
        record {
          fits = let f = w.fits in omega arith;
          shares = still_shares;
          above =
              marked_all s order marks w.fits change k p (λ z. m.block.round < z.block.round) low
              (λ j o i h. let a = w.above j o i h in omega arith);
          means = λ reading c x. (
            λ h.
                let y = (w.means reading c x).0 h in
                let z = sym (e reading c x) ∙ y.1 in (
                  marked_all s order marks w.fits change k p (λ q. is_final_in reading c (blocks_of s) q ≡ true) (and_left _ _ z) y.0,
                  and_right (is_final_in reading c (blocks_of s) change) _ z,
                ),
            λ y.
                (w.means reading c x).1 (
                  all_others s order marks w.fits change k p free (λ q. is_final_in reading c (blocks_of s) q ≡ true) y.0,
                  e reading c x ∙ and_both _ _ (all_own s order marks w.fits change k p free (λ q. is_final_in reading c (blocks_of s) q ≡ true) y.0) y.1,
                ),
          );
        }
