-- Loadable, computed and as a relation, in both readings. Assumes nothing.
use mathlib.Core.Path.{◌≡◌, refl, sym, ◌∙◌}
use mathlib.Core.Logic.{◌↔◌}
use mathlib.Core.Bool.{Bool, true}
use mathlib.Core.List.{List}
use mathlib.Core.Option.{Option, none, some}
use Prim.Native.Nat.{ℕ, zero, suc, ◌<◌}
use native.Mathlib.Omega.{arith}
use lib.Dec.{ltb}
use borrow.Author.Tests.{lt-ltb, ltb-true}
use Rattle.base.specs.Lists.{holds, ◌∈◌}
use Rattle.base.specs.Le.{Bytes}
use Rattle.base.proofs.Tests.{and_both, and_left, and_right, same_test, not_both}
use Rattle.base.proofs.Lists.{holds_some}
use Rattle.committee.specs.Committee.{Committee}
use Rattle.committee_set.proofs.Quorums.{quorum_mono}
use Rattle.record_spec.specs.Reference.{TransactionLocator}
use Rattle.record_spec.specs.Block.{Block, author}
use Rattle.store_spec.proofs.Stored.{WellStored}
use Rattle.final_spec.specs.Ancestry.{Final}
use Rattle.final_readings_spec.specs.Readings.{Reading, old, withdrawing, is_final_in}
use Rattle.final_readings_spec.specs.Withdrawing.{FinalIn}
use Rattle.final_readings_spec.proofs.FinalsIn.{final_in_iff, final_in_old, final_in_stays}
use Rattle.store_spec.specs.Shares.{StoredShare}
use Rattle.load_spec.specs.Needs.{needed_by, SharedAs, payload_in}
use Rattle.load_spec.specs.Loadable.{LoadableGiven, alone, following, Loadable, LoadableIn, met, loadable_by, loadable_within, is_loadable_in}
use Rattle.load_spec.proofs.Payloads.{payload_shared, shared_payload_lem, shared_stored, shared_moved}

-- ---- the relation alone

pub loadable_stored : {final : TransactionLocator → Type 0} {bs : List Block} {l : TransactionLocator} → LoadableGiven final bs l → StoredShare bs l
loadable_stored (alone s f e) = shared_stored s
loadable_stored (following s f e r x) = shared_stored s

pub loadable_final : {final : TransactionLocator → Type 0} {bs : List Block} {l : TransactionLocator} → LoadableGiven final bs l → final l
loadable_final (alone s f e) = f
loadable_final (following s f e r x) = f

-- where more blocks are stored and what is final here is final there, what is loadable here is loadable there
pub loadable_carried : {final final' : TransactionLocator → Type 0} {bs cs : List Block} → ((b : Block) → b ∈ bs → b ∈ cs) →
    ((l : TransactionLocator) → final l → final' l)
    → {l : TransactionLocator} → LoadableGiven final bs l → LoadableGiven final' cs l
loadable_carried f g (alone {l = l} s q e) = alone (shared_moved f s) (g l q) e
loadable_carried f g (following {l = l} s q e r x) = following (shared_moved f s) (g l q) e r (loadable_carried f g x)

-- ---- the computed answer

module _ (reading : Reading) (c : Committee) {bs : List Block} (w : WellStored bs) where
  -- a share that needs what passes a test, where the test passes only what is loadable
  pub by_loaded : (loaded : TransactionLocator → Bool) (l : TransactionLocator)
      → ((m : TransactionLocator) → m.block.round < l.block.round → loaded m ≡ true → LoadableIn reading c bs m)
      → loadable_by loaded reading c bs l ≡ true → LoadableIn reading c bs l
  unfolding loadable_by met
  by_loaded loaded l f h =
      let x = holds_some (λ p. met loaded l (needed_by p)) (payload_in bs l) (and_right (is_final_in reading c bs l) _ h) in
      go x.0 (payload_shared bs l x.0 x.1) (needed_by x.0) refl x.2
    where
      go : (p : Bytes) → SharedAs bs l p → (o : Option TransactionLocator) → needed_by p ≡ o → met loaded l o ≡ true → LoadableIn reading c bs l
      go p s none e k = alone s ((final_in_iff reading c w l).0 (and_left _ _ h)) e
      go p s (some m) e k =
          let r : m.block.round < l.block.round = ltb-true _ _ (and_left _ _ k) in
          following s ((final_in_iff reading c w l).0 (and_left _ _ h)) e r (f m r (and_right (ltb m.block.round l.block.round) _ k))

  -- and the other way, where it passes all of a lower round that are
  pub loaded_by : (loaded : TransactionLocator → Bool) (l : TransactionLocator)
      → ((m : TransactionLocator) → m.block.round < l.block.round → LoadableIn reading c bs m → loaded m ≡ true)
      → LoadableIn reading c bs l → loadable_by loaded reading c bs l ≡ true
  unfolding loadable_by met holds
  loaded_by loaded l f (alone s q e) = and_both _ _ ((final_in_iff reading c w l).1 q) (rw (shared_payload_lem w s, e))
  loaded_by loaded l f (following {m = m} s q e r x) = and_both _ _ ((final_in_iff reading c w l).1 q)
      (rw (shared_payload_lem w s, e) (and_both _ _ (lt-ltb _ _ r) (f m r x)))

  sound : (n : ℕ) (l : TransactionLocator) → loadable_within n reading c bs l ≡ true → LoadableIn reading c bs l
  unfolding loadable_within
  sound zero l h = absurd (not_both h refl)
  sound (suc n) l h = by_loaded (loadable_within n reading c bs) l (λ m r k. sound n m k) h

  complete : (n : ℕ) (l : TransactionLocator) → l.block.round < n → LoadableIn reading c bs l → loadable_within n reading c bs l ≡ true
  unfolding loadable_within
  complete zero l h x = absurd (omega arith)
  complete (suc n) l h x = loaded_by (loadable_within n reading c bs) l (λ m (r : m.block.round < l.block.round) y. complete n m (omega arith) y) x

  pub loadable_is : (l : TransactionLocator) → is_loadable_in reading c bs l ≡ true → LoadableIn reading c bs l
  unfolding is_loadable_in
  loadable_is l h = sound (suc l.block.round) l h

  pub is_loadable : (l : TransactionLocator) → LoadableIn reading c bs l → is_loadable_in reading c bs l ≡ true
  unfolding is_loadable_in
  is_loadable l x = complete (suc l.block.round) l (omega arith) x

  -- a test that says of each of a lower round whether it is loadable
  pub by_test : (loaded : TransactionLocator → Bool) (l : TransactionLocator) →
      ((m : TransactionLocator) → m.block.round < l.block.round → loaded m ≡ is_loadable_in reading c bs m)
      → is_loadable_in reading c bs l ≡ loadable_by loaded reading c bs l
  by_test loaded l f =
      same_test (is_loadable_in reading c bs l) (loadable_by loaded reading c bs l)
      (λ h. loaded_by loaded l (λ m r x. f m r ∙ is_loadable m x) (loadable_is l h))
      (λ h. is_loadable l (by_loaded loaded l (λ m r k. loadable_is m (sym (f m r) ∙ k)) h))

-- ---- the two readings

-- in the old one a certificate is what it was
old_final : (c : Committee) (bs : List Block) (l : TransactionLocator) → FinalIn old c bs l ↔ Final c bs l
old_final c bs l = (
  quorum_mono c _ _ (λ a k. record { block = k.block; stored = k.stored; unmarked = k.unmarked; quorum = k.quorum; authored = k.authored }),
  quorum_mono c _ _ (λ a k. record { block = k.block; stored = k.stored; unmarked = k.unmarked; quorum = k.quorum; authored = k.authored }),
)

pub old_loading : (c : Committee) (bs : List Block) (l : TransactionLocator) → LoadableIn old c bs l ↔ Loadable c bs l
old_loading c bs l = (loadable_carried (λ b m. m) (λ m. (old_final c bs m).0), loadable_carried (λ b m. m) (λ m. (old_final c bs m).1))

pub loadable_in_both : (c : Committee) {bs : List Block} → WellStored bs → (l : TransactionLocator) → LoadableIn withdrawing c bs l → LoadableIn old c bs l
loadable_in_both c {bs} w l = loadable_carried (λ b m. m) (λ m q. (final_in_iff old c w m).0
    (final_in_old withdrawing c bs m ((final_in_iff withdrawing c w m).1 q)))

-- what is loadable stays loadable when blocks are added
pub loadable_stays : (reading : Reading) (c : Committee) {bs cs : List Block} → WellStored bs → WellStored cs → ((x : Block) → x ∈ bs → author x < 128) →
    ((x : Block) → x ∈ cs → author x < 128)
    → ((b : Block) → b ∈ bs → b ∈ cs) → {l : TransactionLocator} → LoadableIn reading c bs l → LoadableIn reading c cs l
loadable_stays reading c v w f g more =
    loadable_carried more (λ m q. (final_in_iff reading c w m).0 (final_in_stays reading c v w f g more m ((final_in_iff reading c v m).1 q)))
