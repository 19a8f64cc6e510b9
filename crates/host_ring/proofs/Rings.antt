-- The answers of the host's call, by cases. Assumes nothing.
use mathlib.Core.Path.{◌≡◌, refl}
use mathlib.Core.Bool.{Bool, true, false}
use mathlib.Core.List.{List, [], ◌∷◌, ◌++◌}
use mathlib.Core.Option.{Option, none, some}
use Prim.Native.Nat.{ℕ}
use native.Mathlib.Omega.{arith}
use lib.Dec.{eqb}
use lib.ListN.{length}
use borrow.Author.Tests.{eq-eqb, ne_eqb, eqb-true}
use Rattle.base.specs.Lists.{pick}
use Rattle.base.specs.Le.{Bytes}
use Rattle.base.specs.Checks.{Check, ◌⇒◌, refusal, Answer, refused, answered}
use Rattle.base.proofs.Refusals.{refusal_first, refusal_then}
use Rattle.committee.specs.Committee.{Committee, broken}
use Rattle.committee_set.specs.AuthoritySet.{AuthoritySet}
use Rattle.ring_owners.specs.Ranked.{Ring, ring}
use Rattle.record_spec.specs.Reference.{TransactionLocator}
use Rattle.words.specs.Words.{words_in, words_of}
use Rattle.feed_spec.specs.Pending.{pending_checks}
use Rattle.feed_spec.proofs.Checks.{pending_numbered}
use Rattle.ring_pending.specs.WhomToRing.{ring_at, whom_to_ring}
use Rattle.ring_pending.proofs.Asked.{asked_refused, asked_at}
use Rattle.host_calls.specs.Calls.{committee_of}
use Rattle.host_locators.specs.Locators.{locator_of, refusal_before}
use Rattle.host_ring.specs.Ring.{ring_in, asked_ring, ring_told, whom_to_ring_call, fewest_in, fewest_owners_call}
use Rattle.host_ring.specs.Step.{Tellable}

module _ (c : Committee) (s t : List ℕ) (r : AuthoritySet) where
  pub in_refused : (o : Option TransactionLocator) (n : ℕ) → (refusal (pending_checks c s t) ≡ 0 → ⊥) → ring_in c s t r o n ≡ refused
      (refusal (pending_checks c s t))
  unfolding ring_in
  in_refused none n h = rw (refusal_first (pending_checks c s t) ((true ⇒ 20) ∷ []) h)
  in_refused (some l) n h = go (eqb n 24)
    where
      go : (b : Bool) → pick b (whom_to_ring c s t r l) (refused (refusal (pending_checks c s t ++ ((true ⇒ 40) ∷ []))))
          ≡ refused (refusal (pending_checks c s t))
      go true = asked_refused c s t r l h
      go false = rw (refusal_first (pending_checks c s t) ((true ⇒ 40) ∷ []) h)

  module _ (h : refusal (pending_checks c s t) ≡ 0) (n : ℕ) where
    pub in_none : ring_in c s t r none n ≡ refused 20
    unfolding ring_in refusal
    in_none = rw (refusal_then (pending_checks c s t) ((true ⇒ 20) ∷ []) (pending_numbered c s t) h)

    pub in_small : (l : TransactionLocator) → (n ≡ 24 → ⊥) → ring_in c s t r (some l) n ≡ refused 40
    unfolding ring_in refusal
    in_small l k = rw (ne_eqb n 24 k, refusal_then (pending_checks c s t) ((true ⇒ 40) ∷ []) (pending_numbered c s t) h)

    pub in_asked : (l : TransactionLocator) → n ≡ 24 → ring_in c s t r (some l) n ≡ ring_at c s t r l
    unfolding ring_in
    in_asked l k = rw (eq-eqb n 24 k) (asked_at c s t r l h)

module _ (c : Committee) (s t : List ℕ) (r : AuthoritySet) (o : Option TransactionLocator) (n : ℕ) where
  pub ring_sized : length t ≡ 49160 → asked_ring c s t r o n ≡ ring_in c s (words_in 6145 t) r o n
  unfolding asked_ring words_of
  ring_sized h = rw (eq-eqb (length t) 49160 h, h)

  pub ring_other : (length t ≡ 49160 → ⊥) → asked_ring c s t r o n ≡ refused (refusal_before 11 c s)
  unfolding asked_ring
  ring_other h = rw (ne_eqb (length t) 49160 h)

-- an answer is given only where there is room for it
in_room : (c : Committee) (s t : List ℕ) (r : AuthoritySet) (o : Option TransactionLocator) (n : ℕ) (g : Ring) → ring_in c s t r o n ≡ answered g → n ≡ 24
unfolding ring_in
in_room c s t r none n g e = let z : ◌≡◌ {A = ℕ} 0 1 = cc in absurd (omega arith)
in_room c s t r (some l) n g e = go (eqb n 24) refl e
  where
    go : (b : Bool) → eqb n 24 ≡ b → pick b (whom_to_ring c s t r l) (refused (refusal (pending_checks c s t ++ ((true ⇒ 40) ∷ [])))) ≡ answered g → n ≡ 24
    go true h e = eqb-true n 24 h
    go false h e = let z : ◌≡◌ {A = ℕ} 0 1 = cc in absurd (omega arith)

ring_room : (c : Committee) (s t : List ℕ) (r : AuthoritySet) (o : Option TransactionLocator) (n : ℕ) (g : Ring) → asked_ring c s t r o n ≡ answered g → n ≡ 24
unfolding asked_ring
ring_room c s t r o n g e = go (eqb (length t) 49160) e
  where
    go : (b : Bool) → pick b (ring_in c s (words_of t) r o n) (refused (refusal_before 11 c s)) ≡ answered g → n ≡ 24
    go true e = in_room c s (words_of t) r o n g e
    go false e = let z : ◌≡◌ {A = ℕ} 0 1 = cc in absurd (omega arith)

pub ring_tellable : (c : Committee) (s t : List ℕ) (r : AuthoritySet) (o : Option TransactionLocator) (n : ℕ) → Tellable (asked_ring c s t r o n) n
ring_tellable c s t r o n = record { room = ring_room c s t r o n }

-- the call, by the answer to the stakes that it holds
pub call_told : (stakes s t : Bytes) (low high : ℕ) (b f : Bytes) (c : Committee) (a : Answer Ring) → c ≡ committee_of stakes
    → a ≡ asked_ring c s t (record { low = low; high = high }) (locator_of b) (length f) → whom_to_ring_call stakes s t low high b f ≡ ring_told a f
unfolding whom_to_ring_call
call_told stakes s t low high b f c a h e = rw (e, h)

-- ---- any set of voters

module _ (c : Committee) (v r : AuthoritySet) (n : ℕ) where
  pub fewest_small : (n ≡ 24 → ⊥) → fewest_in c v r n ≡ refused (refusal ((broken c ⇒ 5) ∷ (true ⇒ 40) ∷ []))
  unfolding fewest_in
  fewest_small h = rw (ne_eqb n 24 h)

  pub fewest_asked : n ≡ 24 → fewest_in c v r n ≡ ring c v r
  unfolding fewest_in
  fewest_asked h = rw (eq-eqb n 24 h)

  pub fewest_tellable : Tellable (fewest_in c v r n) n
  unfolding fewest_in
  fewest_tellable = go (eqb n 24) refl
    where
      small : List Check
      small = (broken c ⇒ 5) ∷ (true ⇒ 40) ∷ []

      go : (b : Bool) → eqb n 24 ≡ b → Tellable (pick b (ring c v r) (refused (refusal small))) n
      go true h = record { room = λ g e. eqb-true n 24 h }
      go false h = record { room = λ g e. let z : ◌≡◌ {A = ℕ} 0 1 = cc in absurd (omega arith) }

pub fewest_told : (stakes : Bytes) (vl vh rl rh : ℕ) (f : Bytes) (c : Committee) (a : Answer Ring) → c ≡ committee_of stakes
    → a ≡ fewest_in c (record { low = vl; high = vh }) (record { low = rl; high = rh }) (length f) → fewest_owners_call stakes vl vh rl rh f ≡ ring_told a f
unfolding fewest_owners_call
fewest_told stakes vl vh rl rh f c a h e = rw (e, h)
