-- Loading by cases: a broken chain, bad names, then the committee. Assumes nothing.
use mathlib.Core.Path.{◌≡◌, refl, sym, ap}
use mathlib.Core.Bool.{Bool, true, false, not, ◌&&◌}
use mathlib.Core.List.{List, [], ◌∷◌, map}
use mathlib.Core.Option.{none, some}
use Prim.Native.Nat.{ℕ, ◌≤◌, ◌<◌}
use native.Mathlib.Omega.{arith}
use lib.Dec.{ltb, eqb}
use lib.ListN.{length, take}
use borrow.Author.Tests.{not-false}
use Rattle.base.specs.Lists.{pick, is_empty, any_of, all_of}
use Rattle.base.specs.Checks.{Check, Answer, passes, refusal, checked, refused, answered}
use Rattle.base.specs.Le.{Bytes}
use Rattle.committee.specs.Committee.{Committee, broken, total_stake, committee_checks, new_committee, course_committee}
use Rattle.committee.specs.Answers.{as_new_committee}
use Rattle.committee.specs.declared.Stake as code-stake
use Rattle.stakes_chain.specs.Layout.{well_sized}
use Rattle.stakes_chain.specs.Chain.{Chained, chain_of}
use Rattle.stakes_chain.specs.Answers.{as_chain, count_fits}
use Rattle.stakes_chain.proofs.Chains.{found_chain}
use Rattle.stakes_names.specs.Names.{name_at, good_names}
use Rattle.base.proofs.Checks.{refused_answered, checked_answered}
use Rattle.stakes_file.specs.Load.{members_at, member_checks, load_along, load}
use Rattle.std.specs.Prelude.{None, Some, Option}
use Rattle.std.specs.Prelude.{Err, Ok}
use Rattle.base.specs.declared.refusal.Refusal.{Refusal}
use Rattle.base.specs.Refusals.{refusal_number}

-- ---- answers and refusals

pub refused_same : {m n : ℕ} → ◌≡◌ {A = Answer Committee} (refused m) (refused n) → m ≡ n
refused_same p = cc

module _ {A : Type 0} (ks : List Check) where
  pub checked_passes : (a : A) → passes ks ≡ true → checked ks a ≡ answered a
  unfolding checked
  checked_passes a h = rw h

  -- a refusal does not depend on the value
  pub checked_refused : {B : Type 0} (a : A) (b : B) (n : ℕ) → checked ks a ≡ refused n → checked ks b ≡ refused n
  unfolding checked
  checked_refused {B} a b n h = go (passes ks) h
    where
      go : (t : Bool) → pick {A = Answer A} t (answered a) (refused (refusal ks)) ≡ refused n → pick {A = Answer B} t (answered b) (refused (refusal ks)) ≡
          refused n
      go true k = absurd (refused_answered k refl)
      go false k = let e : refusal ks ≡ n = cc in ap refused e

-- a committee's refusal is 1 to 4
pub small_refusal : {A : Type 0} (c : Committee) (a : A) (n : ℕ) → 4 < n → checked (committee_checks c) a ≡ refused n → ⊥
unfolding checked passes all_of refusal committee_checks
small_refusal {A} c a n l h = go (eqb (length c) 0) (any_of (λ s. eqb s 0) c) (ltb 128 (length c)) (ltb 9223372036854775807 (total_stake c)) h
  where
    go : (p q r s : Bool)
        → pick {A = Answer A} (not p && (not q && (not r && (not s && true)))) (answered a) (refused (pick p 1 (pick q 2 (pick r 3 (pick s 4 0))))) ≡ refused
        n → ⊥
    go true q r s k = let e : ◌≡◌ {A = ℕ} 1 n = cc in omega arith
    go false true r s k = let e : ◌≡◌ {A = ℕ} 2 n = cc in omega arith
    go false false true s k = let e : ◌≡◌ {A = ℕ} 3 n = cc in omega arith
    go false false false true k = let e : ◌≡◌ {A = ℕ} 4 n = cc in omega arith
    go false false false false k = let z : ◌≡◌ {A = ℕ} 0 1 = cc in omega arith

pub passes_sound : (c : Committee) → passes (committee_checks c) ≡ true → broken c ≡ false
unfolding broken
passes_sound c h = rw h

pub sound_passes : (c : Committee) → broken c ≡ false → passes (committee_checks c) ≡ true
unfolding broken
sound_passes c h = not-false (passes (committee_checks c)) h

-- ---- loading

module _ (f : Bytes) where
  not_empty : (g : Bytes) → well_sized g ≡ true → is_empty g ≡ false
  unfolding well_sized is_empty
  not_empty [] h = sym h
  not_empty (x ∷ g) h = refl

  pub load_empty : is_empty f ≡ true → load f ≡ answered course_committee
  unfolding load
  load_empty h = rw h

  pub load_broken : is_empty f ≡ false → chain_of f ≡ none → load f ≡ refused 56
  unfolding load load_along
  load_broken h e = rw (h, e)

  pub load_some : (is : List ℕ) → is_empty f ≡ false → chain_of f ≡ some is → load f ≡ load_along f (some is)
  unfolding load
  load_some is h e = rw (h, e)

  module _ (is : List ℕ) where
    pub load_chained : Chained f is → load f ≡ load_along f (some is)
    load_chained k = load_some is (not_empty f k.sized) (found_chain f is k)

    pub along_bad : good_names (map (name_at f) is) ≡ false → load_along f (some is) ≡ refused 57
    unfolding load_along member_checks checked passes all_of refusal
    along_bad e = rw e

    pub along_good : good_names (map (name_at f) is) ≡ true → load_along f (some is) ≡ checked (committee_checks (members_at f is)) (members_at f is)
    unfolding load_along member_checks checked passes all_of refusal
    along_good e = rw e

-- ---- for the code

-- a committee that is taken, and one that is not
pub committee_taken : (c : Committee) (t : code-stake.Stake) → as_new_committee (Ok t) ≡ new_committee c → checked (committee_checks c) c ≡ answered c
unfolding as_new_committee new_committee
committee_taken c t h = checked_passes (committee_checks c) c (checked_answered (committee_checks c) (total_stake c) t.0 (sym h)).0

pub committee_broken : (c : Committee) (r : Refusal) → as_new_committee (Err r) ≡ new_committee c → checked (committee_checks c) c ≡ refused
    (refusal_number r)
unfolding as_new_committee new_committee
committee_broken c r h = checked_refused (committee_checks c) (total_stake c) c (refusal_number r) (sym h)

-- a file without bytes
pub load_nothing : (f : Bytes) → length f ≡ 0 → load f ≡ answered course_committee
unfolding is_empty
load_nothing [] e = load_empty [] refl
load_nothing (x ∷ f) e = absurd (omega arith)

pub some_bytes : (f : Bytes) → (length f ≡ 0 → ⊥) → is_empty f ≡ false
unfolding is_empty
some_bytes [] n = absurd (n refl)
some_bytes (x ∷ f) n = refl

-- what the walk along the chain tells
pub chain_fits : (r : Option ℕ) (n : ℕ) → r ≡ Some n → count_fits r → n ≤ 2520
chain_fits r n e h = rw e at h

module _ (f : Bytes) (is : List ℕ) (r : Option ℕ) (h : as_chain r is ≡ chain_of f) where
  pub chain_told : (n : ℕ) → r ≡ Some n → chain_of f ≡ some (take n is)
  unfolding as_chain
  chain_told n e = sym (rw e at h)

  pub chain_broken : r ≡ None → chain_of f ≡ none
  unfolding as_chain
  chain_broken e = sym (rw e at h)
