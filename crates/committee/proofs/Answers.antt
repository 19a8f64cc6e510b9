-- What the answers of setting a committee and of looking a stake up tell. Assumes nothing.
use mathlib.Core.Path.{◌≡◌, refl}
use mathlib.Core.Bool.{Bool, true, false, not}
use Prim.Native.Nat.{ℕ}
use native.Mathlib.Omega.{arith}
use Rattle.base.specs.Lists.{pick}
use Rattle.base.specs.Checks.{refused, answered, refusal, passes, checked}
use Rattle.base.specs.Refusals.{refusal_number}
use Rattle.base.specs.declared.refusal.Refusal.{Refusal}
use Rattle.committee.specs.declared.Stake as code-stake
use Rattle.committee.specs.Committee.{AuthorityIndex, Committee, total_stake, committee_checks, new_committee, broken, known, get_stake}
use Rattle.committee.specs.Answers.{stake_value, as_new_committee, found_stake}
use Rattle.std.specs.Prelude.{None, Some, Err, Ok}

-- a committee that is taken is not broken, and its total is the answer's
pub taken_sound : (c : Committee) (t : code-stake.Stake) → as_new_committee (Ok t) ≡ new_committee c → (broken c ≡ false) × (t.0 ≡ total_stake c)
unfolding as_new_committee new_committee broken checked
taken_sound c t h = each (passes (committee_checks c)) h
  where
    each : (p : Bool) → answered t.0 ≡ pick p (answered (total_stake c)) (refused (refusal (committee_checks c))) → (not p ≡ false) × (t.0 ≡ total_stake c)
    each true e = (refl, cc)
    each false e = let z : ◌≡◌ {A = ℕ} 0 1 = cc in absurd (omega arith)

-- one that is refused is broken
pub broken_sound : (c : Committee) (n : Refusal) → as_new_committee (Err n) ≡ new_committee c → broken c ≡ true
unfolding as_new_committee new_committee broken checked
broken_sound c n h = each (passes (committee_checks c)) h
  where
    each : (p : Bool) → refused (refusal_number n) ≡ pick p (answered (total_stake c)) (refused (refusal (committee_checks c))) → not p ≡ true
    each true e = let z : ◌≡◌ {A = ℕ} 0 1 = cc in absurd (omega arith)
    each false e = refl

-- a stake that is found is that of an author whom the committee knows
pub known_sound : (c : Committee) (a : AuthorityIndex) (s : code-stake.Stake) → found_stake c a ≡ Some s → (known c a ≡ true) × (s.0 ≡ get_stake c a)
unfolding found_stake
known_sound c a s h = each (known c a) h
  where
    each : (t : Bool) → pick t (Some (stake_value (get_stake c a))) None ≡ Some s → (t ≡ true) × (s.0 ≡ get_stake c a)
    each true e = (refl, cc)
    each false e = let z : ◌≡◌ {A = ℕ} 0 1 = cc in absurd (omega arith)

pub unknown_sound : (c : Committee) (a : AuthorityIndex) → found_stake c a ≡ None → known c a ≡ false
unfolding found_stake
unknown_sound c a h = each (known c a) h
  where
    each : (t : Bool) → pick t (Some (stake_value (get_stake c a))) None ≡ None → t ≡ false
    each true e = let z : ◌≡◌ {A = ℕ} 0 1 = cc in absurd (omega arith)
    each false e = refl
