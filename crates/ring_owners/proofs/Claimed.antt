-- The claims about whom to ring. Assumes nothing.
use mathlib.Core.Path.{◌≡◌, refl, ap, ◌∙◌}
use mathlib.Core.Bool.{Bool, true, false}
use Prim.Native.Nat.{◌≤◌}
use native.Mathlib.Omega.{arith}
use lib.ListN.{length, take}
use Rattle.base.specs.Lists.{all_of}
use Rattle.base.specs.Checks.{passes, refusal, checked, refused, answered}
use Rattle.base.proofs.Tests.{fails, not_both}
use Rattle.committee.specs.Committee.{Committee, broken, is_quorum, get_stake}
use Rattle.committee_set.specs.AuthoritySet.{AuthoritySet, nobody, united, set_of, stake_of}
use Rattle.committee.proofs.Bounds.{few_members, more_quorum}
use Rattle.base.proofs.Checks.{refused_answered}
use Rattle.ring_owners.specs.Rung.{Suffices, Rung}
use Rattle.ring_owners.specs.Ranked.{reached, ranked, rung, ring_checks, ring_of, ring}
use Rattle.ring_owners.specs.Claims.{RungIsIt, OnlyRung, NoneSuffices, RefusedMeant, NoneExactly, NobodyRung, StakeSummed, Claims}
use Rattle.ring_owners.proofs.Totals.{total_sum}
use Rattle.ring_owners.proofs.Turns.{none_rung}
use Rattle.ring_owners.proofs.Chosen.{first_stake, all_stake, reached_until, no_more, rung_is_it_lem, only_one}

-- the answer, by its checks
module _ (c : Committee) (v r : AuthoritySet) where
  pub ring_broken : broken c ≡ true → ring c v r ≡ refused 5
  unfolding ring checked passes all_of refusal ring_checks
  ring_broken h = rw h

  module _ (s : broken c ≡ false) where
    pub ring_missed : is_quorum c (stake_of c (united v r)) ≡ false → ring c v r ≡ refused 60
    unfolding ring checked passes all_of refusal ring_checks
    ring_missed h = rw (s, h)

    pub ring_given : is_quorum c (stake_of c (united v r)) ≡ true → ring c v r ≡ answered (ring_of c (set_of (rung c v r)))
    unfolding ring checked passes all_of refusal ring_checks
    ring_given h = rw (s, h)

-- the answer, by cases
data Answers (c : Committee) (v r : AuthoritySet) : Type 0 where
  missed : is_quorum c (stake_of c (united v r)) ≡ false → ring c v r ≡ refused 60 → Answers c v r
  given : is_quorum c (stake_of c (united v r)) ≡ true → ring c v r ≡ answered (ring_of c (set_of (rung c v r))) → Answers c v r

answers : (c : Committee) → broken c ≡ false → (v r : AuthoritySet) → Answers c v r
answers c s v r = go (is_quorum c (stake_of c (united v r))) refl
  where
    go : (t : Bool) → is_quorum c (stake_of c (united v r)) ≡ t → Answers c v r
    go true e = given e (ring_given c v r s e)
    go false e = missed e (ring_missed c v r s e)

pub is_it : RungIsIt
unfolding RungIsIt
is_it c s v r g h = go (answers c s v r)
  where
    go : Answers c v r → Rung c v r g.owners × (g.stake ≡ stake_of c g.owners)
    go (missed q e) = absurd (refused_answered e h)
    go (given q e) =
        let same : ring_of c (set_of (rung c v r)) ≡ g = cc in
        rw (← same) (rung_is_it_lem c (few_members c s) v r q, refl)

pub only : OnlyRung
unfolding OnlyRung
only c s v r w g = go (answers c s v r)
  where
    few : length c ≤ 128
    few = few_members c s

    go : Answers c v r → ring c v r ≡ answered (ring_of c w)
    go (missed q e) = absurd (not_both (no_more c few v r w g.few.suffices) q)
    go (given q e) = e ∙ ap (λ (u : AuthoritySet). answered (ring_of c u)) (only_one c few v r (set_of (rung c v r)) w (rung_is_it_lem c few v r q) g)

pub none_exactly_lem : NoneExactly
unfolding NoneExactly NoneSuffices
none_exactly_lem c s v r = (
  λ h. fails _ (λ q. h _ (rung_is_it_lem c (few_members c s) v r q).few.suffices),
  λ h w k. not_both (no_more c (few_members c s) v r w k)
      h,
)

pub refused_meant_lem : RefusedMeant
unfolding RefusedMeant NoneSuffices
refused_meant_lem c s v r = (λ h w k. there h w k (answers c s v r), λ f. back f (answers c s v r))
  where
    there : ring c v r ≡ refused 60 → (w : AuthoritySet) → Suffices c v r w → Answers c v r → ⊥
    there h w k (missed q e) = not_both (no_more c (few_members c s) v r w k) q
    there h w k (given q e) = refused_answered h e

    back : ((w : AuthoritySet) → Suffices c v r w → ⊥) → Answers c v r → ring c v r ≡ refused 60
    back f (missed q e) = e
    back f (given q e) = absurd (f _ (rung_is_it_lem c (few_members c s) v r q).few.suffices)

pub nobody_rung_lem : NobodyRung
unfolding NobodyRung
nobody_rung_lem c s v r h = go (answers c s v r)
  where
    none : set_of (rung c v r) ≡ nobody
    none = unfold set_of in rw (none_rung c v r h)

    go : Answers c v r → ring c v r ≡ answered (ring_of c nobody)
    go (missed q e) = absurd (not_both (more_quorum c (stake_of c v) (stake_of c (united v r)) (omega (arith, all_stake c (few_members c s) v r)) h) q)
    go (given q e) = e ∙ ap (λ (u : AuthoritySet). answered (ring_of c u)) none

pub stake_summed_lem : StakeSummed
unfolding StakeSummed
stake_summed_lem c s v r =
    let few = few_members c s in
    let u = reached_until c few v r in
    rw u.are (first_stake c few v r u.k ∙ total_sum (get_stake c) (take u.k (ranked c (reached c v r))))

pub claimed : Claims
claimed = record {
  rung_is_it = is_it;
  only_rung = only;
  refused_meant = refused_meant_lem;
  none_exactly = none_exactly_lem;
  nobody_rung = nobody_rung_lem;
  stake_summed =
      stake_summed_lem;
}
