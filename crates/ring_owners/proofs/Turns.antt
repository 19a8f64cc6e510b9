-- Turn by turn the owners of the list are rung. Assumes nothing.
use mathlib.Core.Path.{◌≡◌, refl, sym, ap, ◌∙◌}
use mathlib.Core.Logic.{◌⊎◌, inl, inr}
use mathlib.Core.Bool.{Bool, true, false, not, ◌&&◌, ◌||◌}
use mathlib.Core.List.{List, [], ◌∷◌, ◌++◌, append_assoc, append-nil}
use Prim.Native.Nat.{◌+◌, ◌-◌, ◌≤◌, ◌<◌}
use native.Mathlib.Omega.{arith}
use lib.Dec.{eqb}
use lib.ListN.{length}
use Rattle.base.specs.Lists.{count_from, ◌∈◌}
use Rattle.base.proofs.Lists.{length_keep, length_count_from}
use Rattle.base.proofs.Members.{in_empty, in_cases, in_append, keep_in}
use Rattle.base.proofs.Once.{once_keep, once_count_from}
use Rattle.base.proofs.Tests.{not_both}
use Rattle.committee.specs.Committee.{AuthorityIndex, Stake, Committee, total_stake, quorum_of, is_quorum, known, get_stake}
use Rattle.committee_set.specs.AuthoritySet.{AuthoritySet, nobody, member, members, number_of_voters, inserted, united, set_of, stake_of}
use Rattle.committee_set.proofs.Counts.{voters_inserted}
use Rattle.committee_set.proofs.Stakes.{weigh_mono, stake_of_lem}
use Rattle.committee_set.proofs.Votes.{member_inserted, member_united}
use Rattle.committee_aggregator.proofs.Aggregators.{stake_inserted}
use Rattle.committee.proofs.Bounds.{more_quorum}
use Rattle.ring_owners.specs.Rung.{ringable}
use Rattle.ring_owners.specs.Ranked.{reached, ranked, until_quorum, rung}
use Rattle.ring_owners.specs.Step.{First}
use Rattle.ring_owners.proofs.Totals.{total}
use Rattle.ring_owners.proofs.Kept.{keep_both, keep_same}
use Rattle.ring_owners.proofs.Chosen.{all_stake}
use Rattle.ring_owners.proofs.Steps.{others, rung_next, set_next}
use Rattle.ring_owners.proofs.Scans.{ringable_known, ringable_new}

pub quorum_is : (c : Committee) (t s : Stake) → t ≡ total_stake c → quorum_of t s ≡ is_quorum c s
unfolding is_quorum
quorum_is c t s e = rw e

-- nobody is rung where quorum holds
pub none_rung : (c : Committee) (v r : AuthoritySet) → is_quorum c (stake_of c v) ≡ true → rung c v r ≡ []
unfolding rung
none_rung c v r h = go (ranked c (reached c v r))
  where
    go : (xs : List AuthorityIndex) → until_quorum c (stake_of c v) xs ≡ []
    go [] = unfold until_quorum in refl
    go (x ∷ xs) = unfold until_quorum in rw h

-- somebody is left while the voters miss quorum and all together have it
pub someone : (c : Committee) → length c ≤ 128 → (v r : AuthoritySet) → is_quorum c (stake_of c v) ≡ false → is_quorum c (stake_of c (united v r)) ≡ true →
    reached c v r ≡ [] → ⊥
someone c few v r h q e =
    let alone : total (get_stake c) (ranked c (reached c v r)) ≡ 0 = rw e (unfold ranked total in refl) in
    let same : stake_of c (united v r) ≡ stake_of c v = omega (arith, all_stake c few v r) in
    not_both (rw same at q) h

first_ringable : (c : Committee) (v r : AuthoritySet) (a : AuthorityIndex) → First c (reached c v r) a → ringable c v r a ≡ true
unfolding reached
first_ringable c v r a f = (keep_in (ringable c v r) (count_from 0 128) f.among).1

pub first_known : (c : Committee) (v r : AuthoritySet) (a : AuthorityIndex) → First c (reached c v r) a → a < length c
first_known c v r a f = ringable_known c v r a (first_ringable c v r a f)

module _ (c : Committee) (v r : AuthoritySet) (a : AuthorityIndex) where
  -- an owner who is counted leaves the owners who can be rung
  reached_less : reached c (inserted v a) r ≡ others a (reached c v r)
  unfolding reached
  reached_less =
      keep_same (ringable c (inserted v a) r) (λ b. ringable c v r b && not (eqb b a)) (count_from 0 128) (λ b m. apart b)
      ∙ sym (keep_both (λ b. not (eqb b a)) (ringable c v r) (count_from 0 128))
    where
      go : (k t s e : Bool) → k && (t && not (s || e)) ≡ (k && (t && not s)) && not e
      go true true true e = refl
      go true true false e = refl
      go true false s e = refl
      go false t s e = refl

      apart : (b : AuthorityIndex) → ringable c (inserted v a) r b ≡ ringable c v r b && not (eqb b a)
      apart b = unfold ringable in rw (member_inserted v a b) (go (known c b) (member r b) (member v b) (eqb b a))

  module _ (f : First c (reached c v r) a) where
    new : member v a ≡ false
    new = ringable_new c v r a (first_ringable c v r a f)

    pub held_more : stake_of c (inserted v a) ≡ stake_of c v + get_stake c a
    held_more = stake_inserted c v a new

    rung_turn : is_quorum c (stake_of c v) ≡ false → rung c v r ≡ a ∷ rung c (inserted v a) r
    unfolding rung
    rung_turn h =
        rung_next c (stake_of c v) (reached c v r) a (unfold reached in once_keep (ringable c v r) (once_count_from 0 128)) f
        ∙ rw (h, held_more, reached_less)

    -- fewer are left
    pub counted_more : a < 128 → 128 - number_of_voters (inserted v a) < 128 - number_of_voters v
    counted_more l = omega (arith, voters_inserted v a l new, most)
      where
        most : number_of_voters (inserted v a) ≤ 128
        most = unfold number_of_voters members in omega (arith, length_keep (member (inserted v a)) (count_from 0 128), length_count_from 0 128)

  -- all together have no less
  all_more : stake_of c (united v r) ≤ stake_of c (united (inserted v a) r)
  all_more = rw (stake_of_lem c (united v r), stake_of_lem c (united (inserted v a) r))
      (weigh_mono _ _ c (λ b l h. rw (member_united (inserted v a) r b, member_inserted v a b)
      (go (member v b) (eqb b a) (member r b) (rw (member_united v r b) at h))))
    where
      go : (s e t : Bool) → s || t ≡ true → (s || e) || t ≡ true
      go true e t h = refl
      go false true t h = refl
      go false false t h = h

-- so far: those rung, those counted with them, and the stake counted
module _ (c : Committee) (v r : AuthoritySet) where
  pub record Ringing (owners counted : AuthoritySet) (stake : Stake) : Type 0 where
    pub called : List AuthorityIndex
    pub low : (a : AuthorityIndex) → a ∈ called → a < 128
    pub are : owners ≡ set_of called
    pub rest : rung c v r ≡ called ++ rung c counted r
    pub held : stake ≡ stake_of c counted
    pub all : is_quorum c (stake_of c (united counted r)) ≡ true

  pub ringing_start : (s : Stake) → s ≡ stake_of c v → is_quorum c (stake_of c (united v r)) ≡ true → Ringing nobody v s
  ringing_start s e q = record { called = []; low = λ a m. absurd (in_empty m); are = unfold set_of in refl; rest = refl; held = e; all = q }

  module _ (o w : AuthoritySet) (s : Stake) (g : Ringing o w s) where
    pub ringing_turn : length c ≤ 128 → is_quorum c s ≡ false → (a : AuthorityIndex) → First c (reached c w r) a → Ringing (inserted o a) (inserted w a)
        (s + get_stake c a)
    ringing_turn few q a f =
        record {
          called = g.called ++ a ∷ [];
          low = λ b m. both b (in_append g.called m);
          are = rw g.are (sym (set_next g.called a known_low g.low));
          rest = g.rest ∙ rw (rung_turn c w r a f (rw g.held at q), append_assoc g.called (a ∷ []) (rung c (inserted w a) r));
          held = rw (held_more c w r a f, g.held);
          all = more_quorum c (stake_of c (united w r)) (stake_of c (united (inserted w a) r)) (all_more c w r a) g.all;
        }
      where
        known_low : a < 128
        known_low = omega (arith, first_known c w r a f)

        both : (b : AuthorityIndex) → (b ∈ g.called) ⊎ (b ∈ (a ∷ [])) → b < 128
        both b (inl m) = g.low b m
        both b (inr m) = last (in_cases m)
          where
            last : (b ≡ a) ⊎ (b ∈ []) → b < 128
            last (inl e) = omega (arith, known_low)
            last (inr n) = absurd (in_empty n)

    pub ringing_end : is_quorum c s ≡ true → o ≡ set_of (rung c v r)
    ringing_end q = g.are ∙ ap set_of (sym (g.rest ∙ rw (none_rung c w r (rw g.held at q)) (append-nil g.called)))
