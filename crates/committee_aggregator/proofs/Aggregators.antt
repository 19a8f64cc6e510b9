-- The aggregator of stake: counting a known voter keeps it in order, and the voter is in it afterwards. Assumes nothing.
use mathlib.Core.Path.{◌≡◌, refl, sym, ap, ◌∙◌}
use mathlib.Core.Logic.{◌⊎◌, inl, inr}
use mathlib.Core.Bool.{Bool, true, false, ◌||◌, or-true}
use Prim.Native.Nat.{◌+◌}
use native.Mathlib.Omega.{arith}
use lib.Dec.{eqb}
use borrow.Author.Tests.{eq-eqb, eqb-true}
use Rattle.base.specs.Lists.{pick, all_of, count_from, ◌∈◌}
use Rattle.base.proofs.Tests.{not_both, and_both, and_left, and_right, or_cases}
use Rattle.base.proofs.Members.{in_keep, keep_in, all_in, in_all}
use Rattle.committee.specs.Committee.{AuthorityIndex, Committee, known, get_stake}
use Rattle.committee_set.specs.AuthoritySet.{AuthoritySet, nobody, stake_from, member, inserted, members, stake_of}
use Rattle.committee_aggregator.specs.StakeAggregator.{StakeAggregator, no_votes, counted, aggregator_in_order}
use Rattle.committee_set.proofs.Votes.{member_nobody, stake_nobody, member_inserted}
use Rattle.committee_set.proofs.Stakes.{weigh_same, weigh_with, stake_of_lem}

-- 01: "stake grows only for a new voter": the stake of a set with a new member
pub stake_inserted : (c : Committee) (v : AuthoritySet) (a : AuthorityIndex) → member v a ≡ false → stake_of c (inserted v a) ≡ stake_of c v + get_stake c a
unfolding get_stake
stake_inserted c v a h =
    stake_of_lem c (inserted v a) ∙ weigh_same (member (inserted v a)) (λ b. member v b || eqb b a) c (λ b k. member_inserted v a b)
    ∙ rw (stake_of_lem c v) (weigh_with (member v) a c h)

-- the aggregator's stake stays the sum of its voters' stakes, and its voters stay known
pub counted_in_order : (c : Committee) (g : StakeAggregator) (a : AuthorityIndex) → known c a ≡ true → aggregator_in_order c g ≡ true → aggregator_in_order c
    (counted c g a) ≡ true
unfolding counted aggregator_in_order members
counted_in_order c g a k h = split (member g.votes a) refl
  where
    held : stake_of c g.votes ≡ g.stake
    held = sym (eqb-true g.stake (stake_of c g.votes) (and_right (all_of (known c) (members g.votes)) _ h))

    was : (b : AuthorityIndex) → b ∈ count_from 0 128 → (member g.votes b ≡ true) ⊎ (eqb b a ≡ true) → known c b ≡ true
    was b m (inl e) = all_in (known c) (members g.votes) (and_left _ _ h) (in_keep (member g.votes) (count_from 0 128) m e)
    was b m (inr e) = ap (known c) (eqb-true b a e) ∙ k

    all_known : all_of (known c) (members (inserted g.votes a)) ≡ true
    all_known = in_all (known c) (members (inserted g.votes a)) (λ b m.
        let r = keep_in (member (inserted g.votes a)) (count_from 0 128) m in
        was b r.0 (or_cases (member g.votes b) (eqb b a) (sym (member_inserted g.votes a b) ∙ r.1)))

    split : (t : Bool) → member g.votes a ≡ t → aggregator_in_order c (pick t g (record { votes = inserted g.votes a; stake = g.stake + get_stake c a }))
        ≡ true
    split true e = h
    split false e = and_both _ _ all_known (eq-eqb (g.stake + get_stake c a) (stake_of c (inserted g.votes a))
        (omega (arith, held, stake_inserted c g.votes a e)))

-- the voter is in it afterwards, and so is who was before
pub counted_member : (c : Committee) (a : AuthorityIndex) (g : StakeAggregator) → member (counted c g a).votes a ≡ true
unfolding counted
counted_member c a g = split (member g.votes a) refl
  where
    split : (t : Bool) → member g.votes a ≡ t → member (pick t g (record { votes = inserted g.votes a; stake = g.stake + get_stake c a })).votes a ≡ true
    split true e = e
    split false e = rw (member_inserted g.votes a a, eq-eqb a a refl) (or-true (member g.votes a))

pub counted_keeps : (c : Committee) (a : AuthorityIndex) (g : StakeAggregator) (b : AuthorityIndex) → member g.votes b ≡ true → member
    (counted c g a).votes b ≡ true
unfolding counted
counted_keeps c a g b h = split (member g.votes a)
  where
    split : (t : Bool) → member (pick t g (record { votes = inserted g.votes a; stake = g.stake + get_stake c a })).votes b ≡ true
    split true = h
    split false = rw (member_inserted g.votes a b, h)

-- an aggregator without votes is in order
pub no_votes_order : (c : Committee) → aggregator_in_order c no_votes ≡ true
unfolding aggregator_in_order stake_of members
no_votes_order c =
    and_both _ _ (in_all (known c) (members nobody) (λ b m. absurd (not_both (keep_in (member nobody) (count_from 0 128) m).1 (member_nobody b))))
    (eq-eqb 0 (stake_from 0 c nobody) (sym (stake_nobody c 0)))
