-- Quorum of a vote set, computed and as a relation; two quorums meet. Assumes nothing.
use mathlib.Core.Path.{◌≡◌, refl, sym, ◌∙◌, subst}
use mathlib.Core.Bool.{Bool, true, ◌&&◌}
use mathlib.Core.List.{List, [], ◌∷◌, map}
use Prim.Native.Nat.{◌*◌, ◌≤◌, ◌<◌}
use native.Mathlib.Omega.{arith}
use lib.Dec.{eqb}
use lib.ListN.{length}
use borrow.Author.Tests.{lt-ltb, ltb-true, eq-eqb, eqb-true}
use Rattle.base.specs.Lists.{any_of, sum_of, ◌∈◌, here, Once}
use Rattle.base.proofs.Tests.{and_left, and_right}
use Rattle.base.proofs.Members.{any_in, in_any}
use Rattle.committee.specs.Committee.{AuthorityIndex, Committee, total_stake, is_quorum, is_valid, get_stake}
use Rattle.committee_set.specs.AuthoritySet.{AuthoritySet, member, stake_of}
use Rattle.committee.specs.Quorum.{HoldQuorum}
use Rattle.committee_set.proofs.Stakes.{weigh, weigh_mono, weigh_same, weigh_meet, stake_of_lem, owners_weigh, chosen, chosen_sum, chosen_once, chosen_in}

-- more known members have no less stake
pub stake_mono : (c : Committee) (v w : AuthoritySet) → ((a : AuthorityIndex) → a < length c → member v a ≡ true → member w a ≡ true) → stake_of c v ≤ stake_of
    c w
stake_mono c v w h = rw (stake_of_lem c v, stake_of_lem c w) (weigh_mono (member v) (member w) c h)

-- the stake depends on the known members alone
pub stake_same : (c : Committee) (v w : AuthoritySet) → ((a : AuthorityIndex) → a < length c → member v a ≡ member w a) → stake_of c v ≡ stake_of c w
stake_same c v w h = stake_of_lem c v ∙ weigh_same (member v) (member w) c h ∙ sym (stake_of_lem c w)

-- the stake of a set is the sum of the stakes of its known members, each once (chosen-once, chosen-in, in-chosen)
pub stake_sum : (c : Committee) (v : AuthoritySet) → stake_of c v ≡ sum_of (map (get_stake c) (chosen (member v) c))
stake_sum c v = stake_of_lem c v ∙ sym (chosen_sum (member v) c)

-- owners that are all in a vote set hold quorum only where the set does
pub quorum_counted : (c : Committee) (v : AuthoritySet) (In : AuthorityIndex → Type 0) → ((a : AuthorityIndex) → a < length c → In a → member v a ≡ true)
    → HoldQuorum c In → is_quorum c (stake_of c v) ≡ true
unfolding is_quorum
quorum_counted c v In h q =
    lt-ltb (2 * total_stake c) (3 * stake_of c v) (omega (arith, q.quorum, stake_of_lem c v, owners_weigh c q.once (member v) (λ a m k. h a k (q.in_set a m))))

-- where a vote set holds quorum, so do its known members
pub counted_quorum : (c : Committee) (v : AuthoritySet) (In : AuthorityIndex → Type 0) → ((a : AuthorityIndex) → a < length c → member v a ≡ true → In a)
    → is_quorum c (stake_of c v) ≡ true → HoldQuorum c In
unfolding is_quorum
counted_quorum c v In h q =
    record {
      owners = chosen (member v) c;
      once = chosen_once (member v) c;
      in_set = λ a m. let r = chosen_in (member v) c a m in h a r.0 r.1;
      quorum = omega (arith, stake_sum c v, ltb-true (2 * total_stake c) (3 * stake_of c v) q);
    }

-- a larger set holds quorum too
pub quorum_mono : (c : Committee) (In On : AuthorityIndex → Type 0) → ((a : AuthorityIndex) → In a → On a) → HoldQuorum c In → HoldQuorum c On
quorum_mono c In On h q = record { owners = q.owners; once = q.once; in_set = λ a m. h a (q.in_set a m); quorum = q.quorum }

-- a quorum has a member
pub quorum_member : (c : Committee) (In : AuthorityIndex → Type 0) → HoldQuorum c In → (a : AuthorityIndex) × In a
unfolding sum_of
quorum_member c In q = first q.owners q.in_set q.quorum
  where
    first : (os : List AuthorityIndex) → ((a : AuthorityIndex) → a ∈ os → In a) → 2 * total_stake c < 3 * sum_of (map (get_stake c) os) → (a : AuthorityIndex) ×
        In a
    first [] f h = absurd (omega arith)
    first (o ∷ os) f h = (o, f o here)

-- two quorums meet: what holds all that two quorums have in common is valid, 3s > T
pub quorums_meet : (c : Committee) (v w u : AuthoritySet) → ((a : AuthorityIndex) → a < length c → member v a ≡ true → member w a ≡ true → member u a ≡ true)
    → is_quorum c (stake_of c v) ≡ true → is_quorum c (stake_of c w) ≡ true → is_valid c (stake_of c u) ≡ true
unfolding is_quorum is_valid total_stake
quorums_meet c v w u h q r =
    let common : weigh (λ a. member v a && member w a) c ≤ weigh (member u) c = weigh_mono _ (member u) c
    (λ a k e. h a k (and_left (member v a) (member w a) e) (and_right (member v a) (member w a) e)) in
    lt-ltb (sum_of c) (3 * stake_of c u) (omega (
      arith,
      common,
      weigh_meet (member v) (member w) c,
      stake_of_lem c v,
      stake_of_lem c w,
      stake_of_lem c u,
      ltb-true
          (2 * sum_of c) (3 * stake_of c v) q,
      ltb-true (2 * sum_of c) (3 * stake_of c w) r,
    ))

-- the same of two sets of owners that hold quorum: they have owners in common, each once, of valid stake
pub record Common (c : Committee) (In On : AuthorityIndex → Type 0) : Type 0 where
  pub owners : List AuthorityIndex
  pub once : Once owners
  pub in_both : (a : AuthorityIndex) → a ∈ owners → In a × On a
  pub valid : total_stake c < 3 * sum_of (map (get_stake c) owners)

pub quorums_common : (c : Committee) (In On : AuthorityIndex → Type 0) → HoldQuorum c In → HoldQuorum c On → Common c In On
unfolding total_stake
quorums_common c In On q r =
    record {
      owners = chosen both c;
      once = chosen_once both c;
      in_both = λ a m. let k = (chosen_in both c a m).1 in (
        q.in_set a (listed q.owners a (and_left (owns q.owners a) (owns r.owners a) k)),
        r.in_set a
            (listed r.owners a (and_right (owns q.owners a) (owns r.owners a) k)),
      );
      valid =
          omega (
            arith,
            chosen_sum both c,
            weigh_meet (owns q.owners) (owns r.owners) c,
            q.quorum,
            r.quorum,
            owners_weigh c q.once (owns q.owners) (λ a m k. in_any (eqb a) m (eq-eqb a a refl)),
            owners_weigh c r.once (owns r.owners) (λ a m k. in_any (eqb a) m (eq-eqb a a refl)),
          );
    }
  where
    owns : List AuthorityIndex → AuthorityIndex → Bool
    owns os a = any_of (eqb a) os

    both : AuthorityIndex → Bool
    both a = owns q.owners a && owns r.owners a

    listed : (os : List AuthorityIndex) (a : AuthorityIndex) → owns os a ≡ true → a ∈ os
    listed os a h = let x = any_in (eqb a) os h in subst (λ (y : AuthorityIndex). y ∈ os) (sym (eqb-true a x.0 x.2)) x.1
