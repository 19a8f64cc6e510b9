-- The aggregator that counts the votes of a list of voters. Assumes nothing.
use mathlib.Core.Path.{◌≡◌, refl, sym, ◌∙◌}
use mathlib.Core.Logic.{◌⊎◌, inl, inr}
use mathlib.Core.Bool.{Bool, true, false, ◌||◌}
use mathlib.Core.List.{List, [], ◌∷◌, ◌++◌}
use Prim.Native.Nat.{◌+◌}
use native.Mathlib.Decide.{ℕ_discrete}
use lib.Dec.{eqb}
use borrow.Author.Tests.{eq-eqb, ne_eqb, eqb-true}
use Rattle.base.specs.Lists.{pick, all_of, ◌∈◌}
use Rattle.base.proofs.Tests.{not_both, and_right, or_cases, or_left, or_right}
use Rattle.base.proofs.Members.{in_empty, in_cases, in_first, in_left, in_right, in_append}
use Rattle.committee.specs.Committee.{AuthorityIndex, Committee, known, get_stake}
use Rattle.committee_set.specs.AuthoritySet.{member, members, inserted, stake_of}
use Rattle.committee_aggregator.specs.StakeAggregator.{StakeAggregator, no_votes, counted, has_quorum, aggregator_in_order}
use Rattle.committee.specs.Quorum.{HoldQuorum}
use Rattle.committee_set.proofs.Votes.{member_nobody, member_inserted}
use Rattle.committee_aggregator.proofs.Aggregators.{counted_in_order, no_votes_order}
use Rattle.committee_set.proofs.Quorums.{quorum_counted, counted_quorum}

-- ---- an aggregator

-- counting a vote puts in its author and no other
pub member_counted : (c : Committee) (g : StakeAggregator) (a b : AuthorityIndex) → member (counted c g a).votes b ≡ member g.votes b || eqb b a
unfolding counted
member_counted c g a b = split (member g.votes a) refl
  where
    same : member g.votes a ≡ true → (t : Bool) → member g.votes b ≡ t → Dec (b ≡ a) → t ≡ t || eqb b a
    same h true e d = refl
    same h false e (no d) = sym (ne_eqb b a d)
    same h false e (yes d) = sym e ∙ rw (d, h, eq-eqb a a refl)

    split : (t : Bool) → member g.votes a ≡ t → member (pick t g (record { votes = inserted g.votes a; stake = g.stake + get_stake c a })).votes b ≡
        member g.votes b || eqb b a
    split true e = same e (member g.votes b) refl (ℕ_discrete b a)
    split false e = member_inserted g.votes a b

-- ---- an aggregator that counts the votes of a list

-- the aggregator's votes are those of the voters, all known, and its stake theirs
pub record Counting (c : Committee) (voters : List AuthorityIndex) (g : StakeAggregator) : Type 0 where
  pub in_order : aggregator_in_order c g ≡ true
  pub all_known : (a : AuthorityIndex) → a ∈ voters → known c a ≡ true
  pub voted : (a : AuthorityIndex) → a ∈ voters → member g.votes a ≡ true
  pub only : (a : AuthorityIndex) → member g.votes a ≡ true → a ∈ voters

pub stake_right : (c : Committee) (g : StakeAggregator) → aggregator_in_order c g ≡ true → g.stake ≡ stake_of c g.votes
unfolding aggregator_in_order
stake_right c g h = eqb-true g.stake (stake_of c g.votes) (and_right (all_of (known c) (members g.votes)) _ h)

-- one more vote
pub counts_more : (c : Committee) (voters : List AuthorityIndex) (g : StakeAggregator) (a : AuthorityIndex) → known c a ≡ true → Counting c voters g →
    Counting c (voters ++ a ∷ []) (counted c g a)
counts_more c voters g a k n =
    record {
      in_order = counted_in_order c g a k n.in_order;
      all_known = λ b m. either b (in_append voters m) (λ q. n.all_known b q) (λ e. rw e k);
      voted = λ b m. rw (member_counted c g a b) (either b (in_append voters m) (λ q. or_left (member g.votes b) (eqb b a) (n.voted b q))
          (λ e. or_right (member g.votes b) (eqb b a) (eq-eqb b a e)));
      only = λ b h. which b (or_cases (member g.votes b) (eqb b a) (sym (member_counted c g a b) ∙ h));
    }
  where
    either : {P : Type 0} (b : AuthorityIndex) → (b ∈ voters) ⊎ (b ∈ (a ∷ [])) → (b ∈ voters → P) → (b ≡ a → P) → P
    either b (inl q) f g = f q
    either {P} b (inr q) f g = one (in_cases q)
      where
        one : (b ≡ a) ⊎ (b ∈ []) → P
        one (inl e) = g e
        one (inr m) = absurd (in_empty m)

    which : (b : AuthorityIndex) → (member g.votes b ≡ true) ⊎ (eqb b a ≡ true) → b ∈ (voters ++ a ∷ [])
    which b (inl h) = in_left (a ∷ []) (n.only b h)
    which b (inr h) = in_right voters (in_first (eqb-true b a h))

-- the first vote
pub counts_first : (c : Committee) (a : AuthorityIndex) → known c a ≡ true → Counting c (a ∷ []) (counted c no_votes a)
counts_first c a k =
    counts_more c [] no_votes a k
    (record {
      in_order = no_votes_order c;
      all_known = λ b m. absurd (in_empty m);
      voted = λ b m. absurd (in_empty m);
      only = λ b h. absurd
          (not_both h (member_nobody b));
    })

-- they hold quorum stake exactly where the aggregator does
pub counts_quorum : (c : Committee) (voters : List AuthorityIndex) (g : StakeAggregator) → Counting c voters g → has_quorum c g ≡ true → HoldQuorum c
    (λ a. a ∈ voters)
unfolding has_quorum
counts_quorum c voters g n h = counted_quorum c g.votes (λ a. a ∈ voters) (λ a k e. n.only a e) (rw (stake_right c g n.in_order) at h)

pub quorum_counts : (c : Committee) (voters : List AuthorityIndex) (g : StakeAggregator) → Counting c voters g → HoldQuorum c (λ a. a ∈ voters) → has_quorum c
    g ≡ true
unfolding has_quorum
quorum_counts c voters g n q = rw (stake_right c g n.in_order) (quorum_counted c g.votes (λ a. a ∈ voters) (λ a k m. n.voted a m) q)
