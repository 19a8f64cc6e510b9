-- One locator, vote by vote: its counted voters in an aggregator until a vote leaves quorum, and the announcement by that vote. Assumes nothing.
use mathlib.Core.Path.{◌≡◌, refl, sym, ◌∙◌, subst}
use mathlib.Core.Logic.{◌⊎◌, inl, inr}
use mathlib.Core.Bool.{Bool, true, false}
use mathlib.Core.List.{List, [], ◌∷◌, ◌++◌, map-append, append_assoc}
use mathlib.Core.Option.{Option, none, some, map}
use native.Mathlib.Omega.{arith}
use Rattle.base.specs.Lists.{pick}
use Rattle.base.proofs.Tests.{not_both}
use Rattle.base.proofs.Ends.{split_not_empty, ended}
use Rattle.committee.specs.Committee.{AuthorityIndex, Committee, known, broken}
use Rattle.committee_set.specs.AuthoritySet.{members, number_of_voters}
use Rattle.committee_aggregator.specs.StakeAggregator.{StakeAggregator, counted, has_quorum}
use Rattle.committee.proofs.Bounds.{few_members, known_below}
use Rattle.committee_set.proofs.Members.{members_once, members_in, in_members, stake_members}
use Rattle.committee_aggregator.proofs.Tallies.{Counting, stake_right, counts_more, counts_quorum, quorum_counts}
use Rattle.record_spec.specs.Reference.{TransactionLocator}
use Rattle.pending_spec.proofs.Items.{unless}
use Rattle.mission_theorems.specs.Shares.{Place, Vote, counted_voters, LeftQuorum, NoneLeft, Tally}

-- what the aggregator says is the tally of the voters
pub tallied : (c : Committee) (voters : List AuthorityIndex) (g : StakeAggregator) → broken c ≡ false → Counting c voters g
    → Tally c voters (record { stake = g.stake; voters = number_of_voters g.votes })
unfolding number_of_voters
tallied c voters g b n =
    record {
      owners = members g.votes;
      once = members_once g.votes;
      exactly = λ a. (
        λ m. n.only a (members_in g.votes a m),
        λ m. in_members g.votes a
            (omega (arith, few_members c b, known_below c a (n.all_known a m))) (n.voted a m),
      );
      stake = stake_right c g n.in_order ∙ stake_members c g.votes (few_members c b) (λ a h. known_below c a (n.all_known a (n.only a h)));
      number = refl;
    }

-- ---- one locator, vote by vote

-- what stands at the locator once a vote was counted: gone with quorum
abbrev pub after_vote : Committee → AuthorityIndex → Option StakeAggregator → Option StakeAggregator
after_vote c a h = unless (has_quorum c) (map (λ g. counted c g a) h)

-- the announcement by a vote that leaves h at the locator before the leaving
unfoldable pub tells : Committee → Place → Option StakeAggregator → List Place
tells c p none = []
tells c p (some g) = pick (has_quorum c g) (p ∷ []) []

-- after the votes vs, h stands at the locator and ps announced it
pub data Stands (c : Committee) (l : TransactionLocator) (vs : List Vote) (h : Option StakeAggregator) (ps : List Place) : Type 0 where
  stays : (g : StakeAggregator) → h ≡ some g → ps ≡ [] → Counting c (counted_voters l vs) g → NoneLeft c l vs → Stands c l vs h ps
  gone : h ≡ none → (earlier : List Vote) (v : Vote) (later : List Vote) → vs ≡ earlier ++ v ∷ later → NoneLeft c l earlier → LeftQuorum c l earlier v
      → ps ≡ v.place ∷ [] → Stands c l vs h ps

none_left_more : (c : Committee) (l : TransactionLocator) (vs : List Vote) (v : Vote) → NoneLeft c l vs → (LeftQuorum c l vs v → ⊥) → NoneLeft c l
    (vs ++ v ∷ [])
none_left_more c l vs v n f earlier w later e q = go (ended vs earlier v w later e)
  where
    go : ((vs ≡ earlier) × (v ≡ w)) ⊎ ((rest : List Vote) × (vs ≡ earlier ++ w ∷ rest)) → ⊥
    go (inl r) = f (subst (λ (x : Vote). LeftQuorum c l vs x) (sym r.1) (subst (λ (x : List Vote). LeftQuorum c l x w) (sym r.0) q))
    go (inr r) = n earlier w r.0 r.1 q

pub none_left_first : (c : Committee) (l : TransactionLocator) → NoneLeft c l []
none_left_first c l earlier v later e q = split_not_empty earlier v later e

-- one more vote
pub stands_vote : (c : Committee) (l : TransactionLocator) (vs : List Vote) (h : Option StakeAggregator) (ps : List Place) (v : Vote) → known c v.voter ≡
    true → Stands c l vs h ps
    → Stands c l (vs ++ v ∷ []) (after_vote c v.voter h) (ps ++ tells c v.place (map (λ g. counted c g v.voter) h))
unfolding unless tells counted_voters
stands_vote c l vs h ps v k (stays g e f n left) = rw (e, f) (go (has_quorum c next) refl)
  where
    next : StakeAggregator
    next = counted c g v.voter

    more : Counting c (counted_voters l (vs ++ v ∷ [])) next
    more = rw map-append (counts_more c (counted_voters l vs) g v.voter k n)

    go : (t : Bool) → has_quorum c next ≡ t → Stands c l (vs ++ v ∷ []) (pick t none (some next)) (pick t (v.place ∷ []) [])
    go true q = gone refl vs v [] refl left (counts_quorum c _ next more q) refl
    go false q = stays next refl refl more (none_left_more c l vs v left (λ r. not_both (quorum_counts c _ next more r) q))
stands_vote c l vs h ps v k (gone e earlier w later s left q f) =
    rw (e, f) (gone refl earlier w (later ++ v ∷ []) (rw s (append_assoc earlier (w ∷ later) (v ∷ []))) left q refl)
