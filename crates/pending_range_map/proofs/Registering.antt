-- An item as it is registered: with its author's vote alone. Assumes nothing.
use mathlib.Core.Path.{◌≡◌}
use Rattle.committee.specs.Committee.{AuthorityIndex, Stake, Committee, get_stake}
use Rattle.committee_aggregator.specs.StakeAggregator.{StakeAggregator, no_votes, with_vote, counted}
use Rattle.committee_aggregator.specs.Answers.{as_aggregator}
use Rattle.pending_words.specs.declared.Item as declared
use Rattle.pending_spec.specs.Items.{first_vote}
use Rattle.pending_words.specs.Answers.{as_item}

pub first_vote_lem : (c : Committee) (a : AuthorityIndex) (x : declared.Item) (s : Stake) (g : StakeAggregator) → as_aggregator x.aggregator ≡ with_vote s g a →
    g ≡ no_votes → s ≡ get_stake c a
    → as_item x ≡ first_vote c a x.position x.start x.end
unfolding as_item first_vote counted
first_vote_lem c a x s g e d k = rw (e, d, k)
