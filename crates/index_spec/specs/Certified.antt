-- Who certifies where, in runs: the final list read off the index. Assumes nothing: these are definitions.
use Rattle.std.specs.Prelude.{Bool, not, ◌&&◌}
use mathlib.Core.List.{List, [], map, flatten}
use Rattle.base.specs.Lists.{pick, keep}
use Rattle.committee.specs.Committee.{Committee, is_quorum}
use Rattle.committee_set.specs.AuthoritySet.{nobody, inserted, stake_of}
use Rattle.record_spec.specs.Reference.{TransactionLocator}
use Rattle.record_spec.specs.Block.{Block, author}
use Rattle.index_spec.specs.Runs.{Run, run, voters_in, stretched}
use Rattle.index_spec.specs.Index.{Indexed}

-- 01: "An unmarked block with quorum voters certifies", the voters read off the block's part
unfoldable pub part_certifies : Committee → Block → List Run → TransactionLocator → Bool
part_certifies c b part l = not b.marked && is_quorum c (stake_of c (voters_in part l))

-- the voters of a run hold quorum
unfoldable pub quorum_run : Committee → Run → Bool
quorum_run c x = is_quorum c (stake_of c x.votes)

-- the same stretch, for its author
unfoldable pub author_run : Block → Run → Run
author_run b x = run x.reference x.start x.end (inserted nobody (author b))

-- 01: "An unmarked block with quorum voters certifies": where it does, its author
unfoldable pub certifying_runs : Committee → Block → List Run → List Run
certifying_runs c b part = pick b.marked [] (map (author_run b) (keep (quorum_run c) part))

-- the certifiers' authors at every locator, in the longest stretches
unfoldable pub certified : Committee → List Indexed → List Run
certified c xs = stretched (flatten (map (λ x. certifying_runs c x.block x.runs) xs))
