-- The ordinary list in stretches, and the wide one by name. Assumes nothing: these are definitions.
use Rattle.std.specs.Prelude.{List}
use Rattle.std.proofs.Math.Option.{Option}
use Rattle.base.specs.Le.{Bytes}
use Rattle.committee.specs.Committee.{Committee}
use Rattle.record_spec.specs.Reference.{TransactionLocator}
use Rattle.record_spec.specs.Block.{Block, spans}
use Rattle.final_spec.specs.Voters.{certifies}
use Rattle.final_spec.specs.Finality.{blocks_of}
use Rattle.list_stretches_spec.specs.Stretches.{Listing, edges_by}
use Rattle.list_stretches_spec.specs.Bulk.{AskedBulk, list_stretches}
use Rattle.list_ordinary_spec.specs.FinalShares.{is_final_share, least_final_share}

-- 02: "The ordinary listing shall show final locators that name a stored share"
abbrev pub ordinary : Committee → List Block → Listing
ordinary c bs = record { shows = is_final_share c bs; certifies = certifies c bs; next = least_final_share c bs; edges = edges_by spans bs }

-- the final shares in bulk: as many stretches as the slice holds
abbrev pub share_stretches : Committee → Bytes → Bytes → Option TransactionLocator → AskedBulk
share_stretches c s out after = list_stretches c s (ordinary c (blocks_of s)) out after
