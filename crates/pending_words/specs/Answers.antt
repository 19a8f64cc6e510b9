-- What the code's struct says, in items. Assumes nothing: these are definitions.
use Rattle.committee_aggregator.specs.Answers.{as_aggregator}
use Rattle.pending_words.specs.declared.Item as code-item
use Rattle.pending_spec.specs.Items.{Item}

-- an item's position, offsets and votes
unfoldable pub as_item : code-item.Item → Item
as_item x = record { position = x.position; start = x.start; end = x.end; aggregator = as_aggregator x.aggregator }
