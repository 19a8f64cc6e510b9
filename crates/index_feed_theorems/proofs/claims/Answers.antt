use Rattle.index_feed_theorems.proofs.Joined.{joined}
use Rattle.index_feed_theorems.proofs.Fed.{same_engine, same_records, it_holds, index_afresh}
use Rattle.index_feed_theorems.proofs.claims.Goals as goal

pub returns : goal.returns
returns c = record {
  claims = record { joined = joined };
  indexed_records_statement = record { same = same_engine; records = same_records; holds = it_holds; afresh = index_afresh };
}
