use Rattle.feed_many_theorems.proofs.Fed.{same_engine, same_records, it_holds}
use Rattle.feed_many_theorems.proofs.claims.Goals as goal

pub returns : goal.returns
returns c = record { same = same_engine; records = same_records; holds = it_holds }
