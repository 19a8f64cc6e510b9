use Rattle.record_spec.specs.Record.{block_in}
use Rattle.store_spec.specs.Store.{records_of, record_in}
use Rattle.store_spec.proofs.Accepted.{accepted_new}
use Rattle.feed_spec.specs.Feed.{processed}
use Rattle.feed_single.proofs.Giving.{accepted_as}
use Rattle.feed_single.proofs.accept.Goals as goal

pub process_block-done-requires : goal.process_block-done-requires
process_block-done-requires c = let o = c in
    record { lent = o.requires.accepting.checked; room = λ _. o.requires.accepting.events; order = o.requires.order }

pub append-requires : goal.append-requires
append-requires c =
    let a = c.args in
    let o = c in
    let ok = o.requires.accepting in (
      ok.checked.store,
      (
        ok.checked.formed,
        (
          accepted_new a.stakes.now (records_of a.store.now) (block_in a.rec.now) ok.checked.checks,
          (ok.store, o.requires.order),
        ),
      ),
    )

pub returns : goal.returns
unfolding processed record_in
returns c =
    let a = c.args in
    accepted_as a.stakes.now a.store.now a.table.now a.events.now a.rec.now _ _ _ _
    c.requires.accepting c.append.ensures c.process_block-done.ensures
