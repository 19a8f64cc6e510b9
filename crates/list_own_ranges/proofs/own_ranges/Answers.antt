use Rattle.record_spec.specs.Record.{block_in}
use Rattle.types.specs.Values.{as_maybe}
use Rattle.list_own_ranges.proofs.Rows.{sortable, joinable, own_of}
use Rattle.list_own_ranges.proofs.own_ranges.Goals as goal

pub sort_rows-requires : goal.sort_rows-requires
sort_rows-requires c = let o = c in
    let a = o.args in
    sortable a.kind (as_maybe a.last) (as_maybe a.bound) a.store.now (block_in a.rec.now) a.rows.now _
    c.write_ranges-n.result c.write_ranges-n.ensures o.requires.1.0 a.spare.now
    o.requires.1.1

pub join_rows-requires : goal.join_rows-requires
join_rows-requires c = let o = c in
    let a = o.args in
    joinable a.kind (as_maybe a.last) (as_maybe a.bound) a.store.now (block_in a.rec.now) a.rows.now _
    c.write_ranges-n.result
    c.write_ranges-n.ensures o.requires.1.0 _
    c.sort_rows.ensures

pub returns : goal.returns
returns c = let o = c in
    let a = o.args in
    own_of a.kind (as_maybe a.last) (as_maybe a.bound) a.store.now (block_in a.rec.now) a.rows.now _
    c.write_ranges-n.result
    c.write_ranges-n.ensures o.requires.1.0 _
    c.sort_rows.ensures _ c.join_rows.result
    c.join_rows.ensures
