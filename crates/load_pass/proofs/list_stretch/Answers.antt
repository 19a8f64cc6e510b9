use mathlib.Core.Path.{◌≡◌, sym, ap, ◌∙◌}
use mathlib.Core.Bool.{true}
use native.Mathlib.Omega.{arith}
use Rattle.record_spec.specs.Reference.{new_range}
use Rattle.types.specs.Values.{as_range}
use Rattle.store_spec.specs.Entry.{record_at, is_entry}
use Rattle.store_spec.proofs.Loops.{entry_room, record-part}
use Rattle.final_block_votes.specs.Walk.{SortedStore}
use Rattle.load_pass.proofs.Running.{coming_entry}
use Rattle.load_pass.proofs.list_stretch.Goals as goal

pub find_ordered-at-requires : goal.find_ordered-at-requires
unfolding SortedStore
find_ordered-at-requires c = let o = c.requires.1.0.1 in (o.laid, o.places)

pub overflow_add-from : goal.overflow_add-from
unfolding as_range new_range
overflow_add-from c =
    let a = c.args in
    let at = c.find_ordered-at.result in
    let entry : is_entry a.store.now at ≡ true = coming_entry a.store.now (as_range a.range) a.places.now a.n
    c.requires.0 at c.find_ordered-at.ensures in
    omega (arith, (entry_room a.store.now at entry).inside)

pub record_end-end-requires : goal.record_end-end-requires
unfolding as_range new_range
record_end-end-requires c =
    let a = c.args in
    let at = c.find_ordered-at.result in
    let entry : is_entry a.store.now at ≡ true = coming_entry a.store.now (as_range a.range) a.places.now a.n
    c.requires.0 at c.find_ordered-at.ensures in
    entry

pub slice_bounds-rec-end : goal.slice_bounds-rec-end
unfolding as_range new_range
slice_bounds-rec-end c =
    let a = c.args in
    let at = c.find_ordered-at.result in
    let entry : is_entry a.store.now at ≡ true = coming_entry a.store.now (as_range a.range) a.places.now a.n
    c.requires.0 at c.find_ordered-at.ensures in
    omega (arith, (entry_room a.store.now at entry).inside, c.record_end-end.ensures)

pub read_from-begun-requires : goal.read_from-begun-requires
unfolding as_range new_range
read_from-begun-requires c =
    let a = c.args in
    let at = c.find_ordered-at.result in
    let entry : is_entry a.store.now at ≡ true = coming_entry a.store.now (as_range a.range) a.places.now a.n
    c.requires.0 at c.find_ordered-at.ensures in (
      c.requires.1.1,
      (entry, record-part a.store.now at c.record_end-end.result c.record_end-end.ensures),
    )

pub list_run-requires : goal.list_run-requires
unfolding as_range new_range
list_run-requires c =
    let a = c.args in
    let at = c.find_ordered-at.result in
    let entry : is_entry a.store.now at ≡ true = coming_entry a.store.now (as_range a.range) a.places.now a.n
    c.requires.0 at c.find_ordered-at.ensures in
    let e = c.read_from-begun.ensures in
    let same : record_at a.store.now c.read_from-begun.result.at ≡ record_at a.store.now at = ap (record_at a.store.now) e.0 in (
      c.requires.0,
      (
        e.0 ∙ c.find_ordered-at.ensures,
        (
          record-part a.store.now at c.record_end-end.result c.record_end-end.ensures ∙ sym same,
          (e.1.0, e.1.1),
        ),
      ),
    )
