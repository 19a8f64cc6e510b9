use mathlib.Core.Path.{sym, ◌∙◌}
use native.Mathlib.Omega.{arith}
use lib.Seq.{length-take-le}
use Rattle.final_spec.specs.Finality.{blocks_of}
use Rattle.index_lent.proofs.Used.{used_inside, used_agrees, known_used}
use Rattle.index_lent.proofs.agrees.Goals as goal

pub slice_bounds-index_agrees-end : goal.slice_bounds-index_agrees-end
slice_bounds-index_agrees-end c = let a = c.args in sym
    (length-take-le _ a.index.now (omega (arith, used_inside a.index.now, c.used_words-used.ensures)))

pub index_agrees-requires : goal.index_agrees-requires
index_agrees-requires c = c.requires

pub returns : goal.returns
returns c = let a = c.args in
    let e = c.index_agrees.ensures in
    let w = rw c.used_words-used.ensures at e in
    let u = w.value ∙ used_agrees (blocks_of a.store.now) a.index.now in
    record { value = u; known = λ t. known_used (blocks_of a.store.now) a.index.now (sym u ∙ t) (w.known t) }
