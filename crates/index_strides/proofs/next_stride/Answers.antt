use mathlib.Core.Path.{refl, sym}
use Rattle.index_spec.specs.Runs.{run}
use Rattle.index_runs.specs.Values.{as_run, as_maybe, as_place}
use Rattle.index_strides.proofs.Striding.{strode_one, strode_more}
use Rattle.index_strides.proofs.next_stride.Goals as goal

pub returns-then-common-eq0 : goal.returns-then-common-eq0
unfolding as_run run as_place
returns-then-common-eq0 c = let a = c.args in
    let g = c.whole_run-grown in
    let s = c.pass_common-common in
    strode_one a.own.now a.mine.now g.new.mine a.index.now a.n a.cursors.now g.new.cursors s.new.cursors (as_run a.first)
    (as_run g.result.run) (as_maybe g.result.next) g.ensures s.result s.ensures _ refl refl (sym c.if-common-eq0.true) c.if-common-eq0.true refl

pub returns : goal.returns
unfolding as_run run as_place
returns c = let a = c.args in
    let g = c.whole_run-grown in
    let s = c.pass_common-common in
    let m = c.next_piece-next in
    strode_more a.own.now a.mine.now g.new.mine a.index.now a.n a.cursors.now g.new.cursors s.new.cursors
    (as_run a.first) (as_run g.result.run) (as_maybe g.result.next) g.ensures s.result s.ensures _ refl refl refl
    m.new.mine m.new.cursors m.ensures.piece_or m.ensures.moved.0 m.ensures.moved.1
