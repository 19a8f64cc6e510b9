use mathlib.Core.Path.{refl, sym}
use mathlib.Core.List.{[], ◌∷◌}
use Rattle.record_spec.specs.Record.{block_in}
use Rattle.index_check.proofs.Opening.{own_ready, opened_runs}
use native.Mathlib.Omega.{arith}
use Rattle.index_check.proofs.record_part_end.Goals as goal

pub open_sources-n-requires : goal.open_sources-n-requires
open_sources-n-requires c = record { store = c.requires.store; «record» = c.requires.«record».formed; known = c.requires.known; room = omega arith }

pub own_runs-requires : goal.own_runs-requires
own_runs-requires c = (
  c.requires.«record»,
  c.requires.room,
)

pub part_end-requires : goal.part_end-requires
part_end-requires c = record {
  sources = (
    (c.open_sources-n.ensures c.requires.known.0 c.requires.known.1.0 c.requires.known.1.1).ready,
    own_ready (block_in c.args.rec.now) c.own_runs.new.words c.own_runs.result c.own_runs.ensures.own_runs (0 ∷ c.own_runs.result ∷ []) refl refl refl,
  );
  room = (
    sym c.cursors-2-1.given,
    refl,
  );
}

pub returns : goal.returns
returns c = λ bs k r. c.part_end.ensures _ (opened_runs (block_in c.args.rec.now) c.own_runs.new.words c.own_runs.result c.own_runs.ensures.own_runs
    (0 ∷ c.own_runs.result ∷ []) refl refl refl bs c.args.index.now _ _
    (c.open_sources-n.ensures bs k r))
