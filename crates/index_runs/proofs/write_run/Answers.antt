use mathlib.Core.Path.{refl}
use Rattle.index_spec.specs.Runs.{run}
use Rattle.index_spec.specs.Index.{digest_words, run_words}
use Rattle.types.specs.Values.{as_reference, digest_bytes}
use Rattle.index_runs.specs.Values.{as_run}
use Rattle.index_runs.proofs.Words.{run_stores}
use lib.ListN.{length-set}
use native.Mathlib.Omega.{arith}
use Rattle.index_runs.proofs.write_run.Goals as goal

pub bounds-index-at-2 : goal.bounds-index-at-2
bounds-index-at-2 c = simp length-set (omega arith)

pub write_digest-requires : goal.write_digest-requires
write_digest-requires c = simp length-set (omega arith)

pub bounds-index-at-3 : goal.bounds-index-at-3
bounds-index-at-3 c = omega (arith, rw (length-set, length-set) at c.write_digest.auto.index)

pub bounds-index-at-4 : goal.bounds-index-at-4
bounds-index-at-4 c = simp length-set (omega (arith, rw (length-set, length-set) at c.write_digest.auto.index))

pub bounds-index-at-5 : goal.bounds-index-at-5
bounds-index-at-5 c = simp length-set (omega (arith, rw (length-set, length-set) at c.write_digest.auto.index))

pub bounds-index-at-6 : goal.bounds-index-at-6
bounds-index-at-6 c = simp length-set (omega (arith, rw (length-set, length-set) at c.write_digest.auto.index))

pub shape_of-index : goal.shape_of-index
shape_of-index c = simp length-set (rw (length-set, length-set) at c.write_digest.auto.index)

pub returns : goal.returns
unfolding run_words digest_words as_run run as_reference
returns c =
    let a = c.args in
    rw c.write_digest.ensures
    (run_stores a.index.now a.at a.x.block.authority.0 a.x.block.round.0 a.x.start a.x.end a.x.votes.low a.x.votes.high
    (digest_words (digest_bytes a.x.block.digest)) refl)
