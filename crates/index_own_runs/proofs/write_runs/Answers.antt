use mathlib.Core.Path.{◌≡◌, sym, subst}
use mathlib.Core.List.{List}
use lib.ListN.{get_or}
use lib.Seq.{sets}
use Prim.Native.Nat.{ℕ, ◌+◌, ◌*◌}
use Rattle.base.proofs.Le.{bytes_of}
use Rattle.record_spec.specs.Reference.{BlockReference}
use Rattle.list_row_sort.specs.Rows.{row_at}
use Rattle.list_row_sort.proofs.Tables.{every_row}
use Rattle.index_spec.specs.Index.{run_words}
use Rattle.index_runs.specs.Values.{as_run}
use Rattle.index_spec.specs.Runs.{run}
use Rattle.index_own_runs.specs.Own.{row_run}
use Rattle.index_own_runs.proofs.Writing.{RunsPut, put_start, put_long, put_on, put_end}
use native.Mathlib.Omega.{arith}
use Rattle.index_own_runs.proofs.write_runs.Goals as goal

pub loop-i-init : goal.loop-i-init
loop-i-init c = (
  omega arith,
  put_start c.args.rec.now c.args.votes
      c.args.rows.now c.args.words.now,
)

pub overflow_mul-from : goal.overflow_mul-from
overflow_mul-from c = omega arith

pub offset_bounds-rows-from : goal.offset_bounds-rows-from
offset_bounds-rows-from c = omega arith

pub bounds-rows-from : goal.bounds-rows-from
bounds-rows-from c = omega arith

pub read_reference-block-requires : goal.read_reference-block-requires
unfolding row_at
read_reference-block-requires c = (every_row c.args.rows.now
    c.args.m c.requires.0 c.loop-i.i
    c.loop-i-test.true).inside

pub overflow_add-run : goal.overflow_add-run
overflow_add-run c = omega arith

pub offset_bounds-rows-from-in-loop-i : goal.offset_bounds-rows-from-in-loop-i
offset_bounds-rows-from-in-loop-i c = omega arith

pub bounds-rows-from-in-loop-i : goal.bounds-rows-from-in-loop-i
bounds-rows-from-in-loop-i c = omega arith

pub overflow_add-run-in-loop-i : goal.overflow_add-run-in-loop-i
overflow_add-run-in-loop-i c = omega arith

pub offset_bounds-rows-from-in-loop-i-2 : goal.offset_bounds-rows-from-in-loop-i-2
offset_bounds-rows-from-in-loop-i-2 c = omega arith

pub bounds-rows-from-in-loop-i-2 : goal.bounds-rows-from-in-loop-i-2
bounds-rows-from-in-loop-i-2 c = omega arith

pub overflow_mul-i : goal.overflow_mul-i
overflow_mul-i c = omega arith

pub write_run-requires : goal.write_run-requires
write_run-requires c = omega (
  arith,
  put_long c.args.rec.now
      c.args.votes
      c.args.rows.now
      c.args.words.now
      c.loop-i.words c.loop-i.i
      c.loop-i.invariant.1,
)

pub loop-i-smaller : goal.loop-i-smaller
loop-i-smaller c = omega arith

pub loop-i-preserved : goal.loop-i-preserved
unfolding as_run run row_run row_at
loop-i-preserved c = (
  omega arith,
  subst (λ (ws : List ℕ). RunsPut c.args.rec.now
      c.args.votes
      c.args.rows.now
      c.args.words.now ws
      (c.loop-i.i + 1)) (sym c.write_run.ensures)
      (subst (λ (x : BlockReference). RunsPut c.args.rec.now c.args.votes
      c.args.rows.now
      c.args.words.now
      (sets c.loop-i.words
      (10 * c.loop-i.i)
      (run_words (run x (get_or c.args.rows.now
      (3 * c.loop-i.i + 1) 0)
      (get_or c.args.rows.now
      (3 * c.loop-i.i + 2) 0)
      c.args.votes)))
      (c.loop-i.i + 1))
      (sym c.read_reference-block.ensures)
      (put_on c.args.rec.now
      c.args.votes
      c.args.rows.now
      c.args.words.now
      c.loop-i.words
      c.loop-i.i
      c.loop-i.invariant.1)),
)

pub shape_of-words : goal.shape_of-words
shape_of-words c = put_long c.args.rec.now c.args.votes
    c.args.rows.now c.args.words.now c.loop-i.words
    c.loop-i.i c.loop-i.invariant.1

pub returns : goal.returns
returns c = let e : c.loop-i.i ≡ c.args.m = omega (arith, c.loop-i.invariant.0, c.loop-i-test.false) in record {
  words_len_unchanged = put_long c.args.rec.now c.args.votes
      c.args.rows.now c.args.words.now c.loop-i.words
      c.loop-i.i c.loop-i.invariant.1;
  words_after = put_end c.args.rec.now c.args.votes
      c.args.rows.now c.args.words.now
      (bytes_of c.args.rec.now
      (λ i h. omega (arith, c.shared_slice_known-1.given i))) c.loop-i.words
      c.args.m c.requires.0
      c.requires.1.1 (subst
      (RunsPut c.args.rec.now c.args.votes
      c.args.rows.now c.args.words.now c.loop-i.words) e
      c.loop-i.invariant.1);
}
