use mathlib.Core.Path.{◌≡◌, ap, ◌∙◌}
use mathlib.Core.List.{map}
use Rattle.base.proofs.Le.{bytes_of}
use Rattle.committee_set.specs.AuthoritySet.{AuthoritySet, nobody, inserted}
use Rattle.record_spec.specs.Reference.{BlockReference}
use Rattle.record_spec.specs.Block.{author}
use Rattle.record_spec.specs.Record.{block_in}
use Rattle.types.specs.Values.{as_maybe}
use Rattle.list_own_ranges.specs.Own.{Roomy}
use Rattle.list_row_sort.specs.Rows.{rows_of}
use Rattle.types.specs.Values.{as_reference}
use Rattle.index_own_runs.specs.Own.{row_run}
use Rattle.index_own_runs.proofs.Rows.{recorded, few_statements_lem, own_of}
use native.Mathlib.Omega.{arith}
use Rattle.index_own_runs.proofs.own_runs.Goals as goal

pub own_ranges-m-requires : goal.own_ranges-m-requires
unfolding Roomy
own_ranges-m-requires c = let m = few_statements_lem c.args.rec.now
    c.requires.0 (bytes_of c.args.rec.now
    (λ i h. omega (arith, c.shared_slice_known-1.given i))) in (
      recorded c.args.rec.now c.requires.0,
      (omega (arith, m, c.requires.1.0), omega (arith, m, c.requires.1.1)),
    )

pub insert-votes-requires : goal.insert-votes-requires
unfolding as_reference
insert-votes-requires c = omega (
  arith,
  ap (λ (r : BlockReference). r.authority) c.reference-block.ensures,
  c.requires.0.author,
)

pub write_runs-requires : goal.write_runs-requires
write_runs-requires c = let o = c.own_ranges-m.ensures in
    let m = few_statements_lem c.args.rec.now c.requires.0
    (bytes_of c.args.rec.now
    (λ i h. omega (
      arith,
      c.shared_slice_known-1.given i,
    ))) in (
      o.proper,
      (
        omega (
          arith,
          m,
          o.few,
          o.long,
          c.requires.1.0,
        ),
        omega (
          arith,
          m,
          o.few,
          c.requires.1.1,
          c.words-1.given,
        ),
      ),
    )

pub returns : goal.returns
unfolding as_reference as_maybe
returns c = let o = c.own_ranges-m.ensures in
    let m = few_statements_lem c.args.rec.now c.requires.0 (bytes_of c.args.rec.now
    (λ i h. omega (
      arith,
      c.shared_slice_known-1.given i,
    ))) in
    let w = c.write_runs.ensures in
    let v : c.insert-votes.result ≡ inserted nobody
    (author (block_in c.args.rec.now)) =
    c.insert-votes.ensures ∙ ap
    (λ (s : AuthoritySet). inserted s c.reference-block.result.authority.0)
    c.new.ensures ∙ ap (λ (r : BlockReference). inserted nobody r.authority)
    c.reference-block.ensures in record {
      rows_len_unchanged = (o.long, w.words_len_unchanged ∙ c.words-1.given);
      own_runs = own_of c.args.rec.now (block_in c.args.rec.now) c.args.rows.now _
          c.own_ranges-m.result o _
          (omega (
            arith,
            m,
            o.few,
            c.requires.1.1,
            c.words-1.given,
            w.words_len_unchanged,
          ))
          (w.words_after ∙ ap (λ (s : AuthoritySet). map (row_run c.args.rec.now s)
          (rows_of c.own_ranges-m.new.rows c.own_ranges-m.result)) v);
    }
