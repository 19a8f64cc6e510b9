use Prim.Native.Nat.{◌+◌}
use mathlib.Core.Path.{◌∙◌}
use native.Mathlib.Omega.{arith}
use lib.ListN.{length-set}
use Rattle.base.proofs.Le.{bytes_of}
use Rattle.final_block_votes.specs.Walk.{block_at_place}
use Rattle.final_block_votes.proofs.Sorting.{place_entry}
use Rattle.slip_write_certifiers.proofs.Written.{few_voters, certifier_written}
use Rattle.slip_write_certifiers.proofs.write_certifier.Goals as goal

pub reference_at-block-requires : goal.reference_at-block-requires
reference_at-block-requires c = let a = c.args in
    let q = c.requires in
    place_entry a.store.now a.order.now q.0.0.0 a.k q.0.1.0

pub overflow_cast-out : goal.overflow_cast-out
overflow_cast-out c = omega (
  arith,
  c.count.ensures,
  few_voters c.args.voters,
)

pub write_voters-requires : goal.write_voters-requires
write_voters-requires c = let q = c.requires in (
  q.0,
  (
    q.1.0,
    omega (
      arith,
      q.1.1,
      length-set c.write_reference.new.s
          (c.args.at + 48) c.count.result,
      c.write_reference.auto.s,
    ),
  ),
)

pub shape_of-out : goal.shape_of-out
shape_of-out c = c.write_voters.auto.out ∙ length-set
    c.write_reference.new.s
    (c.args.at + 48)
    c.count.result ∙ c.write_reference.auto.s

pub returns : goal.returns
unfolding block_at_place
returns c = let a = c.args in
    let q = c.requires in
    let bytes = bytes_of a.store.now (λ j h. omega (
      arith,
      c.shared_slice_known-1.given j,
    )) in
    let e = c.write_voters.ensures in record {
      value = omega (arith, e.value);
      out_after = λ l d. e.out_after l d ∙ rw (
        c.count.ensures,
        c.write_reference.ensures,
        c.reference_at-block.ensures,
      )
          (certifier_written a.store.now a.order.now l a.near.now a.steps.now q.0.0.0 bytes d a.k q.0.1.0 a.voters q.1.0
          a.out.now a.at);
    }
