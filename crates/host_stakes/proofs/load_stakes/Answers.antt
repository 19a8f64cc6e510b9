use mathlib.Core.Path.{sym, ◌∙◌}
use lib.Seq.{length-take-le}
use native.Mathlib.Omega.{arith}
use Rattle.host_calls.specs.Calls.{encoded}
use Rattle.host_stakes.specs.LoadStakes.{loaded_bytes, load_stakes_call}
use Rattle.host_stakes.proofs.Stakes.{held_members, held_refused}
use Rattle.host_stakes.proofs.load_stakes.Goals as goal

pub slice_bounds-held-end : goal.slice_bounds-held-end
slice_bounds-held-end c =
    let start = c.args in
    let l = c.load in
    omega (
      arith,
      (held_members start.file.now l.new.stakes l.result l.ensures.result_value l.ensures.stakes_after c.in-Ok.n
          c.in-Ok.is).0,
      l.auto.stakes,
    )

pub slice_bounds-put_stakes-end : goal.slice_bounds-put_stakes-end
slice_bounds-put_stakes-end c =
    let start = c.args in
    let l = c.load in
    sym (length-take-le c.in-Ok.n l.new.stakes (omega (
      arith,
      (held_members start.file.now l.new.stakes l.result l.ensures.result_value l.ensures.stakes_after
          c.in-Ok.n c.in-Ok.is).0,
      l.auto.stakes,
    )))

pub put_stakes-requires : goal.put_stakes-requires
put_stakes-requires c =
    let start = c.args in
    let l = c.load in
    let few = (held_members start.file.now l.new.stakes l.result l.ensures.result_value l.ensures.stakes_after c.in-Ok.n c.in-Ok.is).0 in
    omega (arith, length-take-le c.in-Ok.n l.new.stakes (omega (arith, l.auto.stakes)))

pub returns-in-Ok : goal.returns-in-Ok
unfolding load_stakes_call
returns-in-Ok c =
    let start = c.args in
    let l = c.load in
    let e = (held_members start.file.now l.new.stakes l.result l.ensures.result_value l.ensures.stakes_after c.in-Ok.n c.in-Ok.is).1 in
    (rw e c.put_stakes.ensures.0, rw e c.put_stakes.ensures.1)

pub returns-in-Err : goal.returns-in-Err
unfolding load_stakes_call loaded_bytes encoded
returns-in-Err c =
    let start = c.args in
    let l = c.load in
    let e = held_refused start.file.now l.new.stakes l.result l.ensures.result_value l.ensures.stakes_after c.in-Err.refusal
    c.in-Err.is in
    (c.refused.ensures ∙ rw e, rw e)
