use mathlib.Core.Path.{refl, ◌∙◌}
use native.Mathlib.Omega.{arith}
use Rattle.slip_write_routes.specs.Reached.{Found}
use Rattle.slip_write_routes.proofs.Listing.{voter_written}
use Rattle.slip_write_routes.proofs.write_voter.Goals as goal

pub bounds-near-k : goal.bounds-near-k
unfolding Found
bounds-near-k c = let a = c.args in
    let q = c.requires in
    omega (arith, q.0.0.1.1.long, q.0.1.0, q.0.1.1, q.1.0)

pub write_path-requires : goal.write_path-requires
write_path-requires c = let q = c.requires in (
  q.0,
  (
    q.1.0,
    (
      q.1.1.0,
      omega (
        arith,
        q.1.1.1,
        c.write_u16.auto.s,
        c.write_u64.auto.s,
      ),
    ),
  ),
)

pub returns : goal.returns
returns c = let a = c.args in
    let q = c.requires in record {
      value = refl;
      out_after = λ l d. c.write_path.ensures l d ∙ rw (
        c.write_u16.ensures,
        c.write_u64.ensures,
      ) (voter_written a.store.now a.order.now l a.near.now a.steps.now q.0.0.0 d a.k q.0.1.0 a.a
          q.1.0 q.1.1.0 a.out.now a.at);
    }
