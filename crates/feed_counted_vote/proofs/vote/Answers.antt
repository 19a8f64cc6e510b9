use mathlib.Core.Bool.{true}
use mathlib.Core.Path.{◌≡◌, refl, sym, ap, subst}
use Prim.Native.Nat.{ℕ}
use native.Mathlib.Omega.{arith}
use Rattle.committee.specs.Committee.{known}
use Rattle.record_spec.specs.Reference.{BlockReference, new_range}
use Rattle.types.specs.Values.{as_reference, as_range}
use Rattle.feed_counted_vote.proofs.Votes.{order_formed, order_holds, vote_stop, vote_written, vote_done}
use Rattle.feed_counted_vote.proofs.vote.Goals as goal

pub count_after_cuts-requires : goal.count_after_cuts-requires
count_after_cuts-requires c = order_holds _ _ _ c.requires.lent.table

pub returns-then-room_of-count_after_cuts : goal.returns-then-room_of-count_after_cuts
unfolding as_range new_range
returns-then-room_of-count_after_cuts c = let o = c in vote_stop _ _ _ _ _
    o.requires.lent (as_range o.args.range) o.args.statement o.args.telling o.args.n o.args.events.now _
    c.voted_position-p.ensures
    (omega (arith, c.if-room_of-count_after_cuts.true, c.room_of.ensures, c.count_after_cuts.ensures)) _ refl

pub vote_over-requires : goal.vote_over-requires
unfolding as_reference
vote_over-requires c =
    let o = c in
    let h = o.requires.lent in
    let who = ap (λ (z : BlockReference). z.authority) c.reference-reference.ensures in record {
      broken = h.committee;
      known = subst (λ (a : ℕ). known o.args.stakes.now a ≡ true) (sym who) h.author_known;
      formed = order_formed _ _ _ h.table;
      room = (omega (
        arith,
        c.if-room_of-count_after_cuts.false,
        c.room_of.ensures,
        c.count_after_cuts.ensures,
      ));
    }

pub announced-k-requires : goal.announced-k-requires
unfolding as_reference as_range new_range
announced-k-requires c =
    let o = c in
    let h = o.requires.lent in record {
      stored = (
        h.store,
        h.formed,
        c.voted_position-p.ensures,
        h.new,
      );
      table = (vote_written _ _ _ _ _ o.requires.lent (as_range o.args.range) o.args.statement o.args.telling o.args.n o.args.events.now _
          c.voted_position-p.ensures
          (omega (
            arith,
            c.if-room_of-count_after_cuts.false,
            c.room_of.ensures,
            c.count_after_cuts.ensures,
          )) _ (rw (ap (λ (z : BlockReference). z.authority) c.reference-reference.ensures) at
          c.vote_over.ensures)).holds;
      room = o.requires.room;
    }

pub leave-requires : goal.leave-requires
unfolding as_reference as_range new_range
leave-requires c =
    let o = c in
    (vote_written _ _ _ _ _ o.requires.lent (as_range o.args.range) o.args.statement o.args.telling o.args.n o.args.events.now _
    c.voted_position-p.ensures (omega (
      arith,
      c.if-room_of-count_after_cuts.false,
      c.room_of.ensures,
      c.count_after_cuts.ensures,
    )) _
    (rw (ap (λ (z : BlockReference). z.authority) c.reference-reference.ensures) at c.vote_over.ensures)).holds

pub returns : goal.returns
unfolding as_reference as_range new_range
returns c =
    let o = c in
    vote_done _ _ _ _ _ o.requires.lent (as_range o.args.range) o.args.statement o.args.telling o.args.n o.args.events.now _
    c.voted_position-p.ensures (omega (
      arith,
      c.if-room_of-count_after_cuts.false,
      c.room_of.ensures,
      c.count_after_cuts.ensures,
    )) _ _ _ _
    (rw (ap (λ (z : BlockReference). z.authority) c.reference-reference.ensures) at c.vote_over.ensures) c.announced-k.ensures c.leave.ensures _ refl refl
