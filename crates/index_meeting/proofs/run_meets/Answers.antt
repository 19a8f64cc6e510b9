use mathlib.Core.Path.{refl, sym, subst}
use lib.ListN.{drop}
use Rattle.base.proofs.Tests.{not_both}
use Rattle.committee_set.specs.AuthoritySet.{united}
use Rattle.index_spec.specs.Runs.{Run}
use Rattle.index_spec.specs.Walk.{beyond, run_from}
use Rattle.index_runs.specs.Values.{as_place}
use Rattle.index_pieces.specs.Sources.{named_by, together}
use Rattle.index_source_meeting.specs.Met.{MetAll}
use Rattle.index_meeting.specs.Step.{NextIf}
use Rattle.index_source_meeting.proofs.Together.{meets_both}
use Rattle.index_meeting.proofs.Next.{next_met, moved_copied}
use native.Mathlib.Omega.{arith}
use Rattle.index_meeting.proofs.run_meets.Goals as goal

pub returns-in_default : goal.returns-in_default
returns-in_default c = record { passed = λ t. absurd (not_both t refl); cursors_unchanged = λ t. (refl, refl) }

pub returns-in_default-voters : goal.returns-in_default-voters
returns-in_default-voters c = record { passed = λ t. absurd (not_both t refl); cursors_unchanged = λ t. (refl, refl) }

pub read_run-requires : goal.read_run-requires
read_run-requires c = c.requires.room.0

pub returns-then-not-is_next : goal.returns-then-not-is_next
returns-then-not-is_next c = record { passed = λ t. absurd (not_both t refl); cursors_unchanged = λ t. (refl, refl) }

pub slice_bounds-copy_words-end : goal.slice_bounds-copy_words-end
slice_bounds-copy_words-end c = sym
    c.next-2-1.given

pub copy_words-requires : goal.copy_words-requires
copy_words-requires c = (
  omega (
    arith,
    c.next-2-1.given,
  ),
  omega (
    arith,
    c.requires.room.1.1,
  ),
)

pub overflow_mul-n : goal.overflow_mul-n
overflow_mul-n c = omega (
  arith,
  c.requires.sources.0.room,
  c.well_formed.1.0,
)

pub copy_words-requires-2 : goal.copy_words-requires-2
copy_words-requires-2 c = (
  omega (
    arith,
    c.requires.sources.0.room,
    c.requires.room.1.0,
    c.ahead-1.given,
  ),
  omega (
    arith,
    c.requires.sources.0.room,
  ),
)

pub returns : goal.returns
unfolding MetAll together
returns c = record {
  passed = λ t.
      let x : Run = (run_from (drop c.args.pos
      c.args.index.now)) in
      let own = subst (MetAll x c.args.own.now 1
      c.args.mine.now c.sources_meet-own_voters.new.ahead)
      c.in-Some.is
      c.sources_meet-own_voters.ensures in
      let all = subst (MetAll x c.args.index.now
      c.args.n c.args.cursors.now c.sources_meet-voters.new.ahead)
      c.in-Some-voters.is c.sources_meet-voters.ensures in
      let next : NextIf x (as_place c.args.place)
      (united c.in-Some.v
      c.in-Some-voters.w) (united c.in-Some.v_after
      c.in-Some-voters.w_after) =
      rw (
        ← c.union-votes.ensures,
        ← c.union-after.ensures,
      )
      (subst (λ (y : Run). NextIf y (as_place
      c.args.place) c.union-votes.result c.union-after.result)
      c.read_run.ensures
      (c.is_next.ensures
      (c.if-not-is_next.false))) in
      record {
        next = next_met x (λ l. united (named_by
            c.args.own.now c.args.mine.now 1 l)
            (named_by c.args.index.now c.args.cursors.now
            c.args.n l)) (as_place c.args.place)
            (united c.in-Some.v
            c.in-Some-voters.w) (united c.in-Some.v_after
            c.in-Some-voters.w_after) next
            (meets_both x (named_by c.args.own.now
            c.args.mine.now 1) (named_by
            c.args.index.now c.args.cursors.now
            c.args.n) c.in-Some.v
            c.in-Some-voters.w c.in-Some.v_after
            c.in-Some-voters.w_after (own next.full).0 (all next.full).0);
        parts = moved_copied c.args.index.now
            c.args.n (beyond x.reference x.end)
            c.args.cursors.now c.sources_meet-voters.new.ahead (all next.full).1
            c.copy_words-2.new.to c.copy_words-2.ensures;
        mine = moved_copied c.args.own.now 1 (beyond x.reference x.end)
            c.args.mine.now c.sources_meet-own_voters.new.ahead
            (own next.full).1 c.copy_words.new.to
            c.copy_words.ensures;
      };
  cursors_unchanged = λ t. absurd (not_both refl t);
}
