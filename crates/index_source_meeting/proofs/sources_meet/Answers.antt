use mathlib.Core.Path.{◌≡◌, sym, subst, ◌∙◌}
use Prim.Native.Nat.{ℕ, ◌+◌, ◌*◌}
use lib.ListN.{get_or, drop, set, length-set}
use Rattle.committee_set.specs.AuthoritySet.{AuthoritySet, nobody}
use Rattle.index_spec.specs.Walk.{run_from}
use Rattle.index_pieces.specs.Sources.{cursor_at, cursor_left, source}
use Rattle.index_source_meeting.specs.Source.{SourceMet}
use Rattle.index_source_meeting.specs.Met.{MetAll}
use Rattle.index_source_meeting.proofs.Moving.{Going, going_start, going_on, going_end}
use native.Mathlib.Omega.{arith}
use Rattle.index_source_meeting.proofs.sources_meet.Goals as goal

pub loop-k-init : goal.loop-k-init
loop-k-init c = (
  omega arith,
  (
    c.requires.1.1,
    λ h. subst
        (λ (v : AuthoritySet). Going (run_from
        (drop c.args.pos c.args.index.now))
        c.args.words.now c.args.cursors.now
        c.args.ahead.now 0 v c.new-after.result) (sym c.new-votes.ensures)
        (subst (Going (run_from (drop c.args.pos
        c.args.index.now)) c.args.words.now
        c.args.cursors.now c.args.ahead.now 0 nobody)
        (sym c.new-after.ensures) (going_start
        (run_from (drop c.args.pos c.args.index.now))
        c.args.words.now c.args.cursors.now
        c.args.ahead.now)),
  ),
)

pub source_meets-met-requires : goal.source_meets-met-requires
unfolding cursor_at cursor_left
source_meets-met-requires c = (
  c.requires.1.0,
  c.requires.0.inside c.loop-k.k c.loop-k-test.true,
)

pub shape_of-ahead-in_default : goal.shape_of-ahead-in_default
shape_of-ahead-in_default c = c.loop-k.invariant.1.0 ∙ sym
    c.requires.1.1

pub returns-in_default : goal.returns-in_default
unfolding MetAll
returns-in_default c = tt

pub bounds-ahead-k : goal.bounds-ahead-k
bounds-ahead-k c = omega (
  arith,
  c.loop-k.invariant.1.0,
  c.requires.0.room,
  c.loop-k-test.true,
)

pub bounds-ahead-k-in-loop-k : goal.bounds-ahead-k-in-loop-k
bounds-ahead-k-in-loop-k c = simp length-set
    (omega (
      arith,
      c.loop-k.invariant.1.0,
      c.requires.0.room,
      c.loop-k-test.true,
    ))

pub loop-k-preserved : goal.loop-k-preserved
unfolding source cursor_at cursor_left SourceMet
loop-k-preserved c = let s = subst (SourceMet
    (run_from (drop c.args.pos c.args.index.now)) c.args.words.now (get_or c.args.cursors.now (2 * c.loop-k.k) 0)
    (get_or c.args.cursors.now (2 * c.loop-k.k + 1) 0)) c.in-Some.is
    c.source_meets-met.ensures in (
      omega (arith, c.loop-k-test.true),
      (
        length-set (set c.loop-k.ahead
            (2 * c.loop-k.k) c.in-Some.m.at)
            (2 * c.loop-k.k + 1) c.in-Some.m.left
            ∙ length-set c.loop-k.ahead
            (2 * c.loop-k.k) c.in-Some.m.at ∙ c.loop-k.invariant.1.0,
        λ h. rw (c.union-votes.ensures, c.union-after.ensures)
            (going_on (run_from (drop c.args.pos c.args.index.now)) c.args.words.now
            c.args.cursors.now c.loop-k.ahead
            c.loop-k.k
            c.loop-k.votes
            c.loop-k.after
            (c.loop-k.invariant.1.1 h)
            (omega (
              arith,
              c.loop-k.invariant.1.0,
              c.requires.0.room,
              c.loop-k-test.true,
            )) c.in-Some.m.at
            c.in-Some.m.left c.in-Some.m.votes
            c.in-Some.m.after s.0
            (s.1 h (c.requires.0.chains c.loop-k.k
            c.loop-k-test.true))),
      ),
    )

pub shape_of-ahead : goal.shape_of-ahead
shape_of-ahead c = c.loop-k.invariant.1.0 ∙ sym c.requires.1.1

pub returns : goal.returns
unfolding MetAll
returns c = λ h.
    let e : c.loop-k.k ≡ c.args.n = omega
    (arith, c.loop-k.invariant.0, c.loop-k-test.false) in
    let g = subst (λ (m : ℕ). Going
    (run_from (drop c.args.pos
    c.args.index.now))
    c.args.words.now
    c.args.cursors.now c.loop-k.ahead m c.loop-k.votes
    c.loop-k.after) e (c.loop-k.invariant.1.1 h) in (
      g.meets,
      going_end (run_from (drop c.args.pos
          c.args.index.now))
          c.args.words.now
          c.args.cursors.now c.loop-k.ahead
          c.args.n c.loop-k.votes c.loop-k.after
          c.loop-k.invariant.1.0 c.requires.0.room g,
    )
