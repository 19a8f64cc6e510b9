use mathlib.Core.Path.{sym, ◌∙◌}
use native.Mathlib.Omega.{arith}
use Rattle.slip_read_voters.specs.Step.{TookVoter, TookVoters}
use Rattle.slip_read_voters.proofs.Taking.{taking_start, taking_none, taking_falls, taking_on, taking_done}
use Rattle.slip_read_voters.proofs.take_voters.Goals as goal

pub loop-i-init : goal.loop-i-init
loop-i-init c = rw c.new-authors.ensures (taking_start _ _ _ _ _ _ _ c.requires.0)

pub take_voter-requires : goal.take_voter-requires
take_voter-requires c = c.loop-i.invariant.listed.inside

pub returns-in_err-author : goal.returns-in_err-author
unfolding TookVoters TookVoter
returns-in_err-author c = rw c.from_residual.ensures (taking_none _ _ _ _ _ _ _ _ _ _ _ _ c.loop-i.invariant c.loop-i-test.true
    (c.in_err-author.ensures))

pub returns-then-not-follows : goal.returns-then-not-follows
unfolding TookVoters TookVoter
returns-then-not-follows c =
    let took = c.in_ok-author.ensures in
    taking_falls _ _ _ _ _ _ _ _ _ _ _ _ c.loop-i.invariant
    c.loop-i-test.true _ _ took.0
    (sym c.follows.ensures ∙ c.if-not-follows.true)

pub overflow_add-path : goal.overflow_add-path
unfolding TookVoter
overflow_add-path c =
    let took = c.in_ok-author.ensures in
    omega (arith, took.1.0, took.1.1)

pub slice_bounds-voter_verdict-count : goal.slice_bounds-voter_verdict-count
unfolding TookVoter
slice_bounds-voter_verdict-count c =
    let took = c.in_ok-author.ensures in
    took.1.0

pub slice_bounds-voter_verdict-start : goal.slice_bounds-voter_verdict-start
unfolding TookVoter
slice_bounds-voter_verdict-start c =
    let took = c.in_ok-author.ensures in
    took.1.0

pub slice_bounds-voter_verdict-end : goal.slice_bounds-voter_verdict-end
unfolding TookVoter
slice_bounds-voter_verdict-end c =
    let took = c.in_ok-author.ensures in
    took.1.1

pub voter_verdict-own-requires : goal.voter_verdict-own-requires
voter_verdict-own-requires c = c.requires.1

pub loop-i-preserved : goal.loop-i-preserved
unfolding TookVoter
loop-i-preserved c =
    let took = c.in_ok-author.ensures in
    taking_on _ _ _ _ _ _ _ _ _ _ _ _ c.loop-i.invariant
    c.loop-i-test.true _ _ took.0
    c.voter_verdict-own.result _ _ (sym c.follows.ensures ∙ c.if-not-follows.false) took.1.1
    c.with_author-authors.ensures c.worse-shown.ensures c.voter_verdict-own.ensures

pub returns : goal.returns
unfolding TookVoters
returns c = taking_done _ _ _ _ _ _ _ _ _ _ _ _ c.loop-i.invariant c.loop-i-test.false
