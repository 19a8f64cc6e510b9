use native.Mathlib.Omega.{arith}
use Rattle.base.proofs.Le.{bytes_of}
use Rattle.record_statement.specs.Values.{as_statement}
use Rattle.std.specs.Prelude.{Some}
use Rattle.draft_spec.specs.Joining.{is_accept}
use Rattle.draft_joined.specs.Step.{TookGiven, TookAccept}
use Rattle.draft_joined.proofs.Runs.{ends_none, other_there}
use Rattle.draft_joined.proofs.next_accept.Goals as goal

pub returns-in_err-statement : goal.returns-in_err-statement
unfolding TookGiven TookAccept
returns-in_err-statement c = rw c.from_residual.ensures (ends_none c.args.s.now c.args.at c.in_err-statement.ensures c.requires)

pub returns-in-Accept : goal.returns-in-Accept
unfolding TookGiven TookAccept as_statement
returns-in-Accept c =
    let o = c in
    let s = o.args.s.now in
    let st = c.in_ok-statement.statement in
    let next = c.in_ok-statement.next in
    let told : TookGiven s o.args.at (Some (st, next)) = c.in_ok-statement.ensures in
    (rw c.in-Accept.is at told.0, (told.1.0, told.1.1.0))

pub returns-in-Share : goal.returns-in-Share
unfolding as_statement is_accept
returns-in-Share c =
    let o = c in
    let s = o.args.s.now in
    let st = c.in_ok-statement.statement in
    let next = c.in_ok-statement.next in
    let told : TookGiven s o.args.at (Some (st, next)) = c.in_ok-statement.ensures in
    other_there s o.args.at st next (bytes_of s (λ j h. omega (arith, c.shared_slice_known-1.given j)))
    told (rw c.in-Share.is)

pub returns-in-Reject : goal.returns-in-Reject
unfolding as_statement is_accept
returns-in-Reject c =
    let o = c in
    let s = o.args.s.now in
    let st = c.in_ok-statement.statement in
    let next = c.in_ok-statement.next in
    let told : TookGiven s o.args.at (Some (st, next)) = c.in_ok-statement.ensures in
    other_there s o.args.at st next (bytes_of s (λ j h. omega (arith, c.shared_slice_known-1.given j)))
    told (rw c.in-Reject.is)

pub returns-in-RejectFor : goal.returns-in-RejectFor
unfolding as_statement is_accept
returns-in-RejectFor c =
    let o = c in
    let s = o.args.s.now in
    let st = c.in_ok-statement.statement in
    let next = c.in_ok-statement.next in
    let told : TookGiven s o.args.at (Some (st, next)) = c.in_ok-statement.ensures in
    other_there s o.args.at st next (bytes_of s (λ j h. omega (arith, c.shared_slice_known-1.given j)))
    told (rw c.in-RejectFor.is)

pub returns-in-VoteRange : goal.returns-in-VoteRange
unfolding as_statement is_accept
returns-in-VoteRange c =
    let o = c in
    let s = o.args.s.now in
    let st = c.in_ok-statement.statement in
    let next = c.in_ok-statement.next in
    let told : TookGiven s o.args.at (Some (st, next)) = c.in_ok-statement.ensures in
    other_there s o.args.at st next (bytes_of s (λ j h. omega (arith, c.shared_slice_known-1.given j)))
    told (rw c.in-VoteRange.is)
