use mathlib.Core.Path.{◌∙◌}
use native.Mathlib.Omega.{arith}
use lib.ListN.{length}
use Rattle.record_spec.specs.Record.{statement_bytes}
use Rattle.record_statement.specs.Values.{as_statement}
use Rattle.record_statement.specs.declared.BaseStatement.TheVariants.{Accept, Reject, RejectFor, VoteRange}
use Rattle.draft_statements.proofs.Written.{bytes_of, room_for, share_room, reject_written, reject_for_written}
use Rattle.draft_statements.proofs.write_statement.Goals as goal

pub write_share-requires : goal.write_share-requires
write_share-requires c =
    let o = c in
    let s = o.args.s.now in
    let out = o.args.out.now in
    share_room s o.args.statement o.args.at (length out) o.requires.0 o.requires.1.1 c.in-Share.start c.in-Share.len c.in-Share.is o.requires.1.0

pub write_marked-requires : goal.write_marked-requires
unfolding bytes_of
write_marked-requires c =
    let o = c in
    let s = o.args.s.now in
    let out = o.args.out.now in
    room_for s o.args.statement o.args.at (length out) o.requires.0 o.requires.1.1 (Accept c.in-Accept.locator) c.in-Accept.is

pub write_marked-requires-in-Reject : goal.write_marked-requires-in-Reject
unfolding bytes_of
write_marked-requires-in-Reject c =
    let o = c in
    let s = o.args.s.now in
    let out = o.args.out.now in
    omega (arith, room_for s o.args.statement o.args.at (length out) o.requires.0 o.requires.1.1 (Reject c.in-Reject.locator) c.in-Reject.is)

pub bounds-out-at : goal.bounds-out-at
unfolding bytes_of
bounds-out-at c =
    let o = c in
    let s = o.args.s.now in
    let out = o.args.out.now in
    omega (
      arith,
      c.write_marked-in-Reject.auto.out,
      room_for s o.args.statement o.args.at (length out) o.requires.0 o.requires.1.1
          (Reject c.in-Reject.locator) c.in-Reject.is,
    )

pub write_marked-requires-in-RejectFor : goal.write_marked-requires-in-RejectFor
unfolding bytes_of
write_marked-requires-in-RejectFor c =
    let o = c in
    let s = o.args.s.now in
    let out = o.args.out.now in
    omega (
      arith,
      room_for s o.args.statement o.args.at (length out) o.requires.0 o.requires.1.1 (RejectFor c.in-RejectFor.locator c.in-RejectFor.other)
          c.in-RejectFor.is,
    )

pub write_marked-requires-in-RejectFor-2 : goal.write_marked-requires-in-RejectFor-2
unfolding bytes_of
write_marked-requires-in-RejectFor-2 c =
    let o = c in
    let s = o.args.s.now in
    let out = o.args.out.now in
    omega (
      arith,
      c.write_marked-in-RejectFor.auto.out,
      room_for s o.args.statement o.args.at (length out) o.requires.0 o.requires.1.1
          (RejectFor c.in-RejectFor.locator c.in-RejectFor.other) c.in-RejectFor.is,
    )

pub write_range-requires : goal.write_range-requires
unfolding bytes_of
write_range-requires c =
    let o = c in
    let s = o.args.s.now in
    let out = o.args.out.now in
    room_for s o.args.statement o.args.at (length out) o.requires.0 o.requires.1.1 (VoteRange c.in-VoteRange.range) c.in-VoteRange.is

pub returns-in-Share : goal.returns-in-Share
unfolding as_statement
returns-in-Share c = rw c.in-Share.is c.write_share.ensures

pub returns-in-Accept : goal.returns-in-Accept
unfolding as_statement statement_bytes
returns-in-Accept c = rw c.in-Accept.is c.write_marked.ensures

pub returns-in-Reject : goal.returns-in-Reject
unfolding as_statement
returns-in-Reject c =
    let a = c.args in
    rw (c.in-Reject.is, c.write_marked-in-Reject.ensures)
    (reject_written a.out.now a.at c.in-Reject.locator)

pub returns-in-RejectFor : goal.returns-in-RejectFor
unfolding as_statement
returns-in-RejectFor c =
    let a = c.args in
    c.write_marked-in-RejectFor-2.ensures ∙ rw (c.in-RejectFor.is, c.write_marked-in-RejectFor.ensures)
    (reject_for_written a.out.now a.at c.in-RejectFor.locator c.in-RejectFor.other)

pub returns-in-VoteRange : goal.returns-in-VoteRange
unfolding as_statement
returns-in-VoteRange c = rw c.in-VoteRange.is c.write_range.ensures
