use Rattle.base.proofs.Tests.{not_both}
use Rattle.committee.proofs.Answers.{taken_sound, broken_sound}
use Rattle.store_order.proofs.all_accepted.Goals as goal

pub returns-in_default : goal.returns-in_default
returns-in_default c =
    let m = c in
    let o = m in
    let k = o.args.stakes.now in
    absurd (not_both (broken_sound k _ (rw c.in_default.is at m.new_committee.ensures)) o.requires.0)

pub accepted_in_turn-requires : goal.accepted_in_turn-requires
accepted_in_turn-requires c =
    let m = c in
    let o = m in
    let k = o.args.stakes.now in
    ((o.requires.0, (taken_sound k c.in-Ok.total (rw c.in-Ok.is at m.new_committee.ensures)).1), o.requires.1)

pub returns : goal.returns
returns c = c.accepted_in_turn.ensures
