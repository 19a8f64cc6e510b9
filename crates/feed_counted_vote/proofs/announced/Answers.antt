use Rattle.feed_events.proofs.Announced.{stated_none}
use Rattle.feed_counted_vote.proofs.announced.Goals as goal

pub returns-then-not-telling : goal.returns-then-not-telling
returns-then-not-telling c = stated_none _ _ _ (rw (c.if-not-telling.true))

pub announce-requires : goal.announce-requires
announce-requires c = let o = c in
    record { stored = o.requires.stored; table = o.requires.table; room = o.requires.room (c.if-not-telling.false) }

pub returns : goal.returns
returns c = rw (c.if-not-telling.false) c.announce.ensures
