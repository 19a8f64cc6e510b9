use mathlib.Core.Path.{◌∙◌}
use Rattle.final_block_votes.proofs.Sorting.{some_committee}
use Rattle.list_marked.specs.Marked.{CertifiedAll, ShownAll}
use Rattle.list_marked.proofs.Showing.{few_hidden, not_shown, is_shown, may_not, may_be, quorum_told}
use Rattle.list_marked.proofs.shown_marks.Goals as goal

pub returns-then-not-may_show : goal.returns-then-not-may_show
unfolding ShownAll
returns-then-not-may_show c = let a = c.args in
    let p = c.requires in
    λ l right. may_not a.wanted a.stakes.now a.store.now a.order.now a.marks.now (some_committee p.sorted) p.few _
    c.may_show.ensures l right (c.if-not-may_show.true)

pub marked_authors-authors-requires : goal.marked_authors-authors-requires
marked_authors-authors-requires c = let p = c.requires in
    (some_committee p.sorted, (p.few, p.marked))

pub returns-then-not-is_quorum : goal.returns-then-not-is_quorum
unfolding ShownAll
returns-then-not-is_quorum c = let a = c.args in
    let p = c.requires in
    few_hidden a.wanted a.stakes.now a.store.now a.order.now a.marks.now (some_committee p.sorted) p.few
    c.marked_authors-authors.result c.marked_authors-authors.ensures
    (quorum_told a.stakes.now a.total.0 _ c.marked_authors-authors.result _ p.whole c.stake_of.ensures
    c.is_quorum.ensures ∙ c.if-not-is_quorum.true)

pub stake_of-requires-2 : goal.stake_of-requires-2
stake_of-requires-2 c = c.requires.sorted.sound

pub returns-then-not-is_quorum-2 : goal.returns-then-not-is_quorum-2
unfolding ShownAll
returns-then-not-is_quorum-2 c = let a = c.args in
    let p = c.requires in
    λ l right. not_shown a.wanted a.stakes.now a.store.now a.order.now a.marks.now (some_committee p.sorted) p.few _
    c.certify-found.result c.certify-found.ensures l right
    (quorum_told a.stakes.now a.total.0 _ c.certify-found.result.authors _ p.whole
    c.stake_of-2.ensures c.is_quorum-2.ensures ∙ c.if-not-is_quorum-2.true)

pub returns : goal.returns
unfolding ShownAll CertifiedAll
returns c = let a = c.args in
    let p = c.requires in
    λ l right. (
      is_shown a.wanted a.stakes.now a.store.now a.order.now a.marks.now (some_committee p.sorted) p.few _
          c.certify-found.result c.certify-found.ensures l right
          (may_be a.wanted a.stakes.now a.store.now a.order.now a.marks.now (some_committee p.sorted) p.few _
          c.may_show.ensures l right
          (c.if-not-may_show.false))
          (quorum_told a.stakes.now a.total.0 _ c.certify-found.result.authors _ p.whole
          c.stake_of-2.ensures c.is_quorum-2.ensures ∙ c.if-not-is_quorum-2.false),
      c.certify-found.ensures l right,
    )
