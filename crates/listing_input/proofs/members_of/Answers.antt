use mathlib.Core.Path.{◌≡◌, sym, ap, ◌∙◌}
use lib.ListN.{length, take}
use lib.Seq.{length-take-le, take_at}
use native.Mathlib.Omega.{arith}
use Rattle.base.specs.Checks.{checked}
use Rattle.committee.specs.Committee.{Committee, committee_checks}
use Rattle.listing_input.proofs.members_of.Goals as goal

pub slice_bounds-words_of-end-2 : goal.slice_bounds-words_of-end-2
slice_bounds-words_of-end-2 c = sym (length-take-le c.args.count c.args.stakes.now (omega arith))

pub returns : goal.returns
returns c =
    let start = c.args in
    let n = start.count in
    let filled = c.words_of in
    let t = c.checked_members.ensures in
    let e : length (take n start.stakes.now) ≡ n = length-take-le n start.stakes.now (omega arith) in
    (t.0, t.1 ∙ ap (λ (m : Committee). checked (committee_checks m) m) (take_at filled.new.words _ n (filled.auto.words ∙ e) ∙ filled.ensures ∙ (rw e)))
