use native.Mathlib.Decide.{dec_lt}
use Rattle.committee_set.proofs.Sums.{members_known, members_unknown}
use Rattle.committee_set.specs.AuthoritySet.{member}
use lib.ListN.{length}
use native.Mathlib.Omega.{arith}
use Prim.Native.Nat.{ℕ, ◌+◌, ◌≤◌, ◌<◌}
use mathlib.Core.Bool.{false}
use mathlib.Core.Path.{◌≡◌, sym, ◌∙◌}
use Rattle.committee_aggregator.proofs.all_known.Goals as goal

pub loop-i-init : goal.loop-i-init
loop-i-init c = (omega arith, λ a h k. absurd (omega arith))

pub returns-then-contains : goal.returns-then-contains
returns-then-contains c =
    let start = c in
    let at = c.loop-i in
    sym (members_unknown start.args.stakes.now start.args.votes at.i at.invariant.0 c.loop-i-test.true
    (sym c.contains.ensures ∙ c.if-contains.true))

pub loop-i-preserved : goal.loop-i-preserved
loop-i-preserved c =
    let at = c.loop-i in
    (omega arith, λ a h k. each a h k (dec_lt a at.i))
  where
    each : (a : ℕ) → length c.args.stakes.now ≤ a → a < c.loop-i.i + 1 → Dec
        (a < c.loop-i.i)
        → member c.args.votes a ≡ false
    each a h k (yes l) = c.loop-i.invariant.1 a h l
    each a h k (no l) =
        let e : a ≡ c.loop-i.i = omega arith in
        rw e (sym c.contains.ensures ∙ c.if-contains.false)

pub returns : goal.returns
returns c =
    let start = c in
    let at = c.loop-i in
    let past = c.loop-i-test.false in
    sym (members_known start.args.stakes.now start.args.votes (λ a h k. at.invariant.1 a h (omega arith)))
