use mathlib.Core.Path.{sym}
use lib.ListN.{get_or-eq_default}
use native.Mathlib.Omega.{arith}
use Rattle.listing_input.proofs.member_count.Goals as goal

pub returns-then-head-eq0 : goal.returns-then-head-eq0
returns-then-head-eq0 c = sym (get_or-eq_default c.args.head.now 0 {n = 0} (omega arith))
