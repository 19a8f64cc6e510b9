-- The claims hold. Assumes nothing.
use mathlib.Core.Path.{◌≡◌, refl}
use Prim.Native.Nat.{◌*◌, ◌/◌}
use native.Mathlib.Omega.{arith}
use lib.Dec.{ltb, leb}
use borrow.Author.Tests.{lt-ltb, ltb-true, le-leb, leb-true}
use Rattle.base.proofs.Tests.{same_test}
use Rattle.committee.specs.Committee.{Stake, is_quorum, course_committee}
use Rattle.committee.specs.Claims.{Claims}
use Rattle.committee.proofs.Computing.{computing}

-- a product is passed exactly where the quotient is
over_third : (n s : Stake) → ltb n (3 * s) ≡ ltb (n / 3) s
over_third n s = same_test _ _ (λ e. let h = ltb-true n (3 * s) e in lt-ltb (n / 3) s (omega arith))
    (λ e. let h = ltb-true (n / 3) s e in lt-ltb n (3 * s) (omega arith))

course_quorum_lem : (s : Stake) → is_quorum course_committee s ≡ leb 12 s
unfolding computing
course_quorum_lem s = same_test _ _ (λ e. let h = ltb-true 34 (3 * s) e in le-leb 12 s (omega arith))
    (λ e. let h = leb-true 12 s e in lt-ltb 34 (3 * s) (omega arith))

pub claimed : Claims
unfolding computing
claimed = record { quorum = λ t s. over_third (2 * t) s; valid = λ t s. over_third t s; course_total = refl; course_quorum = course_quorum_lem }
