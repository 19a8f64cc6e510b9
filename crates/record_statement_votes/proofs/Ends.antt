-- Where what a statement votes for ends. Assumes nothing.
use mathlib.Core.Path.{◌≡◌, ap}
use mathlib.Core.Bool.{true}
use mathlib.Core.Option.{none-ne-some, some-injective}
use native.Mathlib.Omega.{arith}
use borrow.Author.Tests.{eqb-false, leb-false}
use Rattle.base.specs.Checks.{passes}
use Rattle.base.proofs.Checks.{passes_first, passes_others}
use Rattle.record_spec.specs.Reference.{TransactionLocatorRange, max_len, new_range, one_range}
use Rattle.record_spec.specs.Block.{Statement, share, accept, reject, vote_range, voted_range}
use Rattle.record_spec.specs.Verify.{statement_checks}
use Rattle.record_statement_votes.specs.Votes.{EndsInside}

pub checked_inside : (s : Statement) → passes (statement_checks s) ≡ true → EndsInside s
unfolding EndsInside voted_range statement_checks one_range new_range
checked_inside (share payload) p q e h = absurd (none-ne-some q e)
checked_inside (accept l) p q e h =
    let n = eqb-false l.offset 18446744073709551615 (passes_first _ _ p) in
    n (omega (arith, ap (λ (r : TransactionLocatorRange). r.end) (some-injective _ _ e), h))
checked_inside (reject l other) p q e h = absurd (none-ne-some q e)
checked_inside (vote_range r) p q e h =
    omega (
      arith,
      leb-false max_len r.end (passes_first _ _ (passes_others _ _ p)),
      ap (λ (r : TransactionLocatorRange). r.end)
          (some-injective _ _ e),
      h,
    )
