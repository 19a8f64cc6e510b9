-- The votes of an accepted block end at the last offset or before it, since 28 refuses accepts of it. Assumes nothing.
use mathlib.Core.Path.{◌≡◌}
use mathlib.Core.Bool.{true}
use mathlib.Core.List.{List, [], ◌∷◌, map, flatten}
use mathlib.Core.Option.{some, some-injective, none-ne-some}
use Prim.Native.Nat.{◌≤◌}
use native.Mathlib.Omega.{arith}
use lib.Dec.{eqb}
use borrow.Author.Tests.{eqb-false}
use Rattle.base.specs.Lists.{◌∈◌, here, there}
use Rattle.base.specs.Checks.{◌⇒◌, passes}
use Rattle.base.proofs.Tests.{and_left, and_right}
use Rattle.base.proofs.Lists.{every_in}
use Rattle.base.proofs.Members.{in_empty, in_left, in_right, in_flatten, in_map}
use Rattle.base.proofs.Checks.{passes_none}
use Rattle.committee.specs.Committee.{Committee}
use Rattle.record_spec.specs.Reference.{TransactionLocator, TransactionLocatorRange, locator, new_range, one_range}
use Rattle.record_spec.specs.Block.{Statement, share, accept, reject, vote_range, Block, voted_range, spans}
use Rattle.record_spec.specs.Verify.{head_checks, include_checks, statement_checks, body_checks}
use Rattle.record_spec.proofs.Spans.{Span, of_share, of_vote, span_of, share_index}
use Rattle.record_spec.proofs.Records.{StatementFits, BlockFits}
use Rattle.store_spec.specs.Layout.{Record}
use Rattle.store_spec.specs.Accept.{block_checks, all_accepted}
use Rattle.store_spec.proofs.Accepted.{blocks}

-- no accept of a block is of the last offset
abbrev pub AcceptsLower : Block → Type 0
AcceptsLower b = (l : TransactionLocator) → accept l ∈ b.statements → l.offset ≡ 18446744073709551615 → ⊥

-- 28
pub accept_lower : (c : Committee) (rs : List Record) (b : Block) → passes (block_checks c rs b) ≡ true → AcceptsLower b
unfolding block_checks body_checks statement_checks
accept_lower c rs b h l m =
    eqb-false l.offset 18446744073709551615
    (passes_none (block_checks c rs b) h (eqb l.offset 18446744073709551615 ⇒ 28)
    (in_right (head_checks c b) (there (in_left _ (in_right (flatten (map (include_checks c b) b.includes))
    (in_left _ (in_flatten here (in_map statement_checks m))))))))

pub accepts_lower : (c : Committee) (rs : List Record) → all_accepted c rs ≡ true → (b : Block) → b ∈ blocks rs → AcceptsLower b
unfolding all_accepted
accepts_lower c [] h b m l k = absurd (in_empty m)
accepts_lower c (r ∷ rs) h b here l k = accept_lower c rs b (and_left _ _ h) l k
accepts_lower c (r ∷ rs) h b (there m) l k = accepts_lower c rs (and_right (passes (block_checks c rs r.block)) _ h) b m l k

-- ---- the ends of votes

module _ (b : Block) (f : BlockFits b) (lower : AcceptsLower b) where
  one_end : (x : Statement) → x ∈ b.statements → StatementFits x → (q : TransactionLocatorRange) → voted_range x ≡ some q → q.end ≤ 18446744073709551615
  unfolding voted_range one_range new_range
  one_end (share p) m k q e = absurd (none-ne-some q e)
  one_end (accept l) m k q e = rw (← some-injective _ _ e) (omega (arith, k.offset, lower l m))
  one_end (reject l other) m k q e = absurd (none-ne-some q e)
  one_end (vote_range r) m k q e = rw (← some-injective _ _ e) (omega (arith, k.end))

  pub vote_end : (x : Statement) → x ∈ b.statements → (q : TransactionLocatorRange) → voted_range x ≡ some q → q.end ≤ 18446744073709551615
  vote_end x m q e = one_end x m (every_in b.statements x f.statements m) q e

  pub span_end : (q : TransactionLocatorRange) → q ∈ spans b → q.end ≤ 18446744073709551615
  unfolding spans one_range new_range locator
  span_end q i = go (span_of b.reference 0 b.statements q i)
    where
      go : Span b.reference 0 b.statements q → q.end ≤ 18446744073709551615
      go (of_share k h e) = rw e (omega (arith, share_index b.statements k h, f.few_statements))
      go (of_vote x n e) = vote_end x n q e
