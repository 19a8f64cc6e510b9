-- The votes of an accepted block: their ends are offsets, and their references fit. Assumes nothing.
use mathlib.Core.Path.{◌≡◌, sym, subst}
use mathlib.Core.Bool.{true}
use mathlib.Core.List.{List}
use mathlib.Core.Option.{some, some-injective, none-ne-some}
use Rattle.base.specs.Lists.{◌∈◌}
use Rattle.base.specs.Checks.{passes}
use Rattle.base.proofs.Lists.{every_in}
use Rattle.committee.specs.Committee.{Committee}
use Rattle.record_spec.specs.Reference.{TransactionLocatorRange, locator, new_range, one_range}
use Rattle.record_spec.specs.Block.{Statement, share, accept, reject, vote_range, Block, voted_range, spans}
use Rattle.record_spec.proofs.Spans.{Span, of_share, of_vote, span_of}
use Rattle.record_spec.proofs.Records.{ReferenceFits, StatementFits, BlockFits}
use Rattle.store_spec.specs.Layout.{Record}
use Rattle.store_spec.specs.Accept.{block_checks}
use Rattle.index_own_runs.specs.Own.{EndsFit}
use Rattle.store_spec.proofs.Ends.{accept_lower, span_end}

module _ (b : Block) (f : BlockFits b) where
  voted_fits : (x : Statement) → StatementFits x → (q : TransactionLocatorRange) → voted_range x ≡ some q → ReferenceFits q.block
  unfolding voted_range one_range new_range
  voted_fits (share p) k q e = absurd (none-ne-some q e)
  voted_fits (accept l) k q e = subst (λ (z : TransactionLocatorRange). ReferenceFits z.block) (some-injective _ _ e) k.block
  voted_fits (reject l other) k q e = absurd (none-ne-some q e)
  voted_fits (vote_range r) k q e = subst (λ (z : TransactionLocatorRange). ReferenceFits z.block) (some-injective _ _ e) k.block

  pub span_fits : (q : TransactionLocatorRange) → q ∈ spans b → ReferenceFits q.block
  unfolding spans one_range new_range locator
  span_fits q m = go (span_of b.reference 0 b.statements q m)
    where
      go : Span b.reference 0 b.statements q → ReferenceFits q.block
      go (of_share k h e) = subst (λ (z : TransactionLocatorRange). ReferenceFits z.block) (sym e) f.reference
      go (of_vote x n e) = voted_fits x (every_in b.statements x f.statements n) q e

  module _ (c : Committee) (rs : List Record) (h : passes (block_checks c rs b) ≡ true) where
    pub ends_fit : EndsFit (spans b)
    unfolding EndsFit
    ends_fit q m = span_end b f (accept_lower c rs b h) q m
