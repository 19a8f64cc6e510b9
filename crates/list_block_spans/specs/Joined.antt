-- The ranges for which a block votes, with neighbouring shares in one. Assumes nothing: these are definitions.
use Rattle.std.specs.Prelude.{ℕ, ◌+◌, ◌≤◌, ◌≡◌, Bool, true, false, drop}
use mathlib.Core.List.{List, [], ◌∷◌, ◌++◌, Option-to_list}
use Rattle.std.proofs.Math.Option.{some}
use Rattle.base.specs.Lists.{pick, ◌∈◌}
use Rattle.record_spec.specs.Reference.{BlockReference, TransactionLocatorRange, new_range}
use Rattle.record_spec.specs.Block.{Statement, Block, is_share, voted_range}

unfoldable pub begins_share : List Statement → Bool
begins_share [] = false
begins_share (s ∷ ss) = is_share s

-- a share at offset o, before a run that it lengthens or before something else
unfoldable pub lengthened : BlockReference → ℕ → Bool → List TransactionLocatorRange → List TransactionLocatorRange
lengthened r o true [] = new_range r o (o + 1) ∷ []
lengthened r o true (q ∷ qs) = new_range r o q.end ∷ qs
lengthened r o false qs = new_range r o (o + 1) ∷ qs

-- the locators for which the statements from offset o on vote: as `spans_from`, but shares in a row are one range
unfoldable pub joined_from : BlockReference → ℕ → List Statement → List TransactionLocatorRange
joined_from r o [] = []
joined_from r o (s ∷ ss) =
    pick (is_share s)
    (lengthened r o (begins_share ss) (joined_from r (o + 1) ss))
    (Option-to_list (voted_range s) ++ joined_from r (o + 1) ss)

-- those of the statements from index i on
unfoldable pub joined_at : Block → ℕ → List TransactionLocatorRange
joined_at b i = joined_from b.reference i (drop i b.statements)

unfoldable pub joined_spans : Block → List TransactionLocatorRange
joined_spans b = joined_from b.reference 0 b.statements

-- no vote reaches past the last offset
unfoldable pub VoteFits : Statement → Type 0
VoteFits s = (q : TransactionLocatorRange) → voted_range s ≡ some q → q.end ≤ 18446744073709551615

unfoldable pub VotesFit : Block → Type 0
VotesFit b = (s : Statement) → s ∈ b.statements → VoteFits s
