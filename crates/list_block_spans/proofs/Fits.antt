-- The votes of a store in order end at the last offset or before it, since 28 refuses accepts of it. Assumes nothing.
use mathlib.Core.Path.{◌≡◌, refl, ◌∙◌}
use mathlib.Core.Bool.{true}
use Prim.Native.Nat.{◌<◌}
use native.Mathlib.Omega.{arith}
use Rattle.base.specs.Lists.{◌∈◌}
use Rattle.base.specs.Le.{Bytes}
use Rattle.base.proofs.Le.{AllBytes}
use Rattle.committee.specs.Committee.{Committee}
use Rattle.record_spec.specs.Reference.{TransactionLocator}
use Rattle.record_spec.specs.Block.{Block, voted_range}
use Rattle.store_spec.specs.Store.{records_of, store_in_order}
use Rattle.store_spec.proofs.Store.{in_order_lem}
use Rattle.final_spec.specs.Voters.{votes_for, is_final}
use Rattle.final_spec.specs.Finality.{blocks_of}
use Rattle.final_spec.proofs.Votes.{spanned}
use Rattle.final_spec.proofs.Growing.{final_votes}
use Rattle.record_statement.specs.Values.{as_statement}
use Rattle.record_statement.specs.declared.BaseStatement.{BaseStatement}
use Rattle.record_statement.specs.declared.BaseStatement.TheVariants.{Share, Accept, Reject, RejectFor, VoteRange}
use Rattle.final_spec.proofs.Fits.{block_fits}
use Rattle.store_spec.proofs.Ends.{AcceptsLower, accepts_lower, vote_end, span_end}
use Rattle.record_statement_votes.specs.Votes.{EndsInside}
use Rattle.list_block_spans.specs.Joined.{VoteFits, VotesFit}

-- ---- the ends of votes

module _ (c : Committee) (s : Bytes) (bytes : AllBytes s) (o : store_in_order c s ≡ true) where
  lower : (b : Block) → b ∈ blocks_of s → AcceptsLower b
  unfolding blocks_of
  lower b m = accepts_lower c (records_of s) (in_order_lem c s o).accepted b m

  pub votes_fit : (b : Block) → b ∈ blocks_of s → VotesFit b
  unfolding VotesFit VoteFits
  votes_fit b m x k q e = vote_end b (block_fits s bytes b m) (lower b m) x k q e

  pub vote_offset : (b : Block) → b ∈ blocks_of s → (l : TransactionLocator) → votes_for b l ≡ true → l.offset < 18446744073709551615
  vote_offset b m l h =
      let p = spanned b l h in
      omega (arith, span_end b (block_fits s bytes b m) (lower b m) p.span p.stands, p.covering.below)

  pub final_offset : (l : TransactionLocator) → is_final c (blocks_of s) l ≡ true → l.offset < 18446744073709551615
  final_offset l h = let v = final_votes c (blocks_of s) l h in vote_offset v.block v.stands l v.votes

-- ---- a share's payload does not matter

voted_free : (s t : Bytes) (x : BaseStatement) → voted_range (as_statement s x) ≡ voted_range (as_statement t x)
unfolding as_statement voted_range
voted_free s t (Share a n) = refl
voted_free s t (Accept l) = refl
voted_free s t (Reject l) = refl
voted_free s t (RejectFor l m) = refl
voted_free s t (VoteRange q) = refl

pub vote_inside : (b : Block) → VotesFit b → (s t : Bytes) (x : BaseStatement) → as_statement s x ∈ b.statements → EndsInside (as_statement t x)
unfolding VotesFit VoteFits EndsInside
vote_inside b f s t x m q e h = omega (arith, f (as_statement s x) m q (voted_free s t x ∙ e), h)
