-- What the statements at a place vote for, or reject, with the position of its reference. Assumes nothing.
use mathlib.Core.Path.{◌≡◌, sym, ap, subst, ◌∙◌}
use mathlib.Core.Bool.{true, false, true≢false}
use mathlib.Core.List.{List, [], ◌∷◌, Option-to_list}
use Prim.Native.Nat.{ℕ, ◌+◌, ◌≤◌, ◌<◌}
use native.Mathlib.Omega.{arith}
use lib.ListN.{length, get_or, drop}
use Rattle.base.specs.Le.{Bytes}
use Rattle.base.proofs.Le.{AllBytes}
use Rattle.base.proofs.Lists.{none_of, and}
use Rattle.record_spec.specs.Reference.{TransactionLocatorRange, new_range}
use Rattle.record_spec.specs.Block.{Statement, Block, is_share, voted_range}
use Rattle.record_spec.specs.Record.{well_formed, block_in, no_statement, statement_start}
use Rattle.types.specs.Values.{as_range}
use Rattle.types.specs.declared.TransactionLocatorRange as ranges
use Rattle.record_cursor.specs.Cursor.{cursor_at}
use Rattle.record_cursor.specs.declared.StatementCursor.{StatementCursor}
use Rattle.record_shared_ranges.specs.Step.{leading}
use Rattle.list_block_spans.specs.Answers.{voted_by, OnwardIn}
use Rattle.list_block_spans.specs.Ranges.{reject_ranges, ranges_at}
use Rattle.list_block_spans.proofs.Joining.{run_told, vote_told}
use Rattle.list_block_spans.proofs.Rejecting.{reject_told}
use Rattle.list_kind_ranges.specs.Kinds.{is_rejects, is_shares, sharing, kind_ranges_at}
use Rattle.list_kind_ranges.specs.declared.RangeKind.{RangeKind}
use Rattle.list_kind_ranges.specs.declared.RangeKind.TheVariants.{Votes, Rejects, Shares}
use Rattle.list_kind_ranges.specs.Next.{StandsAt, AllStand, NextIn}
use Rattle.list_kind_ranges.proofs.Sharing.{silent_share, silent_none, leading_sharing, long_sharing, sharing_at}
use Rattle.list_kind_ranges.proofs.Positions.{kind_inside, votes_stand, rejects_stand, own_stands}
use Rattle.std.specs.Prelude.{None, Some, Option}

-- as many statements
own_onward : (b : Block) (i : ℕ) (r : Bytes) (next : StatementCursor) → OnwardIn (sharing b) r i next → OnwardIn b r i next
unfolding OnwardIn
own_onward b i r next o = (o.0, (omega (arith, o.1.0, long_sharing b), o.1.1))

module _ (r : Bytes) (bytes : AllBytes r) (well : well_formed r ≡ true) (i : ℕ) (h : i < length (block_in r).statements) where
  abbrev st : Statement
  st = get_or (block_in r).statements i no_statement

  module _ (vote : Option ranges.TransactionLocatorRange) (at : ℕ) (next : StatementCursor) (here : at ≡ statement_start r i)
      (onward : next ≡ cursor_at r (i + 1)) where
    inside : at + 1 ≤ length r
    inside = omega (arith, kind_inside r bytes well i h)

    placed : (qs : List TransactionLocatorRange) → voted_by vote ≡ qs → AllStand r (statement_start r i + 1) qs → AllStand r (at + 1) (voted_by vote)
    placed qs e a = rw (e, here) a

    pub reject_next : (kind : RangeKind) → is_rejects kind ≡ true → voted_by vote ≡ reject_ranges st → NextIn kind r i
        (record { vote = vote; at = at + 1; next = next })
    unfolding is_rejects kind_ranges_at
    reject_next Votes t v = absurd (true≢false (sym t))
    reject_next Shares t v = absurd (true≢false (sym t))
    reject_next Rejects t v =
        let told = reject_told (block_in r) i h vote v r next onward in
        record { are = told.0; onward = told.1; inside = inside; stands = placed _ v (rejects_stand r bytes well i h) }

    pub vote_next : (kind : RangeKind) → is_rejects kind ≡ false → is_shares kind ≡ false → is_share st ≡ false → voted_by vote
        ≡ Option-to_list (voted_range st) →
        NextIn kind r i (record { vote = vote; at = at + 1; next = next })
    unfolding is_rejects is_shares kind_ranges_at ranges_at
    vote_next Rejects t u e v = absurd (true≢false t)
    vote_next Shares t u e v = absurd (true≢false u)
    vote_next Votes t u e v =
        let told = vote_told (block_in r) i h e vote v r next onward in
        record { are = told.0; onward = told.1; inside = inside; stands = placed _ v (votes_stand r bytes well i h) }

    -- a statement that is no share, asked for shares
    pub none_next : (kind : RangeKind) → is_shares kind ≡ true → is_share st ≡ false → vote ≡ None → NextIn kind r i
        (record { vote = vote; at = at + 1; next = next })
    unfolding is_shares kind_ranges_at ranges_at voted_by AllStand sharing
    none_next Votes t e v = absurd (true≢false (sym t))
    none_next Rejects t e v = absurd (true≢false (sym t))
    none_next Shares t e v =
        let b = block_in r in
        let at_i = sharing_at b i h in
        let told = vote_told (sharing b) i (omega (arith, long_sharing b)) (ap is_share at_i ∙ silent_share st ∙ e) vote
        (ap voted_by v ∙ sym (ap (λ (x : Statement). Option-to_list (voted_range x)) at_i ∙ silent_none st e)) r next onward in
        record { are = told.0; onward = own_onward b i r next told.1; inside = inside; stands = rw v none_of }

  pub shares_next : (kind : RangeKind) → is_rejects kind ≡ false → is_share st ≡ true → (q : ranges.TransactionLocatorRange) (next : StatementCursor) → as_range
      q ≡ new_range (block_in r).reference i next.index
      → next ≡ cursor_at r (i + leading true (drop i (block_in r).statements)) → NextIn kind r i (record { vote = Some q; at = 0; next = next })
  unfolding is_rejects kind_ranges_at ranges_at voted_by AllStand new_range sharing
  shares_next kind t e q next v onward = go kind t
    where
      stands : AllStand r 0 (as_range q ∷ [])
      stands = and (subst (λ (x : TransactionLocatorRange). StandsAt r 0 x.block) (sym v) (own_stands r well)) none_of

      go : (kind : RangeKind) → is_rejects kind ≡ false → NextIn kind r i (record { vote = Some q; at = 0; next = next })
      go Rejects t = absurd (true≢false t)
      go Votes t =
          let told = run_told (block_in r) i h e r next onward in
          record { are = rw v told.0; onward = told.1; inside = omega arith; stands = stands }
      go Shares t =
          let b = block_in r in
          let told = run_told (sharing b) i (omega (arith, long_sharing b)) (ap is_share (sharing_at b i h) ∙ silent_share st ∙ e) r next
          (onward ∙ ap (λ (n : ℕ). cursor_at r (i + n)) (sym (leading_sharing b i))) in
          record { are = rw v told.0; onward = own_onward b i r next told.1; inside = omega arith; stands = stands }
