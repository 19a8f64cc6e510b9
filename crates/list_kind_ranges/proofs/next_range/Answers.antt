use mathlib.Core.Path.{◌≡◌, refl, sym, ap, ◌∙◌}
use mathlib.Core.Bool.{true, false}
use mathlib.Core.List.{[], Option-to_list}
use native.Mathlib.Omega.{arith}
use lib.ListN.{get_or}
use Rattle.base.proofs.Le.{bytes_of}
use Rattle.base.proofs.Places.{in_place}
use Rattle.record_spec.specs.Reference.{new_range}
use Rattle.record_spec.specs.Block.{is_share, voted_range}
use Rattle.record_spec.specs.Record.{block_in, no_statement}
use Rattle.types.specs.Values.{as_range}
use Rattle.record_cursor.specs.Cursor.{cursor_at}
use Rattle.record_cursor.specs.declared.StatementCursor.{StatementCursor}
use Rattle.list_block_spans.specs.Ranges.{reject_ranges}
use Rattle.list_block_spans.proofs.Joining.{voted_ranges}
use Rattle.list_block_spans.proofs.Fits.{vote_inside}
use Rattle.list_kind_ranges.proofs.Positions.{kind_inside}
use Rattle.list_kind_ranges.proofs.Next.{reject_next, vote_next, none_next, shares_next}
use Rattle.list_kind_ranges.proofs.next_range.Goals as goal
use Rattle.std.specs.Prelude.{None}

pub overflow_add-at : goal.overflow_add-at
unfolding cursor_at
overflow_add-at c = let o = c in
    let r = o.args.rec.now in
    let here = ap (λ (x : StatementCursor). x.at) o.requires.1.1.0 in
    omega (
      arith,
      here,
      kind_inside r (bytes_of r (λ j h. omega (arith, c.shared_slice_known-1.given j))) o.requires.0.0
          o.args.cursor.index o.requires.1.1.1,
      o.well_formed,
    )

pub returns-then-is_rejects : goal.returns-then-is_rejects
unfolding cursor_at
returns-then-is_rejects c = let o = c in
    let r = o.args.rec.now in
    let s = c.next_statement-found.ensures in
    reject_next r (bytes_of r (λ j h. omega (arith, c.shared_slice_known-1.given j))) o.requires.0.0
    o.args.cursor.index o.requires.1.1.1 c.rejected-vote.result o.args.cursor.at
    c.next_statement-found.result.next (ap (λ (x : StatementCursor). x.at) o.requires.1.1.0) s.1.0
    o.args.kind (sym c.is_rejects.ensures ∙ c.if-is_rejects.true)
    (c.rejected-vote.ensures r ∙ ap reject_ranges s.0)

pub skip_statements-next-requires : goal.skip_statements-next-requires
skip_statements-next-requires c = let p = c.requires in
    (p.0.0, (p.1.1.0, omega (arith, p.1.1.1)))

pub returns-then-is_share : goal.returns-then-is_share
unfolding as_range new_range
returns-then-is_share c = let o = c in
    let r = o.args.rec.now in
    let b = block_in r in
    let e : is_share (get_or b.statements o.args.cursor.index no_statement) ≡ true = rw
    (← c.next_statement-found.ensures.0)
    (sym (c.is_share.ensures r) ∙ c.if-is_share.true) in
    shares_next r (bytes_of r (λ j h. omega (arith, c.shared_slice_known-1.given j))) o.requires.0.0
    o.args.cursor.index o.requires.1.1.1 o.args.kind
    (sym c.is_rejects.ensures ∙ c.if-is_rejects.false) e _ c.skip_statements-next.result
    (rw o.requires.1.0) c.skip_statements-next.ensures

pub returns-then-is_shares : goal.returns-then-is_shares
unfolding cursor_at
returns-then-is_shares c = let o = c in
    let r = o.args.rec.now in
    let b = block_in r in
    let s = c.next_statement-found.ensures in
    let e : is_share (get_or b.statements o.args.cursor.index no_statement) ≡ false = rw (← s.0)
    (sym (c.is_share.ensures r) ∙ c.if-is_share.false) in
    none_next r (bytes_of r (λ j h. omega (arith, c.shared_slice_known-1.given j)))
    o.requires.0.0 o.args.cursor.index o.requires.1.1.1 None o.args.cursor.at
    c.next_statement-found.result.next
    (ap (λ (x : StatementCursor). x.at) o.requires.1.1.0) s.1.0 o.args.kind (sym c.is_shares.ensures ∙ c.if-is_shares.true) e refl

pub voted_range-vote-requires : goal.voted_range-vote-requires
voted_range-vote-requires c = let a = c.args in
    let b = block_in a.rec.now in
    let p = c.requires in
    vote_inside b p.0.1 a.rec.now [] _ (rw c.next_statement-found.ensures.0
    (in_place no_statement b.statements a.cursor.index p.1.1.1))

pub returns : goal.returns
unfolding cursor_at
returns c = let o = c in
    let r = o.args.rec.now in
    let b = block_in r in
    let s = c.next_statement-found.ensures in
    let e : is_share (get_or b.statements o.args.cursor.index no_statement) ≡ false = rw (← s.0)
    (sym (c.is_share.ensures r) ∙ c.if-is_share.false) in
    vote_next r (bytes_of r (λ j h. omega (
      arith,
      c.shared_slice_known-1.given
          j,
    ))) o.requires.0.0 o.args.cursor.index o.requires.1.1.1 c.voted_range-vote.result o.args.cursor.at
    c.next_statement-found.result.next
    (ap (λ (x : StatementCursor). x.at) o.requires.1.1.0) s.1.0 o.args.kind
    (sym c.is_rejects.ensures ∙ c.if-is_rejects.false)
    (sym c.is_shares.ensures ∙ c.if-is_shares.false) e
    (voted_ranges c.voted_range-vote.result ∙ ap Option-to_list (c.voted_range-vote.ensures r ∙ ap voted_range s.0))
