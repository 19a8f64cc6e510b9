-- The ranges of each kind: where they end, and that those of shares cover the shares. Assumes nothing.
use mathlib.Core.Path.{◌≡◌, refl, sym, ap, ap₂, ◌∙◌}
use mathlib.Core.Bool.{Bool, true, false, ◌&&◌, ◌||◌, and-false}
use mathlib.Core.List.{List, [], ◌∷◌, map, Option-to_list}
use Prim.Native.Nat.{ℕ, zero, suc, ◌+◌, ◌-◌, ◌≤◌, ◌<◌}
use native.Mathlib.Omega.{arith}
use native.Mathlib.Decide.{dec_le}
use lib.Dec.{leb}
use lib.ListN.{length, get_or, drop, get_elem?, length-map}
use borrow.Author.Tests.{le-leb, lt-leb}
use Rattle.base.specs.Lists.{pick, any_of, holds}
use Rattle.base.proofs.Lists.{any_append}
use Rattle.record_spec.specs.Reference.{BlockReference, TransactionLocator, locator, new_range, one_range, within, same_reference, covers}
use Rattle.record_spec.specs.Block.{Statement, share, accept, reject, vote_range, Block, is_share, is_share_at, voted_range, spans_from, spans}
use Rattle.record_spec.specs.Record.{no_statement}
use Rattle.record_spec.proofs.Ranges.{within_yes, within_no}
use Rattle.store_spec.specs.Shares.{is_share_of}
use Rattle.final_spec.specs.Voters.{votes_for}
use Rattle.record_shared_ranges.specs.Step.{is_of_kind, leading}
use Rattle.list_block_spans.specs.Joined.{joined_at, joined_spans}
use Rattle.list_block_spans.specs.Ranges.{ranges_at}
use Rattle.list_block_spans.proofs.Joining.{joined_votes}
use Rattle.list_block_spans.proofs.Rejecting.{ranges_end}
use Rattle.list_kind_ranges.specs.Kinds.{silent, sharing, kind_ranges_at, kind_ranges, any_span}
use Rattle.list_kind_ranges.specs.declared.RangeKind.{RangeKind}
use Rattle.list_kind_ranges.specs.declared.RangeKind.TheVariants.{Votes, Rejects, Shares}

pub kind_end : (kind : RangeKind) (b : Block) (i : ℕ) → length b.statements ≤ i → kind_ranges_at kind b i ≡ []
unfolding kind_ranges_at sharing
kind_end Votes b i h = ranges_end false b i h
kind_end Rejects b i h = ranges_end true b i h
kind_end Shares b i h = ranges_end false (sharing b) i (omega (arith, length-map b.statements silent))

-- ---- a block of which only the shares speak

pub silent_share : (s : Statement) → is_share (silent s) ≡ is_share s
unfolding silent is_share
silent_share (share v) = refl
silent_share (accept l) = refl
silent_share (reject l o) = refl
silent_share (vote_range q) = refl

pub silent_none : (s : Statement) → is_share s ≡ false → Option-to_list (voted_range (silent s)) ≡ []
unfolding silent is_share voted_range Option-to_list
silent_none (share v) h = refl
silent_none (accept l) h = refl
silent_none (reject l o) h = refl
silent_none (vote_range q) h = refl

drop_silent : (i : ℕ) (ss : List Statement) → drop i (map silent ss) ≡ map silent (drop i ss)
drop_silent zero ss = refl
drop_silent (suc i) [] = refl
drop_silent (suc i) (s ∷ ss) = drop_silent i ss

leading_silent : (ss : List Statement) → leading true (map silent ss) ≡ leading true ss
unfolding leading is_of_kind
leading_silent [] = refl
leading_silent (s ∷ ss) = rw (silent_share s, leading_silent ss)

pub leading_sharing : (b : Block) (i : ℕ) → leading true (drop i (sharing b).statements) ≡ leading true (drop i b.statements)
unfolding sharing
leading_sharing b i = ap (leading true) (drop_silent i b.statements) ∙ leading_silent (drop i b.statements)

pub long_sharing : (b : Block) → length (sharing b).statements ≡ length b.statements
unfolding sharing
long_sharing b = length-map b.statements silent

pub sharing_at : (b : Block) (i : ℕ) → i < length b.statements → get_or (sharing b).statements i no_statement ≡ silent (get_or b.statements i no_statement)
unfolding sharing
sharing_at b i h = go b.statements i h
  where
    go : (ss : List Statement) (j : ℕ) → j < length ss → get_or (map silent ss) j no_statement ≡ silent (get_or ss j no_statement)
    go [] j k = absurd (omega arith)
    go (s ∷ ss) zero k = refl
    go (s ∷ ss) (suc j) k = go ss j (omega arith)

-- ---- what they cover

module _ (l : TransactionLocator) (r : BlockReference) where
  abbrev same : Bool
  same = same_reference r l.block

  at_one : (o : ℕ) → covers (one_range (locator r o)) l ≡ same && within o (o + 1) l.offset
  unfolding one_range new_range locator covers
  at_one o = refl

  -- the statements from offset o on have a share there
  there : ℕ → List Statement → Bool
  there o ss = leb o l.offset && holds is_share (get_elem? ss (l.offset - o))

  step : (o : ℕ) (s : Statement) (ss : List Statement) → there o (s ∷ ss) ≡ (is_share s && within o (o + 1) l.offset) || there (o + 1) ss
  unfolding there holds
  step o s ss = go (dec_le o l.offset) (dec_le (o + 1) l.offset)
    where
      go : Dec (o ≤ l.offset) → Dec (o + 1 ≤ l.offset) → leb o l.offset && holds is_share (get_elem? (s ∷ ss) (l.offset - o)) ≡
          (is_share s && within o (o + 1) l.offset) || (leb (o + 1) l.offset && holds is_share (get_elem? ss (l.offset - (o + 1))))
      go (yes h) (yes k) =
          let z : l.offset - o ≡ suc (l.offset - (o + 1)) = omega arith in
          rw (le-leb o l.offset h, le-leb (o + 1) l.offset k, within_no o (o + 1) l.offset (λ u v. omega arith), and-false (is_share s), z)
      go (yes h) (no k) =
          let z : l.offset - o ≡ 0 = omega arith in
          rw (le-leb o l.offset h, lt-leb (o + 1) l.offset (omega arith), within_yes o (o + 1) l.offset h (omega arith), z) (last (is_share s))
        where
          last : (t : Bool) → t ≡ (t && true) || false
          last true = refl
          last false = refl
      go (no h) k = rw (
        lt-leb o l.offset (omega arith),
        lt-leb (o + 1) l.offset (omega arith),
        within_no o (o + 1) l.offset (λ u v. omega arith),
        and-false (is_share s),
      )

  spans_there : (o : ℕ) (ss : List Statement) → any_of (λ q. covers q l) (spans_from r o (map silent ss)) ≡ same && there o ss
  unfolding spans_from any_of there holds
  spans_there o [] = sym (ap (λ (t : Bool). same && t) (and-false (leb o l.offset)) ∙ and-false same)
  spans_there o (s ∷ ss) =
      any_append (λ q. covers q l) (pick (is_share (silent s)) (one_range (locator r o) ∷ []) (Option-to_list (voted_range (silent s))))
      (spans_from r (o + 1) (map silent ss))
      ∙ ap₂ {C = Bool} (λ t u. t || u) (first (is_share s) refl) (spans_there (o + 1) ss)
      ∙ both same (is_share s && within o (o + 1) l.offset) (there (o + 1) ss)
      ∙ ap (λ (t : Bool). same && t) (sym (step o s ss))
    where
      both : (t u v : Bool) → (t && u) || (t && v) ≡ t && (u || v)
      both true u v = refl
      both false u v = refl

      first : (t : Bool) → is_share s ≡ t → any_of (λ q. covers q l)
          (pick (is_share (silent s)) (one_range (locator r o) ∷ []) (Option-to_list (voted_range (silent s)))) ≡ same && (t && within o (o + 1) l.offset)
      first true e = rw (silent_share s, e, at_one o) (alone (same && within o (o + 1) l.offset))
        where
          alone : (t : Bool) → t || false ≡ t
          alone true = refl
          alone false = refl
      first false e = rw (silent_share s, e, silent_none s e) (sym (and-false same))

sharing_votes : (b : Block) (l : TransactionLocator) → votes_for (sharing b) l ≡ is_share_of b l
unfolding votes_for spans sharing there is_share_of is_share_at
sharing_votes b l =
    let z : l.offset - 0 ≡ l.offset = omega arith in
    spans_there l b.reference 0 b.statements ∙ rw (le-leb 0 l.offset (omega arith), z)

pub shares_cover : (b : Block) (l : TransactionLocator) → any_span (kind_ranges Shares b) l ≡ is_share_of b l
unfolding kind_ranges kind_ranges_at ranges_at joined_at joined_spans
shares_cover b l = joined_votes (sharing b) l ∙ sharing_votes b l
