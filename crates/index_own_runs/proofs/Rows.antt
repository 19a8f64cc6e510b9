-- Rows that are apart, as runs of one voter: they ascend, and name the voter where a row covers. Assumes nothing.
use mathlib.Core.Path.{◌≡◌, refl, sym, ap, subst, ◌∙◌}
use mathlib.Core.Bool.{Bool, true, false, ◌||◌}
use mathlib.Core.List.{List, [], ◌∷◌, map}
use mathlib.Core.Option.{none, some, none-ne-some}
use Prim.Native.Nat.{ℕ, ◌*◌, ◌≤◌}
use native.Mathlib.Omega.{arith}
use lib.ListN.{length}
use lib.Seq.{take-length}
use Rattle.base.specs.Lists.{pick, any_of}
use Rattle.base.specs.Le.{Bytes}
use Rattle.base.proofs.Lists.{Every, and, none_of, Pairs, with_later, no_pairs, every, every_one}
use Rattle.committee_set.specs.AuthoritySet.{AuthoritySet, nobody, inserted, united}
use Rattle.committee_set.proofs.Words.{united_nobody, nobody_united}
use Rattle.record_spec.specs.Reference.{TransactionLocator, locator}
use Rattle.record_spec.specs.Block.{Statement, share, accept, reject, vote_range, Block, author, is_share, voted_range, spans}
use Rattle.record_spec.specs.Record.{block_in}
use Rattle.base.proofs.Le.{AllBytes}
use Rattle.record_spec.proofs.Records.{block_of_fits, block_of_lem}
use Rattle.record_spec.proofs.References.{Precedes, precedes}
use Rattle.record_spec.proofs.References as order
use Rattle.record_spec.proofs.Spans.{vote_span}
use Rattle.record_reference_bytes.specs.Step.{reference_at}
use Rattle.final_spec.specs.Voters.{own_vote}
use Rattle.list_block_spans.specs.Joined.{VoteFits, VotesFit}
use Rattle.list_row_sort.specs.Rows.{Row, rows_of, key_of}
use Rattle.list_range_rows.specs.Ranges.{row_range, row_covers, any_covers, ends_before, Apart, Proper}
use Rattle.list_own_ranges.specs.Own.{Recorded, OwnRanges}
use Rattle.list_kind_ranges.specs.declared.RangeKind.TheVariants.{Votes}
use Rattle.list_own_ranges.proofs.Said.{own_votes}
use Rattle.index_spec.specs.Runs.{Run, run, run_covers, votes_at, voters_in}
use Rattle.index_spec.specs.Walk.{Past, by_block, by_offset, Place, anywhere, beyond, At, runs_from}
use Rattle.index_spec.proofs.Chain.{Anything, Chain, end, link}
use Rattle.index_spec.proofs.Sets.{united_self, one_not_nobody}
use Rattle.index_own_runs.specs.Own.{EndsFit, Voting, row_run, OwnRuns}

-- ---- a record may be asked

votes_fit : (b : Block) → EndsFit (spans b) → VotesFit b
unfolding VotesFit VoteFits EndsFit spans voted_range is_share
votes_fit b h s m q e = h q (vote_span b.reference 0 q s e (not_share s e) b.statements m)
  where
    not_share : (x : Statement) → voted_range x ≡ some q → is_share x ≡ false
    not_share (share p) e = absurd (none-ne-some q e)
    not_share (accept l) e = refl
    not_share (reject l other) e = refl
    not_share (vote_range r) e = refl

-- a record stands in itself
pub recorded : (r : Bytes) → Voting r → Recorded r 0 r
recorded r v = record { formed = v.formed; fits = votes_fit (block_in r) v.ends; stands = take-length r }

-- at most 1,024 statements
pub few_statements_lem : (r : Bytes) → Voting r → AllBytes r → length (block_in r).statements ≤ 1024
few_statements_lem r v h = (block_of_fits r (block_in r) h (block_of_lem r v.formed)).few_statements

-- ---- rows as runs

module _ (s : Bytes) (v : AuthoritySet) where
  ends_past : (r q : Row) → Apart s r q → Past (reference_at s r.at) r.mark (reference_at s q.at) q.offset
  unfolding Apart ends_before key_of locator
  ends_past r q h = go (precedes (locator (reference_at s r.at) r.mark) (locator (reference_at s q.at) q.offset) h)
    where
      go : Precedes (locator (reference_at s r.at) r.mark) (locator (reference_at s q.at) q.offset) → Past (reference_at s r.at) r.mark
          (reference_at s q.at) q.offset
      go (order.by_block x) = by_block x
      go (order.by_offset x y) = by_offset x (omega arith)

  chain_rows : (v ≡ nobody → ⊥) → (p : Place) (rs : List Row) → Every (λ r. At p (reference_at s r.at) r.offset) rs → Every (Proper s) rs → Pairs
      (Apart s) rs
      → Chain Anything p (map (row_run s v) rs)
  unfolding row_run run
  chain_rows n p [] none_of none_of no_pairs = end
  chain_rows n p (r ∷ rs) (and a as') (and f fs) (with_later w ws) =
      link a (record { full = f.filled; voted = n }) tt
      (chain_rows n (beyond (reference_at s r.at) r.mark) rs (every (λ q h. ends_past r q h) rs w) fs ws)

  names_rows : (rs : List Row) (l : TransactionLocator) → voters_in (map (row_run s v) rs) l ≡ pick (any_covers s rs l) v nobody
  unfolding voters_in votes_at run_covers row_run run any_covers any_of row_covers row_range
  names_rows [] l = refl
  names_rows (r ∷ rs) l =
      ap (united (pick (row_covers s l r) v nobody)) (names_rows rs l)
      ∙ go (row_covers s l r) (any_covers s rs l)
    where
      go : (t u : Bool) → united (pick t v nobody) (pick u v nobody) ≡ pick (t || u) v nobody
      go true true = united_self v
      go true false = united_nobody v
      go false u = nobody_united (pick u v nobody)

-- what the rows of a record's votes are as runs
module _ (s : Bytes) (b : Block) (t u : List ℕ) (m : ℕ) (o : OwnRanges Votes none none s b t u m) where
  pub own_of : (ws : List ℕ) → 10 * m ≤ length ws → runs_from m ws ≡ map (row_run s (inserted nobody (author b))) (rows_of u m) → OwnRuns b ws m
  unfolding own_vote
  own_of ws h e =
      record {
        inside = h;
        chain = subst (Chain Anything anywhere) (sym e)
            (chain_rows s (inserted nobody (author b)) (one_not_nobody (author b)) anywhere (rows_of u m) (every_one (λ r. tt) (rows_of u m)) o.proper
            o.apart);
        names = λ l.
            ap (λ (xs : List Run). voters_in xs l) e
            ∙ names_rows s (inserted nobody (author b)) (rows_of u m) l
            ∙ ap (λ (t : Bool). pick t (inserted nobody (author b)) nobody) (own_votes s b t u m o l);
      }
