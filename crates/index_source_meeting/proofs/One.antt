-- A run against one source that has its offsets or begins past it. Assumes nothing.
use mathlib.Core.Path.{◌≡◌, refl, sym, subst, ◌∙◌}
use mathlib.Core.Bool.{Bool, true, false}
use mathlib.Core.List.{List, [], ◌∷◌}
use Prim.Native.Nat.{ℕ, ◌+◌, ◌-◌, ◌<◌}
use native.Mathlib.Omega.{arith}
use native.Mathlib.Decide.{ℕ_discrete}
use lib.ListN.{get_or, drop}
use lib.Seq.{get_or-drop}
use Rattle.base.specs.Lists.{pick}
use Rattle.base.proofs.Tests.{not_both}
use Rattle.committee_set.specs.AuthoritySet.{nobody}
use Rattle.record_spec.specs.Reference.{BlockReference, TransactionLocator, locator}
use Rattle.index_spec.specs.Runs.{Run, voters_in, touches}
use Rattle.index_spec.specs.Walk.{Past, by_block, by_offset, anywhere, beyond, run_from, runs_from}
use Rattle.index_spec.proofs.Chain.{past_trans, touching, touched, Anything, Chain, end, link, past_head, chain_from_lem, nobody_before, at_head}
use Rattle.index_spec.proofs.Chain.{passed_out}
use Rattle.index_pieces.proofs.Cursors.{next}
use Rattle.index_two_runs.specs.Two.{SameOffsets, after_votes}
use Rattle.index_source_meeting.specs.Source.{MetBy}

-- the voters of a run, from its words
pub votes_read : (ws : List ℕ) (at : ℕ) → record { low = get_or ws (at + 8) 0; high = get_or ws (at + 9) 0 } ≡ (run_from (drop at ws)).votes
unfolding run_from
votes_read ws at =
    let a = sym (get_or-drop at ws 8 0) in
    let b = sym (get_or-drop at ws 9 0) in
    λ i. record { low = a i; high = b i }

-- ---- at the end of a run

pub after_chain : (x : Run) (zs : List Run) → Chain Anything (beyond x.reference x.end) zs → voters_in zs (locator x.reference x.end) ≡
    after_votes x zs
unfolding after_votes voters_in locator
after_chain x [] end = refl
after_chain x (z ∷ zs) (link a g d h) = go (touches x z) refl
  where
    later : touches x z ≡ false → Past x.reference x.end z.reference z.start → Past x.reference (x.end + 1) z.reference z.start
    later t (by_block k) = by_block k
    later t (by_offset e m) = split (ℕ_discrete x.end z.start)
      where
        split : Dec (x.end ≡ z.start) → Past x.reference (x.end + 1) z.reference z.start
        split (yes k) = absurd (not_both (touching x z e k) t)
        split (no k) = by_offset e (omega arith)

    go : (t : Bool) → touches x z ≡ t → voters_in (z ∷ zs) (locator x.reference x.end) ≡ pick t z.votes nobody
    go true t =
        let e = touched x z t in
        at_head z zs h (locator x.reference x.end) (record { of = sym e.0; from = omega (arith, e.1); below = omega (arith, e.1, g.full) })
    go false t = nobody_before x.reference x.end (z ∷ zs) (link (later t a) g d h)

-- ---- one source

module _ (x : Run) (full : x.start < x.end) where
  -- it has a run of the same offsets next
  pub met_same : (y : Run) (zs : List Run) → SameOffsets x y → Chain Anything anywhere (y ∷ zs) → MetBy x (y ∷ zs) zs y.votes (after_votes x zs)
  unfolding locator
  met_same y zs s (link a g d h) =
      record {
        meets = record {
          told = λ o i j. at_head y zs h (locator x.reference o)
              (record { of = sym s.of; from = omega (arith, s.start); below = omega (arith, s.end) });
          end = past_head y zs (locator x.reference x.end) (λ c. omega (arith, c.below, s.end)) ∙ after_chain x zs onward;
          first = λ l q. nobody_before l.block l.offset (y ∷ zs) (link (moved l q) g d h);
        };
        chain = chain_from_lem (λ r o b. tt) zs h;
        names = λ l q. sym (past_head y zs l (passed_out y l (ended l q)));
      }
    where
      onward : Chain Anything (beyond x.reference x.end) zs
      onward = subst (λ (r : BlockReference). Chain Anything (beyond r x.end) zs) (sym s.of)
          (subst (λ (e : ℕ). Chain Anything (beyond y.reference e) zs) (sym s.end) h)

      moved : (l : TransactionLocator) → Past l.block (l.offset + 1) x.reference x.start → Past l.block (l.offset + 1) y.reference y.start
      moved l q = subst (λ (r : BlockReference). Past l.block (l.offset + 1) r y.start) s.of
          (subst (Past l.block (l.offset + 1) x.reference) s.start q)

      ended : (l : TransactionLocator) → Past x.reference x.end l.block l.offset → Past y.reference y.end l.block l.offset
      ended l q = subst (λ (r : BlockReference). Past r y.end l.block l.offset) s.of
          (subst (λ (e : ℕ). Past x.reference e l.block l.offset) s.end q)

  -- it begins past the run
  pub met_past : (ys : List Run) → Chain Anything (beyond x.reference x.end) ys → MetBy x ys ys nobody (after_votes x ys)
  unfolding locator
  met_past ys h =
      record {
        meets = record {
          told = λ o i j. nobody_before x.reference o ys
              (chain_from_lem (λ r k b. past_trans {o = x.end} (by_offset refl (omega (arith, j))) (omega arith) b) ys h);
          end = after_chain x ys h;
          first = λ l q. nobody_before l.block l.offset ys (chain_from_lem (λ r k b. past_trans q (omega arith) b) ys h);
        };
        chain = chain_from_lem (λ r o b. tt) ys h;
        names = λ l q. refl;
      }

  -- the same of a cursor
  module _ (ws : List ℕ) (at left : ℕ) where
    pub cursor_none : left ≡ 0 → MetBy x (runs_from left (drop at ws)) (runs_from left (drop at ws)) nobody nobody
    unfolding runs_from after_votes
    cursor_none e = rw e (met_past [] end)

    module _ (some : 0 < left) (c : Chain Anything anywhere (runs_from left (drop at ws))) where
      chained : Chain Anything anywhere (run_from (drop at ws) ∷ runs_from (left - 1) (drop (at + 10) ws))
      chained = subst (Chain Anything anywhere) (next anywhere ws at left some) c

      pub cursor_same : SameOffsets x (run_from (drop at ws))
          → MetBy x (runs_from left (drop at ws)) (runs_from (left - 1) (drop (at + 10) ws)) (run_from (drop at ws)).votes
          (after_votes x (runs_from (left - 1) (drop (at + 10) ws)))
      cursor_same s =
          subst (λ (ys : List Run). MetBy x ys (runs_from (left - 1) (drop (at + 10) ws)) (run_from (drop at ws)).votes
          (after_votes x (runs_from (left - 1) (drop (at + 10) ws))))
          (sym (next anywhere ws at left some)) (met_same (run_from (drop at ws)) (runs_from (left - 1) (drop (at + 10) ws)) s chained)

      pub cursor_past : Past x.reference x.end (run_from (drop at ws)).reference (run_from (drop at ws)).start
          → MetBy x (runs_from left (drop at ws)) (runs_from left (drop at ws)) nobody (after_votes x (runs_from left (drop at ws)))
      cursor_past q = met_past (runs_from left (drop at ws))
          (subst (Chain Anything (beyond x.reference x.end)) (sym (next anywhere ws at left some)) (begun chained))
        where
          begun : Chain Anything anywhere (run_from (drop at ws) ∷ runs_from (left - 1) (drop (at + 10) ws)) → Chain Anything
              (beyond x.reference x.end) (run_from (drop at ws) ∷ runs_from (left - 1) (drop (at + 10) ws))
          begun (link a g d h) = link q g d h
