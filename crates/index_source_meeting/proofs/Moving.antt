-- Cursors past a run, one source after the other. Assumes nothing.
use mathlib.Core.Path.{◌≡◌, refl}
use mathlib.Core.List.{List}
use Prim.Native.Nat.{ℕ, zero, suc, ◌+◌, ◌*◌, ◌≤◌, ◌<◌}
use native.Mathlib.Omega.{arith}
use native.Mathlib.Decide.{dec_lt}
use native.Mathlib.Numerals.{add-one}
use lib.ListN.{length, drop, set}
use Rattle.committee_set.specs.AuthoritySet.{AuthoritySet, nobody, united}
use Rattle.record_spec.specs.Reference.{TransactionLocator}
use Rattle.index_spec.specs.Runs.{Run, voters_in}
use Rattle.index_spec.specs.Walk.{Past, anywhere, beyond, runs_from}
use Rattle.index_spec.proofs.Chain.{Anything, Chain}
use Rattle.index_pieces.specs.Sources.{cursor_at, cursor_left, source, named_by, Moved}
use Rattle.index_pieces.proofs.Cursors.{at_same, left_same, at_other, left_other, source_same, source_other}
use Rattle.index_source_meeting.specs.Source.{Meets, MetBy}
use Rattle.index_source_meeting.proofs.Together.{meets_none, meets_both}

-- the first k sources meet a run, and these are their cursors past it
pub record Going (x : Run) (ws cs₀ cs : List ℕ) (k : ℕ) (votes after : AuthoritySet) : Type 0 where
  pub meets : Meets x (named_by ws cs₀ k) votes after
  pub inside : (j : ℕ) → j < k → cursor_at cs j + 10 * cursor_left cs j ≤ length ws
  pub chains : (j : ℕ) → j < k → Chain Anything anywhere (source ws cs j)
  pub names : (j : ℕ) → j < k → (l : TransactionLocator) → Past x.reference x.end l.block l.offset → voters_in (source ws cs j) l ≡ voters_in
      (source ws cs₀ j) l

module _ (x : Run) (ws cs₀ : List ℕ) where
  pub going_start : (cs : List ℕ) → Going x ws cs₀ cs 0 nobody nobody
  unfolding named_by
  going_start cs = record {
    meets = meets_none x;
    inside = λ j h. absurd (omega arith);
    chains = λ j h. absurd (omega arith);
    names = λ j h. absurd
        (omega arith);
  }

  module _ (cs : List ℕ) (k : ℕ) (v a : AuthoritySet) (g : Going x ws cs₀ cs k v a) (room : 2 * k + 1 < length cs) (at left : ℕ) (w b : AuthoritySet)
      (inside : at + 10 * left ≤ length ws) (m : MetBy x (source ws cs₀ k) (runs_from left (drop at ws)) w b) where
    cs' : List ℕ
    cs' = set (set cs (2 * k) at) (2 * k + 1) left

    pub going_on : Going x ws cs₀ (set (set cs (2 * k) at) (2 * k + 1) left) (k + 1) (united v w) (united a b)
    unfolding named_by cs'
    going_on =
        record {
          meets = rw (add-one k) (meets_both x (named_by ws cs₀ k) (voters_in (source ws cs₀ k)) v w a b g.meets m.meets);
          inside = λ j h. fits j (dec_lt j k) h;
          chains = λ j h. chained j (dec_lt j k) h;
          names = λ j h l q. named j (dec_lt j k) h l q;
        }
      where
        here : (j : ℕ) → (j < k → ⊥) → j < k + 1 → j ≡ k
        here j n h = omega arith

        apart : (j : ℕ) → j < k → j ≡ k → ⊥
        apart j n e = omega arith

        fits : (j : ℕ) → Dec (j < k) → j < k + 1 → cursor_at cs' j + 10 * cursor_left cs' j ≤ length ws
        fits j (yes n) h = rw (at_other ws anywhere cs₀ cs k at left room j (apart j n), left_other ws anywhere cs₀ cs k at left room j (apart j n))
            (g.inside j n)
        fits j (no n) h = rw (here j n h, at_same ws anywhere cs₀ cs k at left room, left_same ws anywhere cs₀ cs k at left room) inside

        chained : (j : ℕ) → Dec (j < k) → j < k + 1 → Chain Anything anywhere (source ws cs' j)
        chained j (yes n) h = rw (source_other ws anywhere cs₀ cs k at left room j (apart j n)) (g.chains j n)
        chained j (no n) h = rw (here j n h, source_same ws anywhere cs₀ cs k at left room) m.chain

        named : (j : ℕ) → Dec (j < k) → j < k + 1 → (l : TransactionLocator) → Past x.reference x.end l.block l.offset → voters_in
            (source ws cs' j) l ≡ voters_in (source ws cs₀ j) l
        named j (yes n) h l q = rw (source_other ws anywhere cs₀ cs k at left room j (apart j n)) (g.names j n l q)
        named j (no n) h l q = rw (here j n h, source_same ws anywhere cs₀ cs k at left room) (m.names l q)

  pub going_end : (cs : List ℕ) (n : ℕ) (v a : AuthoritySet) → length cs ≡ length cs₀ → 2 * n ≤ length cs₀ → Going x ws cs₀ cs n v a → Moved ws n
      (beyond x.reference x.end) cs₀ cs
  unfolding named_by
  going_end cs n v a long room g =
      record {
        long = long;
        ready = record { room = omega (arith, long); inside = g.inside; chains = g.chains };
        names = λ l q. all l q n (omega arith);
      }
    where
      all : (l : TransactionLocator) → Past x.reference x.end l.block l.offset → (k : ℕ) → k ≤ n → named_by ws cs k l ≡ named_by ws cs₀ k l
      all l q zero m = refl
      all l q (suc k) m = rw (all l q k (omega arith), g.names k (omega arith) l q)
