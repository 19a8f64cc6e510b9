-- Two runs in words: of the same offsets, and one that touches the other. Assumes nothing.
use mathlib.Core.Path.{◌≡◌, sym, ap, ◌∙◌}
use mathlib.Core.Bool.{Bool, true, false}
use mathlib.Core.List.{List}
use Prim.Native.Nat.{ℕ, ◌+◌, ◌<◌}
use native.Mathlib.Omega.{arith}
use native.Mathlib.Decide.{ℕ_discrete}
use lib.ListN.{get_or, drop}
use lib.Seq.{get_or-drop}
use Rattle.base.specs.Lists.{pick}
use Rattle.base.proofs.Tests.{not_both, fails}
use Rattle.committee_set.specs.AuthoritySet.{nobody}
use Rattle.record_spec.specs.Reference.{same_reference}
use Rattle.record_spec.proofs.References.{reference_same, same_reference_lem}
use Rattle.types.specs.Values.{reference_order}
use Rattle.std.specs.declared.cmp.Ordering.TheVariants.{Equal}
use Rattle.types.proofs.Words.{compared_equal}
use Rattle.index_spec.specs.Runs.{Run, touches}
use Rattle.index_spec.specs.Walk.{anywhere, digest_of, run_from, runs_from}
use Rattle.index_spec.proofs.Chain.{touching, touched}
use Rattle.index_pieces.proofs.Cursors.{next}
use Rattle.index_two_runs.specs.Two.{SameOffsets, after_votes}

-- ---- words

module _ (ix ws : List ℕ) (pos at : ℕ) where
  pub words_same : ((j : ℕ) → j < 8 → get_or ix (pos + j) 0 ≡ get_or ws (at + j) 0) → SameOffsets (run_from (drop pos ix)) (run_from (drop at ws))
  unfolding run_from
  words_same h =
      let w0 = w 0 (omega arith) in
      let w1 = w 1 (omega arith) in
      let w2 = w 2 (omega arith) in
      let w3 = w 3 (omega arith) in
      let w4 = w 4 (omega arith) in
      let w5 = w 5 (omega arith) in
      record {
        of = λ i. record { authority = w0 i; round = w1 i; digest = digest_of (w2 i) (w3 i) (w4 i) (w5 i) };
        start = w 6 (omega arith);
        end = w 7 (omega arith);
      }
    where
      w : (j : ℕ) → j < 8 → get_or (drop pos ix) j 0 ≡ get_or (drop at ws) j 0
      w j m = get_or-drop pos ix j 0 ∙ h j m ∙ sym (get_or-drop at ws j 0)

  -- one word more is the same
  pub same_more : (i : ℕ) → ((j : ℕ) → j < i → get_or ix (pos + j) 0 ≡ get_or ws (at + j) 0) → get_or ix (pos + i) 0 ≡ get_or ws (at + i) 0
      → (j : ℕ) → j < i + 1 → get_or ix (pos + j) 0 ≡ get_or ws (at + j) 0
  same_more i h e j m = go (ℕ_discrete j i)
    where
      go : Dec (j ≡ i) → get_or ix (pos + j) 0 ≡ get_or ws (at + j) 0
      go (yes z) = ap (λ (k : ℕ). get_or ix (pos + k) 0) z ∙ e ∙ sym (ap (λ (k : ℕ). get_or ws (at + k) 0) z)
      go (no z) = h j (omega arith)

-- ---- runs that touch

module _ (x y : Run) where
  pub touch_yes : reference_order x.reference y.reference ≡ Equal → x.end ≡ y.start → touches x y ≡ true
  touch_yes h e = touching x y (reference_same x.reference y.reference (compared_equal x.reference y.reference h)) e

  pub touch_apart : (x.end ≡ y.start → ⊥) → touches x y ≡ false
  touch_apart h = fails (touches x y) (λ t. h (touched x y t).1)

  pub touch_other : same_reference x.reference y.reference ≡ false → touches x y ≡ false
  touch_other h = fails (touches x y) (λ t. not_both (same_reference_lem (touched x y t).0) h)

-- whom the first of a cursor's runs names at the end of a run
module _ (x : Run) (ws : List ℕ) (at left : ℕ) where
  pub after_none : left ≡ 0 → nobody ≡ after_votes x (runs_from left (drop at ws))
  unfolding after_votes runs_from
  after_none e = rw e

  pub after_next : 0 < left → (t : Bool) → touches x (run_from (drop at ws)) ≡ t → pick t (run_from (drop at ws)).votes nobody ≡ after_votes x
      (runs_from left (drop at ws))
  unfolding after_votes
  after_next h t e = ap (λ (u : Bool). pick u (run_from (drop at ws)).votes nobody) (sym e) ∙ ap (after_votes x) (sym (next anywhere ws at left h))
