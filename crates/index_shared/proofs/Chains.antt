-- The first runs of a chain: what they name, and that they are the next runs where others name nobody. Assumes nothing.
use mathlib.Core.Path.{◌≡◌, refl, sym, ap, ◌∙◌}
use mathlib.Core.List.{List, [], ◌∷◌, ◌++◌}
use Prim.Native.Nat.{ℕ, ◌+◌, ◌≤◌, ◌<◌}
use native.Mathlib.Omega.{arith}
use Rattle.committee_set.specs.AuthoritySet.{AuthoritySet, united}
use Rattle.record_spec.specs.Reference.{BlockReference, TransactionLocator, locator}
use Rattle.index_spec.specs.Runs.{Run, votes_at, voters_in}
use Rattle.index_spec.specs.Walk.{Past, by_block, by_offset, Place, anywhere, beyond, At, NextRun}
use Rattle.index_spec.proofs.Chain.{past_trans, Good, Chain, link, Differs, past_head, chain_from_lem, nobody_before, at_head, passed_out}
use Rattle.index_spec.proofs.Unique.{at_end}
use Rattle.index_pieces.proofs.Pieces.{at_later, at_beyond}
use Rattle.index_cursors.specs.Spots.{after}
use Rattle.index_shared.specs.Shared.{Nexts, here, onward}

-- ---- places

past_one : {q r : BlockReference} {e o k : ℕ} → Past q e r o → o < k → Past q (e + 1) r k
past_one (by_block h) m = by_block h
past_one (by_offset e h) m = by_offset e (omega arith)

-- ---- chains

-- a run that begins past a place
pub record LastOf (q : BlockReference) (e : ℕ) (z : Run) : Type 0 where
  pub past : Past q e z.reference z.start
  pub good : Good z

module _ {D : Run → List Run → Type 0} where
  pub chain_last : {q : BlockReference} {e : ℕ} (ys : List Run) (z : Run) (rest : List Run) → Chain D (beyond q e) (ys ++ z ∷ rest) → LastOf q e z
  chain_last [] z rest (link a g d h) = record { past = a; good = g }
  chain_last (x ∷ ys) z rest (link a g d h) =
      let k = chain_last ys z rest h in
      record { past = past_trans a (omega (arith, g.full)) k.past; good = k.good }

  pub chain_rest : {p : Place} (ys rest : List Run) → Chain D p (ys ++ rest) → Chain D anywhere rest
  chain_rest [] rest h = chain_from_lem (λ r o a. tt) rest h
  chain_rest (x ∷ ys) rest (link a g d h) = chain_rest ys rest h

  -- before the end of a run those after it name nobody
  pub cut_names : {p : Place} (ys : List Run) (z : Run) (rest : List Run) (l : TransactionLocator) → Chain D p (ys ++ z ∷ rest) → Past l.block
      (l.offset + 1) z.reference z.end
      → voters_in (ys ++ z ∷ rest) l ≡ voters_in (ys ++ z ∷ []) l
  unfolding voters_in locator
  cut_names [] z rest l (link a g d h) b =
      ap (united (votes_at z l)) (nobody_before l.block l.offset rest (chain_from_lem (λ r o c. past_trans b (omega arith) c) rest h))
  cut_names (x ∷ ys) z rest l (link a g d h) b = ap (united (votes_at x l)) (cut_names ys z rest l h b)

  -- past the end of a run those up to it name nobody
  pub names_after : {p : Place} (ys : List Run) (y : Run) (rest : List Run) (l : TransactionLocator) → Chain D p (ys ++ y ∷ rest) → Past y.reference
      y.end l.block l.offset
      → voters_in (ys ++ y ∷ rest) l ≡ voters_in rest l
  names_after [] y rest l (link a g d h) b = past_head y rest l (passed_out y l b)
  names_after (x ∷ ys) y rest l (link a g d h) b =
      let k = chain_last ys y rest h in
      past_head x (ys ++ y ∷ rest) l (passed_out x l (past_trans k.past (omega (arith, k.good.full)) b)) ∙ names_after ys y rest l h b

-- ---- the next runs

module _ {f : TransactionLocator → AuthoritySet} (z : Run) where
  -- up to the end of z, f names whom these runs name
  pub nexts : (p : Place) (ys : List Run) → Chain Differs p (ys ++ z ∷ [])
      → ((l : TransactionLocator) → At p l.block l.offset → Past l.block (l.offset + 1) z.reference z.end → f l ≡ voters_in (ys ++ z ∷ []) l)
      → Nexts f p ys (after p ys)
  unfolding locator after
  nexts p [] h e = here
  nexts p (x ∷ ys) (link a g d h) e = onward next (nexts (beyond x.reference x.end) ys h rest)
    where
      last : LastOf x.reference x.end z
      last = chain_last ys z [] h

      before : (o : ℕ) → o ≤ x.end → Past x.reference (o + 1) z.reference z.end
      before o m = past_one (past_trans (by_offset refl m) (omega arith) last.past) last.good.full

      there : (o : ℕ) → x.start ≤ o → At p x.reference o
      there o i = at_later p x.reference x.start o a i

      next : NextRun f p x
      next =
          record {
            there = a;
            stretch = record {
              full = g.full;
              voted = g.voted;
              told = λ o i j.
                  e (locator x.reference o) (there o i) (before o (omega arith))
                  ∙ at_head x (ys ++ z ∷ []) h (locator x.reference o) (record { of = refl; from = i; below = j });
            };
            onward = λ w.
                at_end x (ys ++ z ∷ []) g d h
                (sym (past_head x (ys ++ z ∷ []) (locator x.reference x.end) (λ c. omega (arith, c.below)))
                ∙ sym (e (locator x.reference x.end) (there x.end (omega (arith, g.full))) (before x.end (omega arith)))
                ∙ w);
            first = λ l i j.
                e l i (at_later (beyond l.block (l.offset + 1)) z.reference z.start z.end (past_trans j (omega (arith, g.full)) last.past)
                (omega (arith, last.good.full)))
                ∙ nobody_before l.block l.offset (x ∷ ys ++ z ∷ []) (link j g d h);
          }

      rest : (l : TransactionLocator) → Past x.reference x.end l.block l.offset → Past l.block (l.offset + 1) z.reference z.end → f l
          ≡ voters_in (ys ++ z ∷ []) l
      rest l b c =
          e l (at_beyond p x.reference x.start x.end a (omega (arith, g.full)) l.block l.offset b) c
          ∙ past_head x (ys ++ z ∷ []) l (passed_out x l b)
