-- Runs of shares: not empty, ascending and disjoint, shares at every offset. Assumes nothing.
use mathlib.Core.Path.{◌≡◌, refl, sym, ◌∙◌}
use mathlib.Core.List.{List, [], ◌∷◌}
use mathlib.Core.Bool.{Bool, true, false, ◌&&◌, ◌||◌, or_assoc, or-false, and-false, and-true}
use Prim.Native.Nat.{ℕ, suc, ◌+◌, ◌-◌, ◌≤◌, ◌<◌}
use native.Mathlib.Omega.{arith}
use native.Mathlib.Decide.{dec_lt, dec_le}
use lib.Dec.{eqb, leb}
use lib.ListN.{get_elem?}
use borrow.Author.Tests.{eqb-true, eq-eqb, ne_eqb, le-leb, lt-leb}
use Rattle.base.specs.Lists.{pick, any_of, holds}
use Rattle.base.proofs.Lists.{Every, none_of, and, every, Pairs, no_pairs, with_later}
use Rattle.record_spec.specs.Reference.{BlockReference, TransactionLocatorRange, new_range, within}
use Rattle.record_spec.proofs.Ranges.{within_yes, within_no, within_parts}
use Rattle.record_spec.specs.Block.{Statement, Block, is_share, is_share_at, joined, runs_from, shared_ranges}

-- a run among statements of which the first has offset o
pub record Run (o : ℕ) (ss : List Statement) (x : TransactionLocatorRange) : Type 0 where
  pub from : o ≤ x.start
  pub full : x.start < x.end
  pub shares : (k : ℕ) → x.start ≤ k → k < x.end → holds is_share (get_elem? ss (k - o)) ≡ true

-- it ends before the other begins
abbrev pub Below : TransactionLocatorRange → TransactionLocatorRange → Type 0
Below x y = x.end ≤ y.start

-- the share at index k - o, one statement on
later : (s : Statement) (ss : List Statement) (o k : ℕ) → o + 1 ≤ k → holds is_share (get_elem? ss (k - (o + 1))) ≡ true → holds is_share
    (get_elem? (s ∷ ss) (k - o)) ≡ true
later s ss o k h e = let n : k - o ≡ suc (k - (o + 1)) = omega arith in rw n e

run_later : (s : Statement) (ss : List Statement) (o : ℕ) (x : TransactionLocatorRange) → Run (o + 1) ss x → Run o (s ∷ ss) x
run_later s ss o x r =
    record {
      from = omega (arith, r.from);
      full = r.full;
      shares = λ k (l : x.start ≤ k) (u : k < x.end). later s ss o k (omega (arith, r.from))
          (r.shares k l u);
    }

module _ (r : BlockReference) (o : ℕ) (s : Statement) (ss : List Statement) (h : is_share s ≡ true) where
  -- the share itself
  here : (k : ℕ) → o ≤ k → k < o + 1 → holds is_share (get_elem? (s ∷ ss) (k - o)) ≡ true
  unfolding holds
  here k l u = let n : k - o ≡ 0 = omega arith in rw n h

  alone : Run o (s ∷ ss) (new_range r o (o + 1))
  unfolding new_range
  alone = record { from = omega arith; full = omega arith; shares = here }

  longer : (x : TransactionLocatorRange) → o + 1 ≡ x.start → Run (o + 1) ss x → Run o (s ∷ ss) (new_range r o x.end)
  unfolding new_range
  longer x e q = record { from = omega arith; full = omega (arith, q.full); shares = λ k l u. go k l u (dec_lt o k) }
    where
      go : (k : ℕ) → o ≤ k → k < x.end → Dec (o < k) → holds is_share (get_elem? (s ∷ ss) (k - o)) ≡ true
      go k l u (yes m) = later s ss o k (omega arith) (q.shares k (omega arith) u)
      go k l u (no m) = here k l (omega arith)

  joined_runs : (xs : List TransactionLocatorRange) → Every (Run (o + 1) ss) xs → Every (Run o (s ∷ ss)) (joined r o xs)
  unfolding joined
  joined_runs [] none_of = and alone none_of
  joined_runs (x ∷ xs) (and q qs) = go (eqb (o + 1) x.start) refl
    where
      go : (t : Bool) → eqb (o + 1) x.start ≡ t → Every (Run o (s ∷ ss)) (pick t (new_range r o x.end ∷ xs) (new_range r o (o + 1) ∷ x ∷ xs))
      go true e = and (longer x (eqb-true _ _ e) q) (every (run_later s ss o) xs qs)
      go false e = and alone (and (run_later s ss o x q) (every (run_later s ss o) xs qs))

  joined_below : (xs : List TransactionLocatorRange) → Every (Run (o + 1) ss) xs → Pairs Below xs → Pairs Below (joined r o xs)
  unfolding joined new_range
  joined_below [] none_of no_pairs = with_later none_of no_pairs
  joined_below (x ∷ xs) (and q qs) (with_later b bs) = go (eqb (o + 1) x.start)
    where
      go : (t : Bool) → Pairs Below (pick t (new_range r o x.end ∷ xs) (new_range r o (o + 1) ∷ x ∷ xs))
      go true = with_later b bs
      go false = with_later (and q.from (every (λ y p. p.from) xs qs)) (with_later b bs)

-- ---- all runs

pub runs_from_lem : (r : BlockReference) (o : ℕ) (ss : List Statement) → Every (Run o ss) (runs_from r o ss)
unfolding runs_from
runs_from_lem r o [] = none_of
runs_from_lem r o (s ∷ ss) = go (is_share s) refl (runs_from_lem r (o + 1) ss)
  where
    go : (t : Bool) → is_share s ≡ t → Every (Run (o + 1) ss) (runs_from r (o + 1) ss) → Every (Run o (s ∷ ss))
        (pick t (joined r o (runs_from r (o + 1) ss)) (runs_from r (o + 1) ss))
    go true e h = joined_runs r o s ss e (runs_from r (o + 1) ss) h
    go false e h = every (run_later s ss o) (runs_from r (o + 1) ss) h

runs_below : (r : BlockReference) (o : ℕ) (ss : List Statement) → Pairs Below (runs_from r o ss)
unfolding runs_from
runs_below r o [] = no_pairs
runs_below r o (s ∷ ss) = go (is_share s) refl (runs_below r (o + 1) ss)
  where
    go : (t : Bool) → is_share s ≡ t → Pairs Below (runs_from r (o + 1) ss)
        → Pairs Below (pick t (joined r o (runs_from r (o + 1) ss)) (runs_from r (o + 1) ss))
    go true e h = joined_below r o s ss e (runs_from r (o + 1) ss) (runs_from_lem r (o + 1) ss) h
    go false e h = h

-- a run of a block
pub record SharedRun (b : Block) (x : TransactionLocatorRange) : Type 0 where
  pub full : x.start < x.end
  pub shares : (o : ℕ) → x.start ≤ o → o < x.end → is_share_at b o ≡ true

-- the runs of a block are not empty and shares at every offset
pub shared_runs : (b : Block) → Every (SharedRun b) (shared_ranges b)
unfolding shared_ranges is_share_at
shared_runs b = every (λ x q. record { full = q.full; shares = λ o l u. same o (q.shares o l u) }) (runs_from b.reference 0 b.statements)
    (runs_from_lem b.reference 0 b.statements)
  where
    same : (o : ℕ) → holds is_share (get_elem? b.statements (o - 0)) ≡ true → holds is_share (get_elem? b.statements o) ≡ true
    same o h = let n : o - 0 ≡ o = omega arith in rw n at h

-- they ascend and are disjoint
pub shared_below : (b : Block) → Pairs Below (shared_ranges b)
unfolding shared_ranges
shared_below b = runs_below b.reference 0 b.statements

-- ---- every share lies in a run

-- the offset lies in the range
abbrev In : ℕ → TransactionLocatorRange → Bool
In k x = within x.start x.end k

joined_cover : (r : BlockReference) (o : ℕ) (ss : List Statement) (xs : List TransactionLocatorRange) → Every (Run (o + 1) ss) xs → (k : ℕ) → any_of (In k)
    (joined r o xs) ≡ within o (o + 1) k || any_of (In k) xs
unfolding joined any_of new_range
joined_cover r o ss [] none_of k = refl
joined_cover r o ss (x ∷ xs) (and q qs) k = go (eqb (o + 1) x.start) refl
  where
    go : (t : Bool) → eqb (o + 1) x.start ≡ t → any_of (In k) (pick t (new_range r o x.end ∷ xs) (new_range r o (o + 1) ∷ x ∷ xs)) ≡ within o (o + 1) k ||
        (In k x || any_of (In k) xs)
    go true e =
        let s : o + 1 ≡ x.start = eqb-true _ _ e in
        rw (← s, within_parts o (o + 1) x.end k (omega arith) (omega (arith, q.full)))
        (or_assoc (within o (o + 1) k) (within (o + 1) x.end k) (any_of (In k) xs))
    go false e = refl

-- where k stands against o decides: below, at, above
cover_step : (o k : ℕ) (s : Statement) (ss : List Statement) (t u : Bool) → t ≡ leb (o + 1) k && holds is_share (get_elem? ss (k - (o + 1)))
    → u && within o (o + 1) k || t ≡ leb o k && pick (eqb k o) u (holds is_share (get_elem? (s ∷ ss) (k - o)))
cover_step o k s ss t u ih = rw ih (go (dec_le o k) (dec_lt o k))
  where
    go : Dec (o ≤ k) → Dec (o < k) → u && within o (o + 1) k || (leb (o + 1) k && holds is_share (get_elem? ss (k - (o + 1)))) ≡ leb o k && pick (eqb k o) u
        (holds is_share (get_elem? (s ∷ ss) (k - o)))
    go (no a) b = rw (within_no o (o + 1) k (λ l m. a l), lt-leb (o + 1) k (omega arith), lt-leb o k (omega arith), and-false u)
    go (yes a) (no b) = rw (
      within_yes o (o + 1) k a (omega arith),
      lt-leb (o + 1) k (omega arith),
      le-leb o k a,
      eq-eqb k o (omega arith),
      and-true u,
      or-false u,
    )
    go (yes a) (yes b) =
        let n : k - o ≡ suc (k - (o + 1)) = omega arith in
        rw (
          within_no o (o + 1) k (λ l (m : k < o + 1). omega arith),
          le-leb (o + 1) k (omega arith),
          le-leb o k a,
          ne_eqb k o (λ e. omega arith),
          and-false
              u,
          n,
        )

runs_cover : (r : BlockReference) (o : ℕ) (ss : List Statement) (k : ℕ) → any_of (In k) (runs_from r o ss) ≡ leb o k && holds is_share (get_elem? ss (k - o))
unfolding runs_from any_of holds
runs_cover r o [] k = sym (and-false (leb o k))
runs_cover r o (s ∷ ss) k = with_first (is_share s) ∙ cover_step o k s ss (any_of (In k) rest) (is_share s) (runs_cover r (o + 1) ss k)
    ∙ same_share (eqb k o) refl
  where
    rest : List TransactionLocatorRange
    rest = runs_from r (o + 1) ss

    with_first : (t : Bool) → any_of (In k) (pick t (joined r o rest) rest) ≡ t && within o (o + 1) k || any_of (In k) rest
    with_first true = joined_cover r o ss rest (runs_from_lem r (o + 1) ss) k
    with_first false = refl

    same_share : (t : Bool) → eqb k o ≡ t → leb o k && pick t (is_share s) (holds is_share (get_elem? (s ∷ ss) (k - o))) ≡ leb o k && holds is_share
        (get_elem? (s ∷ ss) (k - o))
    same_share false e = refl
    same_share true e = let n : k - o ≡ 0 = omega (arith, eqb-true k o e) in rw n

-- an offset lies in a run of a block exactly where it is a share
pub shared_cover : (b : Block) (o : ℕ) → any_of (λ x. within x.start x.end o) (shared_ranges b) ≡ is_share_at b o
unfolding shared_ranges is_share_at
shared_cover b o = let n : o - 0 ≡ o = omega arith in runs_cover b.reference 0 b.statements o ∙ rw (n, le-leb 0 o (omega arith))
