-- Ascending runs as a chain, each past the one before it, and whom they name where. Assumes nothing.
use mathlib.Core.Path.{◌≡◌, refl, sym, ap, subst, ◌∙◌}
use mathlib.Core.Logic.{◌⊎◌, inl, inr}
use mathlib.Core.Bool.{true, ◌&&◌}
use mathlib.Core.List.{List, [], ◌∷◌}
use Prim.Native.Nat.{ℕ, zero, suc, ◌+◌, ◌≤◌, ◌<◌}
use native.Mathlib.Omega.{arith}
use lib.Dec.{leb}
use lib.ListN.{drop}
use borrow.Author.Tests.{le-leb, leb-true, eq-eqb, eqb-true}
use Rattle.base.proofs.Tests.{or_cases, or_left, or_right, and_both, and_left, and_right, fails}
use Rattle.committee_set.specs.AuthoritySet.{AuthoritySet, nobody, united}
use Rattle.committee_set.proofs.Words.{united_nobody, nobody_united}
use Rattle.record_spec.specs.Reference.{BlockReference, TransactionLocator, locator, new_range, same_reference, reference_before, covers}
use Rattle.record_spec.proofs.References.{reference_same, same_reference_lem, reference_irrefl, reference_trans}
use Rattle.record_spec.proofs.Ranges.{within_yes, within_true}
use Rattle.index_spec.specs.Runs.{Run, run_covers, votes_at, voters_in, run_before, touches}
use Rattle.index_spec.specs.Walk.{Past, by_block, by_offset, Place, beyond, At}

-- ---- places

pub past_itself : (r : BlockReference) (o : ℕ) → Past r o r o
past_itself r o = by_offset refl (omega arith)

pub past_trans : {q r p : BlockReference} {e o f k : ℕ} → Past q e r o → o ≤ f → Past r f p k → Past q e p k
past_trans {q} {r} {p} (by_block h) m (by_block k) = by_block (reference_trans q r p h k)
past_trans {q} (by_block h) m (by_offset e k) = by_block (subst (λ (x : BlockReference). reference_before q x ≡ true) e h)
past_trans {p = p} (by_offset e h) m (by_block k) = by_block (subst (λ (x : BlockReference). reference_before x p ≡ true) (sym e) k)
past_trans (by_offset e h) m (by_offset f k) = by_offset (e ∙ f) (omega arith)

pub before_past : (x y : Run) → run_before x y ≡ true → Past x.reference x.end y.reference y.start
unfolding run_before
before_past x y h = split (or_cases (reference_before x.reference y.reference) _ h)
  where
    split : (reference_before x.reference y.reference ≡ true) ⊎ (same_reference x.reference y.reference && leb x.end y.start ≡ true)
        → Past x.reference x.end y.reference y.start
    split (inl k) = by_block k
    split (inr k) =
        by_offset (reference_same x.reference y.reference (and_left _ _ k))
        (leb-true x.end y.start (and_right (same_reference x.reference y.reference) _ k))

pub past_before : (x y : Run) → Past x.reference x.end y.reference y.start → run_before x y ≡ true
unfolding run_before
past_before x y (by_block h) = or_left (reference_before x.reference y.reference) _ h
past_before x y (by_offset e h) = or_right (reference_before x.reference y.reference) _ (and_both _ _ (same_reference_lem e) (le-leb x.end y.start h))

pub touching : (x y : Run) → x.reference ≡ y.reference → x.end ≡ y.start → touches x y ≡ true
unfolding touches
touching x y e f = and_both (same_reference x.reference y.reference) _ (same_reference_lem e) (eq-eqb x.end y.start f)

pub touched : (x y : Run) → touches x y ≡ true → (x.reference ≡ y.reference) × (x.end ≡ y.start)
unfolding touches
touched x y h = (
  reference_same x.reference y.reference (and_left _ _ h),
  eqb-true x.end y.start
      (and_right (same_reference x.reference y.reference) _ h),
)

-- ---- whom one run names

pub record Covered (x : Run) (l : TransactionLocator) : Type 0 where
  pub of : x.reference ≡ l.block
  pub from : x.start ≤ l.offset
  pub below : l.offset < x.end

pub covered : (x : Run) (l : TransactionLocator) → run_covers x l ≡ true → Covered x l
unfolding run_covers covers new_range
covered x l h =
    let k = within_true x.start x.end l.offset (and_right (same_reference x.reference l.block) _ h) in
    record { of = reference_same x.reference l.block (and_left _ _ h); from = k.0; below = k.1 }

pub is_covered : (x : Run) (l : TransactionLocator) → Covered x l → run_covers x l ≡ true
unfolding run_covers covers new_range
is_covered x l h = and_both (same_reference x.reference l.block) _ (same_reference_lem h.of)
    (within_yes x.start x.end l.offset h.from h.below)

pub votes_in : (x : Run) (l : TransactionLocator) → Covered x l → votes_at x l ≡ x.votes
unfolding votes_at
votes_in x l h = rw (is_covered x l h)

pub votes_out : (x : Run) (l : TransactionLocator) → (Covered x l → ⊥) → votes_at x l ≡ nobody
unfolding votes_at
votes_out x l h = rw (fails (run_covers x l) (λ k. h (covered x l k)))

-- ---- chains

pub record Good (x : Run) : Type 0 where
  pub full : x.start < x.end
  pub voted : x.votes ≡ nobody → ⊥

-- ascending runs, each at or past the end of the one before; D is asked of each and those after it
pub data Chain (D : Run → List Run → Type 0) : Place → List Run → Type 0 where
  end : {p : Place} → Chain D p []
  link : {p : Place} {x : Run} {xs : List Run} → At p x.reference x.start → Good x → D x xs → Chain D (beyond x.reference x.end) xs → Chain D p
      (x ∷ xs)

-- nothing is asked
abbrev pub Anything : Run → List Run → Type 0
Anything x xs = Unit {0}

-- the next run, where it touches, has other voters
pub data Differs (x : Run) : List Run → Type 0 where
  no_next : Differs x []
  other : {y : Run} {ys : List Run} → (touches x y ≡ true → x.votes ≡ y.votes → ⊥) → Differs x (y ∷ ys)

-- past the first run, the others name whom all name
pub past_head : (x : Run) (xs : List Run) (l : TransactionLocator) → (Covered x l → ⊥) → voters_in (x ∷ xs) l ≡ voters_in xs l
unfolding voters_in
past_head x xs l h = ap (λ (v : AuthoritySet). united v (voters_in xs l)) (votes_out x l h) ∙ nobody_united (voters_in xs l)

module _ {D : Run → List Run → Type 0} where
  pub chain_from_lem : {p q : Place} → ((r : BlockReference) (o : ℕ) → At p r o → At q r o) → (xs : List Run) → Chain D p xs → Chain D q xs
  chain_from_lem f xs end = end
  chain_from_lem f xs (link {x = x} a g d h) = link (f x.reference x.start a) g d h

  -- the runs after one that begins past a place begin past it too
  pub chain_past : {q : BlockReference} {e : ℕ} (x : Run) (xs : List Run) → Past q e x.reference x.start → x.start ≤ x.end
      → Chain D (beyond x.reference x.end) xs → Chain D (beyond q e) xs
  chain_past x xs a m h = chain_from_lem (λ r o b. past_trans a m b) xs h

  -- before a place past which they all begin, runs name nobody
  pub nobody_before : (q : BlockReference) (k : ℕ) (xs : List Run) → Chain D (beyond q (k + 1)) xs → voters_in xs (locator q k) ≡ nobody
  unfolding voters_in locator
  nobody_before q k [] end = refl
  nobody_before q k (x ∷ xs) (link p g d h) =
      past_head x xs (locator q k) (λ c. out p c.of c.from)
      ∙ nobody_before q k xs (chain_past x xs p (omega (arith, g.full)) h)
    where
      out : Past q (k + 1) x.reference x.start → x.reference ≡ q → x.start ≤ k → ⊥
      out (by_block b) e m = reference_irrefl q (subst (λ (r : BlockReference). reference_before q r ≡ true) e b)
      out (by_offset b n) e m = omega arith

  -- the runs after one name nobody where it names somebody
  pub rest_nobody : (x : Run) (xs : List Run) → Chain D (beyond x.reference x.end) xs → (l : TransactionLocator) → Covered x l → voters_in xs l ≡ nobody
  unfolding locator
  rest_nobody x xs h l c =
      let m : l.offset + 1 ≤ x.end = omega (arith, c.below) in
      subst (λ (r : BlockReference). voters_in xs (locator r l.offset) ≡ nobody) c.of
      (nobody_before x.reference l.offset xs (chain_from_lem (λ r o b. past_trans (by_offset refl m) (omega arith) b) xs h))

  -- the first run names its voters
  pub at_head : (x : Run) (xs : List Run) → Chain D (beyond x.reference x.end) xs → (l : TransactionLocator) → Covered x l → voters_in (x ∷ xs) l ≡ x.votes
  unfolding voters_in
  at_head x xs h l c =
      ap (λ (v : AuthoritySet). united v (voters_in xs l)) (votes_in x l c)
      ∙ ap (united x.votes) (rest_nobody x xs h l c)
      ∙ united_nobody x.votes

-- the runs from an index on are a chain too
pub chain_drop : {D : Run → List Run → Type 0} {p : Place} (j : ℕ) (xs : List Run) → Chain D p xs → (q : Place) × Chain D q (drop j xs)
chain_drop {p = p} zero xs h = (p, h)
chain_drop {p = p} (suc j) [] h = (p, end)
chain_drop (suc j) (x ∷ xs) (link a g d h) = chain_drop j xs h

-- a locator that a run has passed is not in it
pub passed_out : (x : Run) (l : TransactionLocator) → Past x.reference x.end l.block l.offset → Covered x l → ⊥
passed_out x l (by_block h) c = reference_irrefl l.block (subst (λ (r : BlockReference). reference_before r l.block ≡ true) c.of h)
passed_out x l (by_offset h k) c = omega (arith, c.below)
