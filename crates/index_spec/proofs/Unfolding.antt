-- Runs found one after the other are the runs, and a run found by halving names the voters. Assumes nothing.
use mathlib.Core.Path.{◌≡◌, refl, sym, ap, subst, ◌∙◌}
use mathlib.Core.Bool.{Bool, true}
use mathlib.Core.List.{List, [], ◌∷◌, ◌++◌}
use Prim.Native.Nat.{ℕ, ◌+◌, ◌≤◌, ◌<◌}
use native.Mathlib.Omega.{arith}
use native.Mathlib.Decide.{dec_lt}
use Rattle.base.specs.Lists.{pick, ◌∈◌, here, there}
use Rattle.base.proofs.Tests.{same_test}
use Rattle.committee_set.specs.AuthoritySet.{AuthoritySet, nobody, united}
use Rattle.committee_set.proofs.Words.{united_nobody}
use Rattle.record_spec.specs.Reference.{BlockReference, TransactionLocator, locator, reference_before}
use Rattle.record_spec.proofs.References.{reference_irrefl}
use Rattle.index_spec.specs.Runs.{Run, run_covers, votes_at, voters_in}
use Rattle.index_spec.specs.Walk.{Past, by_block, by_offset, Place, beyond, At, NextRun, Unfolded, done, more}
use Rattle.index_spec.proofs.Sets.{united_comm, united_nobody_left}
use Rattle.index_spec.proofs.Chain.{past_trans, touched, Covered, covered, is_covered, votes_in, Good, Chain, end, link, Differs, no_next, other}
use Rattle.index_spec.proofs.Chain.{past_head, chain_from_lem, nobody_before, at_head}
use Rattle.index_spec.proofs.Unique.{PlaceOrder, earlier, later, alike, place_order}

-- ---- one after the other

module _ {f : TransactionLocator → AuthoritySet} where
  good : {p : Place} {x : Run} → NextRun f p x → Good x
  good n = record { full = n.stretch.full; voted = n.stretch.voted }

  next_differs : {p : Place} (x : Run) (xs : List Run) → NextRun f p x → Unfolded f (beyond x.reference x.end) xs → Differs x xs
  next_differs x [] n u = no_next
  next_differs x (y ∷ ys) n (more m u) =
      other (λ t e.
      let z = touched x y t in
      n.onward (ap f (λ i. locator (z.0 i) (z.1 i)) ∙ m.stretch.told y.start (omega arith) m.stretch.full ∙ sym e))

  unfolded_chain : {p : Place} (xs : List Run) → Unfolded f p xs → Chain Differs p xs
  unfolded_chain [] u = end
  unfolded_chain (x ∷ xs) (more n u) = link n.there (good n) (next_differs x xs n u) (unfolded_chain xs u)

  unfolded_told : {p : Place} (xs : List Run) → Unfolded f p xs → (l : TransactionLocator) → At p l.block l.offset → voters_in xs l ≡ f l
  unfolding voters_in locator
  unfolded_told [] (done h) l a = sym (h l a)
  unfolded_told (x ∷ xs) (more n u) l a = split (place_order l.block l.offset x.reference x.start) (dec_lt l.offset x.end)
      (unfolded_told xs u l)
    where
      inside : Covered x l → voters_in (x ∷ xs) l ≡ f l
      inside c =
          at_head x xs (unfolded_chain xs u) l c
          ∙ sym (n.stretch.told l.offset c.from c.below)
          ∙ ap (λ (r : BlockReference). f (locator r l.offset)) c.of

      split : PlaceOrder l.block l.offset x.reference x.start → Dec (l.offset < x.end)
          → (At (beyond x.reference x.end) l.block l.offset → voters_in xs l ≡ f l) → voters_in (x ∷ xs) l ≡ f l
      split (earlier e) d ih =
          nobody_before l.block l.offset (x ∷ xs) (link e (good n) (next_differs x xs n u) (unfolded_chain xs u)) ∙ sym (n.first l a e)
      split (alike r o) d ih = inside (record { of = sym r; from = omega arith; below = omega (arith, n.stretch.full) })
      split (later (by_block b)) d ih =
          past_head x xs l (λ c. reference_irrefl l.block (subst (λ (r : BlockReference). reference_before r l.block ≡ true) c.of b)) ∙ ih (by_block b)
      split (later (by_offset r o)) (yes d) ih = inside (record { of = r; from = omega arith; below = d })
      split (later (by_offset r o)) (no d) ih = past_head x xs l (λ c. d c.below) ∙ ih (by_offset r (omega arith))

-- ---- between edges nothing changes

-- no run of the block begins or ends past o and before e
unfoldable pub Steady : BlockReference → ℕ → ℕ → Run → Type 0
Steady r o e x = x.reference ≡ r → ((o < x.start) → e ≤ x.start) × ((o < x.end) → e ≤ x.end)

pub steady : (r : BlockReference) (o e k : ℕ) (xs : List Run) → ((x : Run) → x ∈ xs → Steady r o e x) → o ≤ k → k < e → voters_in xs (locator r k) ≡ voters_in
    xs (locator r o)
unfolding voters_in votes_at Steady locator
steady r o e k [] h a b = refl
steady r o e k (x ∷ xs) h a b =
    ap (λ (t : Bool). united (pick t x.votes nobody) (voters_in xs (locator r k))) covers_both
    ∙ ap (united (votes_at x (locator r o))) (steady r o e k xs (λ z m. h z (there m)) a b)
  where
    forth : Covered x (locator r k) → Covered x (locator r o)
    forth c =
        let w = h x here c.of in
        let m : ¬ (o < x.start) = λ n. let z = w.0 n in absurd (omega (arith, c.from)) in
        record { of = c.of; from = omega (arith, m); below = omega (arith, c.below) }

    back : Covered x (locator r o) → Covered x (locator r k)
    back c = let z = (h x here c.of).1 c.below in record { of = c.of; from = omega (arith, c.from); below = omega (arith, z) }

    covers_both : run_covers x (locator r k) ≡ run_covers x (locator r o)
    covers_both = same_test _ _ (λ t. is_covered x (locator r o) (forth (covered x (locator r k) t)))
        (λ t. is_covered x (locator r k) (back (covered x (locator r o) t)))

-- ---- by halving

module _ {D : Run → List Run → Type 0} where
  -- the runs before end at or before the locator, and this one ends past it
  pub found_at : {p : Place} (ys : List Run) (x : Run) (zs : List Run) (l : TransactionLocator) → Chain D p (ys ++ x ∷ zs)
      → ((y : Run) → y ∈ ys → Past y.reference y.end l.block l.offset) → Past l.block (l.offset + 1) x.reference x.end
      → voters_in (ys ++ x ∷ zs) l ≡ votes_at x l
  unfolding voters_in locator
  found_at [] x zs l (link a g d h) b e =
      ap (united (votes_at x l)) (nobody_before l.block l.offset zs (chain_from_lem (λ r o n. past_trans e (omega arith) n) zs h))
      ∙ united_nobody (votes_at x l)
  found_at (y ∷ ys) x zs l (link a g d h) b e =
      past_head y (ys ++ x ∷ zs) l (λ c. out (b y here) c.of c.below) ∙ found_at ys x zs l h (λ w m. b w (there m)) e
    where
      out : Past y.reference y.end l.block l.offset → y.reference ≡ l.block → l.offset < y.end → ⊥
      out (by_block n) r m = reference_irrefl l.block (subst (λ (q : BlockReference). reference_before q l.block ≡ true) r n)
      out (by_offset n k) r m = omega arith

-- ---- a stretch that is found edge by edge

-- where some run with a voter covers the locator, somebody is named
pub somebody : (xs : List Run) (x : Run) → x ∈ xs → (l : TransactionLocator) → Covered x l → (x.votes ≡ nobody → ⊥) → voters_in xs l ≡ nobody → ⊥
unfolding voters_in
somebody [] x x6 l c v e = elim x6 [ ]
somebody (y ∷ xs) x here l c v e = v (sym (votes_in x l c) ∙ united_nobody_left (votes_at x l) (voters_in xs l) e)
somebody (y ∷ xs) x (there m) l c v e = somebody xs x m l c v
    (united_nobody_left (voters_in xs l) (votes_at y l) (united_comm (voters_in xs l) (votes_at y l) ∙ e))
