-- Whom runs name once one more is among them, once neighbours are joined, and once they are merged. Assumes nothing.
use mathlib.Core.Path.{◌≡◌, refl, sym, ap, ◌∙◌}
use mathlib.Core.Bool.{Bool, true, false, ◌&&◌, ◌||◌}
use mathlib.Core.List.{List, [], ◌∷◌, ◌++◌}
use Prim.Native.Nat.{ℕ, ◌≤◌, ◌<◌}
use native.Mathlib.Omega.{arith}
use native.Mathlib.Decide.{dec_lt}
use borrow.Author.Tests.{lt-ltb, le-ltb, not-false}
use Rattle.base.specs.Lists.{pick, ◌∈◌, here, there}
use Rattle.base.proofs.Tests.{and_left, and_right, neither_left, not_both}
use Rattle.committee_set.specs.AuthoritySet.{AuthoritySet, nobody, united}
use Rattle.committee_set.proofs.Words.{united_assoc, united_nobody, nobody_united}
use Rattle.record_spec.specs.Reference.{BlockReference, TransactionLocator, new_range, same_reference, within, covers}
use Rattle.record_spec.proofs.Ranges.{within_parts}
use Rattle.record_spec.proofs.References.{reference_total}
use Rattle.index_spec.specs.Runs.{Run, run, run_covers, votes_at, voters_in, same_voters, run_before, touches, unless_empty, overlaid, overlapping, added, says}
use Rattle.index_spec.specs.Runs.{joined_to}
use Rattle.index_spec.proofs.Sets.{united_self, united_swap, same_voters_lem}
use Rattle.index_spec.specs.Walk.{by_offset}
use Rattle.index_spec.proofs.Chain.{past_before, touched, votes_out}

-- ---- one run in parts

module _ (r : BlockReference) (v : AuthoritySet) (l : TransactionLocator) where
  pub in_parts : (s c e : ℕ) → s ≤ c → c ≤ e → votes_at (run r s e v) l ≡ united (votes_at (run r s c v) l) (votes_at (run r c e v) l)
  unfolding votes_at run_covers covers new_range run
  in_parts s c e h k = rw (within_parts s c e l.offset h k) (go (same_reference r l.block) (within s c l.offset) (within c e l.offset))
    where
      go : (t a b : Bool) → pick (t && (a || b)) v nobody ≡ united (pick (t && a) v nobody) (pick (t && b) v nobody)
      go true true true = sym (united_self v)
      go true true false = sym (united_nobody v)
      go true false true = sym (nobody_united v)
      go true false false = sym (united_nobody nobody)
      go false a b = sym (united_nobody nobody)

  pub both_named : (s e : ℕ) (w : AuthoritySet) → votes_at (run r s e (united v w)) l ≡ united (votes_at (run r s e v) l) (votes_at (run r s e w) l)
  unfolding votes_at run_covers run
  both_named s e w = go (covers (new_range r s e) l)
    where
      go : (t : Bool) → pick t (united v w) nobody ≡ united (pick t v nobody) (pick t w nobody)
      go true = refl
      go false = sym (united_nobody nobody)

pub unless_empty_lem : (x : Run) (xs : List Run) (l : TransactionLocator) → voters_in (unless_empty x xs) l ≡ united (votes_at x l) (voters_in xs l)
unfolding unless_empty voters_in
unless_empty_lem x xs l = go (dec_lt x.start x.end)
  where
    go : Dec (x.start < x.end) → voters_in (unless_empty x xs) l ≡ united (votes_at x l) (voters_in xs l)
    go (yes h) = rw (lt-ltb x.start x.end h)
    go (no h) = rw (le-ltb x.start x.end (omega arith), votes_out x l (λ c. omega (arith, c.from, c.below))) (sym (nobody_united (voters_in xs l)))

-- ---- two runs that overlap

four : (a b c d : AuthoritySet) → united (united a b) (united c d) ≡ united (united a c) (united b d)
four a b c d = united_assoc a b (united c d) ∙ ap (united a) (united_swap b c d) ∙ sym (united_assoc a c (united b d))

module _ (r : BlockReference) (y x : Run) (xs : List Run) (further : Run → List Run) (l : TransactionLocator)
    (others : (z : Run) → z.start < z.end → voters_in (further z) l ≡ united (votes_at z l) (voters_in xs l)) where
  overlaid_names : (s : ℕ) → s ≤ x.end → s ≤ y.end
      → voters_in (overlaid r s y x xs further) l ≡ united (votes_at (run r s y.end y.votes) l)
      (united (votes_at (run r s x.end x.votes) l) (voters_in xs l))
  unfolding overlaid voters_in run
  overlaid_names s h k = go (dec_lt x.end y.end)
    where
      go : Dec (x.end < y.end)
          → voters_in (overlaid r s y x xs further) l ≡ united (votes_at (run r s y.end y.votes) l)
          (united (votes_at (run r s x.end x.votes) l) (voters_in xs l))
      go (yes n) =
          rw (
            lt-ltb x.end y.end n,
            others (run r x.end y.end y.votes) n,
            both_named r y.votes l s x.end x.votes,
            in_parts r
                y.votes l s x.end y.end h (omega arith),
          )
          (four _ _ _ _)
      go (no n) =
          rw (
            le-ltb x.end y.end (omega arith),
            unless_empty_lem (run r y.end x.end x.votes) xs l,
            both_named r y.votes l s y.end x.votes,
            in_parts r x.votes l s y.end x.end k (omega arith),
          )
          (simp united_assoc)

  overlapping_names : y.start < y.end → x.start < x.end → y.start < x.end → x.start < y.end
      → voters_in (overlapping r y x xs further) l ≡ united (votes_at (run r y.start y.end y.votes) l)
      (united (votes_at (run r x.start x.end x.votes) l) (voters_in xs l))
  unfolding overlapping voters_in
  overlapping_names a b c d = go (dec_lt y.start x.start)
    where
      go : Dec (y.start < x.start)
          → voters_in (overlapping r y x xs further) l ≡ united (votes_at (run r y.start y.end y.votes) l)
          (united (votes_at (run r x.start x.end x.votes) l) (voters_in xs l))
      go (yes n) =
          rw (
            lt-ltb y.start x.start n,
            overlaid_names x.start (omega arith) (omega arith),
            in_parts r y.votes l y.start x.start y.end
                (omega arith) (omega arith),
          )
          (sym (united_assoc _ _ _))
      go (no n) =
          rw (
            le-ltb y.start x.start (omega arith),
            unless_empty_lem (run r x.start y.start x.votes) (overlaid r y.start y x xs further) l,
            overlaid_names y.start (omega arith) (omega arith),
            in_parts r x.votes l x.start y.start x.end (omega arith) (omega arith),
          )
          (united_swap _ _ _ ∙ ap (united (votes_at (run r y.start y.end y.votes) l)) (sym (united_assoc _ _ _)))

-- runs of which neither stands before the other are of one block, and overlap
pub record Overlap (y x : Run) : Type 0 where
  pub of : y.reference ≡ x.reference
  pub left : y.start < x.end
  pub right : x.start < y.end

pub overlap : (y x : Run) → run_before y x ≡ false → run_before x y ≡ false → Overlap y x
unfolding run_before
overlap y x h k =
    let e = reference_total y.reference x.reference (neither_left _ _ h) (neither_left _ _ k) in
    let a : ¬ (y.end ≤ x.start) = λ m. not_both (past_before y x (by_offset e m)) h in
    let b : ¬ (x.end ≤ y.start) = λ m. not_both (past_before x y (by_offset (sym e) m)) k in
    record { of = e; left = omega (arith, b); right = omega (arith, a) }

-- ---- one run more

pub added_names : (y : Run) (xs : List Run) → y.start < y.end → ((x : Run) → x ∈ xs → x.start < x.end) → (l : TransactionLocator)
    → voters_in (added y xs) l ≡ united (votes_at y l) (voters_in xs l)
unfolding added voters_in run
added_names y [] f g l = refl
added_names y (x ∷ xs) f g l = go (run_before y x) refl (run_before x y) refl (λ z h. added_names z xs h (λ w m. g w (there m)) l)
  where
    both : Overlap y x → ((z : Run) → z.start < z.end → voters_in (added z xs) l ≡ united (votes_at z l) (voters_in xs l))
        → voters_in (overlapping x.reference y x xs (λ z. added z xs)) l ≡ united (votes_at y l) (united (votes_at x l) (voters_in xs l))
    both o ih =
        overlapping_names x.reference y x xs (λ z. added z xs) l ih f (g x here) o.left o.right
        ∙ ap (λ (r : BlockReference). united (votes_at (run r y.start y.end y.votes) l) (united (votes_at x l) (voters_in xs l))) (sym o.of)

    go : (t : Bool) → run_before y x ≡ t → (u : Bool) → run_before x y ≡ u →
        ((z : Run) → z.start < z.end → voters_in (added z xs) l ≡ united (votes_at z l) (voters_in xs l))
        → voters_in (pick t (y ∷ x ∷ xs) (pick u (x ∷ added y xs) (overlapping x.reference y x xs (λ z. added z xs)))) l ≡ united (votes_at y l)
        (united (votes_at x l) (voters_in xs l))
    go true e u k ih = refl
    go false e true k ih = ap (united (votes_at x l)) (ih y f) ∙ united_swap (votes_at x l) (votes_at y l) (voters_in xs l)
    go false e false k ih = both (overlap y x e k) ih

-- a run that says nothing names nobody
pub silent : (x : Run) → says x ≡ false → (l : TransactionLocator) → votes_at x l ≡ nobody
unfolding says votes_at
silent x h l = go (dec_lt x.start x.end)
  where
    either : (t : Bool) → x.votes ≡ nobody → pick t x.votes nobody ≡ nobody
    either true e = e
    either false e = refl

    go : Dec (x.start < x.end) → votes_at x l ≡ nobody
    go (no k) = votes_out x l (λ c. omega (arith, c.from, c.below))
    go (yes k) = either (run_covers x l) (same_voters_lem x.votes nobody (not-false (same_voters x.votes nobody) (rw (lt-ltb x.start x.end k) at h)))

-- ---- neighbours joined

pub joined_to_names : (x : Run) (ys : List Run) → x.start < x.end → ((y : Run) → y ∈ ys → y.start < y.end) → (l : TransactionLocator)
    → voters_in (joined_to x ys) l ≡ united (votes_at x l) (voters_in ys l)
unfolding joined_to voters_in run
joined_to_names x [] f g l = refl
joined_to_names x (y ∷ ys) f g l = go (touches x y && same_voters x.votes y.votes) refl
  where
    one : (x.reference ≡ y.reference) → (x.end ≡ y.start) → x.votes ≡ y.votes → run x.reference x.end y.end x.votes ≡ y
    one r e v = λ i. record { reference = r i; start = e i; end = y.end; votes = v i }

    go : (t : Bool) → touches x y && same_voters x.votes y.votes ≡ t
        → voters_in (pick t (run x.reference x.start y.end x.votes ∷ ys) (x ∷ y ∷ ys)) l ≡ united (votes_at x l)
        (united (votes_at y l) (voters_in ys l))
    go false e = refl
    go true e =
        let n = touched x y (and_left _ _ e) in
        let v = same_voters_lem x.votes y.votes (and_right (touches x y) _ e) in
        ap (λ (w : AuthoritySet). united w (voters_in ys l)) (in_parts x.reference x.votes l x.start x.end y.end (omega arith)
        (omega (arith, n.1, g y here)))
        ∙ united_assoc (votes_at x l) _ _
        ∙ ap (λ (z : Run). united (votes_at x l) (united (votes_at z l) (voters_in ys l))) (one n.0 n.1 v)

-- ---- runs of two lists

pub append_names : (xs ys : List Run) (l : TransactionLocator) → voters_in (xs ++ ys) l ≡ united (voters_in xs l) (voters_in ys l)
unfolding voters_in
append_names [] ys l = sym (nobody_united (voters_in ys l))
append_names (x ∷ xs) ys l = ap (united (votes_at x l)) (append_names xs ys l) ∙ sym (united_assoc (votes_at x l) (voters_in xs l) (voters_in ys l))
