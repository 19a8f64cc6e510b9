-- One run more among ascending ones leaves them ascending; joined neighbours are the longest stretches. Assumes nothing.
use mathlib.Core.Path.{◌≡◌, refl, sym, ap, subst, ◌∙◌}
use mathlib.Core.Bool.{Bool, true, false, ◌&&◌}
use mathlib.Core.List.{List, [], ◌∷◌, ◌++◌}
use Prim.Native.Nat.{ℕ, ◌<◌}
use native.Mathlib.Omega.{arith}
use native.Mathlib.Decide.{dec_lt}
use lib.Dec.{ltb}
use borrow.Author.Tests.{lt-ltb, le-ltb, ltb-true, not-true}
use Rattle.base.specs.Lists.{pick}
use Rattle.base.proofs.Tests.{and_both, and_left, and_right, not_both}
use Rattle.committee_set.specs.AuthoritySet.{AuthoritySet, nobody, united}
use Rattle.record_spec.specs.Reference.{BlockReference, TransactionLocator}
use Rattle.committee_set.proofs.Words.{nobody_united}
use Rattle.index_spec.specs.Runs.{Run, run, votes_at, voters_in, same_voters, run_before, touches, unless_empty, overlaid, overlapping, added, says, gathered}
use Rattle.index_spec.specs.Runs.{joined_to, joined, stretched, merged}
use Rattle.index_spec.specs.Part.{RunsOf}
use Rattle.index_spec.proofs.Sets.{united_nobody_left, same_voters_lem, voters_same}
use Rattle.index_spec.specs.Walk.{Place, anywhere, beyond, At}
use Rattle.index_spec.proofs.Chain.{past_itself, before_past, touching, touched, Good, Chain, end, link, Anything, Differs, no_next, other}
use Rattle.index_spec.proofs.Relation.{good_in, chain_runs}
use Rattle.index_spec.proofs.Pointwise.{overlap, added_names, silent, joined_to_names, append_names}

-- ---- one run more

module _ (r : BlockReference) (y x : Run) (xs : List Run) (further : Run → List Run) (v : y.votes ≡ nobody → ⊥) (w : x.votes ≡ nobody → ⊥)
    (rest : Chain Anything (beyond r x.end) xs)
    (others : (z : Run) → Good z → At (beyond r x.end) z.reference z.start → Chain Anything (beyond r x.end) (further z)) where
  overlaid_chain : (p : Place) (s : ℕ) → At p r s → s < x.end → s < y.end → Chain Anything p (overlaid r s y x xs further)
  unfolding overlaid unless_empty run
  overlaid_chain p s a h k = go (dec_lt x.end y.end) (dec_lt y.end x.end)
    where
      voted : united y.votes x.votes ≡ nobody → ⊥
      voted e = v (united_nobody_left y.votes x.votes e)

      go : Dec (x.end < y.end) → Dec (y.end < x.end) → Chain Anything p (overlaid r s y x xs further)
      go (yes n) m =
          rw (lt-ltb x.end y.end n)
          (link a (record { full = h; voted = voted }) tt (others (run r x.end y.end y.votes) (record { full = n; voted = v })
          (past_itself r x.end)))
      go (no n) (yes m) =
          rw (le-ltb x.end y.end (omega arith), lt-ltb y.end x.end m)
          (link a (record { full = k; voted = voted }) tt (link {p = beyond r y.end} (past_itself r y.end) (record { full = m; voted = w }) tt rest))
      go (no n) (no m) =
          let e : x.end ≡ y.end = omega arith in
          rw (le-ltb x.end y.end (omega arith), le-ltb y.end x.end (omega arith))
          (link a (record { full = k; voted = voted }) tt (subst (λ (o : ℕ). Chain Anything (beyond r o) xs) e rest))

  overlapping_chain : (p : Place) → At p r y.start → At p r x.start → y.start < y.end → x.start < x.end → y.start < x.end → x.start < y.end
      → Chain Anything p (overlapping r y x xs further)
  unfolding overlapping unless_empty run
  overlapping_chain p a b f g c d = go (dec_lt y.start x.start) (dec_lt x.start y.start)
    where
      go : Dec (y.start < x.start) → Dec (x.start < y.start) → Chain Anything p (overlapping r y x xs further)
      go (yes n) m =
          rw (lt-ltb y.start x.start n)
          (link a (record { full = n; voted = v }) tt (overlaid_chain (beyond r x.start) x.start (past_itself r x.start) g d))
      go (no n) (yes m) =
          rw (le-ltb y.start x.start (omega arith), lt-ltb x.start y.start m)
          (link b (record { full = m; voted = w }) tt (overlaid_chain (beyond r y.start) y.start (past_itself r y.start) c f))
      go (no n) (no m) =
          rw (le-ltb y.start x.start (omega arith), le-ltb x.start y.start (omega arith))
          (overlaid_chain p y.start a c f)

pub added_chain : (p : Place) (y : Run) (xs : List Run) → Good y → At p y.reference y.start → Chain Anything p xs → Chain Anything p (added y xs)
unfolding added
added_chain p y [] g a h = link a g tt end
added_chain p y (x ∷ xs) g a (link b k d h) = go (run_before y x) refl (run_before x y) refl (λ z m n. added_chain (beyond x.reference x.end) z xs m n h)
  where
    go : (t : Bool) → run_before y x ≡ t → (u : Bool) → run_before x y ≡ u
        → ((z : Run) → Good z → At (beyond x.reference x.end) z.reference z.start → Chain Anything (beyond x.reference x.end) (added z xs))
        → Chain Anything p (pick t (y ∷ x ∷ xs) (pick u (x ∷ added y xs) (overlapping x.reference y x xs (λ z. added z xs))))
    go true e u n ih = link a g tt (link (before_past y x e) k tt h)
    go false e true n ih = link b k tt (ih y g (before_past x y n))
    go false e false n ih =
        let o = overlap y x e n in
        overlapping_chain x.reference y x xs (λ z. added z xs) g.voted k.voted h ih p
        (subst (λ (r : BlockReference). At p r y.start) o.of a) b g.full k.full o.left o.right

-- ---- any runs

says_good : (x : Run) → says x ≡ true → Good x
unfolding says
says_good x h =
    record {
      full = ltb-true x.start x.end (and_left (ltb x.start x.end) _ h);
      voted = λ e. not_both (voters_same x.votes nobody e) (not-true (same_voters x.votes nobody) (and_right (ltb x.start x.end) _ h));
    }

pub gathered_chain : (xs : List Run) → Chain Anything anywhere (gathered xs)
unfolding gathered
gathered_chain [] = end
gathered_chain (x ∷ xs) = go (says x) refl (gathered_chain xs)
  where
    go : (t : Bool) → says x ≡ t → Chain Anything anywhere (gathered xs) → Chain Anything anywhere (pick t (added x (gathered xs)) (gathered xs))
    go true e ih = added_chain anywhere x (gathered xs) (says_good x e) tt ih
    go false e ih = ih

pub gathered_names : (xs : List Run) (l : TransactionLocator) → voters_in (gathered xs) l ≡ voters_in xs l
unfolding gathered voters_in
gathered_names [] l = refl
gathered_names (x ∷ xs) l = go (says x) refl (gathered_names xs l)
  where
    go : (t : Bool) → says x ≡ t → voters_in (gathered xs) l ≡ voters_in xs l → voters_in (pick t (added x (gathered xs)) (gathered xs)) l
        ≡ united (votes_at x l)
        (voters_in xs l)
    go true e ih =
        added_names x (gathered xs) (says_good x e).full (λ z m. (good_in z (gathered xs) (gathered_chain xs) m).full) l
        ∙ ap (united (votes_at x l)) ih
    go false e ih = ih ∙ sym (nobody_united (voters_in xs l)) ∙ ap (λ (v : AuthoritySet). united v (voters_in xs l)) (sym (silent x e l))

-- ---- neighbours joined

joined_to_chain : (p : Place) (x : Run) (ys : List Run) → Good x → At p x.reference x.start → Chain Differs (beyond x.reference x.end) ys → Chain
    Differs p (joined_to x ys)
unfolding joined_to run
joined_to_chain p x [] g a h = link a g no_next end
joined_to_chain p x (y ∷ ys) g a (link b k d h) = go (touches x y && same_voters x.votes y.votes) refl
  where
    differs : {zs : List Run} → Differs y zs → x.reference ≡ y.reference → x.votes ≡ y.votes → Differs (run x.reference x.start y.end x.votes)
        zs
    differs no_next r v = no_next
    differs (other {y = z} f) r v =
        other (λ t e. let n = touched (run x.reference x.start y.end x.votes) z t in f (touching y z (sym r ∙ n.0) n.1) (sym v ∙ e))

    go : (t : Bool) → touches x y && same_voters x.votes y.votes ≡ t → Chain Differs p
        (pick t (run x.reference x.start y.end x.votes ∷ ys) (x ∷ y ∷ ys))
    go true e =
        let n = touched x y (and_left _ _ e) in
        let v = same_voters_lem x.votes y.votes (and_right (touches x y) _ e) in
        let full : x.start < y.end = omega (arith, g.full, n.1, k.full) in
        link a (record { full = full; voted = g.voted }) (differs d n.0 v)
        (subst (λ (r : BlockReference). Chain Differs (beyond r y.end) ys) (sym n.0) h)
    go false e = link a g (other (λ t v. not_both (and_both (touches x y) _ t (voters_same x.votes y.votes v)) e)) (link b k d h)

pub joined_chain : (p : Place) (xs : List Run) → Chain Anything p xs → Chain Differs p (joined xs)
unfolding joined
joined_chain p xs end = end
joined_chain p xs (link {x = x} {xs = ys} a g d h) = joined_to_chain p x (joined ys) g a (joined_chain (beyond x.reference x.end) ys h)

pub joined_names : (p : Place) (xs : List Run) → Chain Anything p xs → (l : TransactionLocator) → voters_in (joined xs) l ≡ voters_in xs l
unfolding joined voters_in
joined_names p xs end l = refl
joined_names p xs (link {x = x} {xs = ys} a g d h) l =
    joined_to_names x (joined ys) g.full (λ z m. (good_in z (joined ys) (joined_chain (beyond x.reference x.end) ys h) m).full) l
    ∙ ap (united (votes_at x l)) (joined_names (beyond x.reference x.end) ys h l)

-- ---- the longest stretches of what any runs say

pub stretched_names : (xs : List Run) (l : TransactionLocator) → voters_in (stretched xs) l ≡ voters_in xs l
unfolding stretched
stretched_names xs l = joined_names anywhere (gathered xs) (gathered_chain xs) l ∙ gathered_names xs l

pub stretched_runs : (f : TransactionLocator → AuthoritySet) (xs : List Run) → ((l : TransactionLocator) → voters_in xs l ≡ f l) → RunsOf f (stretched xs)
unfolding stretched
stretched_runs f xs e = chain_runs f (joined (gathered xs)) (joined_chain anywhere (gathered xs) (gathered_chain xs))
    (λ l. unfold stretched in (stretched_names xs l ∙ e l))

-- whom two lists name together, their merge names
pub merged_names_lem : (xs ys : List Run) (l : TransactionLocator) → voters_in (merged xs ys) l ≡ united (voters_in xs l) (voters_in ys l)
unfolding merged
merged_names_lem xs ys l = stretched_names (xs ++ ys) l ∙ append_names xs ys l

pub merged_runs_lem : (xs ys : List Run) → RunsOf (λ l. united (voters_in xs l) (voters_in ys l)) (merged xs ys)
unfolding merged
merged_runs_lem xs ys = stretched_runs (λ l. united (voters_in xs l) (voters_in ys l)) (xs ++ ys) (append_names xs ys)
