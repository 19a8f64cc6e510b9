-- Runs that stand to voters as 02 says are chains that name these voters, and the other way. Assumes nothing.
use mathlib.Core.Path.{◌≡◌, refl, sym, ap, subst, ◌∙◌}
use mathlib.Core.Logic.{◌⊎◌, inl, inr}
use mathlib.Core.Bool.{true, false}
use mathlib.Core.List.{List, [], ◌∷◌}
use Prim.Native.Nat.{ℕ, ◌+◌, ◌≤◌, ◌<◌}
use native.Mathlib.Omega.{arith}
use native.Mathlib.Decide.{dec_lt}
use Rattle.base.specs.Lists.{any_of, ◌∈◌, here, there}
use Rattle.base.proofs.Tests.{holds_or_not, not_both}
use Rattle.base.proofs.Members.{any_in, in_any}
use Rattle.committee_set.specs.AuthoritySet.{AuthoritySet, nobody}
use Rattle.record_spec.specs.Reference.{BlockReference, TransactionLocator, locator, reference_before}
use Rattle.record_spec.proofs.References.{reference_irrefl}
use Rattle.index_spec.specs.Runs.{Run, run_covers, voters_in, same_voters, run_before, touches}
use Rattle.index_spec.specs.Part.{Neighbours, next, later, RunsOf, Longest}
use Rattle.index_spec.proofs.Sets.{same_voters_lem, voters_same}
use Rattle.index_spec.specs.Walk.{Past, by_block, by_offset, Place, anywhere, beyond, At}
use Rattle.index_spec.proofs.Chain.{before_past, past_before, Covered, covered, is_covered, Good, Chain, end, link, Differs, no_next, other, past_head}
use Rattle.index_spec.proofs.Chain.{chain_past, rest_nobody, at_head}
use Rattle.index_spec.proofs.Unique.{at_end, chains_equal}

-- ---- runs of a chain

module _ {D : Run → List Run → Type 0} where
  pub good_in : {p : Place} (x : Run) (xs : List Run) → Chain D p xs → x ∈ xs → Good x
  good_in x _ (end {p = p}) x7 = elim x7 [ ]
  good_in x xs (link a g d h) here = g
  good_in x xs (link {xs = ys} a g d h) (there m) = good_in x ys h m

  -- every run lies past the place
  pub past_in : {q : BlockReference} {e : ℕ} (x : Run) (xs : List Run) → Chain D (beyond q e) xs → x ∈ xs → Past q e x.reference x.start
  past_in {q = q} {e = e} x [] _ x4 = elim x4 [ ]
  past_in x (y ∷ xs) (link a g d h) here = a
  past_in x (y ∷ xs) (link a g d h) (there m) = past_in x xs (chain_past y xs a (omega (arith, g.full)) h) m

  -- where a run covers a locator, its voters are named
  pub in_chain : {p : Place} (x : Run) (xs : List Run) → Chain D p xs → x ∈ xs → (l : TransactionLocator) → Covered x l → voters_in xs l ≡ x.votes
  in_chain {p = p} x [] _ x5 l c = elim x5 [ ]
  in_chain x (y ∷ xs) (link a g d h) here l c = at_head y xs h l c
  in_chain x (y ∷ xs) (link a g d h) (there m) l c =
      let e = in_chain x xs h m l c in
      past_head y xs l (λ k. (good_in x xs h m).voted (sym e ∙ rest_nobody y xs h l k)) ∙ e

  -- one run covers a locator
  pub one_run : {p : Place} (x y : Run) (xs : List Run) → Chain D p xs → x ∈ xs → y ∈ xs → (l : TransactionLocator) → Covered x l → Covered y l → x ≡ y
  one_run {p = p} x y [] _ x7 _ l c k = elim x7 [ ]
  one_run x y (z ∷ xs) (link a g d h) here here l c k = refl
  one_run x y (z ∷ xs) (link a g d h) here (there n) l c k = absurd ((good_in y xs h n).voted (sym (in_chain y xs h n l k) ∙ rest_nobody x xs h l c))
  one_run x y (z ∷ xs) (link a g d h) (there m) here l c k = absurd ((good_in x xs h m).voted (sym (in_chain x xs h m l c) ∙ rest_nobody y xs h l k))
  one_run x y (z ∷ xs) (link a g d h) (there m) (there n) l c k = one_run x y xs h m n l c k

-- where none does, nobody
pub out_chain : (xs : List Run) (l : TransactionLocator) → ((x : Run) → x ∈ xs → Covered x l → ⊥) → voters_in xs l ≡ nobody
unfolding voters_in
out_chain [] l h = refl
out_chain (x ∷ xs) l h = past_head x xs l (h x here) ∙ out_chain xs l (λ z m. h z (there m))

pub none_covers : (xs : List Run) (l : TransactionLocator) → any_of (λ x. run_covers x l) xs ≡ false → voters_in xs l ≡ nobody
none_covers xs l h = out_chain xs l (λ x m c. not_both (in_any (λ z. run_covers z l) m (is_covered x l c)) h)

-- ---- from the relation

abbrev Begins : Place → List Run → Type 0
Begins p [] = Unit {0}
Begins p (x ∷ xs) = At p x.reference x.start

chain_of : (p : Place) (xs : List Run) → Begins p xs → ((x : Run) → x ∈ xs → Good x) → ((x y : Run) → Neighbours x y xs → run_before x y ≡ true)
    → ((x y : Run) → Neighbours x y xs → touches x y ≡ true → x.votes ≡ y.votes → ⊥) → Chain Differs p xs
chain_of p [] b g n t = end
chain_of p (x ∷ xs) b g n t =
    link b (g x here) (differs xs t)
    (chain_of (beyond x.reference x.end) xs (begins xs n) (λ z m. g z (there m)) (λ y z m. n y z (later m)) (λ y z m. t y z (later m)))
  where
    differs : (ys : List Run) → ((y z : Run) → Neighbours y z (x ∷ ys) → touches y z ≡ true → y.votes ≡ z.votes → ⊥) → Differs x ys
    differs [] f = no_next
    differs (y ∷ ys) f = other (f x y next)

    begins : (ys : List Run) → ((y z : Run) → Neighbours y z (x ∷ ys) → run_before y z ≡ true) → Begins (beyond x.reference x.end) ys
    begins [] f = tt
    begins (y ∷ ys) f = before_past x y (f x y next)

module _ {f : TransactionLocator → AuthoritySet} (xs : List Run) (r : RunsOf f xs) where
  pub runs_chain : Chain Differs anywhere xs
  runs_chain = chain_of anywhere xs (begins xs) (λ x m. record { full = (r.stretches x m).full; voted = (r.stretches x m).voted }) r.ascending r.longest
    where
      begins : (ys : List Run) → Begins anywhere ys
      begins [] = tt
      begins (y ∷ ys) = tt

  pub runs_told : (l : TransactionLocator) → voters_in xs l ≡ f l
  unfolding locator
  runs_told l = go (holds_or_not (any_of (λ x. run_covers x l) xs)) (holds_or_not (same_voters (f l) nobody))
    where
      inside : (x : Run) → x ∈ xs → Covered x l → voters_in xs l ≡ f l
      inside x m c =
          in_chain x xs runs_chain m l c
          ∙ sym ((r.stretches x m).told l.offset c.from c.below)
          ∙ ap (λ (q : BlockReference). f (locator q l.offset)) c.of

      go : (any_of (λ x. run_covers x l) xs ≡ true) ⊎ (any_of (λ x. run_covers x l) xs ≡ false) → (same_voters (f l) nobody ≡ true) ⊎
          (same_voters (f l) nobody ≡ false) → voters_in xs l ≡ f l
      go (inl h) e = let x = any_in (λ z. run_covers z l) xs h in inside x.0 x.1 (covered x.0 l x.2)
      go (inr h) (inl e) = none_covers xs l h ∙ sym (same_voters_lem (f l) nobody e)
      go (inr h) (inr e) =
          let x = r.complete l (λ z. not_both (voters_same (f l) nobody z) e) in
          absurd (not_both (in_any (λ z. run_covers z l) x.1 x.2) h)

-- 02: there is one such list
pub one_list_lem : (f : TransactionLocator → AuthoritySet) (xs ys : List Run) → RunsOf f xs → RunsOf f ys → xs ≡ ys
one_list_lem f xs ys r q = chains_equal xs ys (runs_chain xs r) (runs_chain ys q) (λ l. runs_told xs r l ∙ sym (runs_told ys q l))

-- ---- to the relation

neighbours_past : {p : Place} (x y : Run) (xs : List Run) → Chain Differs p xs → Neighbours x y xs → Past x.reference x.end y.reference y.start
neighbours_past x y _ (end {p = p}) x7 = elim x7 [ ]
neighbours_past x y xs (link a g d (link b k e h)) next = b
neighbours_past x y xs (link {xs = ys} a g d h) (later n) = neighbours_past x y ys h n

neighbours_differ : {p : Place} (x y : Run) (xs : List Run) → Chain Differs p xs → Neighbours x y xs → touches x y ≡ true → x.votes ≡ y.votes → ⊥
neighbours_differ x y _ (end {p = p}) x7 = elim x7 [ ]
neighbours_differ x y xs (link a g (other d) h) next = d
neighbours_differ x y xs (link {xs = ys} a g d h) (later n) = neighbours_differ x y ys h n

pub chain_runs : {p : Place} (f : TransactionLocator → AuthoritySet) (xs : List Run) → Chain Differs p xs → ((l : TransactionLocator) → voters_in xs l ≡ f l) →
    RunsOf f xs
unfolding locator
chain_runs f xs h e =
    record {
      stretches = λ x m. record {
        full = (good_in x xs h m).full;
        voted = (good_in x xs h m).voted;
        told = λ o a b. sym (e (locator x.reference o)) ∙ in_chain x xs h m (locator x.reference o) (record { of = refl; from = a; below = b });
      };
      ascending = λ x y n. past_before x y (neighbours_past x y xs h n);
      longest = neighbours_differ_in;
      complete = λ l k. go l k (holds_or_not (any_of (λ x. run_covers x l) xs));
    }
  where
    neighbours_differ_in : (x y : Run) → Neighbours x y xs → touches x y ≡ true → x.votes ≡ y.votes → ⊥
    neighbours_differ_in x y n = neighbours_differ x y xs h n

    go : (l : TransactionLocator) → (f l ≡ nobody → ⊥) → (any_of (λ x. run_covers x l) xs ≡ true) ⊎ (any_of (λ x. run_covers x l) xs ≡ false) → (x : Run) ×
        (x ∈ xs) × (run_covers x l ≡ true)
    go l k (inl n) = any_in (λ z. run_covers z l) xs n
    go l k (inr n) = absurd (k (sym (e l) ∙ none_covers xs l n))

-- ---- the longest stretches

onward_in : {p : Place} (x : Run) (xs : List Run) → Chain Differs p xs → x ∈ xs → voters_in xs (locator x.reference x.end) ≡ x.votes → ⊥
unfolding locator
onward_in {p = p} x [] _ x5 e = elim x5 [ ]
onward_in x (y ∷ xs) (link a g d h) here e = at_end x xs g d h (sym (past_head x xs (locator x.reference x.end) (λ c. omega (arith, c.below))) ∙ e)
onward_in x (y ∷ xs) (link a g d h) (there m) e =
    onward_in x xs h m (sym (past_head y xs (locator x.reference x.end) (λ c. out (past_in x xs h m) c.of c.below (good_in x xs h m).full)) ∙ e)
  where
    out : Past y.reference y.end x.reference x.start → y.reference ≡ x.reference → x.end < y.end → x.start < x.end → ⊥
    out (by_block b) r k n = reference_irrefl x.reference (subst (λ (q : BlockReference). reference_before q x.reference ≡ true) r b)
    out (by_offset b c) r k n = omega arith

module _ (f : TransactionLocator → AuthoritySet) (xs : List Run) (r : RunsOf f xs) where
  onward : (x : Run) → x ∈ xs → f (locator x.reference x.end) ≡ x.votes → ⊥
  onward x m e = onward_in x xs (runs_chain xs r) m (runs_told xs r (locator x.reference x.end) ∙ e)

  pub longest_runs_lem : (x : Run) → x ∈ xs → Longest f x
  unfolding locator
  longest_runs_lem x m = record { onward = onward x m; backward = back }
    where
      back : (o : ℕ) → o < x.start → x.start ≤ o + 1 → f (locator x.reference o) ≡ x.votes → ⊥
      back o a b e = found (r.complete (locator x.reference o) (λ z. (r.stretches x m).voted (sym e ∙ z)))
        where
          split : (y : Run) → y ∈ xs → Covered y (locator x.reference o) → y.votes ≡ x.votes → Dec (x.start < y.end) → ⊥
          split y n c v (yes k) =
              let z = one_run x y xs (runs_chain xs r) m n (locator x.reference x.start)
              (record { of = refl; from = omega arith; below = (r.stretches x m).full })
              (record { of = c.of; from = omega (arith, c.from); below = k }) in
              omega (arith, ap (λ (w : Run). w.start) z, c.from)
          split y n c v (no k) =
              let z : y.end ≡ x.start = omega (arith, c.below) in
              onward y n (ap f (λ i. locator (c.of i) (z i)) ∙ (r.stretches x m).told x.start (omega arith) (r.stretches x m).full ∙ sym v)

          found : ((y : Run) × (y ∈ xs) × (run_covers y (locator x.reference o) ≡ true)) → ⊥
          found y =
              let c = covered y.0 (locator x.reference o) y.2 in
              let v : y.0.votes ≡ x.votes = sym (in_chain y.0 xs (runs_chain xs r) y.1 (locator x.reference o) c) ∙ runs_told xs r
              (locator x.reference o) ∙ e in
              split y.0 y.1 c v (dec_lt x.start y.0.end)
