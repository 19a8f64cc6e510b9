-- The walk along the next positions: where it comes to its end after as many ascending entries as there are, the chain is right; and where the
-- chain is right, the walk goes on until then. Assumes nothing.
use mathlib.Core.Path.{◌≡◌, refl, sym, ap, subst, ◌∙◌}
use mathlib.Core.Logic.{◌⊎◌, inl, inr}
use mathlib.Core.List.{List, [], ◌∷◌, ◌++◌, append_assoc}
use mathlib.Core.Bool.{Bool, true, false}
use Prim.Native.Nat.{ℕ, suc, ◌+◌}
use native.Mathlib.Omega.{arith}
use lib.ListN.{length}
use Rattle.base.specs.Lists.{pick, ◌∈◌, here, there, Once, empty, also}
use Rattle.base.specs.Le.{Bytes, le_at}
use Rattle.base.proofs.Tests.{fails, not_both}
use Rattle.base.proofs.Lists.{Every, none_of, and, every, every_in, Pairs, no_pairs, with_later}
use Rattle.base.proofs.Members.{in_empty, in_cases, in_first}
use Rattle.base.proofs.Covered.{covered}
use Rattle.record_spec.specs.Reference.{same_reference}
use Rattle.record_spec.proofs.References.{reference_irrefl, reference_asymmetric, reference_trans, reference_same}
use Rattle.store_spec.specs.Layout.{Record, Entry, reference_of, entries, position_of, first_position, next_position, placed, ascending}
use Rattle.store_spec.proofs.Store.{entries_within}
use Rattle.store_spec.specs.Step.{first}
use Rattle.store_spec.proofs.Chain.{lower, Ascending, Distinct, lower_self, least_first, ascending_every, ascending_ascends, next_after}
use Rattle.store_spec.proofs.Splice.{Apart, entries_apart, ascending_back}
use Rattle.store_spec.proofs.Check.{Chained, in_every}

-- ---- lists

-- what was passed, the latest first, and what is to come
unfoldable pub back : {A : Type 0} → List A → List A → List A
back [] ys = ys
back (x ∷ xs) ys = back xs (x ∷ ys)

pub back_append : {A : Type 0} (xs ys : List A) → back xs ys ≡ back xs [] ++ ys
unfolding back
back_append [] ys = refl
back_append {A} (x ∷ xs) ys =
    back_append xs (x ∷ ys) ∙ sym (ap (λ (l : List A). l ++ ys) (back_append xs (x ∷ [])) ∙ append_assoc (back xs []) (x ∷ []) ys)

pub length_back : {A : Type 0} (xs ys : List A) → length (back xs ys) ≡ length xs + length ys
unfolding back
length_back [] ys = omega arith
length_back (x ∷ xs) ys = omega (arith, length_back xs (x ∷ ys))

-- of a list that is passed and to come
pub in_back : {A : Type 0} {a : A} (xs ys : List A) → a ∈ back xs ys → (a ∈ xs) ⊎ (a ∈ ys)
unfolding back
in_back [] ys m = inr m
in_back {A} {a} (x ∷ xs) ys m = go (in_back xs (x ∷ ys) m)
  where
    also_here : (a ≡ x) ⊎ (a ∈ ys) → (a ∈ (x ∷ xs)) ⊎ (a ∈ ys)
    also_here (inl e) = inl (in_first e)
    also_here (inr k) = inr k

    go : (a ∈ xs) ⊎ (a ∈ (x ∷ ys)) → (a ∈ (x ∷ xs)) ⊎ (a ∈ ys)
    go (inl k) = inl (there k)
    go (inr k) = also_here (in_cases k)

pub back_right : {A : Type 0} {a : A} (xs ys : List A) → a ∈ ys → a ∈ back xs ys
unfolding back
back_right [] ys m = m
back_right (x ∷ xs) ys m = back_right xs (x ∷ ys) (there m)

pub back_left : {A : Type 0} {a : A} (xs ys : List A) → a ∈ xs → a ∈ back xs ys
unfolding back
back_left {A = A} {a = a} [] ys x' = elim x' [ ]
back_left (x ∷ xs) ys here = back_right xs (x ∷ ys) here
back_left (x ∷ xs) ys (there m) = back_left xs (x ∷ ys) m

-- ---- entries in descending order, the latest first

abbrev pub Descending : List Entry → Type 0
Descending xs = Pairs (λ e d. lower d e ≡ true) xs

back_ascends : (xs ys : List Entry) → Descending xs → Ascending ys → Every (λ x. Every (λ y. lower x y ≡ true) ys) xs → Ascending (back xs ys)
unfolding back
back_ascends [] ys no_pairs a none_of = a
back_ascends (x ∷ xs) ys (with_later h hs) a (and k ks) =
    back_ascends xs (x ∷ ys) hs (with_later k a) (both xs h ks)
  where
    both : (zs : List Entry) → Every (λ d. lower d x ≡ true) zs → Every (λ z. Every (λ y. lower z y ≡ true) ys) zs → Every
        (λ z. Every (λ y. lower z y ≡ true) (x ∷ ys)) zs
    both [] none_of none_of = none_of
    both (z ∷ zs) (and l ls) (and m ms) = and (and l m) (both zs ls ms)

pub descending_back : (xs : List Entry) → Descending xs → Ascending (back xs [])
descending_back xs h = back_ascends xs [] h no_pairs (in_every xs (λ x m. none_of))

descending_once : (xs : List Entry) → Descending xs → Once xs
descending_once [] no_pairs = empty
descending_once (x ∷ xs) (with_later h hs) = also (λ m. not_both (every_in xs x h m) (lower_self x)) (descending_once xs hs)

-- one more, above the latest
pub descending_more : (e x : Entry) (xs : List Entry) → lower x e ≡ true → Descending (x ∷ xs) → Descending (e ∷ x ∷ xs)
descending_more e x xs l (with_later h hs) =
    with_later (and l (every (λ d k. reference_trans (reference_of d) (reference_of x) (reference_of e) k l) xs h)) (with_later h hs)

same_rest : (x y : Entry) (xs ys : List Entry) → x ≡ y → Every (λ d. lower x d ≡ true) xs → ((e : Entry) → e ∈ (x ∷ xs) → e ∈ (y ∷ ys)) → (e : Entry) → e ∈ xs
    → e ∈ ys
same_rest x y xs ys q h f e m = go (in_cases (f e (there m)))
  where
    go : (e ≡ y) ⊎ (e ∈ ys) → e ∈ ys
    go (inl r) = absurd (not_both (every_in xs e h m) (rw (r ∙ sym q) (lower_self x)))
    go (inr k) = k

-- two lists in ascending order with the same entries are the same
pub ascending_same : (xs ys : List Entry) → Ascending xs → Ascending ys → ((e : Entry) → e ∈ xs → e ∈ ys) → ((e : Entry) → e ∈ ys → e ∈ xs) → xs ≡ ys
ascending_same [] [] a b f g = refl
ascending_same [] (y ∷ ys) a b f g = absurd (in_empty (g y here))
ascending_same (x ∷ xs) [] a b f g = absurd (in_empty (f x here))
ascending_same (x ∷ xs) (y ∷ ys) (with_later h hs) (with_later k ks) f g =
    let q : x ≡ y = heads (in_cases (f x here)) (in_cases (g y here)) in
    let rest : xs ≡ ys = ascending_same xs ys hs ks (same_rest x y xs ys q h f) (same_rest y x ys xs (sym q) k g) in
    cc
  where
    heads : (x ≡ y) ⊎ (x ∈ ys) → (y ≡ x) ⊎ (y ∈ xs) → x ≡ y
    heads (inl e) c = e
    heads (inr m) (inl e) = sym e
    heads (inr m) (inr n) = absurd (not_both (every_in ys x k m) (reference_asymmetric (reference_of x) (reference_of y) (every_in xs y h n)))

-- ---- sorting keeps the entries

pub ascending_in : (es : List Entry) (e : Entry) → e ∈ ascending es → e ∈ es
ascending_in es e m = every_in (ascending es) e (ascending_every es (in_every es (λ x k. k))) m

pub in_ascending : (es : List Entry) (e : Entry) → e ∈ es → e ∈ ascending es
in_ascending es e m = every_in es e (ascending_back es (in_every (ascending es) (λ x k. k))) m

length_placed : (e : Entry) (ds : List Entry) → length (placed e ds) ≡ suc (length ds)
unfolding placed
length_placed e [] = refl
length_placed e (d ∷ ds) = go (lower e d) (length_placed e ds)
  where
    go : (t : Bool) → length (placed e ds) ≡ suc (length ds) → length (pick t (e ∷ d ∷ ds) (d ∷ placed e ds)) ≡ suc (suc (length ds))
    go true h = refl
    go false h = ap suc h

pub length_ascending : (es : List Entry) → length (ascending es) ≡ length es
unfolding ascending
length_ascending [] = refl
length_ascending (e ∷ es) = length_placed e (ascending es) ∙ ap suc (length_ascending es)

pub length_entries : (rs : List Record) → length (entries rs) ≡ length rs
unfolding entries
length_entries [] = refl
length_entries (r ∷ rs) = ap suc (length_entries rs)

-- an entry is known by its position
apart_same : (es : List Entry) → Pairs Apart es → (e d : Entry) → e ∈ es → d ∈ es → e.position ≡ d.position → e ≡ d
apart_same [] _ e d x5 _ q = elim x5 [ ]
apart_same (x ∷ es) (with_later h hs) e d here here q = refl
apart_same (x ∷ es) (with_later h hs) e d here (there m) q = absurd (every_in es d h m q)
apart_same (x ∷ es) (with_later h hs) e d (there m) here q = absurd (every_in es e h m (sym q))
apart_same (x ∷ es) (with_later h hs) e d (there m) (there n) q = apart_same es hs e d m n q

pub one_position : (rs : List Record) (e d : Entry) → e ∈ entries rs → d ∈ entries rs → e.position ≡ d.position → e ≡ d
one_position rs = apart_same (entries rs) (entries_apart rs)

-- ---- the walk

-- the walk along the next positions of a store has passed the entries xs, the latest first, and has come to a position
pub data Linked (s : Bytes) : List Entry → ℕ → Type 0 where
  begins : {p : ℕ} → p ≡ le_at 4 s 0 → Linked s [] p
  goes : {e : Entry} {xs : List Entry} {p : ℕ} → Linked s xs e.position → p ≡ le_at 4 s e.position → Linked s (e ∷ xs) p

module _ (s : Bytes) (rs : List Record) where
  abbrev all : List Entry
  all = entries rs

  -- what is still to come of the entries in ascending order
  pub record ToCome (xs : List Entry) (at : ℕ) : Type 0 where
    pub rest : List Entry
    pub sorted : ascending all ≡ back xs rest
    pub next : at ≡ position_of (first rest)

  -- where the chain is right, the walk passes the entries in ascending order
  pub comes : Chained s all → (xs : List Entry) (at : ℕ) → Linked s xs at → Every (λ e. e ∈ all) xs → ToCome xs at
  unfolding back position_of first first_position
  comes c [] at (begins q) none_of = record { rest = ascending all; sorted = refl; next = q ∙ c.first ∙ ap position_of (least_first all) }
  comes c (e ∷ xs) at (goes l q) (and m ms) = go (comes c xs e.position l ms)
    where
      in_order_lem : (y : Entry) (ys : List Entry) → ascending all ≡ back xs (y ∷ ys) → y ∈ all
      in_order_lem y ys h = ascending_in all y (subst (λ (l : List Entry). y ∈ l) (sym h) (back_right xs (y ∷ ys) here))

      by_rest : (ys : List Entry) → ascending all ≡ back xs ys → e.position ≡ position_of (first ys) → ToCome (e ∷ xs) at
      by_rest [] h n = absurd (omega (arith, (every_in all e (entries_within rs) m).from))
      by_rest (y ∷ ys) h n =
          let same : e ≡ y = one_position rs e y m (in_order_lem y ys h) n in
          let h' : ascending all ≡ back xs (e ∷ ys) = h ∙ ap (λ (z : Entry). back xs (z ∷ ys)) (sym same) in
          record {
            rest = ys;
            sorted = h';
            next = q ∙ every_in all e c.next m ∙ next_after all (back xs []) ys e c.distinct
                (h' ∙ back_append xs (e ∷ ys));
          }

      go : ToCome xs e.position → ToCome (e ∷ xs) at
      go t = by_rest t.rest t.sorted t.next

  -- where the walk passed the entries in ascending order, the chain is right
  passed : (xs ys : List Entry) (at : ℕ) → Distinct all → ascending all ≡ back xs ys → Linked s xs at → at ≡ position_of (first ys)
      → (le_at 4 s 0 ≡ first_position all) × Every (λ e. le_at 4 s e.position ≡ next_position all e) xs
  unfolding back position_of first first_position
  passed [] ys at d h (begins q) n = (sym q ∙ n ∙ ap (λ (l : List Entry). position_of (first l)) (sym h) ∙ ap position_of (sym (least_first all)), none_of)
  passed (e ∷ xs) ys at d h (goes l q) n =
      let r = passed xs (e ∷ ys) e.position d h l refl in
      (r.0, and (sym q ∙ n ∙ sym (next_after all (back xs []) ys e d (h ∙ back_append xs (e ∷ ys)))) r.1)

  -- entries that were all passed differ
  passed_distinct : (xs : List Entry) → Descending xs → ((e : Entry) → e ∈ all → e ∈ xs) → Distinct all
  passed_distinct xs d f = go all (λ e m. f e m) (entries_apart rs)
    where
      pair : (ys : List Entry) → Descending ys → (e x : Entry) → e ∈ ys → x ∈ ys → Apart e x → same_reference (reference_of e) (reference_of x) ≡ false
      pair [] _ e x x7 _ a = elim x7 [ ]
      pair (y ∷ ys) (with_later h hs) e x here here a = absurd (a refl)
      pair (y ∷ ys) (with_later h hs) e x here (there m) a = fails _
          (λ t. reference_irrefl (reference_of x) (rw (reference_same (reference_of y) (reference_of x) t) at (every_in ys x h m)))
      pair (y ∷ ys) (with_later h hs) e x (there m) here a = fails _
          (λ t. reference_irrefl (reference_of e) (rw (← reference_same (reference_of e) (reference_of y) t) at (every_in ys e h m)))
      pair (y ∷ ys) (with_later h hs) e x (there m) (there n) a = pair ys hs e x m n a

      go : (es : List Entry) → ((e : Entry) → e ∈ es → e ∈ xs) → Pairs Apart es → Distinct es
      go [] g no_pairs = no_pairs
      go (e ∷ es) g (with_later h hs) =
          with_later (in_every es (λ x m. pair xs d e x (g e here) (g x (there m)) (every_in es x h m))) (go es (λ x m. g x (there m)) hs)

  -- the walk came to its end after as many ascending entries as there are
  pub record Ended (xs : List Entry) : Type 0 where
    pub chain : Chained s all
    pub sorted : ascending all ≡ back xs []

  pub ended : (xs : List Entry) → Linked s xs 0 → Every (λ e. e ∈ all) xs → Descending xs → length xs ≡ length all → Ended xs
  unfolding position_of first
  ended xs l ms d n =
      let into : (e : Entry) → e ∈ xs → e ∈ all = λ e m. every_in xs e ms m in
      let from : (e : Entry) → e ∈ all → e ∈ xs = covered xs all (descending_once xs d) into (omega arith) in
      let far : Distinct all = passed_distinct xs d from in
      let sorted : ascending all ≡ back xs [] =
      ascending_same (ascending all) (back xs []) (ascending_ascends all far) (descending_back xs d)
      (λ e m. back_left xs [] (from e (ascending_in all e m)))
      (λ e m. in_ascending all e (into e (of_back xs e m))) in
      let p = passed xs [] 0 far sorted l refl in
      record { chain = record { first = p.0; next = in_every all (λ e m. every_in xs e p.1 (from e m)); distinct = far }; sorted = sorted }
    where
      of_back : (xs : List Entry) (e : Entry) → e ∈ back xs [] → e ∈ xs
      of_back xs e m = go (in_back xs [] m)
        where
          go : (e ∈ xs) ⊎ (e ∈ []) → e ∈ xs
          go (inl k) = k
          go (inr k) = absurd (in_empty k)
