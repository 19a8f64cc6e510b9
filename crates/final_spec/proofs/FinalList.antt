-- The final list: ascending, with every final locator. Assumes nothing.
use mathlib.Core.Path.{◌≡◌, refl, sym, ap₂, ◌∙◌, subst}
use mathlib.Core.Logic.{◌⊎◌, inl, inr, ◌↔◌}
use mathlib.Core.Bool.{Bool, true, false}
use mathlib.Core.List.{List, [], ◌∷◌, map, flatten}
use Prim.Native.Nat.{◌-◌}
use native.Mathlib.Omega.{arith}
use Rattle.base.specs.Lists.{pick, keep, count_from, ◌∈◌, here, there}
use Rattle.base.proofs.Tests.{not_both, holds_or_not}
use Rattle.base.proofs.Members.{in_empty, in_cases, in_first, in_flatten, in_map, in_keep, keep_in, in_count_from}
use Rattle.committee.specs.Committee.{Committee}
use Rattle.record_spec.specs.Reference.{TransactionLocator, TransactionLocatorRange, locator, same_locator, locator_before, offsets, locators}
use Rattle.record_spec.specs.Block.{Block, spans}
use Rattle.record_spec.proofs.References.{locator_same, same_locator_lem, locator_irrefl, locator_trans, locator_total}
use Rattle.store_spec.proofs.Stored.{WellStored}
use Rattle.final_spec.specs.Voters.{votes_for, is_final}
use Rattle.final_spec.specs.NextFinal.{placed_locator, ascending_locators, final_list}
use Rattle.final_spec.proofs.Votes.{Covered, spanned}
use Rattle.final_spec.proofs.Growing.{final_votes}
use Rattle.final_spec.proofs.Finals.{is_final_order}

-- ---- ascending lists

pub data Ascending : List TransactionLocator → Type 0 where
  none_left : Ascending []
  and_then : {l : TransactionLocator} {ls : List TransactionLocator} → ((m : TransactionLocator) → m ∈ ls → locator_before l m ≡ true) → Ascending ls →
      Ascending (l ∷ ls)

-- ascending lists with the same elements are equal
pub ascending_unique : {xs ys : List TransactionLocator} → Ascending xs → Ascending ys → ((x : TransactionLocator) → x ∈ xs → x ∈ ys) →
    ((x : TransactionLocator) → x ∈ ys → x ∈ xs) → xs ≡ ys
ascending_unique none_left none_left f g = refl
ascending_unique none_left (and_then {l = y} k b) f g = absurd (in_empty (g y here))
ascending_unique (and_then {l = x} h a) none_left f g = absurd (in_empty (f x here))
ascending_unique (and_then {l = x} {ls = xs} h a) (and_then {l = y} {ls = ys} k b) f g =
    ap₂ {C = List TransactionLocator} (λ z zs. z ∷ zs) heads (ascending_unique a b (λ z m. later h heads z m (in_cases (f z (there m))))
    (λ z m. later k (sym heads) z m (in_cases (g z (there m)))))
  where
    first : (x ≡ y) ⊎ (x ∈ ys) → (y ≡ x) ⊎ (y ∈ xs) → x ≡ y
    first (inl e) n = e
    first (inr m) (inl e) = sym e
    first (inr m) (inr n) = absurd (locator_irrefl x (locator_trans x y x (h y n) (k x m)))

    heads : x ≡ y
    heads = first (in_cases (f x here)) (in_cases (g y here))

    later : {p q : TransactionLocator} {ps qs : List TransactionLocator} → ((m : TransactionLocator) → m ∈ ps → locator_before p m ≡ true) → p ≡ q →
        (z : TransactionLocator) → z ∈ ps → (z ≡ q) ⊎ (z ∈ qs) → z ∈ qs
    later {p} before_all e z m (inl d) = absurd (locator_irrefl p (rw (d ∙ sym e) at (before_all z m)))
    later before_all e z m (inr n) = n

pub keep_ascending : (p : TransactionLocator → Bool) {ls : List TransactionLocator} → Ascending ls → Ascending (keep p ls)
unfolding keep
keep_ascending p none_left = none_left
keep_ascending p (and_then {l = l} {ls = ls} h a) = split (p l) (keep_ascending p a)
  where
    split : (t : Bool) → Ascending (keep p ls) → Ascending (pick t (l ∷ keep p ls) (keep p ls))
    split true b = and_then (λ m k. h m (keep_in p ls k).0) b
    split false b = b

-- ---- putting locators in order

placed_self : (l : TransactionLocator) (ms : List TransactionLocator) → l ∈ placed_locator l ms
unfolding placed_locator
placed_self l [] = here
placed_self l (m ∷ ms) = split (locator_before l m) (same_locator l m) refl (placed_self l ms)
  where
    split : (t u : Bool) → same_locator l m ≡ u → l ∈ placed_locator l ms → l ∈ pick t (l ∷ m ∷ ms) (pick u (m ∷ ms) (m ∷ placed_locator l ms))
    split true u e k = here
    split false true e k = in_first (locator_same l m e)
    split false false e k = there k

placed_other : (l x : TransactionLocator) (ms : List TransactionLocator) → x ∈ ms → x ∈ placed_locator l ms
unfolding placed_locator
placed_other l x [] k = absurd (in_empty k)
placed_other l x (m ∷ ms) k = split (locator_before l m) (same_locator l m) (λ j. placed_other l x ms j) (in_cases k)
  where
    split : (t u : Bool) → (x ∈ ms → x ∈ placed_locator l ms) → (x ≡ m) ⊎ (x ∈ ms) → x ∈ pick t (l ∷ m ∷ ms) (pick u (m ∷ ms) (m ∷ placed_locator l ms))
    split true u ih c = there k
    split false true ih c = k
    split false false ih (inl e) = in_first e
    split false false ih (inr j) = there (ih j)

pub placed_in : (l x : TransactionLocator) (ms : List TransactionLocator) → x ∈ placed_locator l ms → (x ≡ l) ⊎ (x ∈ ms)
unfolding placed_locator
placed_in l x [] k = in_cases k
placed_in l x (m ∷ ms) k = split (locator_before l m) (same_locator l m) (λ j. placed_in l x ms j) k
  where
    onward : (x ≡ l) ⊎ (x ∈ ms) → (x ≡ l) ⊎ (x ∈ (m ∷ ms))
    onward (inl e) = inl e
    onward (inr j) = inr (there j)

    placed : (x ∈ placed_locator l ms → (x ≡ l) ⊎ (x ∈ ms)) → (x ≡ m) ⊎ (x ∈ placed_locator l ms) → (x ≡ l) ⊎ (x ∈ (m ∷ ms))
    placed ih (inl e) = inr (in_first e)
    placed ih (inr j) = onward (ih j)

    split : (t u : Bool) → (x ∈ placed_locator l ms → (x ≡ l) ⊎ (x ∈ ms)) → x ∈ pick t (l ∷ m ∷ ms) (pick u (m ∷ ms) (m ∷ placed_locator l ms)) → (x ≡ l) ⊎
        (x ∈ (m ∷ ms))
    split true u ih j = in_cases j
    split false true ih j = inr j
    split false false ih j = placed ih (in_cases j)

placed_ascending : (l : TransactionLocator) {ms : List TransactionLocator} → Ascending ms → Ascending (placed_locator l ms)
unfolding placed_locator
placed_ascending l none_left = and_then (λ x k. absurd (in_empty k)) none_left
placed_ascending l (and_then {l = m} {ls = ms} h a) = split (locator_before l m) (same_locator l m) refl refl (placed_ascending l a)
  where
    front : locator_before l m ≡ true → (x : TransactionLocator) → (x ≡ m) ⊎ (x ∈ ms) → locator_before l x ≡ true
    front t x (inl e) = rw e t
    front t x (inr k) = locator_trans l m x t (h x k)

    turned : locator_before l m ≡ false → same_locator l m ≡ false → (locator_before m l ≡ true) ⊎ (locator_before m l ≡ false) → locator_before m l ≡ true
    turned t u (inl e) = e
    turned t u (inr e) = absurd (not_both (same_locator_lem (locator_total l m t e)) u)

    back : locator_before m l ≡ true → (x : TransactionLocator) → (x ≡ l) ⊎ (x ∈ ms) → locator_before m x ≡ true
    back t x (inl e) = rw e t
    back t x (inr k) = h x k

    split : (t u : Bool) → locator_before l m ≡ t → same_locator l m ≡ u → Ascending (placed_locator l ms) → Ascending
        (pick t (l ∷ m ∷ ms) (pick u (m ∷ ms) (m ∷ placed_locator l ms)))
    split true u t e b = and_then (λ x k. front t x (in_cases k)) (and_then h a)
    split false true t e b = and_then h a
    split false false t e b = and_then (λ x k. back (turned t e (holds_or_not (locator_before m l))) x (placed_in l x ms k)) b

pub ascending_locators_lem : (ls : List TransactionLocator) → Ascending (ascending_locators ls)
unfolding ascending_locators
ascending_locators_lem [] = none_left
ascending_locators_lem (l ∷ ls) = placed_ascending l (ascending_locators_lem ls)

pub in_ascending : (x : TransactionLocator) (ls : List TransactionLocator) → x ∈ ls → x ∈ ascending_locators ls
unfolding ascending_locators
in_ascending x [] k = absurd (in_empty k)
in_ascending x (l ∷ ls) here = placed_self l (ascending_locators ls)
in_ascending x (l ∷ ls) (there k) = placed_other l x (ascending_locators ls) (in_ascending x ls k)

-- ---- every final locator is voted for

-- the locators for which a block votes
abbrev pub voted : Block → List TransactionLocator
voted b = flatten (map locators (spans b))

pub covered_in : (r : TransactionLocatorRange) (l : TransactionLocator) → Covered r l → l ∈ locators r
unfolding locators offsets locator
covered_in r l k =
    let e : r.block ≡ l.block = k.of in
    let own : locator r.block l.offset ≡ l = λ i. record { block = e i; offset = l.offset } in
    subst (λ (x : TransactionLocator). x ∈ map (locator r.block) (count_from r.start (r.end - r.start))) own
    (in_map (locator r.block) (in_count_from r.start (r.end - r.start) l.offset k.from (omega (arith, k.from, k.below))))

pub vote_voted : (d : Block) (l : TransactionLocator) → votes_for d l ≡ true → l ∈ voted d
vote_voted d l h = let v = spanned d l h in in_flatten (covered_in v.span l v.covering) (in_map locators v.stands)

final_voted : (c : Committee) (bs : List Block) (l : TransactionLocator) → is_final c bs l ≡ true → l ∈ flatten (map voted bs)
final_voted c bs l h = let v = final_votes c bs l h in in_flatten (vote_voted v.block l v.votes) (in_map voted v.stands)

-- ---- the final list

pub final_list_ascending : (c : Committee) (bs : List Block) → Ascending (final_list c bs)
unfolding final_list
final_list_ascending c bs = keep_ascending (is_final c bs) (ascending_locators_lem (flatten (map voted bs)))

-- it holds the final locators and no others
pub final_list_in : (c : Committee) (bs : List Block) (l : TransactionLocator) → (l ∈ final_list c bs) ↔ (is_final c bs l ≡ true)
unfolding final_list
final_list_in c bs l = (
  λ m. (keep_in (is_final c bs) (ascending_locators (flatten (map voted bs))) m).1,
  λ e. in_keep (is_final c bs) (ascending_locators (flatten (map voted bs))) (in_ascending l (flatten (map voted bs)) (final_voted c bs l e)) e,
)

-- order: the final list depends on which blocks are stored alone
pub final_list_order : (c : Committee) {bs cs : List Block} → WellStored bs → WellStored cs → ((x : Block) → x ∈ bs ↔ x ∈ cs) → final_list c bs
    ≡ final_list c cs
final_list_order c {bs} {cs} v w same_blocks =
    ascending_unique (final_list_ascending c bs) (final_list_ascending c cs)
    (λ l m. (final_list_in c cs l).1 (sym (is_final_order c v w same_blocks l) ∙ (final_list_in c bs l).0 m))
    (λ l m. (final_list_in c bs l).1 (is_final_order c v w same_blocks l ∙ (final_list_in c cs l).0 m))
