-- The entries in ascending reference order: the first position, and the next one of each entry. Assumes nothing.
use mathlib.Core.Path.{◌≡◌, refl, sym, ◌∙◌}
use mathlib.Core.List.{List, [], ◌∷◌, ◌++◌, append_assoc}
use mathlib.Core.Option.{some}
use mathlib.Core.Bool.{Bool, true, false}
use Rattle.base.specs.Lists.{pick, any_of, keep}
use Rattle.base.specs.Checks.{passes}
use Rattle.base.proofs.Tests.{fails, and_left, and_right, neither_left, neither_right}
use Rattle.base.proofs.Lists.{Every, none_of, and, every, every_keep, Pairs, no_pairs, with_later}
use Rattle.committee.specs.Committee.{Committee}
use Rattle.record_spec.specs.Reference.{BlockReference, same_reference, reference_before}
use Rattle.record_spec.proofs.References.{reference_irrefl, reference_trans, reference_asymmetric, reference_other, differ_other}
use Rattle.store_spec.specs.Layout.{Record, Entry, reference_of, entries, lesser, least, position_of, first_position, next_position, placed, ascending}
use Rattle.store_spec.specs.Step.{first}
use Rattle.store_spec.proofs.Accepted.{accepted_new}
use Rattle.store_spec.specs.Accept.{is_stored, block_checks, all_accepted}

-- an entry of a lesser reference
abbrev pub lower : Entry → Entry → Bool
lower e d = reference_before (reference_of e) (reference_of d)

-- ascending references
abbrev pub Ascending : List Entry → Type 0
Ascending es = Pairs (λ e d. lower e d ≡ true) es

-- references that differ
abbrev pub Distinct : List Entry → Type 0
Distinct es = Pairs (λ e d. same_reference (reference_of e) (reference_of d) ≡ false) es

lower_transitive : (e d f : Entry) → lower e d ≡ true → lower d f ≡ true → lower e f ≡ true
lower_transitive e d f h k = reference_trans (reference_of e) (reference_of d) (reference_of f) h k

lower_other : (e d : Entry) → same_reference (reference_of e) (reference_of d) ≡ false → lower e d ≡ false → lower d e ≡ true
lower_other e d h k = reference_other (reference_of e) (reference_of d) h k

lower_not : (e d : Entry) → lower e d ≡ true → lower d e ≡ false
lower_not e d h = reference_asymmetric (reference_of e) (reference_of d) h

pub lower_self : (e : Entry) → lower e e ≡ false
lower_self e = fails _ (reference_irrefl (reference_of e))

-- ---- sorting

first_placed : (e : Entry) (ds : List Entry) → lesser e (first ds) ≡ first (placed e ds)
unfolding lesser first placed
first_placed e [] = refl
first_placed e (d ∷ ds) = go (lower e d)
  where
    go : (t : Bool) → pick t (some e) (some d) ≡ first (pick t (e ∷ d ∷ ds) (d ∷ placed e ds))
    go true = refl
    go false = refl

-- the least is the first in ascending order
pub least_first : (es : List Entry) → least es ≡ first (ascending es)
unfolding least ascending first
least_first [] = refl
least_first (e ∷ es) = rw (least_first es) (first_placed e (ascending es))

pub placed_every : {P : Entry → Type 0} (e : Entry) (ds : List Entry) → P e → Every P ds → Every P (placed e ds)
unfolding placed
placed_every e [] h none_of = and h none_of
placed_every {P} e (d ∷ ds) h (and k ks) = go (lower e d) (placed_every e ds h ks)
  where
    go : (t : Bool) → Every P (placed e ds) → Every P (pick t (e ∷ d ∷ ds) (d ∷ placed e ds))
    go true q = and h (and k ks)
    go false q = and k q

pub ascending_every : {P : Entry → Type 0} (es : List Entry) → Every P es → Every P (ascending es)
unfolding ascending
ascending_every [] none_of = none_of
ascending_every (e ∷ es) (and h hs) = placed_every e (ascending es) h (ascending_every es hs)

placed_ascending : (e : Entry) (ds : List Entry) → Every (λ d. same_reference (reference_of e) (reference_of d) ≡ false) ds → Ascending ds → Ascending
    (placed e ds)
unfolding placed
placed_ascending e [] none_of no_pairs = with_later none_of no_pairs
placed_ascending e (d ∷ ds) (and a as') (with_later h hs) = go (lower e d) refl (placed_ascending e ds as' hs)
  where
    go : (t : Bool) → lower e d ≡ t → Ascending (placed e ds) → Ascending (pick t (e ∷ d ∷ ds) (d ∷ placed e ds))
    go true l q = with_later (and l (every (λ f k. lower_transitive e d f l k) ds h)) (with_later h hs)
    go false l q = with_later (placed_every e ds (lower_other e d a l) h) q

-- sorted entries ascend
pub ascending_ascends : (es : List Entry) → Distinct es → Ascending (ascending es)
unfolding ascending
ascending_ascends [] no_pairs = no_pairs
ascending_ascends (e ∷ es) (with_later h hs) = placed_ascending e (ascending es) (ascending_every es h) (ascending_ascends es hs)

placed_first : (e : Entry) (ds : List Entry) → Every (λ d. lower e d ≡ true) ds → placed e ds ≡ e ∷ ds
unfolding placed
placed_first e [] none_of = refl
placed_first e (d ∷ ds) (and h hs) = rw h

-- some of the entries, sorted, are those of the sorted entries
keep_placed : (p : Entry → Bool) (e : Entry) (ds : List Entry) → Ascending ds → keep p (placed e ds) ≡ pick (p e) (placed e (keep p ds)) (keep p ds)
unfolding placed keep
keep_placed p e [] no_pairs = refl
keep_placed p e (d ∷ ds) (with_later h hs) = go (lower e d) refl (keep_placed p e ds hs)
  where
    go : (t : Bool) → lower e d ≡ t → keep p (placed e ds) ≡ pick (p e) (placed e (keep p ds)) (keep p ds)
        → keep p (pick t (e ∷ d ∷ ds) (d ∷ placed e ds)) ≡ pick (p e) (placed e (keep p (d ∷ ds))) (keep p (d ∷ ds))
    go true l ih =
        rw (placed_first e (keep p (d ∷ ds)) (every_keep p (d ∷ ds) (and l (every (λ f k. lower_transitive e d f l k) ds h))))
    go false l ih = by_tests (p d) (p e) ih
      where
        by_tests : (u v : Bool) → keep p (placed e ds) ≡ pick v (placed e (keep p ds)) (keep p ds)
            → pick u (d ∷ keep p (placed e ds)) (keep p (placed e ds)) ≡ pick v (placed e (pick u (d ∷ keep p ds) (keep p ds)))
            (pick u (d ∷ keep p ds) (keep p ds))
        by_tests true true q = rw (q, l)
        by_tests true false q = rw q
        by_tests false true q = q
        by_tests false false q = q

ascending_keep : (p : Entry → Bool) (es : List Entry) → Distinct es → ascending (keep p es) ≡ keep p (ascending es)
unfolding ascending keep
ascending_keep p [] no_pairs = refl
ascending_keep p (e ∷ es) (with_later h hs) = go (p e) refl (ascending_keep p es hs) ∙ sym (keep_placed p e (ascending es) (ascending_ascends es hs))
  where
    go : (t : Bool) → p e ≡ t → ascending (keep p es) ≡ keep p (ascending es)
        → ascending (pick t (e ∷ keep p es) (keep p es)) ≡ pick (p e) (placed e (keep p (ascending es))) (keep p (ascending es))
    go true q ih = rw (q, ih)
    go false q ih = rw (q, ih)

-- ---- the chain

keep_all : (p : Entry → Bool) (es : List Entry) → Every (λ e. p e ≡ true) es → keep p es ≡ es
unfolding keep
keep_all p [] none_of = refl
keep_all p (e ∷ es) (and h hs) = rw (h, keep_all p es hs)

-- of ascending entries, those above one are those after it
after : (xs ys : List Entry) (e : Entry) → Ascending (xs ++ e ∷ ys) → keep (lower e) (xs ++ e ∷ ys) ≡ ys
unfolding keep
after [] ys e (with_later h hs) = rw (lower_self e) (keep_all (lower e) ys h)
after (x ∷ xs) ys e (with_later h hs) = rw (lower_not x e (at xs h)) (after xs ys e hs)
  where
    at : (zs : List Entry) → Every (λ d. lower x d ≡ true) (zs ++ e ∷ ys) → lower x e ≡ true
    at [] (and k ks) = k
    at (z ∷ zs) (and k ks) = at zs ks

pub next_after : (es xs ys : List Entry) (e : Entry) → Distinct es → ascending es ≡ xs ++ e ∷ ys → next_position es e ≡ position_of (first ys)
unfolding next_position
next_after es xs ys e d h =
    let up : Ascending (xs ++ e ∷ ys) = rw h at (ascending_ascends es d) in
    rw (least_first (keep (lower e) es), ascending_keep (lower e) es d, h, after xs ys e up)

-- ---- the entries of a store have distinct references

not_stored : (rs : List Record) (i : BlockReference) → is_stored rs i ≡ false → Every (λ e. same_reference i (reference_of e) ≡ false) (entries rs)
unfolding is_stored any_of entries
not_stored [] i h = none_of
not_stored (r ∷ rs) i h =
    let q : BlockReference = r.block.reference in
    and (differ_other q i (neither_left (same_reference q i) _ h)) (not_stored rs i (neither_right (same_reference q i) _ h))

pub distinct_new : (rs : List Record) (r : Record) → Distinct (entries rs) → is_stored rs r.block.reference ≡ false → Distinct (entries (r ∷ rs))
unfolding entries
distinct_new rs r d h = with_later (not_stored rs r.block.reference h) d

pub distinct : (c : Committee) (rs : List Record) → all_accepted c rs ≡ true → Distinct (entries rs)
unfolding all_accepted entries
distinct c [] h = no_pairs
distinct c (r ∷ rs) h =
    distinct_new rs r (distinct c rs (and_right (passes (block_checks c rs r.block)) _ h))
    (accepted_new c rs r.block (and_left (passes (block_checks c rs r.block)) _ h))

-- ---- a new entry is put into the chain: one next position changes, or the first

placed_between : (e : Entry) (xs ys : List Entry) → Every (λ x. lower x e ≡ true) xs → Every (λ y. lower e y ≡ true) ys → placed e (xs ++ ys) ≡ xs ++ e ∷ ys
unfolding placed
placed_between e [] ys none_of h = placed_first e ys h
placed_between e (x ∷ xs) ys (and k ks) h = rw (lower_not x e k, placed_between e xs ys ks h)

module _ (es : List Entry) (new : Entry) (d : Distinct (new ∷ es)) (xs ys : List Entry) (split : ascending es ≡ xs ++ ys)
    (low : Every (λ x. lower x new ≡ true) xs) (high : Every (λ y. lower new y ≡ true) ys) where
  others : Distinct es
  others = tail d
    where
      tail : {e : Entry} {fs : List Entry} → Distinct (e ∷ fs) → Distinct fs
      tail (with_later h hs) = hs

  sorted_new : ascending (new ∷ es) ≡ xs ++ new ∷ ys
  unfolding ascending
  sorted_new = rw split (placed_between new xs ys low high)

  -- the new entry's next is what follows it
  pub next_new : next_position (new ∷ es) new ≡ position_of (first ys)
  next_new = next_after (new ∷ es) xs ys new d sorted_new

  -- the last lower entry's next is the new one
  pub next_last : (zs : List Entry) (e : Entry) → xs ≡ zs ++ (e ∷ []) → next_position (new ∷ es) e ≡ new.position
  unfolding position_of first
  next_last zs e h = next_after (new ∷ es) zs (new ∷ ys) e d (sorted_new ∙ rw h (append_assoc zs (e ∷ []) (new ∷ ys)))

  -- every other next is as before
  pub next_lower : (zs bs : List Entry) (e f : Entry) → xs ≡ zs ++ e ∷ f ∷ bs → next_position (new ∷ es) e ≡ next_position es e
  unfolding position_of first
  next_lower zs bs e f h =
      next_after (new ∷ es) zs (f ∷ bs ++ new ∷ ys) e d (sorted_new ∙ rw h (append_assoc zs (e ∷ f ∷ bs) (new ∷ ys)))
      ∙ sym (next_after es zs (f ∷ bs ++ ys) e others (split ∙ rw h (append_assoc zs (e ∷ f ∷ bs) ys)))

  pub next_higher : (zs bs : List Entry) (e : Entry) → ys ≡ zs ++ e ∷ bs → next_position (new ∷ es) e ≡ next_position es e
  next_higher zs bs e h =
      next_after (new ∷ es) (xs ++ new ∷ zs) bs e d (sorted_new ∙ rw h (sym (append_assoc xs (new ∷ zs) (e ∷ bs))))
      ∙ sym (next_after es (xs ++ zs) bs e others (split ∙ rw h (sym (append_assoc xs zs (e ∷ bs)))))

  -- the first position is the new one where nothing is lower, else as before
  pub first_new : xs ≡ [] → first_position (new ∷ es) ≡ new.position
  unfolding first_position position_of first
  first_new h = rw (least_first (new ∷ es), sorted_new, h)

  pub first_same : (x : Entry) (zs : List Entry) → xs ≡ x ∷ zs → first_position (new ∷ es) ≡ first_position es
  unfolding first_position position_of first
  first_same x zs h = rw (least_first (new ∷ es), least_first es, sorted_new, split, h)
