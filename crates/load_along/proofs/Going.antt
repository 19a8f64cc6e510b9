-- What is left of the ordinary list after each stretch. Assumes nothing.
use mathlib.Core.Path.{◌≡◌, refl, sym, ap, subst, ◌∙◌}
use mathlib.Core.Bool.{Bool, true, false}
use mathlib.Core.List.{List, [], ◌∷◌, ◌++◌, flatten, append_assoc, append-nil}
use mathlib.Core.Option.{Option, none, some}
use Prim.Native.Nat.{ℕ, ◌≤◌, ◌<◌}
use native.Mathlib.Omega.{arith}
use lib.ListN.{length}
use Rattle.base.specs.Lists.{pick, keep, ◌∈◌, here, there}
use Rattle.base.specs.Le.{Bytes}
use Rattle.base.proofs.Tests.{fails, not_both}
use Rattle.committee.specs.Committee.{Committee, broken}
use Rattle.record_spec.specs.Reference.{TransactionLocator, TransactionLocatorRange, locator, locator_before, new_range, locators}
use Rattle.types.specs.Values.{as_range, as_maybe}
use Rattle.types.specs.declared.TransactionLocatorRange as ranges
use Rattle.record_spec.proofs.References.{Precedes, by_block, by_offset, precedes, is_before, locator_irrefl}
use Rattle.store_spec.specs.Store.{store_in_order}
use Rattle.final_spec.specs.Finality.{blocks_of}
use Rattle.final_spec.specs.NextFinal.{is_after, LeastOf, least}
use Rattle.final_spec.proofs.Asked.{later_after}
use Rattle.list_stretches_spec.specs.Stretches.{FinalStretch, stretch_locators, last_locator, stretch_at, from_found, stretches, reached}
use Rattle.list_stretches_spec.specs.Claims.{Gives, Spread}
use Rattle.list_stretches_spec.proofs.Spreading.{spread, longest}
use Rattle.final_readings_spec.specs.Readings.{Reading}
use Rattle.list_readings_spec.specs.Lists.{is_listed, listing, all_listed}
use Rattle.list_readings_spec.proofs.Least.{least_listed_lem, lists_lawful}
use Rattle.list_readings_spec.proofs.Whole.{all_in, asked_whole, gives_whole}
use Rattle.load_along.specs.Along.{Tables, share_list, ahead, Held, Found}
use Rattle.load_along.specs.declared.Along.{Along}
use Rattle.std.specs.Prelude.{None, Some}

-- of two tests the stricter one keeps fewer, where one passes the other only
keep_fewer : {A : Type 0} (p q : A → Bool) (xs : List A) → ((x : A) → q x ≡ true → p x ≡ true) → length (keep q xs) ≤ length (keep p xs)
unfolding keep
keep_fewer p q [] f = omega arith
keep_fewer p q (x ∷ xs) f = go (p x) refl (q x) refl (keep_fewer p q xs f)
  where
    go : (s : Bool) → p x ≡ s → (t : Bool) → q x ≡ t → length (keep q xs) ≤ length (keep p xs) → length (pick t (x ∷ keep q xs) (keep q xs)) ≤ length
        (pick s (x ∷ keep p xs) (keep p xs))
    go true d true e h = omega arith
    go true d false e h = omega arith
    go false d true e h = absurd (not_both (f x e) d)
    go false d false e h = h

keep_less : {A : Type 0} (p q : A → Bool) (xs : List A) → ((x : A) → q x ≡ true → p x ≡ true) → {x : A} → x ∈ xs → p x ≡ true → q x ≡ false → length
    (keep q xs) < length (keep p xs)
unfolding keep
keep_less {A = A} p q [] f x6 h k = elim x6 [ ]
keep_less p q (x ∷ xs) f here h k = rw (h, k) (let e = keep_fewer p q xs f in omega arith)
keep_less p q (y ∷ xs) f (there m) h k = go (p y) refl (q y) refl (keep_less p q xs f m h k)
  where
    go : (s : Bool) → p y ≡ s → (t : Bool) → q y ≡ t → length (keep q xs) < length (keep p xs) → length (pick t (y ∷ keep q xs) (keep q xs)) < length
        (pick s (y ∷ keep p xs) (keep p xs))
    go true d true e h = omega arith
    go true d false e h = omega arith
    go false d true e h = absurd (not_both (f y e) d)
    go false d false e h = h

module _ (reading : Reading) (c : Committee) (s : Bytes) where
  abbrev pub finals : List TransactionLocator
  finals = all_listed true reading c (blocks_of s)

  -- from the start the list gives all final stored shares
  pub gives_all : broken c ≡ false → store_in_order c s ≡ true → Gives (share_list reading c s) none finals
  gives_all b h = (gives_whole true reading c s b h).1 (asked_whole true reading c s b h)

  module _ (after : Option TransactionLocator) (rest : List TransactionLocator) (a : Gives (share_list reading c s) after rest) where
    spread_one : Spread (share_list reading c s) 1 after rest (ahead reading c s 1 after)
    spread_one = spread c (blocks_of s) (share_list reading c s) (lists_lawful true reading c (blocks_of s)) 1 after rest a

    -- where no stretch comes next none is left
    pub none_left : ahead reading c s 1 after ≡ [] → rest ≡ []
    unfolding flatten
    none_left e =
        let x : Spread (share_list reading c s) 1 after rest [] = subst (Spread (share_list reading c s) 1 after rest) e spread_one in
        x.splits ∙ x.none_left.0 (fails _ (λ h. let n : 0 ≡ 1 = x.full h in omega arith))

    pub record Onward (t : FinalStretch) : Type 0 where
      pub later : List TransactionLocator
      pub splits : rest ≡ stretch_locators t ++ later
      pub gives : Gives (share_list reading c s) (some (last_locator t)) later

    -- where a stretch comes next it is at the front of what is left
    pub stretch_next : (t : FinalStretch) → ahead reading c s 1 after ≡ t ∷ [] → Onward t
    unfolding flatten reached
    stretch_next t e =
        let x : Spread (share_list reading c s) 1 after rest (t ∷ []) = subst (Spread (share_list reading c s) 1 after rest) e spread_one in
        record {
          later = x.rest;
          splits = x.splits ∙ ap (λ (ls : List TransactionLocator). ls ++ x.rest) (append-nil (stretch_locators t));
          gives = x.onward;
        }

  pub stretch_longer : (n : ℕ) (after : Option TransactionLocator) (t : FinalStretch) → t ∈ ahead reading c s n after → t.first < t.end
  unfolding locator
  stretch_longer n after t m = (longest c (blocks_of s) (share_list reading c s) (lists_lawful true reading c (blocks_of s)) n after t m).ends.longer

  -- ---- it ends

  -- how many final stored shares come after a locator
  unfoldable pub left_after : Option TransactionLocator → ℕ
  left_after after = length (keep (is_after after) finals)

  first_at : (after : Option TransactionLocator) (t : FinalStretch) → ahead reading c s 1 after ≡ t ∷ [] →
      (is_listed true reading c (blocks_of s) (locator t.block t.first) ≡ true) × (is_after after (locator t.block t.first) ≡ true)
  unfolding stretches from_found listing stretch_at locator
  first_at after t e = go ((share_list reading c s).next after) refl (least_listed_lem true reading c (blocks_of s) after)
    where
      found : (l : TransactionLocator) → (share_list reading c s).next after ≡ some l → LeastOf (is_listed true reading c (blocks_of s)) after (some l) →
          (is_listed true reading c (blocks_of s) l ≡ true) × (is_after after l ≡ true)
      found l k (least x f h g) = (f, h)

      go : (o : Option TransactionLocator) → (share_list reading c s).next after ≡ o → LeastOf (is_listed true reading c (blocks_of s)) after
          ((share_list reading c s).next after)
          → (is_listed true reading c (blocks_of s) (locator t.block t.first) ≡ true) × (is_after after (locator t.block t.first) ≡ true)
      go none k m = absurd (let q : [] ≡ t ∷ [] = rw k at e in let z : ◌≡◌ {A = ℕ} 0 1 = ap length q in omega arith)
      go (some l) k m =
          let q : stretch_at c (blocks_of s) (share_list reading c s) l ∷ [] ≡ t ∷ [] = rw k at e in
          let same : stretch_at c (blocks_of s) (share_list reading c s) l ≡ t = cc in
          let at : l ≡ locator t.block t.first = λ i. record { block = (same i).block; offset = (same i).first } in
          subst (λ (x : TransactionLocator). (is_listed true reading c (blocks_of s) x ≡ true) × (is_after after x ≡ true)) at
          (found l k (subst (LeastOf (is_listed true reading c (blocks_of s)) after) k m))

  pub left_less : (after : Option TransactionLocator) (t : FinalStretch) → ahead reading c s 1 after ≡ t ∷ [] → left_after (some (last_locator t)) < left_after
      after
  unfolding left_after is_after last_locator locator
  left_less after t e =
      let x = first_at after t e in
      keep_less (is_after after) (locator_before (last_locator t)) finals (λ y h. later_after after l y x.1 (beyond y h))
      ((all_in true reading c (blocks_of s) l).1 x.0) x.1 (fails _ (λ h. locator_irrefl l (beyond l h)))
    where
      l : TransactionLocator
      l = locator t.block t.first

      longer : t.first < t.end
      longer = stretch_longer 1 after t (subst (λ (ts : List FinalStretch). t ∈ ts) (sym e) here)

      -- what comes after the last locator comes after the first
      beyond : (y : TransactionLocator) → locator_before (last_locator t) y ≡ true → locator_before l y ≡ true
      beyond y h = is_before l y (split (precedes (last_locator t) y h))
        where
          split : Precedes (last_locator t) y → Precedes l y
          split (by_block b) = by_block b
          split (by_offset f b) = by_offset f (omega (arith, longer))

-- ---- the list gone along

-- the tables as long as they are made
pub record Sized (t : Tables) : Type 0 where
  pub edges : length t.edges ≡ 16386
  pub marks : length t.marks ≡ 3072

module _ (reading : Reading) (c : Committee) (s : Bytes) where
  -- what was passed, and what is left; the sweep's tables as they are
  pub record Passing (tables : Tables) (along : Along) (gone : List TransactionLocator) : Type 0 where
    pub rest : List TransactionLocator
    pub splits : finals reading c s ≡ gone ++ rest
    pub gives : Gives (share_list reading c s) (as_maybe along.after) rest
    pub held : Held reading c s tables along
    pub sized : Sized tables

  pub passing_start : broken c ≡ false → store_in_order c s ≡ true → (tables : Tables) (along : Along) → as_maybe along.after ≡ none → Held reading c s tables
      along → Sized tables → Passing tables along []
  passing_start b h tables along e held sized =
      record {
        rest = finals reading c s;
        splits = refl;
        gives = subst (λ (o : Option TransactionLocator). Gives (share_list reading c s) o (finals reading c s)) (sym e) (gives_all reading c s b h);
        held = held;
        sized = sized;
      }

  module _ (tables : Tables) (along : Along) (gone : List TransactionLocator) (w : Passing tables along gone) where
    -- where none is left, all were passed
    pub passing_end : (last : Option TransactionLocator) → Found reading c s (as_maybe along.after) last None → gone ≡ finals reading c s
    unfolding Found
    passing_end last e =
        sym (w.splits ∙ ap (λ (ls : List TransactionLocator). gone ++ ls) (none_left reading c s (as_maybe along.after) w.rest w.gives e) ∙
        append-nil gone)

    module _ (q : ranges.TransactionLocatorRange) (last : Option TransactionLocator) (f : Found reading c s (as_maybe along.after) last (Some q)) where
      record Next : Type 0 where
        stretch : FinalStretch
        comes : ahead reading c s 1 (as_maybe along.after) ≡ stretch ∷ []
        range : as_range q ≡ new_range stretch.block stretch.first stretch.end
        after : last ≡ some (last_locator stretch)

      next : Next
      unfolding Found
      next = record { stretch = f.0; comes = f.1; range = f.2; after = f.3 }

      on : Onward reading c s (as_maybe along.after) w.rest w.gives next.stretch
      on = stretch_next reading c s (as_maybe along.after) w.rest w.gives next.stretch next.comes

      pub later : List TransactionLocator
      later = on.later

      pub passing_splits : finals reading c s ≡ gone ++ (locators (as_range q) ++ later)
      unfolding stretch_locators later
      passing_splits =
          w.splits
          ∙ ap (λ (ls : List TransactionLocator). gone ++ ls) (on.splits ∙ ap (λ (ls : List TransactionLocator). ls ++ on.later)
          (ap locators (sym next.range)))

      pub passing_longer : (as_range q).start < (as_range q).end
      unfolding new_range
      passing_longer =
          subst (λ (x : TransactionLocatorRange). x.start < x.end) (sym next.range)
          (stretch_longer reading c s 1 (as_maybe along.after) next.stretch
          (subst (λ (ts : List FinalStretch). next.stretch ∈ ts) (sym next.comes) here))

      pub passing_next : (tables' : Tables) (along' : Along) → as_maybe along'.after ≡ last → Held reading c s tables' along' → Sized tables' → Passing
          tables' along' (gone ++ locators (as_range q))
      unfolding later
      passing_next tables' along' e held sized =
          record {
            rest = on.later;
            splits = passing_splits ∙ sym (append_assoc gone (locators (as_range q)) on.later);
            gives = subst (λ (o : Option TransactionLocator). Gives (share_list reading c s) o on.later) (sym (e ∙ next.after)) on.gives;
            held = held;
            sized = sized;
          }

      pub passing_less : (along' : Along) → as_maybe along'.after ≡ last → left_after reading c s (as_maybe along'.after) < left_after reading c s
          (as_maybe along.after)
      passing_less along' e =
          subst (λ (o : Option TransactionLocator). left_after reading c s o < left_after reading c s (as_maybe along.after)) (sym (e ∙ next.after))
          (left_less reading c s (as_maybe along.after) next.stretch next.comes)
