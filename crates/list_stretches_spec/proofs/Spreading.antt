-- The stretches of a list, one after the other, are what its single questions give when asked on. Assumes nothing.
use mathlib.Core.Path.{◌≡◌, refl, sym, ap, subst, ◌∙◌}
use mathlib.Core.Logic.{◌⊎◌, inl, inr, ◌↔◌}
use mathlib.Core.Bool.{Bool, true, false, not}
use mathlib.Core.List.{List, [], ◌∷◌, ◌++◌, map, flatten, append_assoc}
use mathlib.Core.Option.{Option, none, some, some-injective, none-ne-some}
use Prim.Native.Nat.{ℕ, zero, suc, ◌+◌, ◌-◌, ◌≤◌, ◌<◌}
use native.Mathlib.Omega.{arith}
use Rattle.base.specs.Lists.{is_none, count_from, ◌∈◌}
use Rattle.base.proofs.Tests.{not_both, and_left, fails}
use Rattle.base.proofs.Members.{in_empty, in_cases}
use Rattle.committee.specs.Committee.{Committee}
use Rattle.record_spec.specs.Reference.{BlockReference, TransactionLocator, locator, new_range, offsets, locators, locator_before}
use Rattle.record_spec.specs.Block.{Block}
use Rattle.record_spec.proofs.References.{reference_irrefl, reference_asymmetric, Precedes, by_block, by_offset, precedes, is_before}
use Rattle.final_spec.specs.NextFinal.{is_after, LeastOf, least}
use Rattle.final_spec.proofs.LeastOf.{one_least, least_holds}
use Rattle.list_stretches_spec.specs.Stretches.{Listing, FinalStretch, stretch_locators, last_locator, goes_on, EndsAt, stretch_end, stretch_at, from_found}
use Rattle.list_stretches_spec.specs.Stretches.{stretches, reached, more_follow}
use Rattle.list_stretches_spec.specs.Claims.{Lawful, Longest, StretchesLongest, Gives, done, onward, Spread, StretchesSpread}
use Rattle.list_stretches_spec.proofs.Ends.{end_meant}

-- ---- no locator stands between one and the next offset

pub between : (m y : TransactionLocator) → locator_before m y ≡ true → locator_before y (locator m.block (m.offset + 1)) ≡ true → ⊥
unfolding locator
between m y h k = go (precedes m y h) (precedes y (locator m.block (m.offset + 1)) k)
  where
    go : Precedes m y → Precedes y (record { block = m.block; offset = m.offset + 1 }) → ⊥
    go (by_block a) (by_block b) = not_both b (reference_asymmetric m.block y.block a)
    go (by_block a) (by_offset e b) = reference_irrefl m.block (rw e at a)
    go (by_offset e a) (by_block b) = reference_irrefl m.block (rw (← e) at b)
    go (by_offset e a) (by_offset f b) = omega arith

pub follows : (m : TransactionLocator) → locator_before m (locator m.block (m.offset + 1)) ≡ true
unfolding locator
follows m = is_before m (locator m.block (m.offset + 1)) (by_offset refl (omega arith))

-- the next offset is the least after a locator, where the test holds of it
pub least_following : (test : TransactionLocator → Bool) (m : TransactionLocator) → test (locator m.block (m.offset + 1)) ≡ true → LeastOf test (some m)
    (some (locator m.block (m.offset + 1)))
unfolding is_after
least_following test m h = least (locator m.block (m.offset + 1)) h (follows m)
    (λ y s a. fails (locator_before y (locator m.block (m.offset + 1))) (between m y a))

module _ (c : Committee) (bs : List Block) (k : Listing) (law : Lawful bs k) where
  pub next_shown : (after : Option TransactionLocator) (l : TransactionLocator) → k.next after ≡ some l → k.shows l ≡ true
  next_shown after l e = least_holds k.shows after l (law.next after) e

  just_after : (r : BlockReference) (o : ℕ) → k.shows (locator r (o + 1)) ≡ true → k.next (some (locator r o)) ≡ some (locator r (o + 1))
  unfolding locator
  just_after r o h = one_least k.shows (some (locator r o)) (law.next (some (locator r o))) (least_following k.shows (locator r o) h)

  -- the end of a shown locator's stretch
  pub shown_ends : (l : TransactionLocator) → k.shows l ≡ true → EndsAt bs k l (stretch_end bs k l)
  shown_ends l h = (end_meant bs k l law h).ends

  pub goes_shows : (l : TransactionLocator) (o : ℕ) → goes_on bs k l o ≡ true → k.shows (locator l.block o) ≡ true
  unfolding goes_on
  goes_shows l o h = and_left _ _ h

  -- ---- every stretch begins at a locator that is shown

  pub record Begun (t : FinalStretch) : Type 0 where
    pub at : TransactionLocator
    pub shown : k.shows at ≡ true
    pub stretch : stretch_at c bs k at ≡ t

  pub begun : (n : ℕ) (after : Option TransactionLocator) (t : FinalStretch) → t ∈ stretches c bs k n after → Begun t
  unfolding stretches from_found
  begun zero after t m = absurd (in_empty m)
  begun (suc n) after t m = go (k.next after) refl (λ from i. begun n from t i) m
    where
      first : (l : TransactionLocator) → k.next after ≡ some l → ((from : Option TransactionLocator) → t ∈ stretches c bs k n from → Begun t)
          → (t ≡ stretch_at c bs k l) ⊎ (t ∈ stretches c bs k n (some (last_locator (stretch_at c bs k l)))) → Begun t
      first l e ih (inl i) = record { at = l; shown = next_shown after l e; stretch = sym i }
      first l e ih (inr i) = ih (some (last_locator (stretch_at c bs k l))) i

      go : (o : Option TransactionLocator) → k.next after ≡ o → ((from : Option TransactionLocator) → t ∈ stretches c bs k n from → Begun t)
          → t ∈ from_found o (λ l. stretch_at c bs k l ∷ stretches c bs k n (some (last_locator (stretch_at c bs k l)))) → Begun t
      go none e ih i = absurd (in_empty i)
      go (some l) e ih i = first l e ih (in_cases i)

  at_longest : (l : TransactionLocator) → k.shows l ≡ true → Longest bs k (stretch_at c bs k l)
  unfolding stretch_at locator
  at_longest l h = record { ends = shown_ends l h; shown = h }

  pub longest : (n : ℕ) (after : Option TransactionLocator) (t : FinalStretch) → t ∈ stretches c bs k n after → Longest bs k t
  longest n after t m = let x = begun n after t m in subst (Longest bs k) x.stretch (at_longest x.at x.shown)

  -- ---- the questions asked on

  record Next (l : TransactionLocator) (ls : List TransactionLocator) : Type 0 where
    later : List TransactionLocator
    splits : ls ≡ l ∷ later
    asked : Gives k (some l) later

  first_asked : {after : Option TransactionLocator} {ls : List TransactionLocator} → Gives k after ls → (l : TransactionLocator) → k.next after ≡ some l →
      Next l ls
  first_asked (done e) l f = absurd (none-ne-some l (sym e ∙ f))
  first_asked (onward {l = m} {ls = ms} e a) l f =
      let q : m ≡ l = some-injective m l (sym e ∙ f) in
      record { later = ms; splits = ap (λ (x : TransactionLocator). x ∷ ms) q; asked = subst (λ (x : TransactionLocator). Gives k (some x) ms) q a }

  none_asked : {after : Option TransactionLocator} {ls : List TransactionLocator} → Gives k after ls → k.next after ≡ none → ls ≡ []
  none_asked (done e) f = refl
  none_asked (onward {l = m} e a) f = absurd (none-ne-some m (sym f ∙ e))

  -- none is left exactly where none follow
  nothing_left : (after : Option TransactionLocator) (ls : List TransactionLocator) → Gives k after ls → (more_follow k after ≡ false) ↔ (ls ≡ [])
  unfolding more_follow is_none
  nothing_left after ls a = go (k.next after) refl
    where
      never : (l : TransactionLocator) → Next l ls → ls ≡ [] → ⊥
      never l x e = let q : [] ≡ l ∷ x.later = sym e ∙ x.splits in let z : ◌≡◌ {A = ℕ} 0 1 = cc in omega arith

      go : (o : Option TransactionLocator) → k.next after ≡ o → (not (is_none (k.next after)) ≡ false) ↔ (ls ≡ [])
      go none e = (λ h. none_asked a e, λ h. rw e)
      go (some l) e = (λ h. absurd (not_both refl (rw e at h)), λ h. absurd (never l (first_asked a l e) h))

  -- ---- through a stretch

  record Through (r : BlockReference) (o n : ℕ) (ls : List TransactionLocator) : Type 0 where
    later : List TransactionLocator
    splits : ls ≡ map (locator r) (count_from (o + 1) n) ++ later
    asked : Gives k (some (locator r (o + n))) later

  through : (r : BlockReference) (n o : ℕ) → ((j : ℕ) → o < j → j ≤ o + n → k.shows (locator r j) ≡ true) → (ls : List TransactionLocator) → Gives k
      (some (locator r o)) ls → Through r o n ls
  unfolding count_from
  through r zero o f ls a = let e : o + 0 ≡ o = omega arith in record { later = ls; splits = refl; asked = rw e a }
  through r (suc n) o f ls a = on (first_asked a (locator r (o + 1)) (just_after r o (f (o + 1) (omega arith) (omega arith))))
      (λ ms b. through r n (o + 1) (λ j h i. f j (omega arith) (omega arith)) ms b)
    where
      on : Next (locator r (o + 1)) ls → ((ms : List TransactionLocator) → Gives k (some (locator r (o + 1))) ms → Through r (o + 1) n ms) → Through r o
          (suc n) ls
      on x ih =
          let y = ih x.later x.asked in
          let e : o + 1 + n ≡ o + suc n = omega arith in
          record {
            later = y.later;
            splits = x.splits ∙ ap (λ (ms : List TransactionLocator). locator r (o + 1) ∷ ms) y.splits;
            asked = subst (λ (i : ℕ). Gives k (some (locator r i)) y.later) e y.asked;
          }

  record Passed (l : TransactionLocator) (ls : List TransactionLocator) : Type 0 where
    later : List TransactionLocator
    splits : ls ≡ stretch_locators (stretch_at c bs k l) ++ later
    asked : Gives k (some (last_locator (stretch_at c bs k l))) later

  passed : (after : Option TransactionLocator) (l : TransactionLocator) → k.next after ≡ some l → (ls : List TransactionLocator) → Gives k after ls → Passed
      l ls
  unfolding stretch_locators last_locator stretch_at locators offsets new_range locator count_from
  passed after l e ls a =
      let end : ℕ = stretch_end bs k l in
      let z : EndsAt bs k l end = shown_ends l (next_shown after l e) in
      let n : ℕ = end - l.offset - 1 in
      let x = first_asked a l e in
      let y = through l.block n l.offset (λ j (p : l.offset < j) (q : j ≤ l.offset + n). goes_shows l j
      (z.goes j (omega arith) (omega (arith, z.longer)))) x.later x.asked in
      let many : suc n ≡ end - l.offset = omega (arith, z.longer) in
      let last : l.offset + n ≡ end - 1 = omega (arith, z.longer) in
      record {
        later = y.later;
        splits =
            x.splits
            ∙ ap (λ (ms : List TransactionLocator). l ∷ ms) y.splits
            ∙ ap (λ (i : ℕ). map (locator l.block) (count_from l.offset i) ++ y.later) many;
        asked = subst (λ (i : ℕ). Gives k (some (locator l.block i)) y.later) last y.asked;
      }

  -- ---- the stretches, then what is left

  nothing_given : (n : ℕ) (after : Option TransactionLocator) (ls : List TransactionLocator) → Gives k after ls → (more_follow k after ≡ true → 0 ≡ n) → Spread
      k n after ls []
  unfolding reached flatten
  nothing_given n after ls a f = record { rest = ls; splits = refl; onward = a; none_left = nothing_left after ls a; full = f }

  one_given : (n : ℕ) (after : Option TransactionLocator) (l : TransactionLocator) (ls : List TransactionLocator) (ts : List FinalStretch) (p : Passed l ls)
      → Spread k n (some (last_locator (stretch_at c bs k l))) p.later ts → Spread k (suc n) after ls (stretch_at c bs k l ∷ ts)
  unfolding reached flatten
  one_given n after l ls ts p x =
      record {
        rest = x.rest;
        splits =
            p.splits
            ∙ ap (λ (ms : List TransactionLocator). stretch_locators (stretch_at c bs k l) ++ ms) x.splits
            ∙ sym (append_assoc (stretch_locators (stretch_at c bs k l)) (flatten (map stretch_locators ts)) x.rest);
        onward = x.onward;
        none_left = x.none_left;
        full = λ h. ap suc (x.full h);
      }

  none_more : (after : Option TransactionLocator) → k.next after ≡ none → more_follow k after ≡ true → ⊥
  unfolding more_follow is_none
  none_more after e h = not_both (rw e at h) refl

  pub spread : (n : ℕ) (after : Option TransactionLocator) (ls : List TransactionLocator) → Gives k after ls → Spread k n after ls (stretches c bs k n after)
  unfolding stretches from_found
  spread zero after ls a = nothing_given 0 after ls a (λ h. refl)
  spread (suc n) after ls a = go (k.next after) refl (λ from ms b. spread n from ms b)
    where
      go : (o : Option TransactionLocator) → k.next after ≡ o
          → ((from : Option TransactionLocator) (ms : List TransactionLocator) → Gives k from ms → Spread k n from ms (stretches c bs k n from))
          → Spread k (suc n) after ls (from_found o (λ l. stretch_at c bs k l ∷ stretches c bs k n (some (last_locator (stretch_at c bs k l)))))
      go none e ih = nothing_given (suc n) after ls a (λ h. absurd (none_more after e h))
      go (some l) e ih =
          let p = passed after l e ls a in
          one_given n after l ls (stretches c bs k n (some (last_locator (stretch_at c bs k l)))) p
          (ih (some (last_locator (stretch_at c bs k l))) p.later p.asked)

pub stretches_longest : StretchesLongest
unfolding StretchesLongest
stretches_longest c bs k law n after t m = longest c bs k law n after t m

pub stretches_spread : StretchesSpread
unfolding StretchesSpread
stretches_spread c bs k law n after ls a = spread c bs k law n after ls a
