-- A range that is out of reach covers no locator from the last one on up to the bound. Assumes nothing.
use mathlib.Core.Path.{◌≡◌, refl, sym, subst}
use mathlib.Core.Bool.{Bool, true, false, not, and-false}
use mathlib.Core.Option.{Option, none, some}
use Prim.Native.Nat.{ℕ, ◌+◌, ◌≤◌, ◌<◌}
use native.Mathlib.Omega.{arith}
use lib.Dec.{ltb}
use borrow.Author.Tests.{lt-ltb, le-ltb, ltb-true}
use Rattle.base.specs.Lists.{is_none}
use Rattle.base.proofs.Tests.{and_left, and_right, and_both, fails, not_both}
use Rattle.record_spec.specs.Reference.{BlockReference, TransactionLocator, TransactionLocatorRange, locator, locator_before, same_reference, reference_before}
use Rattle.record_spec.specs.Reference.{covers}
use Rattle.record_spec.proofs.References.{Precedes, by_block, by_offset, precedes, is_before, reference_same, reference_irrefl, reference_trans, locator_irrefl}
use Rattle.record_spec.proofs.References.{locator_trans, not_before_trans}
use Rattle.record_spec.proofs.Ranges.{within_true}
use Rattle.final_spec.specs.NextFinal.{is_after}
use Rattle.list_order.specs.Row.{is_after_best}
use Rattle.list_reach.specs.Reach.{From, Within, in_reach}

-- ---- which locators are within

-- every locator is within all
pub within_all : (l : TransactionLocator) → Within none none l
unfolding From is_after_best is_none
within_all l = record { from = tt; short = refl }

not_itself : (l : TransactionLocator) → locator_before l l ≡ false
not_itself l = fails _ (locator_irrefl l)

-- and a locator is within itself
pub within_own : (l : TransactionLocator) → Within (some l) (some l) l
unfolding From is_after_best is_none is_after
within_own l = record { from = not_itself l; short = not_itself l }

-- one that is not after a bound is before, or at, what is not after it
pub short_before : (bound : Option TransactionLocator) (l m : TransactionLocator) → locator_before l m ≡ false → is_after_best bound l ≡ false → is_after_best
    bound m ≡ false
unfolding is_after_best is_none is_after
short_before none l m h k = refl
short_before (some b) l m h k = not_before_trans m l b h k

module _ (bound : Option TransactionLocator) (l : TransactionLocator) (short : is_after_best bound l ≡ false) where
  -- one after the last
  pub within_after : (last : Option TransactionLocator) → is_after last l ≡ true → Within last bound l
  unfolding From is_after
  within_after none h = record { from = tt; short = short }
  within_after (some m) h = record { from = fails _ (λ k. locator_irrefl m (locator_trans m l m h k)); short = short }

  -- and the last itself
  pub within_last : (m : TransactionLocator) → locator_before m l ≡ true → Within (some m) bound m
  unfolding From
  within_last m h = record { from = not_itself m; short = short_before bound l m (fails _ (λ k. locator_irrefl m (locator_trans m l m h k))) short }

-- just before one after the last
pub within_less : (bound last : Option TransactionLocator) (r : BlockReference) (o : ℕ) → is_after_best bound (locator r (o + 1)) ≡ false → is_after last
    (locator r (o + 1)) ≡ true → Within last bound (locator r o)
unfolding locator From is_after
within_less bound last r o short h = record {
  from = from last h;
  short = short_before bound (locator r (o + 1)) (locator r o)
      (fails _ (λ k. never (precedes (locator r (o + 1)) (locator r o) k))) short;
}
  where
    never : Precedes (locator r (o + 1)) (locator r o) → ⊥
    never (by_block e) = reference_irrefl r e
    never (by_offset e f) = omega arith

    between : (m : TransactionLocator) → Precedes (locator r o) m → Precedes m (locator r (o + 1)) → ⊥
    between m (by_block a) (by_block b) = reference_irrefl r (reference_trans r m.block r a b)
    between m (by_block a) (by_offset e b) = reference_irrefl r (subst (λ (x : BlockReference). reference_before r x ≡ true) e a)
    between m (by_offset e a) (by_block b) = reference_irrefl r (subst (λ (x : BlockReference). reference_before x r ≡ true) (sym e) b)
    between m (by_offset e a) (by_offset f b) = omega arith

    from : (last : Option TransactionLocator) → is_after last (locator r (o + 1)) ≡ true → From last (locator r o)
    from none h = tt
    from (some m) h = fails _ (λ k. between m (precedes (locator r o) m k) (precedes m (locator r (o + 1)) h))

-- ---- what a range covers

module _ (q : TransactionLocatorRange) (l : TransactionLocator) (c : covers q l ≡ true) where
  same : q.block ≡ l.block
  unfolding covers
  same = reference_same q.block l.block (and_left _ _ c)

  offsets : (q.start ≤ l.offset) × (l.offset < q.end)
  unfolding covers
  offsets = within_true q.start q.end l.offset (and_right (same_reference q.block l.block) _ c)

  -- a range begins at what it covers or before, and ends after it
  start_covered : locator_before l (locator q.block q.start) ≡ false
  unfolding locator
  start_covered = fails _ (λ e. never (precedes l (locator q.block q.start) e))
    where
      never : Precedes l (locator q.block q.start) → ⊥
      never (by_block e) = reference_irrefl l.block (subst (λ (r : BlockReference). reference_before l.block r ≡ true) same e)
      never (by_offset e f) = omega (arith, offsets.0)

  end_covered : locator_before l (locator q.block q.end) ≡ true
  unfolding locator
  end_covered = is_before l (locator q.block q.end) (by_offset (sym same) offsets.1)

  end_after : (last : Option TransactionLocator) → From last l → is_after last (locator q.block q.end) ≡ true
  unfolding From is_after
  end_after none h = refl
  end_after (some m) h = go (locator_before m (locator q.block q.end)) refl
    where
      go : (t : Bool) → locator_before m (locator q.block q.end) ≡ t → t ≡ true
      go true e = refl
      go false e = absurd (not_both end_covered (not_before_trans (locator q.block q.end) m l e h))

  start_short : (bound : Option TransactionLocator) → is_after_best bound l ≡ false → is_after_best bound (locator q.block q.start) ≡ false
  unfolding is_after_best is_none is_after
  start_short none h = refl
  start_short (some b) h = not_before_trans (locator q.block q.start) l b start_covered h

-- ---- which ranges matter

module _ (last bound : Option TransactionLocator) (q : TransactionLocatorRange) where
  pub reach_filled : in_reach last bound q ≡ true → q.start < q.end
  unfolding in_reach
  reach_filled h = ltb-true q.start q.end (and_left (ltb q.start q.end) _ h)

  pub reach_empty : q.end ≤ q.start → in_reach last bound q ≡ false
  unfolding in_reach
  reach_empty h = rw (le-ltb q.start q.end h)

  pub reach_ended : is_after last (locator q.block q.end) ≡ false → in_reach last bound q ≡ false
  unfolding in_reach
  reach_ended h = rw h (and-false (ltb q.start q.end))

  pub reach_left : q.start < q.end → is_after last (locator q.block q.end) ≡ true → in_reach last bound q ≡ not
      (is_after_best bound (locator q.block q.start))
  unfolding in_reach
  reach_left h k = rw (lt-ltb q.start q.end h, k)

  pub far_covers : (l : TransactionLocator) → Within last bound l → in_reach last bound q ≡ false → covers q l ≡ false
  unfolding in_reach
  far_covers l w h =
      fails _ (λ c. let o = offsets q l c in not_both (and_both _ _ (lt-ltb q.start q.end (omega (arith, o.0, o.1)))
      (rw (end_after q l c last w.from, start_short q l c bound w.short) refl)) h)
