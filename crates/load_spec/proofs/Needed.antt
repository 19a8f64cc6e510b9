-- What a payload needs, case by case. Assumes nothing.
use mathlib.Core.Path.{◌≡◌, refl, sym, ap, ◌∙◌}
use mathlib.Core.Bool.{Bool, true, false, ◌&&◌}
use mathlib.Core.List.{◌∷◌, ◌++◌}
use mathlib.Core.Option.{Option, none, some}
use Prim.Native.Nat.{◌≤◌, ◌<◌}
use native.Mathlib.Omega.{arith}
use lib.Dec.{leb}
use lib.ListN.{length, get_or, length-append}
use borrow.Author.Tests.{eq-eqb, ne_eqb, le-leb, lt-leb}
use Rattle.base.specs.Lists.{pick}
use Rattle.base.specs.Le.{Bytes, le_bytes}
use Rattle.base.specs.Read.{Part}
use Rattle.base.proofs.Le.{length_le_bytes}
use Rattle.record_spec.specs.Reference.{TransactionLocator}
use Rattle.record_spec.specs.Record.{reference_bytes, locator_bytes}
use Rattle.record_spec.specs.Claims.{fits_locator}
use Rattle.record_reference_bytes.specs.Step.{locator_at}
use Rattle.record_spec.proofs.Records.{LocatorFits, locator_reads, length_reference}
use Rattle.record_spec.proofs.Claimed.{locator_fits}
use Rattle.record_reference_bytes.proofs.Fixed.{fixed_locator, locator_value}
use Rattle.load_spec.specs.Needs.{needed_by}

pub needs_short : (p : Bytes) → length p < 57 → needed_by p ≡ none
unfolding needed_by
needs_short p h = rw (lt-leb 57 (length p) h)

pub needs_other : (p : Bytes) → (get_or p 0 0 ≡ 1 → ⊥) → needed_by p ≡ none
unfolding needed_by
needs_other p h = rw (ne_eqb (get_or p 0 0) 1 h) (go (leb 57 (length p)))
  where
    go : (t : Bool) → pick (t && false) (some (locator_at p 1)) none ≡ none
    go true = refl
    go false = refl

pub needs_found : (p : Bytes) → 57 ≤ length p → get_or p 0 0 ≡ 1 → needed_by p ≡ some (locator_at p 1)
unfolding needed_by
needs_found p h e = rw (le-leb 57 (length p) h, eq-eqb (get_or p 0 0) 1 e)

-- ---- what was written is needed

length_locator : (l : TransactionLocator) → LocatorFits l → length (locator_bytes l) ≡ 56
unfolding locator_bytes
length_locator l h = omega (
  arith,
  length-append (reference_bytes l.block) (le_bytes 8 l.offset),
  length_reference l.block h.block,
  length_le_bytes 8
      l.offset,
)

value_of : {A : Type 0} → A → Option (Part A) → A
value_of d none = d
value_of d (some p) = p.value

read_there : (l : TransactionLocator) (rest : Bytes) → LocatorFits l → locator_at (1 ∷ locator_bytes l ++ rest) 1 ≡ l
unfolding value_of
read_there l rest h =
    let s : Bytes = locator_bytes l ++ rest in
    let long : 56 ≤ length s = omega (arith, length-append (locator_bytes l) rest, length_locator l h) in
    sym (locator_value (1 ∷ locator_bytes l ++ rest) 1) ∙ ap (value_of l) (sym (fixed_locator.reads s long) ∙ locator_reads l h rest)

pub needs_written : (l : TransactionLocator) (rest : Bytes) → fits_locator l ≡ true → needed_by (1 ∷ locator_bytes l ++ rest) ≡ some l
needs_written l rest f =
    let h : LocatorFits l = locator_fits l f in
    needs_found (1 ∷ locator_bytes l ++ rest) (omega (arith, length-append (locator_bytes l) rest, length_locator l h)) refl
    ∙ ap {B = Option TransactionLocator} some (read_there l rest h)
