use Prim.Native.Nat.{◌<◌, ◌-◌, ◌+◌, ◌/◌}
use mathlib.Core.Path.{◌≡◌, sym, ◌∙◌}
use mathlib.Core.Bool.{true}
use native.Mathlib.Omega.{arith}
use borrow.Author.Rules.{rules}
use Rattle.base.proofs.Narrowed.{narrowed_start, narrowed_up, narrowed_down}
use Rattle.record_spec.specs.Reference.{TransactionLocator, locator_before}
use Rattle.record_spec.proofs.References.{locator_trans}
use Rattle.types.specs.Values.{as_locator}
use Rattle.load_places.specs.Listed.{place_at}
use Rattle.load_places.proofs.Halving.{compared_equal, compared_less, compared_greater, Around, listed_there, listed_nowhere}
use Rattle.load_places.proofs.is_listed.Goals as goal

pub loop-low-init : goal.loop-low-init
unfolding Around
loop-low-init c = narrowed_start _ _ _

pub overflow_sub-middle : goal.overflow_sub-middle
unfolding Around
overflow_sub-middle c = search rules

pub overflow_add-middle : goal.overflow_add-middle
unfolding Around
overflow_add-middle c =
    let r = c.loop-low.invariant.inside in
    search rules

pub share_at-requires : goal.share_at-requires
unfolding Around
share_at-requires c =
    let l = c.loop-low in (
      omega (arith, l.invariant.inside, c.requires.long),
      c.requires.entry
          (l.low + (l.high - l.low) / 2) (omega (arith, l.invariant.inside)),
    )

pub returns-in-Equal : goal.returns-in-Equal
unfolding Around
returns-in-Equal c =
    let a = c.args in
    let l = c.loop-low in
    let m = l.low + (l.high - l.low) / 2 in
    sym (listed_there a.store.now a.places.now a.n (as_locator a.share) m (omega (arith, l.invariant.inside))
    (sym c.share_at.ensures ∙ compared_equal (as_locator c.share_at.result) (as_locator a.share)
    (sym c.compare_locators-compared.ensures ∙ c.in-Equal.is)))

pub overflow_add-low : goal.overflow_add-low
unfolding Around
overflow_add-low c =
    let r = c.loop-low.invariant.inside in
    search rules

pub loop-low-smaller-in-Less : goal.loop-low-smaller-in-Less
unfolding Around
loop-low-smaller-in-Less c = search rules

pub loop-low-preserved-in-Less : goal.loop-low-preserved-in-Less
unfolding Around
loop-low-preserved-in-Less c =
    let a = c.args in
    let l = c.loop-low in
    let m = l.low + (l.high - l.low) / 2 in
    let t : TransactionLocator = as_locator a.share in
    let at = place_at a.store.now a.places.now in
    let inside : m < a.n = omega (arith, l.invariant.inside) in
    let low : locator_before (at m) t ≡ true = rw c.share_at.ensures at
    (compared_less (as_locator c.share_at.result) t
    (sym c.compare_locators-compared.ensures ∙ c.in-Less.is)) in
    narrowed_up a.n _ _ l.low l.high m (λ i (h : i < m). locator_trans (at i) (at m) t
    (c.requires.rises i m h inside) low) low (omega arith) l.invariant

pub loop-low-smaller : goal.loop-low-smaller
unfolding Around
loop-low-smaller c = search rules

pub loop-low-preserved : goal.loop-low-preserved
unfolding Around
loop-low-preserved c =
    let a = c.args in
    let l = c.loop-low in
    let m = l.low + (l.high - l.low) / 2 in
    let t : TransactionLocator = as_locator a.share in
    let at = place_at a.store.now a.places.now in
    let high : locator_before t (at m) ≡ true = rw c.share_at.ensures at
    (compared_greater (as_locator c.share_at.result) t
    (sym c.compare_locators-compared.ensures ∙ c.in-Greater.is)) in
    narrowed_down a.n _ _ l.low l.high m (λ i (h : m < i) (k : i < a.n). locator_trans t (at m) (at i) high
    (c.requires.rises m i h k)) high (omega arith) (omega arith) l.invariant

pub returns : goal.returns
returns c =
    let a = c.args in
    let l = c.loop-low in
    sym (listed_nowhere a.store.now a.places.now a.n (as_locator a.share) l.low l.high (omega arith) l.invariant)
