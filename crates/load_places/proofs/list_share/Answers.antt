use mathlib.Core.Path.{◌≡◌, sym, ap, ◌∙◌}
use mathlib.Core.Bool.{true, false}
use native.Mathlib.Omega.{arith}
use native.Mathlib.Numerals.{towards_suc}
use lib.ListN.{length-set}
use lib.Seq.{sets}
use Rattle.base.specs.Lists.{any_of}
use Rattle.record_spec.specs.Reference.{same_locator}
use Rattle.types.specs.Values.{as_locator}
use Rattle.load_spec.specs.Loadable.{met}
use Rattle.load_spec.specs.Question.{named_by}
use Rattle.load_places.specs.Listed.{met_by}
use Rattle.load_places.proofs.list_share.Goals as goal

pub returns-then-not-is_met : goal.returns-then-not-is_met
returns-then-not-is_met c =
    let a = c.args in
    let l = as_locator a.share in
    let unmet : met_by a.store.now a.n a.places.now l a.bytes.now ≡ false =
    unfold met_by in sym (ap (met (λ m. any_of (same_locator m) (named_by a.store.now a.n a.places.now)) l)
    c.needed_by-needed.ensures) ∙ sym c.is_met.ensures ∙ c.if-not-is_met.true in
    record { value = rw unmet; places_after = rw unmet }

pub bounds-places-n-2 : goal.bounds-places-n-2
bounds-places-n-2 c = simp length-set (omega arith)

pub returns : goal.returns
unfolding sets
returns c =
    let a = c.args in
    let l = as_locator a.share in
    let is : met_by a.store.now a.n a.places.now l a.bytes.now ≡ true =
    unfold met_by in sym (ap (met (λ m. any_of (same_locator m) (named_by a.store.now a.n a.places.now)) l)
    c.needed_by-needed.ensures) ∙ sym c.is_met.ensures ∙ c.if-not-is_met.false in
    record { value = rw is; places_after = rw is (simp towards_suc) }
