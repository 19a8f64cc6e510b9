use mathlib.Core.Path.{sym, ◌∙◌}
use Rattle.record_spec.specs.Reference.{locator}
use Rattle.types.specs.Values.{as_locator}
use Rattle.types.proofs.Words.{locator_equal, locator_less, locator_greater}
use Rattle.types.proofs.compare_locators.Goals as goal

pub returns-in-Equal : goal.returns-in-Equal
unfolding as_locator locator
returns-in-Equal c =
    let a = as_locator c.args.a in
    let b = as_locator c.args.b in
    c.compare_words.ensures ∙ sym (locator_equal a b (sym c.compare-first.ensures ∙ c.in-Equal.is))

pub returns-in-Less : goal.returns-in-Less
unfolding as_locator locator
returns-in-Less c =
    let a = as_locator c.args.a in
    let b = as_locator c.args.b in
    sym (locator_less a b (sym c.compare-first.ensures ∙ c.in-Less.is))

pub returns-in-Greater : goal.returns-in-Greater
unfolding as_locator locator
returns-in-Greater c =
    let a = as_locator c.args.a in
    let b = as_locator c.args.b in
    sym (locator_greater a b (sym c.compare-first.ensures ∙ c.in-Greater.is))
