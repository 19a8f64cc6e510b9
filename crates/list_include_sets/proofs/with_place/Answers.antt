use mathlib.Core.Path.{sym}
use borrow.Author.Tests.{eq-eqb, ne_eqb}
use Rattle.committee_set.proofs.Words.{united_nobody}
use Rattle.list_includes_spec.specs.Places.{set_at}
use Rattle.list_include_sets.proofs.with_place.Goals as goal

pub returns-then-bit-ne1 : goal.returns-then-bit-ne1
returns-then-bit-ne1 c = rw (ne_eqb c.args.bit 1 c.if-bit-ne1.true) (sym (united_nobody c.args.found))

pub returns : goal.returns
unfolding set_at
returns c = rw (eq-eqb c.args.bit 1 c.if-bit-ne1.false) c.union.ensures
