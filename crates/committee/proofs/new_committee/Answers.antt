use Rattle.committee.specs.Answers.{stake_value, as_new_committee, total_found}
use Rattle.committee.specs.Committee.{Stake, total_stake, committee_checks, new_committee}
use Rattle.base.specs.Checks.{◌⇒◌, refusal, passes, checked}
use Rattle.base.specs.Lists.{pick, all_of}
use borrow.Author.Tests.{eq-eqb, ne_eqb, lt-ltb, le-ltb}
use lib.ListN.{length}
use lib.Dec.{ltb}
use mathlib.Core.List.{[], ◌∷◌}
use mathlib.Core.Bool.{Bool, true, false}
use mathlib.Core.Path.{◌≡◌, refl, sym, ◌∙◌}
use Rattle.committee.proofs.new_committee.Goals as goal
use Rattle.std.specs.Prelude.{Err, Ok}
use Rattle.base.specs.declared.refusal.Refusal.TheVariants.{TotalTooLarge}

pub returns-then-stakes-eq0 : goal.returns-then-stakes-eq0
unfolding as_new_committee new_committee committee_checks checked passes refusal all_of
returns-then-stakes-eq0 c =
    let l = c.args.stakes.now in
    rw (eq-eqb (length l) 0 c.if-stakes-eq0.true)

pub returns-then-has_zero : goal.returns-then-has_zero
unfolding as_new_committee new_committee committee_checks checked passes refusal all_of
returns-then-has_zero c =
    let l = c.args.stakes.now in
    rw (ne_eqb (length l) 0 c.if-stakes-eq0.false, sym c.has_zero.ensures ∙ c.if-has_zero.true)

pub returns-then-stakes-gt-MAX_MEMBERS : goal.returns-then-stakes-gt-MAX_MEMBERS
unfolding as_new_committee new_committee committee_checks checked passes refusal all_of
returns-then-stakes-gt-MAX_MEMBERS c =
    let l = c.args.stakes.now in
    rw (
      ne_eqb (length l) 0 c.if-stakes-eq0.false,
      sym c.has_zero.ensures ∙ c.if-has_zero.false,
      lt-ltb 128 (length l)
          c.if-stakes-gt-MAX_MEMBERS.true,
    )

pub returns : goal.returns
unfolding as_new_committee new_committee committee_checks checked passes refusal all_of total_found
returns c =
    let l = c.args.stakes.now in
    rw (
      c.total_stake.ensures,
      ne_eqb (length l) 0 c.if-stakes-eq0.false,
      sym c.has_zero.ensures ∙ c.if-has_zero.false,
      le-ltb 128 (length l) c.if-stakes-gt-MAX_MEMBERS.false,
    )
    (either (ltb 9223372036854775807 (total_stake l)) (total_stake l))
  where
    either : (t : Bool) (s : Stake) → as_new_committee (pick t (Err TotalTooLarge) (Ok (stake_value s))) ≡ checked
        ((false ⇒ 1) ∷ (false ⇒ 2) ∷ (false ⇒ 3) ∷ (t ⇒ 4) ∷ []) s
    either true s = refl
    either false s = refl
