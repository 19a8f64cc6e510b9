use mathlib.Core.Path.{◌≡◌, sym, ◌∙◌}
use mathlib.Core.Bool.{true, false}
use native.Mathlib.Omega.{arith}
use Rattle.base.proofs.Tests.{not_both}
use Rattle.record_edition.specs.Step.{edition_right}
use Rattle.record_reader.proofs.Formed.{Head, block_short, block_refused, block_cut, block_on}
use Rattle.record_edition.proofs.Editions.{body_inside}
use Rattle.record_reader.proofs.well_formed.Goals as goal

pub returns-then-rec-lt-HEAD_BYTES : goal.returns-then-rec-lt-HEAD_BYTES
returns-then-rec-lt-HEAD_BYTES c = sym (block_short c.args.rec.now (omega arith))

pub returns-then-rec-gt1 : goal.returns-then-rec-gt1
returns-then-rec-gt1 c = let s = c.args.rec.now in sym (block_refused s (omega arith) (λ (h : Head s). omega arith))

pub returns-then-includes-gt-MAX_INCLUDES : goal.returns-then-includes-gt-MAX_INCLUDES
returns-then-includes-gt-MAX_INCLUDES c = let s = c.args.rec.now in sym (block_refused s (omega arith) (λ (h : Head s). omega arith))

pub returns-then-statements-gt-MAX_STATEMENTS : goal.returns-then-statements-gt-MAX_STATEMENTS
returns-then-statements-gt-MAX_STATEMENTS c = let s = c.args.rec.now in sym
    (block_refused s (omega arith) (λ (h : Head s). omega arith))

pub returns-then-not-edition_formed : goal.returns-then-not-edition_formed
returns-then-not-edition_formed c =
    let s = c.args.rec.now in
    let no : edition_right s ≡ false = sym c.edition_formed.ensures ∙ c.if-not-edition_formed.true in
    sym (block_refused s (omega arith) (λ (h : Head s). not_both h.edition no))

pub overflow_sub-rec : goal.overflow_sub-rec
overflow_sub-rec c =
    let s = c.args.rec.now in
    omega (arith, c.body_start-body.ensures, body_inside s (omega arith) (sym c.edition_formed.ensures ∙ c.if-not-edition_formed.false))

pub returns-then-rec-body : goal.returns-then-rec-body
returns-then-rec-body c =
    let s = c.args.rec.now in
    let yes : edition_right s ≡ true = sym c.edition_formed.ensures ∙ c.if-not-edition_formed.false in
    let head : Head s = record { mark = omega arith; includes = omega arith; statements = omega arith; edition = yes } in
    sym (block_cut s (omega arith) head (omega (arith, c.body_start-body.ensures)))

pub statements_only-requires : goal.statements_only-requires
statements_only-requires c =
    let s = c.args.rec.now in
    omega (
      arith,
      c.body_start-body.ensures,
      body_inside s (omega arith)
          (sym c.edition_formed.ensures ∙ c.if-not-edition_formed.false),
    )

pub returns : goal.returns
returns c =
    let s = c.args.rec.now in
    let yes : edition_right s ≡ true = sym c.edition_formed.ensures ∙ c.if-not-edition_formed.false in
    let head : Head s = record { mark = omega arith; includes = omega arith; statements = omega arith; edition = yes } in
    c.statements_only.ensures
    ∙ rw (
      c.body_start-body.ensures,
      c.read_u16-includes.ensures,
      c.read_u16-statements.ensures,
    )
    (sym (block_on s (omega arith) head (omega (arith, c.body_start-body.ensures, body_inside s (omega arith) yes))))
