use mathlib.Core.Path.{sym, ◌∙◌}
use Prim.Native.Nat.{◌+◌}
use native.Mathlib.Omega.{arith}
use lib.ListN.{get_or}
use borrow.Author.Tests.{eq-eqb, ne_eqb}
use Rattle.index_runs.proofs.Words.{four_words}
use Rattle.index_runs.proofs.stand_at.Goals as goal

pub returns-then-index-at : goal.returns-then-index-at
returns-then-index-at c =
    let a = c.args in
    let words = four_words a.index.now a.at a.first a.second a.third a.fourth (omega arith) in
    sym (words ∙ rw (ne_eqb (get_or a.index.now a.at 0) a.first c.if-index-at.true))

pub returns-then-index-at-2 : goal.returns-then-index-at-2
returns-then-index-at-2 c =
    let a = c.args in
    let words = four_words a.index.now a.at a.first a.second a.third a.fourth (omega arith) in
    sym (words ∙ rw (
      eq-eqb (get_or a.index.now a.at 0) a.first c.if-index-at.false,
      ne_eqb (get_or a.index.now (a.at + 1) 0)
          a.second c.if-index-at-2.true,
    ))

pub returns-then-index-at-3 : goal.returns-then-index-at-3
returns-then-index-at-3 c =
    let a = c.args in
    let words = four_words a.index.now a.at a.first a.second a.third a.fourth (omega arith) in
    sym (words ∙ rw (
      eq-eqb (get_or a.index.now a.at 0) a.first c.if-index-at.false,
      eq-eqb
          (get_or a.index.now (a.at + 1) 0) a.second c.if-index-at-2.false,
      ne_eqb (get_or a.index.now (a.at + 2) 0) a.third
          c.if-index-at-3.true,
    ))

pub returns : goal.returns
returns c =
    let a = c.args in
    let words = four_words a.index.now a.at a.first a.second a.third a.fourth (omega arith) in
    sym (words ∙ rw (
      eq-eqb (get_or a.index.now a.at 0) a.first c.if-index-at.false,
      eq-eqb
          (get_or a.index.now (a.at + 1) 0) a.second c.if-index-at-2.false,
      eq-eqb (get_or a.index.now (a.at + 2) 0) a.third
          c.if-index-at-3.false,
    ))
