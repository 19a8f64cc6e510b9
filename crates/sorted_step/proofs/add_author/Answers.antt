use Prim.Native.Nat.{◌+◌, ◌*◌}
use mathlib.Core.Path.{sym, ◌∙◌}
use native.Mathlib.Omega.{arith}
use lib.ListN.{length-set}
use Rattle.sorted_step.proofs.Words.{add_again, add_new}
use Rattle.sorted_step.proofs.add_author.Goals as goal

pub returns-then-contains : goal.returns-then-contains
returns-then-contains c =
    let a = c.args in
    let k = c.requires in
    add_again a.replies.now a.i a.stakes.now a.author.0 k.1.0.1 k.1.1
    (record {
      low = omega (arith, c.slice_known-3-1.given (3 * a.i + 1));
      high = omega
          (arith, c.slice_known-3-1.given (3 * a.i + 2));
    }) k.1.0.0 (sym c.contains.ensures ∙ c.if-contains.true)

pub bounds-replies-at-4 : goal.bounds-replies-at-4
bounds-replies-at-4 c = simp length-set (omega arith)

pub bounds-replies-at-5 : goal.bounds-replies-at-5
bounds-replies-at-5 c = simp length-set (omega arith)

pub returns : goal.returns
returns c =
    let a = c.args in
    add_new a.replies.now a.i a.stakes.now a.author.0 c.final_word.result c.insert-more.result c.insert-more.ensures
    c.final_word.ensures
