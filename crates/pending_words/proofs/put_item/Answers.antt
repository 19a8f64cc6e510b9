use native.Mathlib.Omega.{arith}
use native.Mathlib.Numerals.{towards_suc}
use lib.ListN.{length-set}
use Rattle.pending_spec.specs.Table.{item_words}
use Rattle.pending_words.specs.Answers.{as_item}
use Rattle.pending_words.proofs.put_item.Goals as goal

pub bounds-t-b-2 : goal.bounds-t-b-2
bounds-t-b-2 c = simp length-set (omega arith)

pub bounds-t-b-3 : goal.bounds-t-b-3
bounds-t-b-3 c = simp length-set (omega arith)

pub bounds-t-b-4 : goal.bounds-t-b-4
bounds-t-b-4 c = simp length-set (omega arith)

pub bounds-t-b-5 : goal.bounds-t-b-5
bounds-t-b-5 c = simp length-set (omega arith)

pub bounds-t-b-6 : goal.bounds-t-b-6
bounds-t-b-6 c = simp length-set (omega arith)

pub returns : goal.returns
unfolding item_words as_item
returns c = simp towards_suc
