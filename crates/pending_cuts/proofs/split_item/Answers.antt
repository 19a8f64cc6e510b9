use mathlib.Core.Path.{ap, ◌∙◌}
use native.Mathlib.Omega.{arith}
use lib.ListN.{length-set}
use Rattle.pending_spec.specs.Items.{front_of, back_of}
use Rattle.pending_cuts.proofs.Cuts.{split_table}
use Rattle.pending_words.proofs.Slots.{holds_holding}
use Rattle.pending_cuts.proofs.split_item.Goals as goal

pub put_item-requires-2 : goal.put_item-requires-2
put_item-requires-2 c =
    let moved = c.move_up.auto.t in
    let start = c.requires in
    omega (arith, c.put_item.auto.t, moved, start)

pub overflow_add-t : goal.overflow_add-t
overflow_add-t c =
    let n = c.item_count-n.ensures in
    let start = c in
    omega (arith, n, start.requires)

pub bounds-t-0 : goal.bounds-t-0
bounds-t-0 c =
    let put = c.put_item.auto.t in
    let moved = c.move_up.auto.t in
    let start = c.requires in
    omega (arith, c.put_item-2.auto.t, put, moved, start)

pub shape_of-t : goal.shape_of-t
shape_of-t c =
    let put = c.put_item.auto.t in
    let moved = c.move_up.auto.t in
    simp length-set (c.put_item-2.auto.t ∙ put ∙ moved)

pub returns : goal.returns
returns c =
    let put = c.put_item.ensures in
    let moved = c.move_up.ensures in
    let x = c.item_at-x.ensures in
    let n = c.item_count-n.ensures in
    let start = c in
    let o = start.args.o in
    let one = c.front_of.ensures ∙ ap (λ z. front_of z o) x in
    let two = c.back_of.ensures ∙ ap (λ z. back_of z o) x in
    rw (c.put_item-2.ensures, put, n)
    (split_table _ _ _ start.requires.1 _ _ (holds_holding _ start.requires.0) (rw n at moved) start.requires.2 _ _ one two)
