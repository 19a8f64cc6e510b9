use mathlib.Core.List.{[], ◌∷◌, append_assoc}
use lib.ListN.{length-set}
use native.Mathlib.Omega.{arith}
use Rattle.listing_text.specs.Text.{numbers, number_line}
use Rattle.listing_text.proofs.Text.{wrote_byte, wrote_on, wrote_same, length_wrote, length_numbers}
use Rattle.listing_text.proofs.put_line.Goals as goal

pub bounds-out-to : goal.bounds-out-to
bounds-out-to c =
    let text = c.put_text-named.ensures in
    let wrote = c.put_numbers-to.ensures in
    omega (
      arith,
      length_numbers c.args.ns.now,
      text.end,
      length_wrote text,
      wrote.end,
      length_wrote wrote,
    )

pub shape_of-out : goal.shape_of-out
shape_of-out c = simp length-set (length_wrote (wrote_on c.put_text-named.ensures
    c.put_numbers-to.ensures))

pub returns : goal.returns
unfolding number_line
returns c =
    let start = c.args in
    let text = c.put_text-named.ensures in
    let wrote = c.put_numbers-to.ensures in
    wrote_same (append_assoc start.name.now (numbers start.ns.now) (start.last ∷ []))
    (wrote_byte start.last (wrote_on text wrote) (omega (
      arith,
      length_numbers
          c.args.ns.now,
      text.end,
      length_wrote text,
      wrote.end,
      length_wrote wrote,
    )))
