use mathlib.Core.List.{[], ◌∷◌}
use native.Mathlib.Omega.{arith}
use Rattle.listing_lines.specs.Lines.{final_line}
use Rattle.listing_text.specs.Text.{hex}
use Rattle.listing_text.proofs.Text.{wrote_on, wrote_same, length_wrote, length_hex, length_number_line, line_around}
use Rattle.listing_lines.proofs.put_final.Goals as goal

pub put_hex-to-requires : goal.put_hex-to-requires
put_hex-to-requires c =
    let start = c.args in
    let named = c.put_line-named.ensures in
    omega (arith, length_number_line (102 ∷ 105 ∷ 110 ∷ 97 ∷ 108 ∷ []) (start.round ∷ start.author ∷ []) 32, named.end, length_wrote named)

pub put_line-requires : goal.put_line-requires
put_line-requires c =
    let start = c.args in
    let named = c.put_line-named.ensures in
    let digest = c.put_hex-to.ensures in
    omega (
      arith,
      length_number_line (102 ∷ 105 ∷ 110 ∷ 97 ∷ 108 ∷ []) (start.round ∷ start.author ∷ []) 32,
      length_hex 8 start.digest,
      named.end,
      length_wrote named,
      digest.end,
      length_wrote digest,
      c.requires,
    )

pub returns : goal.returns
unfolding final_line
returns c =
    let start = c.args in
    wrote_same (line_around (102 ∷ 105 ∷ 110 ∷ 97 ∷ 108 ∷ []) (hex 8 start.digest) start.round start.author
    (start.offset ∷ start.blocks ∷ start.stake ∷ []))
    (wrote_on (wrote_on c.put_line-named.ensures
    c.put_hex-to.ensures) c.put_line.ensures)
