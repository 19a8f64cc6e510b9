use Rattle.std.proofs.Common.{ℕ, ◌≤◌, [], ◌∷◌, length, arith}
use Rattle.listing_text.specs.Text.{line, numbers, number_line}
use Rattle.listing_text.proofs.Text.{wrote_on, length_wrote, length_number_line}
use Rattle.listing_lines.specs.Lines.{refused_line}
use Rattle.listing_counts.proofs.put_refusal.Goals as goal

short : (n : ℕ) → length (refused_line 0 n) ≤ 128
unfolding refused_line line number_line numbers
short n = omega (arith, length_number_line (114 ∷ 101 ∷ 102 ∷ 117 ∷ 115 ∷ 101 ∷ 100 ∷ []) (0 ∷ n ∷ []) 10)

pub put_end-requires : goal.put_end-requires
put_end-requires c = let w = c.put_refused-at.ensures in omega
    (arith, w.end, length_wrote w, short c.args.number)

pub returns : goal.returns
returns c = wrote_on c.put_refused-at.ensures c.put_end.ensures
