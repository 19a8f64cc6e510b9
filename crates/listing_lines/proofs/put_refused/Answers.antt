use Rattle.listing_lines.specs.Lines.{refused_line}
use Rattle.listing_text.specs.Text.{line, numbers, number_line}
use Rattle.listing_lines.proofs.put_refused.Goals as goal

pub returns : goal.returns
unfolding refused_line line number_line numbers
returns c = c.put_line.ensures
