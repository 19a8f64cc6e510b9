use Rattle.std.proofs.Common.{ℕ, ap}
use Rattle.listing_text.proofs.Text.{wrote_same}
use Rattle.listing_lines.specs.Lines.{end_line}
use Rattle.listing_counts.proofs.put_counts.Goals as goal

pub returns : goal.returns
returns c = let start = c.args in wrote_same
    (ap (λ (k : ℕ). end_line start.accepted start.refused start.processed k start.finals)
    c.pending_offsets-pending.ensures) c.put_end.ensures
