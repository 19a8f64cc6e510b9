use Prim.Native.Nat.{◌-◌}
use mathlib.Core.Path.{ap, ◌∙◌}
use native.Mathlib.Omega.{arith}
use Rattle.record_spec.specs.Reference.{BlockReference}
use Rattle.types.specs.Values.{as_reference}
use Rattle.listing_lines.specs.Lines.{head_of}
use Rattle.listing_stretches.proofs.Stretches.{head_word}
use Rattle.listing_stretches.proofs.read_stretch.Goals as goal

pub returns : goal.returns
unfolding as_reference
returns c =
    let block = c.read_reference-block in
    let first = c.read_u64-first.ensures in
    let end = c.read_u64-end.ensures in
    record {
      round = ap (λ (r : BlockReference). r.round) block.ensures;
      author = ap (λ (r : BlockReference). r.authority) block.ensures;
      head = head_word block.result.digest (omega arith) ∙ ap (λ (r : BlockReference). head_of r.digest) block.ensures;
      first = first;
      lines = c.offsets.ensures ∙ (λ i. end i - first i);
      blocks = c.read_u64.ensures;
      stake = c.read_u64-2.ensures;
      inside = omega (arith, c.offsets.ensures);
    }
