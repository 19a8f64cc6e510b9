use Prim.Native.Nat.{ℕ}
use mathlib.Core.Path.{ap, ◌∙◌}
use mathlib.Core.List.{List}
use lib.ListN.{length, set, length-replicate}
use native.Mathlib.Omega.{arith}
use Rattle.listing_lent.proofs.Fresh.{zeros_fresh}
use Rattle.listing_lent.proofs.fresh_store.Goals as goal

pub bounds-store-4 : goal.bounds-store-4
bounds-store-4 c = omega (arith, ap length c.requires ∙ length-replicate {A = ℕ} 65536 0)

pub returns : goal.returns
returns c = ap (λ (s : List ℕ). set s 4 16) c.requires ∙ zeros_fresh 65520
