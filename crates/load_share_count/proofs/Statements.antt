-- The statements of a record, by their index. Assumes nothing.
use mathlib.Core.Path.{◌≡◌}
use mathlib.Core.Bool.{true}
use mathlib.Core.List.{List}
use Prim.Native.Nat.{ℕ, ◌<◌, ◌≤◌}
use lib.ListN.{length, get_or}
use Rattle.base.specs.Lists.{holds}
use Rattle.base.proofs.Le.{AllBytes}
use Rattle.record_spec.specs.Block.{Statement, Block, is_share, is_share_at}
use Rattle.record_spec.specs.Record.{well_formed, block_in, no_statement}
use Rattle.record_spec.proofs.Records.{block_of_fits, block_of_lem}
use Rattle.base.proofs.Lists.{element_at}

-- the statement of an index, by the one that was read there
pub share_here : (b : Block) (i : ℕ) (st : Statement) → i < length b.statements → st ≡ get_or b.statements i no_statement → is_share_at b i ≡ is_share st
unfolding is_share_at holds
share_here b i st h e = rw (element_at b.statements i no_statement h, ← e)

pub few_statements_lem : (rec : List ℕ) → AllBytes rec → well_formed rec ≡ true → length (block_in rec).statements ≤ 1024
few_statements_lem rec a w = (block_of_fits rec (block_in rec) a (block_of_lem rec w)).few_statements
