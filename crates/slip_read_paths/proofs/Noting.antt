-- Votes noted place by place. Assumes nothing.
use mathlib.Core.Path.{◌≡◌, ◌∙◌}
use mathlib.Core.Bool.{Bool, true, false}
use mathlib.Core.List.{List}
use mir.Val.{bool_byte}
use Prim.Native.Nat.{ℕ, ◌+◌, ◌<◌}
use native.Mathlib.Omega.{arith}
use native.Mathlib.Decide.{ℕ_discrete}
use lib.ListN.{length, get_or, set}
use lib.Seq.{get_or-set_same, get_or-set_other}
use Rattle.base.specs.Lists.{pick}
use Rattle.base.specs.Le.{Bytes}
use Rattle.record_spec.specs.Reference.{TransactionLocator}
use Rattle.final_spec.specs.Voters.{votes_for}
use Rattle.slip_read_records.specs.Places.{block_at_place}
use Rattle.slip_read_paths.specs.Walk.{Noted}

module _ (q : Bytes) (order : List ℕ) (l : TransactionLocator) where
  pub noted_none : (votes : List ℕ) → Noted q order l 0 votes
  noted_none votes = record { at = λ j h. absurd (omega arith) }

  pub noted_more : (votes : List ℕ) (n v : ℕ) → Noted q order l n votes → n < length votes → v ≡ pick (votes_for (block_at_place q order n) l) 1 0 → Noted q
      order l (n + 1) (set votes n v)
  noted_more votes n v k h e = record { at = λ j m. go j m (ℕ_discrete j n) }
    where
      go : (j : ℕ) → j < n + 1 → Dec (j ≡ n) → get_or (set votes n v) j 0 ≡ pick (votes_for (block_at_place q order j) l) 1 0
      go j m (yes d) = rw d (get_or-set_same votes n v 0 h ∙ e)
      go j m (no d) = get_or-set_other votes n j v 0 d ∙ k.at j (omega arith)

-- a test as a byte
pub byte_of : (t u : Bool) → t ≡ u → bool_byte t ≡ pick u 1 0
byte_of true u e = rw (← e)
byte_of false u e = rw (← e)
