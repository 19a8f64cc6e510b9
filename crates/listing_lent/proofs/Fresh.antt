-- The store that `listing` starts with. Assumes nothing.
use Prim.Native.Nat.{ℕ, ◌+◌}
use mathlib.Core.Path.{◌≡◌, refl}
use mathlib.Core.List.{[], ◌++◌, flatten}
use lib.ListN.{replicate, set, replicate-append-replicate}
use Rattle.base.specs.Le.{le_bytes}
use Rattle.store_spec.specs.Layout.{layout, header_bytes, body_bytes, entries, first_position, position_of, least, used_by}

-- zeros with the used length of a fresh store
pub zeros_fresh : (n : ℕ) → set (replicate (16 + n) 0) 4 16 ≡ layout [] ++ replicate n 0
unfolding layout header_bytes body_bytes entries first_position position_of least used_by flatten le_bytes
zeros_fresh n = rw (← replicate-append-replicate {A = ℕ} 16 n 0) refl
