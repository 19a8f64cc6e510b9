-- Words with their bytes the other way round. Assumes nothing.
use mathlib.Core.Path.{◌≡◌}
use Prim.Native.Nat.{ℕ, ◌+◌, ◌*◌, ◌/◌, ◌%◌, ◌^◌, ◌<◌}
use Rattle.base.specs.Le.{le_bytes}
use Rattle.base.proofs.Le.{le_bytes_add, le_bytes_mod}
use Rattle.types.specs.Values.{be_bytes}
use Rattle.record_reference_bytes.proofs.Read.{be_double}

-- the two halves turned and in each other's place
pub turned_halves : (n v h l : ℕ) → l < 256 ^ n → be_bytes n h ≡ le_bytes n (v % 256 ^ n) → be_bytes n l ≡ le_bytes n (v / 256 ^ n)
    → be_bytes (n + n) (h * 256 ^ n + l) ≡ le_bytes (n + n) v
turned_halves n v h l k e f = rw (be_double n h l k, e, f, le_bytes_mod n v, le_bytes_add n n v)
