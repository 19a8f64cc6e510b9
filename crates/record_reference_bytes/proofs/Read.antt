-- Words read from bytes, the highest byte first. Assumes nothing.
use mathlib.Core.Path.{◌≡◌, ap, ◌∙◌}
use mathlib.Core.List.{List, ◌++◌, reverse-append}
use Prim.Native.Nat.{ℕ, ◌+◌, ◌*◌, ◌/◌, ◌%◌, ◌^◌, ◌<◌}
use native.Mathlib.Nat.{add-zero, mul-add-div_right, mul-add-mod_self_right, div-eq_of_lt, mod-eq_of_lt}
use native.Mathlib.Omega.{arith}
use lib.ListN.{length, get_or, take, drop}
use lib.Seq.{take-add, drop-drop, drop-cons}
use Rattle.base.specs.Le.{le_bytes}
use Rattle.base.proofs.Le.{le_bytes_add, le_bytes_mod}
use Rattle.types.specs.Values.{be_bytes, digest_bytes}
use Rattle.types.specs.declared.BlockDigest as digest

pub be_double : (n h l : ℕ) → l < 256 ^ n → be_bytes (n + n) (h * 256 ^ n + l) ≡ be_bytes n h ++ be_bytes n l
unfolding be_bytes
be_double n h l k =
    let v : ℕ = h * 256 ^ n + l in
    let high : v / 256 ^ n ≡ h = mul-add-div_right (omega (arith, k)) h l ∙ ap (λ (x : ℕ). h + x) (div-eq_of_lt k) ∙ add-zero h in
    let low : v % 256 ^ n ≡ l = mul-add-mod_self_right h (256 ^ n) l ∙ mod-eq_of_lt k in
    rw (le_bytes_add n n v, reverse-append (le_bytes n v) (le_bytes n (v / 256 ^ n)), high, ← le_bytes_mod n v, low)

-- two halves that were read one after the other
pub read_double : (n : ℕ) (s : List ℕ) (p h l : ℕ) → l < 256 ^ n → be_bytes n h ≡ take n (drop p s) → be_bytes n l ≡ take n (drop (p + n) s)
    → be_bytes (n + n) (h * 256 ^ n + l) ≡ take (n + n) (drop p s)
read_double n s p h l k e f = rw (be_double n h l k, e, f, take-add n n (drop p s), drop-drop n p s)

-- a byte that was read
pub read_single : (s : List ℕ) (p : ℕ) → p < length s → get_or s p 0 < 256 → be_bytes 1 (get_or s p 0) ≡ take 1 (drop p s)
unfolding be_bytes le_bytes
read_single s p h k = rw (drop-cons s p 0 h, mod-eq_of_lt k)

-- four words that were read one after the other
pub read_four : (d : digest.BlockDigest) (s : List ℕ) (p : ℕ) → be_bytes 8 d.0 ≡ take 8 (drop p s) → be_bytes 8 d.1 ≡ take 8 (drop (p + 8) s)
    → be_bytes 8 d.2 ≡ take 8 (drop (p + 16) s) → be_bytes 8 d.3 ≡ take 8 (drop (p + 24) s) → digest_bytes d ≡ take 32 (drop p s)
unfolding digest_bytes
read_four d s p e f g h =
    let f₂ : p + 8 + 8 ≡ p + 16 = omega arith in
    let f₃ : p + 16 + 8 ≡ p + 24 = omega arith in
    rw (
      e,
      f,
      g,
      h,
      take-add 8 24 (drop p s),
      drop-drop 8 p s,
      take-add 8 16 (drop (p + 8) s),
      drop-drop 8 (p + 8) s,
      f₂,
      take-add 8 8 (drop (p + 16) s),
      drop-drop 8 (p + 16) s,
      f₃,
    )
