-- Stretches from their bytes: the head of a digest from its first word, and the last locator. Assumes nothing.
use mathlib.Core.Path.{◌≡◌, refl, sym, ap, ◌∙◌}
use mathlib.Core.Option.{Option, some}
use Prim.Native.Nat.{ℕ, zero, suc, ◌+◌, ◌-◌, ◌*◌, ◌/◌, ◌<◌}
use native.Mathlib.Omega.{arith}
use Rattle.base.specs.Le.{Bytes, le_bytes, le_at}
use Rattle.base.proofs.Le.{le_number_le_bytes}
use Rattle.record_spec.specs.Reference.{TransactionLocator, locator}
use Rattle.types.specs.Values.{be_bytes, digest_bytes, as_reference, as_locator}
use Rattle.types.specs.declared.BlockDigest.{BlockDigest}
use Rattle.types.specs.declared.TransactionLocator as code
use Rattle.record_reference_bytes.specs.Step.{reference_at}
use Rattle.types.specs.Values.{as_maybe}
use Rattle.listing_lines.specs.Lines.{head_of}
use Rattle.listing_stretches.specs.Stretches.{last_of}
use Rattle.std.specs.Prelude.{Some}

pub head_word : (d : BlockDigest) → d.0 < 18446744073709551616 → d.0 / 4294967296 ≡ head_of (digest_bytes d)
unfolding head_of digest_bytes be_bytes le_bytes
head_word d h =
    let high : d.0 / 256 / 256 / 256 / 256 ≡ d.0 / 4294967296 = omega arith in
    let few : d.0 / 256 / 256 / 256 / 256 < 4294967296 = omega arith in
    sym high ∙ sym (le_number_le_bytes 4 (d.0 / 256 / 256 / 256 / 256) few)

pub last_some : (b : Bytes) (n : ℕ) (after : Option TransactionLocator) (l : code.TransactionLocator) → (n ≡ 0 → ⊥) → as_reference l.block ≡ reference_at b
    (80 * (n - 1))
    → l.offset ≡ le_at 8 b (80 * (n - 1) + 56) - 1 → as_maybe (Some l) ≡ last_of b n after
unfolding as_maybe as_locator locator last_of
last_some b zero after l h e f = absurd (h refl)
last_some b (suc n) after l h e f =
    let less : suc n - 1 ≡ n = omega arith in
    let block : as_reference l.block ≡ reference_at b (80 * n) = e ∙ ap (λ (k : ℕ). reference_at b (80 * k)) less in
    let offset : l.offset ≡ le_at 8 b (80 * n + 56) - 1 = f ∙ ap (λ (k : ℕ). le_at 8 b (80 * k + 56) - 1) less in
    λ i. some (record { block = block i; offset = offset i })
