-- A stretch read back from its bytes. Assumes nothing.
use mathlib.Core.Path.{◌≡◌, sym, ap, ◌∙◌}
use mathlib.Core.List.{◌++◌, append_assoc}
use mathlib.Core.Option.{some, some-injective}
use Prim.Native.Nat.{ℕ, ◌+◌, ◌^◌, ◌≤◌, ◌<◌}
use native.Mathlib.Omega.{arith}
use lib.ListN.{length, take, drop, length-append, length-drop}
use lib.Seq.{drop-drop, take_at, drop_at}
use Rattle.base.specs.Le.{Bytes, le_number, le_bytes, le_at}
use Rattle.base.specs.Read.{Part}
use Rattle.base.proofs.Read.{part}
use Rattle.base.proofs.Le.{length_le_bytes, le_number_le_bytes}
use Rattle.base.proofs.Fixed.{reads_at}
use Rattle.record_spec.specs.Reference.{TransactionLocator, TransactionLocatorRange, locator, new_range}
use Rattle.record_spec.specs.Record.{read_locator, locator_bytes}
use Rattle.record_spec.proofs.Records.{ReferenceFits, LocatorFits, locator_reads}
use Rattle.record_reference_bytes.specs.Step.{reference_at, locator_at}
use Rattle.record_reference_bytes.proofs.Fixed.{fixed_locator, locator_value}
use Rattle.list_stretches_spec.specs.Stretches.{FinalStretch}
use Rattle.list_stretches_spec.specs.Bulk.{stretch_bytes}
use Rattle.list_stretch_bytes.proofs.Stretch.{stretch_laid, locator_length}

-- the locators of the stretch whose 80 bytes stand at a position
unfoldable pub range_from : Bytes → ℕ → TransactionLocatorRange
range_from b p = new_range (reference_at b p) (le_at 8 b (p + 48)) (le_at 8 b (p + 56))

-- a locator is read where its bytes stand
locator_stands : (b : Bytes) (p : ℕ) (l : TransactionLocator) (x : Bytes) → LocatorFits l → p + 56 ≤ length b → drop p b ≡ locator_bytes l ++ x → locator_at b p
    ≡ l
locator_stands b p l x f h e =
    let read : some (part (fixed_locator.value (drop p b)) (drop (p + 56) b)) ≡ some (part l x) =
    sym (reads_at read_locator 56 fixed_locator b p h) ∙ ap read_locator e ∙ locator_reads l f x in
    sym (locator_value b p) ∙ ap (λ (y : Part TransactionLocator). y.value) (some-injective _ _ read)

module _ (b : Bytes) (p : ℕ) (t : FinalStretch) (rest : Bytes) (e : drop p b ≡ stretch_bytes t ++ rest) (h : ReferenceFits t.block)
    (first : t.first < 256 ^ 8) (end : t.end < 256 ^ 8) where
  l : TransactionLocator
  l = locator t.block t.first

  more : Bytes
  more = le_bytes 8 t.blocks ++ le_bytes 8 t.stake

  laid : drop p b ≡ locator_bytes l ++ ((le_bytes 8 t.end ++ more) ++ rest)
  unfolding l more
  laid =
      e
      ∙ ap (λ (x : Bytes). x ++ rest) (stretch_laid t h.bytes h.size)
      ∙ append_assoc (locator_bytes (locator t.block t.first)) (le_bytes 8 t.end ++ (le_bytes 8 t.blocks ++ le_bytes 8 t.stake)) rest

  long : length (locator_bytes l) ≡ 56
  unfolding l
  long = locator_length t h.size

  inside : p + 56 ≤ length b
  inside = omega (arith, ap length laid, length-append (locator_bytes l) ((le_bytes 8 t.end ++ more) ++ rest), long, length-drop p b)

  read_first : locator_at b p ≡ l
  unfolding l locator
  read_first = locator_stands b p l ((le_bytes 8 t.end ++ more) ++ rest) (record { block = h; offset = first }) inside laid

  read_end : le_at 8 b (p + 56) ≡ t.end
  unfolding le_at
  read_end =
      let after : drop (p + 56) b ≡ le_bytes 8 t.end ++ (more ++ rest) =
      sym (drop-drop 56 p b) ∙ ap (λ (x : Bytes). drop 56 x) laid ∙ drop_at (locator_bytes l) ((le_bytes 8 t.end ++ more) ++ rest) 56 long
      ∙ append_assoc (le_bytes 8 t.end) more rest in
      ap (λ (x : Bytes). le_number (take 8 x)) after ∙ ap le_number (take_at (le_bytes 8 t.end) (more ++ rest) 8 (length_le_bytes 8 t.end)) ∙
      le_number_le_bytes 8 t.end end

  pub range_back : range_from b p ≡ new_range t.block t.first t.end
  unfolding range_from locator_at locator new_range l
  range_back = λ i. record { block = (read_first i).block; start = (read_first i).offset; end = read_end i }
