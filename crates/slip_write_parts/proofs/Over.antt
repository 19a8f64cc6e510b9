-- The slip of a table, written over the front of a slice. Assumes nothing.
use mathlib.Core.Path.{◌≡◌, refl, sym, ap, ◌∙◌}
use mathlib.Core.Bool.{false}
use mathlib.Core.List.{List, ◌++◌}
use mathlib.Core.Option.{Option, none, some}
use Prim.Native.Nat.{ℕ, ◌+◌, ◌≤◌, ◌<◌}
use native.Mathlib.Nat.{zero-add}
use native.Mathlib.Omega.{arith}
use lib.ListN.{length, drop, set, length-append}
use lib.Seq.{sets, sets-eq}
use Rattle.base.specs.Lists.{is_none}
use Rattle.base.specs.Le.{Bytes, le_bytes}
use Rattle.base.proofs.Le.{AllBytes, length_le_bytes, sets_append}
use Rattle.base.proofs.Tests.{not_both}
use Rattle.record_spec.specs.Reference.{TransactionLocator}
use Rattle.record_spec.specs.Record.{locator_bytes}
use Rattle.final_block_votes.specs.Walk.{SortedStore}
use Rattle.slip_write_distances.specs.Near.{word, Distances}
use Rattle.slip_write_routes.specs.Reached.{Reached}
use Rattle.slip_write_table.specs.Table.{place_in}
use Rattle.slip_write_certifiers.specs.Ready.{Ready, certifiers_bytes, certifiers_size}
use Rattle.slip_write_certifiers.proofs.Written.{certifiers_length}
use Rattle.slip_write_parts.specs.Listed.{Voted, head_bytes, listed_bytes}

-- ---- the head

pub head_written : (l : TransactionLocator) → length (locator_bytes l) ≡ 56 → (out : List ℕ) (first n : ℕ)
    → sets (sets (set out 0 first) 1 (locator_bytes l)) 57 (le_bytes 2 n) ≡ sets out 0 (head_bytes first l n)
unfolding head_bytes
head_written l h out first n =
    sym (sets_append (locator_bytes l) (le_bytes 2 n) (set out 0 first) 1 ∙ ap
    (λ (x : ℕ). sets (sets (set out 0 first) 1 (locator_bytes l)) (1 + x) (le_bytes 2 n)) h)

head_length : (l : TransactionLocator) → length (locator_bytes l) ≡ 56 → (first n : ℕ) → length (head_bytes first l n) ≡ 59
unfolding head_bytes
head_length l h first n = omega (arith, length-append (locator_bytes l) (le_bytes 2 n), length_le_bytes 2 n, h)

-- ---- the table

word_some : (o : Option ℕ) → is_none o ≡ false → 0 < word o
unfolding word is_none
word_some none h = absurd (not_both refl h)
word_some (some n) h = omega arith

module _ (s : Bytes) (order : List ℕ) (l : TransactionLocator) (near steps : List ℕ) (d : Distances s order l near steps (length order)) (t : List ℕ) (n : ℕ)
    (v : Voted s order l t n) where
  pub voted_ready : Ready order near t n
  unfolding Ready Voted Reached
  voted_ready i h = ((v i h).0, λ a w m. let e = word_some _ ((v i h).1 a w m) in omega (arith, d.known (place_in t i) (v i h).0 a w))

  module _ (o : SortedStore s order) (bytes : AllBytes s) (fits : length (locator_bytes l) ≡ 56) (first : ℕ) where
    -- 59 bytes and those of the certifying blocks
    pub listed_length : length (listed_bytes s order l first t n) ≡ 59 + certifiers_size near t n
    unfolding listed_bytes
    listed_length =
        omega (
          arith,
          length-append (head_bytes first l n) (certifiers_bytes s order l t n),
          head_length l fits first n,
          certifiers_length s order l near steps o bytes d t n voted_ready,
        )

    pub listed_written : (out : List ℕ) → length (listed_bytes s order l first t n) ≤ length out
        → sets (sets out 0 (head_bytes first l n)) 59 (certifiers_bytes s order l t n) ≡ listed_bytes s order l first t n ++ drop
        (length (listed_bytes s order l first t n)) out
    unfolding listed_bytes
    listed_written out h =
        let a = head_bytes first l n in
        let b = certifiers_bytes s order l t n in
        sym (sets_append a b out 0 ∙ ap (λ (x : ℕ). sets (sets out 0 a) (0 + x) b) (head_length l fits first n))
        ∙ sets-eq (a ++ b) out 0 (omega (arith, h))
        ∙ rw (zero-add (length (a ++ b)))
