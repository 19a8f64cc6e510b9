-- What writing a slip answers, refusal by refusal. Assumes nothing.
use mathlib.Core.Path.{◌≡◌, refl, sym, ap, ◌∙◌, subst}
use mathlib.Core.Bool.{Bool, true, false}
use mathlib.Core.List.{List, ◌++◌, map}
use Prim.Native.Nat.{ℕ, ◌≤◌, ◌<◌}
use native.Mathlib.Omega.{arith}
use lib.Dec.{ltb}
use lib.ListN.{length, get_or, take, drop, length-take}
use lib.Seq.{take_at, take-length}
use Rattle.base.specs.Lists.{all_of, ◌∈◌}
use Rattle.base.specs.Le.{Bytes}
use Rattle.base.specs.Checks.{refusal, passes, refused, checked}
use Rattle.base.proofs.Lists.{length_keep}
use Rattle.base.proofs.Members.{keep_in}
use Rattle.base.proofs.Places.{in_place}
use Rattle.committee.specs.Committee.{Committee, broken}
use Rattle.record_spec.specs.Reference.{TransactionLocator}
use Rattle.record_spec.specs.Block.{Block}
use Rattle.store_spec.specs.Store.{store_in_order}
use Rattle.store_spec.specs.Entry.{block_at}
use Rattle.final_spec.specs.Finality.{blocks_of}
use Rattle.final_readings_spec.specs.Readings.{Reading, certifies_in, is_final_in}
use Rattle.final_readings_spec.specs.Finality.{certifying_positions_in}
use Rattle.final_block_votes.specs.Walk.{Sorted, SortedStore}
use Rattle.final_certifying.proofs.Certifying.{certifying_all}
use Rattle.slip_spec.specs.Slip.{Slip, reading_byte, slip_bytes}
use Rattle.slip_spec.specs.Writing.{certifier_of, slip_for, write_checks, write_slip}
use Rattle.slip_spec.proofs.Coding.{certifiers_at}
use Rattle.slip_write_table.specs.Table.{Listed}
use Rattle.slip_write_parts.specs.Listed.{Voted, listed_bytes}
use Rattle.slip_write_bytes.specs.Listed.{slip_at, written_over}
use Rattle.slip_write_bytes.proofs.Same.{listed_voted, listed_same}

module _ (reading : Reading) (c : Committee) (s out : Bytes) (l : TransactionLocator) where
  pub slip_broken : broken c ≡ true → record { answer = refused 5; out = out } ≡ write_slip reading c s out l
  unfolding write_slip write_checks checked passes refusal all_of
  slip_broken h = rw h

  module _ (b : broken c ≡ false) where
    pub slip_disordered : store_in_order c s ≡ false → record { answer = refused 10; out = out } ≡ write_slip reading c s out l
    unfolding write_slip write_checks checked passes refusal all_of
    slip_disordered h = rw (b, h)

    module _ (o : store_in_order c s ≡ true) where
      pub slip_not_final : is_final_in reading c (blocks_of s) l ≡ false → record { answer = refused 52; out = out } ≡ write_slip reading c s out l
      unfolding write_slip write_checks checked passes refusal all_of
      slip_not_final h = rw (b, o, h)

      slip_over : is_final_in reading c (blocks_of s) l ≡ true → written_over (slip_bytes (slip_for reading c (blocks_of s) l)) out
          ≡ write_slip reading c s out l
      unfolding write_slip write_checks checked passes refusal all_of written_over
      slip_over h = go (ltb (length out) (length (slip_bytes (slip_for reading c (blocks_of s) l)))) refl
        where
          go : (t : Bool) → ltb (length out) (length (slip_bytes (slip_for reading c (blocks_of s) l))) ≡ t → written_over
              (slip_bytes (slip_for reading c (blocks_of s) l)) out ≡ write_slip reading c s out l
          go true e = rw (b, o, h, e)
          go false e = rw (b, o, h, e)

      slip_same : slip_at reading s l (certifying_positions_in reading c s l) ≡ slip_for reading c (blocks_of s) l
      unfolding slip_at slip_for
      slip_same = ap (λ (bs : List Block). record { reading = reading; locator = l; certifiers = map (certifier_of reading (blocks_of s) l) bs })
          (sym (certifiers_at reading c s l o))

      -- the slip is that of the certifying positions
      pub slip_final : is_final_in reading c (blocks_of s) l ≡ true
          → written_over (slip_bytes (slip_at reading s l (certifying_positions_in reading c s l))) out ≡
          write_slip reading c s out l
      slip_final h = ap (λ (x : Slip). written_over (slip_bytes x) out) slip_same ∙ slip_over h

-- ---- the certifying positions

module _ (reading : Reading) (c : Committee) (s : Bytes) (l : TransactionLocator) (order : List ℕ) (o : Sorted c s order) where
  abbrev certifies_at : ℕ → Bool
  certifies_at p = certifies_in reading c (blocks_of s) l (block_at s p)

  pub certifying_few : length (certifying_positions_in reading c s l) ≤ length order
  certifying_few = subst (λ (ps : List ℕ). length ps ≤ length order) (certifying_all reading c s l order o)
      (omega (arith, length_keep (certifies_at) (take (length order) order), length-take (length order) order))

  certifying_in : (p : ℕ) → p ∈ certifying_positions_in reading c s l → p ∈ order
  certifying_in p m =
      let k = keep_in (certifies_at) (take (length order) order) (subst (λ (ps : List ℕ). p ∈ ps) (sym (certifying_all reading c s l order o)) m) in
      subst (λ (ps : List ℕ). p ∈ ps) (take-length order) k.0

  pub certifying_place : (i : ℕ) → i < length (certifying_positions_in reading c s l) → get_or (certifying_positions_in reading c s l) i 0 ∈ order
  certifying_place i h = certifying_in _ (in_place 0 (certifying_positions_in reading c s l) i h)

-- the front of what was written over
pub front : (f q : List ℕ) (n : ℕ) → n ≡ length f → take n (f ++ drop (length f) q) ≡ f
front f q n e = take_at f (drop (length f) q) n (sym e)

-- ---- the table of the certifying blocks

module _ (reading : Reading) (s : Bytes) (order : List ℕ) (l : TransactionLocator) (ps t : List ℕ) (n : ℕ) (e : n ≡ length ps) where
  pub table_of : (qs : List ℕ) → qs ≡ ps → Listed reading s order l qs t (length qs) → Listed reading s order l ps t n
  table_of qs f w = rw e (subst (λ (xs : List ℕ). Listed reading s order l xs t (length xs)) f w)

  module _ (w : Listed reading s order l ps t n) where
    all_listed : Listed reading s order l ps t (length ps)
    all_listed = subst (Listed reading s order l ps t) e w

    pub table_voted : SortedStore s order → Voted s order l t n
    table_voted o = rw e (listed_voted reading s order l ps t all_listed o)

    pub table_bytes : listed_bytes s order l (reading_byte reading) t n ≡ slip_bytes (slip_at reading s l ps)
    table_bytes = rw e (listed_same reading s order l ps t all_listed)
