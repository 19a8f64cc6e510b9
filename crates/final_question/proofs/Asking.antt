-- What the finality question answers in either reading, refusal by refusal. Assumes nothing.
use mathlib.Core.Path.{◌≡◌}
use mathlib.Core.Bool.{Bool, true, false}
use mathlib.Core.List.{List, ◌++◌}
use Prim.Native.Nat.{ℕ, ◌<◌, ◌≤◌}
use lib.ListN.{length, drop}
use borrow.Author.Tests.{lt-ltb, le-ltb}
use Rattle.base.specs.Lists.{all_of}
use Rattle.base.specs.Le.{Bytes}
use Rattle.base.specs.Checks.{refusal, passes, refused, answered, checked}
use Rattle.committee.specs.Committee.{Committee, broken}
use Rattle.record_spec.specs.Reference.{TransactionLocator}
use Rattle.store_spec.specs.Store.{records_of, store_in_order}
use Rattle.final_spec.specs.Finality.{blocks_of, finality_checks}
use Rattle.final_readings_spec.specs.Readings.{Reading, is_final_in}
use Rattle.final_readings_spec.specs.Finality.{certifying_positions_in, finality_in}

module _ (reading : Reading) (c : Committee) (s : Bytes) (ps : List ℕ) (l : TransactionLocator) where
  pub finality_broken : broken c ≡ true → record { answer = refused 5; positions = ps } ≡ finality_in reading c s ps l
  unfolding finality_in finality_checks checked passes refusal all_of
  finality_broken h = rw h

  module _ (b : broken c ≡ false) where
    pub finality_disordered : store_in_order c s ≡ false → record { answer = refused 10; positions = ps } ≡ finality_in reading c s ps l
    unfolding finality_in finality_checks checked passes refusal all_of
    finality_disordered h = rw (b, h)

    module _ (o : store_in_order c s ≡ true) where
      pub finality_short : length ps < length (records_of s) → record { answer = refused 40; positions = ps } ≡ finality_in reading c s ps l
      unfolding finality_in finality_checks checked passes refusal all_of
      finality_short h = rw (b, o, lt-ltb (length ps) (length (records_of s)) h)

      pub finality_asked : length (records_of s) ≤ length ps → (t : Bool) (n : ℕ) (qs : List ℕ) → t ≡ is_final_in reading c (blocks_of s) l → n ≡ length
          (certifying_positions_in reading c s l)
          → qs ≡ certifying_positions_in reading c s l ++ drop (length (certifying_positions_in reading c s l)) ps
          → record { answer = answered (record { final = t; certifying = n }); positions = qs } ≡ finality_in reading c s ps l
      unfolding finality_in finality_checks checked passes refusal all_of
      finality_asked h t n qs e f g = rw (b, o, le-ltb (length ps) (length (records_of s)) h, e, f, g)
