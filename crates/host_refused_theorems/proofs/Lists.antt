-- Refused questions about the lists keep each byte. Assumes nothing.
use mathlib.Core.Path.{◌≡◌, refl}
use mathlib.Core.Bool.{Bool, true, false}
use mathlib.Core.List.{List}
use mathlib.Core.Option.{Option, none, some}
use Prim.Native.Nat.{ℕ}
use native.Mathlib.Omega.{arith}
use lib.Dec.{eqb}
use lib.ListN.{length}
use Rattle.base.specs.Lists.{pick}
use Rattle.base.specs.Le.{Bytes}
use Rattle.base.specs.Checks.{Check, refusal, passes, Answer, refused, answered, checked}
use Rattle.committee.specs.Committee.{Committee}
use Rattle.record_spec.specs.Reference.{TransactionLocator}
use Rattle.final_spec.specs.Finality.{blocks_of}
use Rattle.final_spec.specs.NextFinal.{next_final_checks}
use Rattle.list_stretches_spec.specs.Stretches.{Listing, stretches}
use Rattle.list_stretches_spec.specs.Bulk.{stretch_room, Given, given_after, bytes_after, list_next, list_stretches}
use Rattle.index_list_spec.specs.Indexed.{indexed_checks, list_stretches_indexed}
use Rattle.host_locators.specs.Locators.{refusal_before}
use Rattle.host_final_answers.specs.Answers.{NextFinalCall, found_in, whole_stretches, stretches_number}
use Rattle.host_finals.specs.NextFinal.{asked_next_final}
use Rattle.host_finals.specs.Stretches.{StretchesCall, stretches_in, asked_stretches}
use Rattle.host_index_finals.specs.Indexed.{refusal_indexed, stretches_indexed_in, asked_stretches_indexed}

module _ (c : Committee) (s : Bytes) (k : Listing) (out : Bytes) (n : ℕ) where
  found_kept : (a : Answer (Option TransactionLocator)) → (found_in out a).answer ≡ refused n → (found_in out a).found ≡ out
  unfolding found_in
  found_kept (answered (some l)) e = let z : ◌≡◌ {A = ℕ} 0 1 = cc in absurd (omega arith)
  found_kept (answered none) e = refl
  found_kept (refused m) e = refl

  pub next_kept : (o : Option (Option TransactionLocator)) → (asked_next_final c s k o out).answer ≡ refused n → (asked_next_final c s k o out).found ≡ out
  unfolding asked_next_final
  next_kept none e = refl
  next_kept (some after) e = go (eqb (length out) 56) e
    where
      call : Bool → NextFinalCall
      call t = pick t (found_in out (list_next c s k after)) (record { answer = refused (refusal_before 40 c s); found = out })

      go : (t : Bool) → (call t).answer ≡ refused n → (call t).found ≡ out
      go true e = found_kept (list_next c s k after) e
      go false e = refl

  -- checks that refuse leave the bytes
  bulk_kept : (ks : List Check) (g : Given) (given : Bytes) → stretches_number (checked ks g) ≡ refused n → pick (passes ks) given out ≡ out
  unfolding stretches_number checked
  bulk_kept ks g given e = go (passes ks) e
    where
      go : (t : Bool) → stretches_number (pick t (answered g) (refused (refusal ks))) ≡ refused n → pick t given out ≡ out
      go true e = let z : ◌≡◌ {A = ℕ} 0 1 = cc in absurd (omega arith)
      go false e = refl

  pub stretches_kept : (o : Option (Option TransactionLocator)) → (asked_stretches c s k o out).answer ≡ refused n → (asked_stretches c s k o out).stretches
      ≡ out
  unfolding asked_stretches stretches_in list_stretches
  stretches_kept none e = refl
  stretches_kept (some after) e = go (whole_stretches out) e
    where
      call : Bool → StretchesCall
      call t = pick t (stretches_in c s k after out) (record { answer = refused (refusal_before 40 c s); stretches = out })

      go : (t : Bool) → (call t).answer ≡ refused n → (call t).stretches ≡ out
      go true e =
          let ts = stretches c (blocks_of s) k (stretch_room out) after in
          bulk_kept (next_final_checks c s) (given_after k after ts) (bytes_after ts out) e
      go false e = refl

  pub indexed_kept : (ix : List ℕ) (o : Option (Option TransactionLocator)) → (asked_stretches_indexed c s ix k o out).answer ≡ refused n
      → (asked_stretches_indexed c s ix k o out).stretches ≡ out
  unfolding asked_stretches_indexed stretches_indexed_in list_stretches_indexed
  indexed_kept ix none e = refl
  indexed_kept ix (some after) e = go (whole_stretches out) e
    where
      call : Bool → StretchesCall
      call t = pick t (stretches_indexed_in c s ix k after out) (record { answer = refused (refusal_indexed 40 c s ix); stretches = out })

      go : (t : Bool) → (call t).answer ≡ refused n → (call t).stretches ≡ out
      go true e =
          let ts = stretches c (blocks_of s) k (stretch_room out) after in
          bulk_kept (indexed_checks c s ix) (given_after k after ts) (bytes_after ts out) e
      go false e = refl
