-- The bytes that a host lent for the stakes. Assumes nothing.
use mathlib.Core.Path.{◌≡◌, sym}
use mathlib.Core.List.{List, ◌++◌}
use Prim.Native.Nat.{ℕ, ◌*◌, ◌≤◌}
use native.Mathlib.Nat.{zero-add}
use native.Mathlib.Omega.{arith}
use lib.ListN.{length, take, drop, replicate}
use lib.Seq.{sets-eq}
use borrow.Author.Tests.{eq-eqb, ne_eqb}
use Rattle.base.specs.Checks.{answered, refused}
use Rattle.base.specs.Le.{Bytes}
use Rattle.words.specs.Words.{bytes_of}
use Rattle.words.proofs.Words.{length_bytes_of}
use Rattle.stakes_file.specs.Load.{load, loaded_into}
use Rattle.stakes_file.specs.Answers.{as_load, stakes_in, members_at_most}
use Rattle.stakes_file.proofs.Front.{loaded_front, members_fit}
use Rattle.host_stakes.specs.LoadStakes.{loaded_bytes}
use Rattle.std.specs.Prelude.{Err, Ok, Result}
use Rattle.base.specs.declared.refusal.Refusal.{Refusal}
use Rattle.base.specs.Refusals.{refusal_number}

module _ (c : List ℕ) (b : Bytes) where
  pub put_other : (length b ≡ 1024 → ⊥) → loaded_bytes (answered c) b ≡ record { answer = refused 40; stakes = b }
  unfolding loaded_bytes
  put_other h = rw (ne_eqb (length b) 1024 h)

  pub put_front : length b ≡ 1024 → length c ≤ 128 → loaded_bytes (answered c) b ≡ record
      { answer = answered (length c); stakes = bytes_of c ++ drop (8 * length c) b }
  unfolding loaded_bytes
  put_front h l = let n = length_bytes_of c in rw (eq-eqb (length b) 1024 h, sets-eq (bytes_of c) b 0 (omega arith), n, zero-add)

-- loading into 128 words of the call's own
module _ (f : Bytes) (out : List ℕ) (r : Result ℕ Refusal) (h : as_load r ≡ (loaded_into (load f) (replicate 128 0)).answer)
    (e : out ≡ (loaded_into (load f) (replicate 128 0)).stakes) where
  told : members_at_most 128 r × (stakes_in r out ≡ load f)
  told = loaded_front (replicate 128 0) out r (omega arith) f h e

  pub held_members : (n : ℕ) → r ≡ Ok n → (n ≤ 128) × (load f ≡ answered (take n out))
  unfolding stakes_in
  held_members n q = (members_fit 128 n r q told.0, sym (rw q at told.1))

  pub held_refused : (n : Refusal) → r ≡ Err n → load f ≡ refused (refusal_number n)
  unfolding stakes_in
  held_refused n q = sym (rw q at told.1)
