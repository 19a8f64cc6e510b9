-- What is remembered of the blocks that were read, and the includes one after the other. Assumes nothing.
use mathlib.Core.Path.{◌≡◌, sym, subst, ◌∙◌}
use mathlib.Core.List.{List, map}
use Prim.Native.Nat.{ℕ, suc, ◌+◌, ◌*◌, ◌<◌, ◌≤◌}
use native.Mathlib.Omega.{arith}
use native.Mathlib.Numerals.{add-one}
use native.Mathlib.Decide.{ℕ_discrete}
use lib.Bits.{or_zero_l}
use lib.ListN.{length, get_or, set, drop, length-set, drop_of_length-le}
use lib.Seq.{drop-cons, get_or-set_same, get_or-set_other}
use Rattle.base.specs.Le.{Bytes}
use Rattle.committee_set.specs.AuthoritySet.{AuthoritySet, nobody, united}
use Rattle.committee_set.proofs.Words.{united_assoc, united_nobody}
use Rattle.record_spec.specs.Reference.{BlockReference, TransactionLocator}
use Rattle.record_spec.specs.Record.{no_reference}
use Rattle.final_spec.specs.Voters.{Speech, unions}
use Rattle.final_voters.specs.Walk.{spoken_at, remembered, noted, Remembers}

-- ---- three words

module _ (memo : List ℕ) (k : ℕ) (v : AuthoritySet) where
  noted_same : 3 * k + 2 < length memo → remembered (noted memo k v) k ≡ v
  unfolding noted remembered
  noted_same h =
      let one : List ℕ = set memo (3 * k) v.low in
      let two : List ℕ = set one (3 * k + 1) v.high in
      let n : length one ≡ length memo = simp length-set in
      let e =
      get_or-set_other two (3 * k + 2) (3 * k) 1 0 (λ (q : 3 * k ≡ 3 * k + 2). omega arith)
      ∙ get_or-set_other one (3 * k + 1) (3 * k) v.high 0 (λ (q : 3 * k ≡ 3 * k + 1). omega arith) ∙ get_or-set_same memo (3 * k) v.low 0 (omega arith) in
      let f =
      get_or-set_other two (3 * k + 2) (3 * k + 1) 1 0 (λ (q : 3 * k + 1 ≡ 3 * k + 2). omega arith)
      ∙ get_or-set_same one (3 * k + 1) v.high 0 (omega (arith, n)) in
      λ i. record { low = e i; high = f i }

  noted_other : (j n : ℕ) → n ≤ 2 → (j ≡ k → ⊥) → get_or (noted memo k v) (3 * j + n) 0 ≡ get_or memo (3 * j + n) 0
  unfolding noted
  noted_other j n l ne =
      get_or-set_other (set (set memo (3 * k) v.low) (3 * k + 1) v.high) (3 * k + 2) (3 * j + n) 1 0 (λ (q : 3 * j + n ≡ 3 * k + 2). ne (omega arith))
      ∙ get_or-set_other (set memo (3 * k) v.low) (3 * k + 1) (3 * j + n) v.high 0 (λ (q : 3 * j + n ≡ 3 * k + 1). ne (omega arith))
      ∙ get_or-set_other memo (3 * k) (3 * j + n) v.low 0 (λ (q : 3 * j + n ≡ 3 * k). ne (omega arith))

  others_remembered : (j : ℕ) → (j ≡ k → ⊥) → remembered (noted memo k v) j ≡ remembered memo j
  unfolding remembered
  others_remembered j ne =
      let z : 3 * j + 0 ≡ 3 * j = omega arith in
      let e : get_or (noted memo k v) (3 * j) 0 ≡ get_or memo (3 * j) 0 = subst (λ (x : ℕ). get_or (noted memo k v) x 0 ≡ get_or memo x 0) z
      (noted_other j 0 (omega arith) ne) in
      let f = noted_other j 1 (omega arith) ne in
      λ i. record { low = e i; high = f i }

-- ---- for every place

module _ (own : Speech) (s : Bytes) (order : List ℕ) (l : TransactionLocator) where
  -- what was just found is remembered with the rest
  pub remembers_more : (memo : List ℕ) (k : ℕ) (v : AuthoritySet) → 3 * k + 2 < length memo → v ≡ spoken_at own s order l k → Remembers own s order l memo →
      Remembers own s order l (noted memo k v)
  unfolding Remembers
  remembers_more memo k v h e r j m t = go (ℕ_discrete j k)
    where
      go : Dec (j ≡ k) → remembered (noted memo k v) j ≡ spoken_at own s order l j
      go (yes q) = rw q (noted_same memo k v h ∙ e)
      go (no q) = others_remembered memo k v j q ∙ r j m (sym (noted_other memo k v j 2 (omega arith) q) ∙ t)

-- ---- one include after the other

module _ (f : BlockReference → AuthoritySet) (is : List BlockReference) where
  pub unions_start : united nobody (unions (map f (drop 0 is))) ≡ unions (map f is)
  unfolding united
  unions_start =
      let u : AuthoritySet = unions (map f is) in
      let e = or_zero_l u.low in
      let g = or_zero_l u.high in
      λ i. record { low = e i; high = g i }

  pub unions_on : (j : ℕ) (votes : AuthoritySet) → j < length is → united votes (unions (map f (drop j is))) ≡ united
      (united votes (f (get_or is j no_reference))) (unions (map f (drop (j + 1) is)))
  unfolding unions
  unions_on j votes h = rw (drop-cons is j no_reference h, add-one j)
      (sym (united_assoc votes (f (get_or is j no_reference)) (unions (map f (drop (suc j) is)))))

  pub unions_end : (j : ℕ) (votes : AuthoritySet) → length is ≤ j → united votes (unions (map f (drop j is))) ≡ votes
  unfolding unions
  unions_end j votes h = rw (drop_of_length-le is h) (united_nobody votes)
