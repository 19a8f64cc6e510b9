-- Who rejects in an ancestry, include by include. Assumes nothing.
use mathlib.Core.Path.{◌≡◌, refl, sym, ap, ap₂, ◌∙◌}
use mathlib.Core.Bool.{Bool, false, ◌||◌, or_assoc, or-false}
use mathlib.Core.List.{List}
use Prim.Native.Nat.{ℕ, ◌+◌, ◌*◌, ◌≤◌, ◌<◌}
use native.Mathlib.Omega.{arith}
use native.Mathlib.Numerals.{add-one}
use native.Mathlib.Decide.{ℕ_discrete}
use lib.Dec.{eqb}
use lib.ListN.{length, get_or, get_elem?, set, drop, drop_of_length-le, length-set}
use lib.Seq.{drop-cons, get_or-set_same, get_or-set_other}
use borrow.Author.Tests.{eq-eqb, eqb-true}
use Rattle.base.specs.Lists.{any_of, holds}
use Rattle.base.specs.Le.{Bytes}
use Rattle.base.proofs.Tests.{and_both, and_left, and_right, same_test}
use Rattle.base.proofs.Places.{in_place}
use Rattle.committee_set.specs.AuthoritySet.{AuthoritySet, member, united}
use Rattle.committee_set.proofs.Votes.{member_nobody, member_united}
use Rattle.record_spec.specs.Reference.{BlockReference, TransactionLocator}
use Rattle.record_spec.specs.Block.{Block, author}
use Rattle.record_spec.specs.Record.{no_reference}
use Rattle.final_readings_spec.specs.Rejecting.{own_reject}
use Rattle.final_readings_spec.specs.Readings.{old, withdrawing}
use Rattle.final_readings_spec.proofs.Rejecting.{own_reject_lem, reject_own, is_rejected, rejected_is}
use Rattle.slip_spec.specs.Supplied.{supplied_blocks}
use Rattle.slip_spec.specs.Paths.{named, to_block, on_from, on_by}
use Rattle.slip_spec.specs.Ancestry.{in_ancestry, rejects_as, has_rejected}
use Rattle.slip_spec.proofs.Ancestry.{Falling, ancestry_step}
use Rattle.slip_read_records.specs.Places.{block_at_place, Places}
use Rattle.slip_read_paths.specs.declared.Led as code
use Rattle.slip_read_paths.specs.declared.Led.TheVariants.{To, Nowhere, NotGiven}
use Rattle.slip_read_paths.specs.Walk.{InPlace, LedTo}
use Rattle.slip_read_paths.proofs.Walks.{led_block, led_nowhere, led_missing, from_block, from_none, from_somewhere, step_at}
use Rattle.slip_read_ancestry.proofs.Places.{lower_place}
use Rattle.slip_read_rejecters.specs.Rejecting.{set_at, InTable, rejecters_at, Rejecting, RejectingIn}

-- ---- a list from an index on

module _ {A : Type 0} (p : A → Bool) (d : A) (xs : List A) (k : ℕ) where
  any_next : k < length xs → any_of p (drop k xs) ≡ p (get_or xs k d) || any_of p (drop (k + 1) xs)
  unfolding any_of
  any_next h = rw (add-one) (rw (drop-cons xs k d h))

  any_past : length xs ≤ k → any_of p (drop k xs) ≡ false
  unfolding any_of
  any_past h = rw (drop_of_length-le xs h)

-- ---- one block

-- its own reject, as a set and as a test
own_rejects : (b : Block) (l : TransactionLocator) (a : ℕ) → member (own_reject b l) a ≡ rejects_as l a b
unfolding rejects_as
own_rejects b l a =
    same_test _ _
    (λ h. let r = own_reject_lem b l a h in and_both _ _ (eq-eqb (author b) a r.1) (rejected_is b l r.0))
    (λ h. reject_own b l a (is_rejected b l (and_right (eqb (author b) a) _ h)) (eqb-true (author b) a (and_left _ _ h)))

-- an owner rejects in the ancestry of an include
abbrev pub rejects_below : Bytes → TransactionLocator → ℕ → BlockReference → Bool
rejects_below q l a i = holds (in_ancestry (rejects_as l a) (supplied_blocks q)) (named (supplied_blocks q) i)

-- k includes of the block at a place are joined to its own set
pub record Joined (q : Bytes) (order : List ℕ) (j : ℕ) (t : List ℕ) (own v : AuthoritySet) (k : ℕ) : Type 0 where
  pub same : (l : TransactionLocator) → Rejecting q order l j t → (a : ℕ) → a < 128
      → member v a || any_of (rejects_below q l a) (drop k (block_at_place q order j).includes) ≡ member own a || any_of (rejects_below q l a)
      (block_at_place q order j).includes

module _ (q : Bytes) (order : List ℕ) (p : Places q (supplied_blocks q) order) (f : Falling (supplied_blocks q)) where
  abbrev bs : List Block
  bs = supplied_blocks q

  module _ (t : List ℕ) (j : ℕ) (h : j < length order) (l : TransactionLocator) (a : ℕ) where
    abbrev its : List BlockReference
    its = (block_at_place q order j).includes

    abbrev below : BlockReference → Bool
    below i = rejects_below q l a i

    module _ (n : Rejecting q order l j t) (small : a < 128) (k : ℕ) (m : k < length its) where
      noted_rejects : (r : code.Led) → LedTo q order r (on_by bs to_block (get_elem? its k)) → member (rejecters_at t r) a ≡ below (get_or its k no_reference)
      unfolding rejecters_at holds
      noted_rejects r d = go r refl
        where
          led : LedTo q order r (on_from to_block (named bs (get_or its k no_reference)))
          led = rw (step_at bs (block_at_place q order j) k m) at d

          go : (c : code.Led) → r ≡ c → member (rejecters_at t c) a ≡ below (get_or its k no_reference)
          go (To i) e =
              let x = led_block q order r _ i e led in
              let y = from_block (named bs (get_or its k no_reference)) (block_at_place q order i) x.1 in
              rw y (n.at i (lower_place q order p f j i h x.0 (get_or its k no_reference) (in_place no_reference its k m) y) a small)
          go Nowhere e = absurd (from_somewhere (named bs (get_or its k no_reference)) (led_nowhere q order r _ e led))
          go NotGiven e = rw (from_none (named bs (get_or its k no_reference)) (led_missing q order r _ e led)) (member_nobody a)

      -- an include more
      rejects_on : (v w : AuthoritySet) (r : code.Led) → LedTo q order r (on_by bs to_block (get_elem? its k)) → w ≡ united v (rejecters_at t r)
          → member w a || any_of below (drop (k + 1) its) ≡ member v a || any_of below (drop k its)
      rejects_on v w r d e =
          ap (λ (x : AuthoritySet). member x a || any_of below (drop (k + 1) its)) e
          ∙ ap (λ (x : Bool). x || any_of below (drop (k + 1) its)) (member_united v (rejecters_at t r) a ∙ ap (λ (x : Bool). member v a || x)
          (noted_rejects r d))
          ∙ or_assoc (member v a) (below (get_or its k no_reference)) (any_of below (drop (k + 1) its))
          ∙ ap (λ (x : Bool). member v a || x) (sym (any_next below no_reference its k m))

    -- all of them
    rejects_all : (v : AuthoritySet) (k : ℕ) → length its ≤ k → member v a || any_of below (drop k its) ≡ member (own_reject (block_at_place q order j) l) a ||
        any_of below its
        → member v a ≡ in_ancestry (rejects_as l a) bs (block_at_place q order j)
    rejects_all v k m e =
        sym (ap (λ (x : Bool). member v a || x) (any_past below no_reference its k m) ∙ or-false (member v a))
        ∙ e ∙ ap (λ (x : Bool). x || any_of below its) (own_rejects (block_at_place q order j) l a)
        ∙ sym (ancestry_step (rejects_as l a) bs f (block_at_place q order j) (p.only j h))

  module _ (t : List ℕ) (j : ℕ) (h : j < length order) (own v : AuthoritySet) (k : ℕ) (o : Joined q order j t own v k) where
    pub joined_more : (w : AuthoritySet) (r : code.Led) → k < length (block_at_place q order j).includes → LedTo q order r
        (on_by bs to_block (get_elem? (block_at_place q order j).includes k)) → w ≡ united v (rejecters_at t r)
        → Joined q order j t own w (k + 1)
    joined_more w r m d e = record { same = λ l n a s. rejects_on t j h l a n s k m v w r d e ∙ o.same l n a s }

    pub joined_all : (l : TransactionLocator) → own ≡ own_reject (block_at_place q order j) l → length (block_at_place q order j).includes ≤ k
        → Rejecting q order
        l j t
        → (a : ℕ) → a < 128 → member v a ≡ in_ancestry (rejects_as l a) bs (block_at_place q order j)
    joined_all l e m n a s =
        rejects_all t j h l a v k m (o.same l n a s ∙ ap (λ (x : AuthoritySet). member x a || any_of (rejects_below q l a) (block_at_place q order j).includes)
        e)

  pub joined_none : (t : List ℕ) (j : ℕ) (own : AuthoritySet) → Joined q order j t own own 0
  joined_none t j own = record { same = λ l n a s. refl }

  -- ---- noted place by place

  pub rejecting_none : (l : TransactionLocator) (t : List ℕ) → Rejecting q order l 0 t
  rejecting_none l t = record { at = λ j h a s. absurd (omega arith) }

  pub rejecting_more : (l : TransactionLocator) (t : List ℕ) (n : ℕ) (v : AuthoritySet) → Rejecting q order l n t → 2 * n + 1 < length t
      → ((a : ℕ) → a < 128 → member v a ≡ in_ancestry (rejects_as l a) bs (block_at_place q order n))
      → Rejecting q order l (n + 1) (set (set t (2 * n) v.low) (2 * n + 1) v.high)
  unfolding set_at
  rejecting_more l t n v k h e = record { at = λ j m a s. go j m a s (ℕ_discrete j n) }
    where
      u : List ℕ
      u = set (set t (2 * n) v.low) (2 * n + 1) v.high

      own : set_at u n ≡ v
      own =
          let low : get_or u (2 * n) 0 ≡ v.low = get_or-set_other (set t (2 * n) v.low) (2 * n + 1) (2 * n) v.high 0 (λ d. omega arith) ∙ get_or-set_same t
          (2 * n) v.low 0 (omega arith) in
          let high : get_or u (2 * n + 1) 0 ≡ v.high = get_or-set_same (set t (2 * n) v.low) (2 * n + 1) v.high 0 (simp length-set h) in
          ap₂ {C = AuthoritySet} (λ x y. record { low = x; high = y }) low high

      other : (j : ℕ) → (j ≡ n → ⊥) → set_at u j ≡ set_at t j
      other j d =
          let low : get_or u (2 * j) 0 ≡ get_or t (2 * j) 0 = get_or-set_other (set t (2 * n) v.low) (2 * n + 1) (2 * j) v.high 0 (λ g. omega arith) ∙
          get_or-set_other t (2 * n) (2 * j) v.low 0 (λ g. d (omega arith)) in
          let high : get_or u (2 * j + 1) 0 ≡ get_or t (2 * j + 1) 0 = get_or-set_other (set t (2 * n) v.low) (2 * n + 1) (2 * j + 1) v.high 0
          (λ g. d (omega arith)) ∙ get_or-set_other t (2 * n) (2 * j + 1) v.low 0 (λ g. omega arith) in
          ap₂ {C = AuthoritySet} (λ x y. record { low = x; high = y }) low high

      go : (j : ℕ) → j < n + 1 → (a : ℕ) → a < 128 → Dec (j ≡ n) → member (set_at u j) a ≡ in_ancestry (rejects_as l a) bs (block_at_place q order j)
      go j m a s (yes d) = rw d (ap (λ (x : AuthoritySet). member x a) own ∙ e a s)
      go j m a s (no d) = ap (λ (x : AuthoritySet). member x a) (other j d) ∙ k.at j (omega arith) a s

  pub rejecting_all : (l : TransactionLocator) (t : List ℕ) → Rejecting q order l (length order) t → RejectingIn withdrawing q order l t
  unfolding has_rejected
  rejecting_all l t n = record { at = n.at }

-- where nobody withdraws nobody is noted
pub rejecting_old : (q : Bytes) (order : List ℕ) (l : TransactionLocator) (t : List ℕ) → ((j : ℕ) → get_or t j 0 ≡ 0) → RejectingIn old q order l t
unfolding has_rejected set_at
rejecting_old q order l t f = record {
  at = λ j h a s. ap₂ {C = Bool} (λ x y. member (record { low = x; high = y }) a) (f (2 * j)) (f (2 * j + 1)) ∙
      member_nobody a;
}

-- an include's words stand in a table of two words a place
pub in_table : (order t : List ℕ) (r : code.Led) → 2 * length order ≤ length t → InPlace order r → InTable t r
unfolding InPlace InTable
in_table order t (To j) h k = omega (arith, h, k)
in_table order t Nowhere h k = tt
in_table order t NotGiven h k = tt
