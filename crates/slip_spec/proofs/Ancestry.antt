-- The ancestry among the blocks that are given, computed and as a relation. Assumes nothing.
use mathlib.Core.Path.{◌≡◌, refl, sym, ◌∙◌, subst}
use mathlib.Core.Logic.{◌⊎◌, inl, inr}
use mathlib.Core.Bool.{Bool, true, false, not, ◌&&◌, ◌||◌}
use mathlib.Core.List.{List, ◌∷◌}
use mathlib.Core.Option.{Option, none, some, none-ne-some}
use Prim.Native.Nat.{ℕ, zero, suc, ◌≤◌, ◌<◌}
use native.Mathlib.Omega.{arith}
use lib.Dec.{eqb, leb}
use borrow.Author.Tests.{eq-eqb, eqb-true, leb-false, not-true}
use Rattle.base.specs.Lists.{any_of, all_of, pairwise, find, is_none, holds, ◌∈◌, here, there}
use Rattle.base.specs.Checks.{◌⇒◌, passes}
use Rattle.base.proofs.Tests.{and_both, and_left, and_right, or_cases, or_left, or_right, not_both, fails, same_test}
use Rattle.base.proofs.Lists.{holds_some}
use Rattle.base.proofs.Members.{any_in, in_any, all_in, in_left, in_flatten, in_map}
use Rattle.base.proofs.Checks.{passes_none}
use Rattle.committee.specs.Committee.{AuthorityIndex, Committee}
use Rattle.record_spec.specs.Reference.{BlockReference, TransactionLocator, same_reference}
use Rattle.record_spec.specs.Block.{Block, author, round}
use Rattle.record_spec.specs.Verify.{head_checks, include_checks, body_checks}
use Rattle.record_spec.proofs.References.{reference_refl}
use Rattle.final_spec.specs.Ancestry.{Ancestor, itself, included}
use Rattle.final_spec.proofs.Ancestors.{descendant_stored}
use Rattle.final_readings_spec.specs.Withdrawing.{Rejecter, WholeAncestry}
use Rattle.final_readings_spec.proofs.Rejecting.{is_rejected, rejected_is}
use Rattle.slip_spec.specs.Supplied.{right_blocks}
use Rattle.slip_spec.specs.Paths.{named}
use Rattle.slip_spec.specs.Ancestry.{passes_within, in_ancestry, lacks, rejects_as}
use Rattle.slip_spec.specs.Meaning.{AncestorMissing}
use Rattle.slip_spec.proofs.Paths.{named_reference, named_in}

-- blocks of which each is found by its reference, and includes have lower rounds
pub record Falling (bs : List Block) : Type 0 where
  pub found : (b : Block) → b ∈ bs → named bs b.reference ≡ some b
  pub lower : (b : Block) → b ∈ bs → (i : BlockReference) → i ∈ b.includes → i.round < round b

some_holds : (test : Block → Bool) (b : Block) (o : Option Block) → o ≡ some b → test b ≡ true → holds test o ≡ true
unfolding holds
some_holds test b o e t = rw e t

-- a passing block is an ancestor
within_ancestor : (test : Block → Bool) (bs : List Block) (n : ℕ) (b : Block) → b ∈ bs → passes_within test bs n b ≡ true
    → (d : Block) × Ancestor bs d b × (test d ≡ true)
unfolding passes_within
within_ancestor test bs zero b m h = (b, itself m, h)
within_ancestor test bs (suc n) b m h = go (or_cases (test b) _ h) (λ d k t. within_ancestor test bs n d k t)
  where
    go : (test b ≡ true) ⊎ (any_of (λ i. holds (passes_within test bs n) (named bs i)) b.includes ≡ true)
        → ((d : Block) → d ∈ bs → passes_within test bs n d ≡ true → (x : Block) × Ancestor bs x d × (test x ≡ true)) → (d : Block) × Ancestor bs d b ×
        (test d ≡ true)
    go (inl k) ih = (b, itself m, k)
    go (inr k) ih =
        let i = any_in (λ j. holds (passes_within test bs n) (named bs j)) b.includes k in
        let x = holds_some (passes_within test bs n) (named bs i.0) i.2 in
        let r = ih x.0 (named_in bs i.0 x.0 x.1) x.2 in
        (r.0, included m (subst (λ (q : BlockReference). q ∈ b.includes) (sym (named_reference bs i.0 x.0 x.1)) i.1) r.1, r.2)

module _ (test : Block → Bool) (bs : List Block) (f : Falling bs) where
  -- and a passing ancestor is found
  ancestor_within : (n : ℕ) {d b : Block} → Ancestor bs d b → test d ≡ true → round b ≤ n → passes_within test bs n b ≡ true
  unfolding passes_within
  ancestor_within zero (itself m) t l = t
  ancestor_within (suc n) (itself m) t l = or_left _ _ t
  ancestor_within zero (included {b = b} {i = i} m k a) t l = absurd (omega (arith, f.lower b m i.reference k, l))
  ancestor_within (suc n) (included {b = b} {i = i} m k a) t l =
      or_right (test b) _
      (in_any (λ j. holds (passes_within test bs n) (named bs j)) k
      (some_holds (passes_within test bs n) i (named bs i.reference) (f.found i (descendant_stored a))
      (ancestor_within n a t (omega (arith, f.lower b m i.reference k, l)))))

  pub ancestor_passes : {d b : Block} → Ancestor bs d b → test d ≡ true → in_ancestry test bs b ≡ true
  unfolding in_ancestry
  ancestor_passes {b = b} a t = ancestor_within (round b) a t (omega arith)

  pub passes_ancestor : (b : Block) → b ∈ bs → in_ancestry test bs b ≡ true → (d : Block) × Ancestor bs d b × (test d ≡ true)
  unfolding in_ancestry
  passes_ancestor b m h = within_ancestor test bs (round b) b m h

  -- the step: the block itself, or the ancestry of an include
  pub ancestry_step : (b : Block) → b ∈ bs → in_ancestry test bs b ≡ test b || any_of (λ i. holds (in_ancestry test bs) (named bs i)) b.includes
  ancestry_step b m = same_test _ _ (λ h. let r = passes_ancestor b m h in out r.1 r.2) (λ h. back (or_cases (test b) _ h))
    where
      out : {d : Block} → Ancestor bs d b → test d ≡ true → test b || any_of (λ i. holds (in_ancestry test bs) (named bs i)) b.includes ≡ true
      out (itself k) t = or_left _ _ t
      out (included {i = i} k j a) t =
          or_right (test b) _
          (in_any (λ x. holds (in_ancestry test bs) (named bs x)) j
          (some_holds (in_ancestry test bs) i (named bs i.reference) (f.found i (descendant_stored a)) (ancestor_passes a t)))

      back : (test b ≡ true) ⊎ (any_of (λ i. holds (in_ancestry test bs) (named bs i)) b.includes ≡ true) → in_ancestry test bs b ≡ true
      back (inl t) = ancestor_passes (itself m) t
      back (inr t) =
          let i = any_in (λ x. holds (in_ancestry test bs) (named bs x)) b.includes t in
          let x = holds_some (in_ancestry test bs) (named bs i.0) i.2 in
          let r = passes_ancestor x.0 (named_in bs i.0 x.0 x.1) x.2 in
          ancestor_passes (included m (subst (λ (q : BlockReference). q ∈ b.includes) (sym (named_reference bs i.0 x.0 x.1)) i.1) r.1) r.2

-- ---- what is missing, and who rejects

module _ (bs : List Block) (f : Falling bs) (b : Block) (m : b ∈ bs) where
  pub lacks_missing : in_ancestry (lacks bs) bs b ≡ true → AncestorMissing bs b
  unfolding lacks
  lacks_missing h =
      let r = passes_ancestor (lacks bs) bs f b m h in
      let i = any_in (λ j. is_none (named bs j)) r.0.includes r.2 in
      record { above = r.0; ancestor = r.1; include = i.0; among = i.1; absent = go i.0 (named bs i.0) refl i.2 }
    where
      go : (r : BlockReference) (o : Option Block) → named bs r ≡ o → is_none o ≡ true → named bs r ≡ none
      go r none e k = e
      go r (some d) e k = absurd (not_both k (unfold is_none in refl))

  pub missing_lacks : AncestorMissing bs b → in_ancestry (lacks bs) bs b ≡ true
  unfolding lacks is_none
  missing_lacks a = ancestor_passes (lacks bs) bs f a.ancestor (in_any (λ j. is_none (named bs j)) a.among (rw a.absent))

  pub whole_lacks : WholeAncestry bs b → in_ancestry (lacks bs) bs b ≡ false
  whole_lacks w =
      fails _ λ h.
      let a = lacks_missing h in
      let d = w a.above a.ancestor a.include a.among in
      none-ne-some d.0 (sym a.absent ∙ subst (λ (r : BlockReference). named bs r ≡ some d.0) d.2 (f.found d.0 d.1))

  pub lacks_whole : in_ancestry (lacks bs) bs b ≡ false → WholeAncestry bs b
  lacks_whole h x a i k = go (named bs i) refl
    where
      go : (o : Option Block) → named bs i ≡ o → (d : Block) × (d ∈ bs) × (d.reference ≡ i)
      go none e = absurd (not_both (missing_lacks (record { above = x; ancestor = a; include = i; among = k; absent = e })) h)
      go (some d) e = (d, named_in bs i d e, named_reference bs i d e)

  module _ (l : TransactionLocator) (a : AuthorityIndex) where
    pub rejecter_found : Rejecter bs b l a → in_ancestry (rejects_as l a) bs b ≡ true
    unfolding rejects_as
    rejecter_found r = ancestor_passes (rejects_as l a) bs f r.ancestor
        (and_both _ _ (eq-eqb (author r.rejecting) a r.authored) (rejected_is r.rejecting l r.rejects))

    pub found_rejecter : in_ancestry (rejects_as l a) bs b ≡ true → Rejecter bs b l a
    unfolding rejects_as
    found_rejecter h =
        let r = passes_ancestor (rejects_as l a) bs f b m h in
        record {
          rejecting = r.0;
          ancestor = r.1;
          rejects = is_rejected r.0 l (and_right (eqb (author r.0) a) _ r.2);
          authored = eqb-true (author r.0) a (and_left _ _ r.2);
        }

-- ---- blocks that are right by themselves

distinct_named : (bs : List Block) → pairwise (λ b d. not (same_reference b.reference d.reference)) bs ≡ true → (b : Block) → b ∈ bs → named bs
    b.reference ≡ some b
unfolding named find pairwise
distinct_named mathlib.Core.List.[] h b x'' = elim x'' [ ]
distinct_named (d ∷ ds) h b here = rw (reference_refl b.reference)
distinct_named (d ∷ ds) h b (there m) =
    rw (not-true (same_reference d.reference b.reference) (all_in (λ x. not (same_reference d.reference x.reference)) ds (and_left _ _ h) m))
    (distinct_named ds (and_right (all_of (λ x. not (same_reference d.reference x.reference)) ds) _ h) b m)

lower_include : (c : Committee) (b : Block) → passes (body_checks c b) ≡ true → (i : BlockReference) → i ∈ b.includes → i.round < round b
unfolding body_checks include_checks
lower_include c b h i m = leb-false (round b) i.round (passes_none (body_checks c b) h (leb (round b) i.round ⇒ 25)
    (in_left _ (in_flatten (there here) (in_map (include_checks c b) m))))

pub right_falling : (c : Committee) (bs : List Block) → right_blocks c bs ≡ true → Falling bs
unfolding right_blocks
right_falling c bs h =
    record {
      found = distinct_named bs (and_right (all_of (λ b. passes (head_checks c b) && passes (body_checks c b)) bs) _ h);
      lower = λ b m. lower_include c b (and_right (passes (head_checks c b)) _
          (all_in (λ b. passes (head_checks c b) && passes (body_checks c b)) bs (and_left _ _ h) m));
    }
