-- What is missing, computed and as a relation. Assumes nothing.
use mathlib.Core.Path.{◌≡◌, refl, sym, ap, ◌∙◌}
use mathlib.Core.Logic.{◌↔◌, ◌⊎◌, inl, inr}
use mathlib.Core.Bool.{Bool, true}
use mathlib.Core.List.{List, [], ◌∷◌}
use mathlib.Core.Option.{Option, none, some}
use Prim.Native.Nat.{ℕ}
use lib.ListN.{get_elem?}
use Rattle.base.specs.Lists.{any_of, ◌∈◌}
use Rattle.base.proofs.Tests.{not_both, or_cases, or_left, or_right}
use Rattle.base.proofs.Members.{any_in, in_any}
use Rattle.record_spec.specs.Reference.{BlockReference}
use Rattle.record_spec.specs.Block.{Block}
use Rattle.final_readings_spec.specs.Readings.{Reading, old, withdrawing}
use Rattle.slip_spec.specs.Slip.{SlipVoter, SlipCertifier, Slip}
use Rattle.slip_spec.specs.Paths.{named, leads}
use Rattle.slip_spec.specs.Ancestry.{lacks_ancestor}
use Rattle.slip_spec.specs.Reading.{is_not_given, missing_from, missing}
use Rattle.slip_spec.specs.Meaning.{PathMissing, next, further, NotSupplied, no_certifier, not_on_path, not_in_ancestry}
use Rattle.slip_spec.proofs.Paths.{named_in, leads_on, leads_nowhere, leads_not_given}
use Rattle.slip_spec.proofs.Ancestry.{Falling, lacks_missing, missing_lacks}

module _ (bs : List Block) where
  path_missing : (ps : List ℕ) (b : Block) → is_not_given (leads bs ps b) ≡ true → PathMissing bs ps b
  path_missing [] b h = absurd (not_both h (unfold leads is_not_given in refl))
  path_missing (p ∷ ps) b h = by (get_elem? b.includes p) refl (λ i k. path_missing ps i k)
    where
      from : (r : BlockReference) (o : Option Block) → get_elem? b.includes p ≡ some r → named bs r ≡ o
          → ((i : Block) → is_not_given (leads bs ps i) ≡ true → PathMissing bs ps i) → PathMissing bs (p ∷ ps) b
      from r none e f ih = next e f
      from r (some i) e f ih = further e f (ih i (ap is_not_given (sym (leads_on bs p ps b i r e f)) ∙ h))

      by : (o : Option BlockReference) → get_elem? b.includes p ≡ o
          → ((i : Block) → is_not_given (leads bs ps i) ≡ true → PathMissing bs ps i) → PathMissing bs (p ∷ ps) b
      by none e ih = absurd (not_both h (ap is_not_given (leads_nowhere bs p ps b e) ∙ unfold is_not_given in refl))
      by (some r) e ih = from r (named bs r) e refl ih

  missing_path : (ps : List ℕ) (b : Block) → PathMissing bs ps b → is_not_given (leads bs ps b) ≡ true
  missing_path ps b (next {p = p} {ps = qs} {r = r} e f) = ap is_not_given (leads_not_given bs p qs b r e f) ∙ unfold is_not_given in refl
  missing_path ps b (further {p = p} {ps = qs} {i = i} {r = r} e f m) = ap is_not_given (leads_on bs p qs b i r e f) ∙ missing_path qs i m

  module _ (s : Slip) (f : s.reading ≡ withdrawing → Falling bs) where
    abbrev any_lost : SlipCertifier → Bool
    any_lost k = missing_from s.reading bs k.voters (named bs k.reference)

    named_missing : missing bs s ≡ true → NotSupplied bs s
    unfolding missing
    named_missing h =
        let k = any_in any_lost s.certifiers h in
        from k.0 k.1 (named bs k.0.reference) refl k.2
      where
        above : (reading : Reading) → s.reading ≡ reading → (k : SlipCertifier) → k ∈ s.certifiers → (b : Block) → named bs k.reference ≡ some b →
            lacks_ancestor reading bs b ≡ true → NotSupplied bs s
        above old r k m b e t = absurd (not_both t (unfold lacks_ancestor in refl))
        above withdrawing r k m b e t = not_in_ancestry r k b m e (lacks_missing bs (f r) b (named_in bs k.reference b e) (unfold lacks_ancestor in t))

        either : (k : SlipCertifier) → k ∈ s.certifiers → (b : Block) → named bs k.reference ≡ some b
            → (any_of (λ (x : SlipVoter). is_not_given (leads bs x.path b)) k.voters ≡ true) ⊎ (lacks_ancestor s.reading bs b ≡ true) → NotSupplied bs s
        either k m b e (inl t) =
            let v = any_in (λ (x : SlipVoter). is_not_given (leads bs x.path b)) k.voters t in
            not_on_path k v.0 b m v.1 e (path_missing v.0.path b v.2)
        either k m b e (inr t) = above s.reading refl k m b e t

        from : (k : SlipCertifier) → k ∈ s.certifiers → (o : Option Block) → named bs k.reference ≡ o → missing_from s.reading bs k.voters o ≡ true →
            NotSupplied bs s
        from k m none e t = no_certifier k m e
        from k m (some b) e t = either k m b e (or_cases (any_of (λ (x : SlipVoter). is_not_given (leads bs x.path b)) k.voters) _ (unfold missing_from in t))

    missing_named : NotSupplied bs s → missing bs s ≡ true
    unfolding missing missing_from
    missing_named (no_certifier k m e) = in_any any_lost m (rw e)
    missing_named (not_on_path k v b m n e p) =
        in_any any_lost m
        (rw e (or_left _ _ (in_any (λ (x : SlipVoter). is_not_given (leads bs x.path b)) n (missing_path v.path b p))))
    missing_named (not_in_ancestry r k b m e a) =
        in_any any_lost m
        (rw (e, r) (or_right (any_of (λ (x : SlipVoter). is_not_given (leads bs x.path b)) k.voters) _
        (unfold lacks_ancestor in missing_lacks bs (f r) b (named_in bs k.reference b e) a)))

    pub missing_iff : (missing bs s ≡ true) ↔ NotSupplied bs s
    missing_iff = (named_missing, missing_named)
