-- What certifiers show, with the quorum of authors. Assumes nothing.
use mathlib.Core.Path.{◌≡◌, refl, sym, ◌∙◌}
use mathlib.Core.Bool.{Bool, or-false, and-true}
use mathlib.Core.List.{List, [], ◌∷◌, ◌++◌, map}
use Prim.Native.Nat.{ℕ}
use Rattle.base.specs.Lists.{pick, any_of, all_of, holds}
use Rattle.base.proofs.Passing.{all_append}
use Rattle.committee.specs.Committee.{Committee, is_quorum}
use Rattle.committee_set.specs.AuthoritySet.{set_of, stake_of}
use Rattle.record_spec.specs.Reference.{TransactionLocator}
use Rattle.record_spec.specs.Block.{Block}
use Rattle.final_readings_spec.specs.Readings.{Reading}
use Rattle.slip_spec.specs.Slip.{SlipCertifier, Slip}
use Rattle.slip_spec.specs.Paths.{named}
use Rattle.slip_spec.specs.Reading.{missing_from, missing, certifier_holds, slip_holds}
use Rattle.slip_read_verdicts.specs.Verdict.{verdict, worse}
use Rattle.slip_read_verdicts.proofs.Verdicts.{worse_both}
use Rattle.base.proofs.Lists.{any_append}
use Rattle.slip_read_certifier.specs.Verdict.{certifier_verdict}
use Rattle.slip_read_certifier.proofs.Joining.{join_found, join_quorum}
use Rattle.slip_read_body.specs.Step.{certifiers_verdict}

-- ---- all certifiers

module _ (reading : Reading) (c : Committee) (bs : List Block) (l : TransactionLocator) where
  pub shows_none : 0 ≡ certifiers_verdict reading c bs l []
  unfolding certifiers_verdict verdict any_of all_of
  shows_none = refl

  pub shows_more : (ks : List SlipCertifier) (k : SlipCertifier)
      → certifiers_verdict reading c bs l (ks ++ k ∷ []) ≡ worse (certifiers_verdict reading c bs l ks)
      (certifier_verdict reading c bs l k.voters (named bs k.reference))
  unfolding certifiers_verdict certifier_verdict any_of all_of
  shows_more ks k =
      let gone : SlipCertifier → Bool = λ x. missing_from reading bs x.voters (named bs x.reference) in
      let held : SlipCertifier → Bool = λ x. holds (certifier_holds reading c bs l x.voters) (named bs x.reference) in
      rw (any_append gone ks (k ∷ []), all_append held ks (k ∷ []), or-false (gone k), and-true (held k))
      (sym (worse_both (any_of gone ks) (gone k) (all_of held ks) (held k)))

module _ (c : Committee) (bs : List Block) (s : Slip) (v : ℕ) (e : v ≡ certifiers_verdict s.reading c bs s.locator s.certifiers) where
  abbrev gone : Bool
  gone = missing bs s

  abbrev held : Bool
  held = all_of (λ k. holds (certifier_holds s.reading c bs s.locator k.voters) (named bs k.reference)) s.certifiers

  abbrev authors : Bool
  authors = is_quorum c (stake_of c (set_of (map (λ k. k.reference.authority) s.certifiers)))

  was : v ≡ verdict gone held
  unfolding certifiers_verdict missing
  was = e

  pub slip_found : (v ≡ 0 → ⊥) → v ≡ verdict (missing bs s) (slip_holds c bs s)
  unfolding slip_holds
  slip_found f = was ∙ join_found gone held authors (λ z. f (was ∙ z))

  pub slip_quorum : (t : Bool) → v ≡ 0 → t ≡ authors → pick t 0 1 ≡ verdict (missing bs s) (slip_holds c bs s)
  unfolding slip_holds
  slip_quorum t z q = rw q (join_quorum gone held authors (sym was ∙ z))
