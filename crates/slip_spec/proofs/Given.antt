-- A slip that holds over some blocks holds over all others that have what it names. Assumes nothing.
use mathlib.Core.Path.{◌≡◌, refl, sym, ap, ◌∙◌, subst}
use mathlib.Core.List.{List, [], ◌∷◌}
use mathlib.Core.Option.{some, some-injective}
use Prim.Native.Nat.{ℕ}
use Rattle.base.specs.Lists.{◌∈◌}
use Rattle.committee.specs.Committee.{Committee}
use Rattle.record_spec.specs.Reference.{BlockReference, TransactionLocator}
use Rattle.record_spec.specs.Block.{Block}
use Rattle.final_spec.specs.Ancestry.{Ancestor, itself, included}
use Rattle.final_readings_spec.specs.Readings.{Reading, old, withdrawing}
use Rattle.final_readings_spec.proofs.Records.{whole_ancestor}
use Rattle.slip_spec.specs.Slip.{SlipVoter, SlipCertifier, Slip}
use Rattle.slip_spec.specs.Paths.{named, to_block, leads}
use Rattle.slip_spec.specs.Meaning.{OnPath, start, later, StandingIn, RightCertifier, RightSlip, NamedBy, as_certifier, by_path, in_ancestry}
use Rattle.slip_spec.proofs.Paths.{named_reference, named_in, first_step, step_leads}

-- an include of an ancestor is one
further_up : {bs : List Block} {x d b : Block} → d ∈ bs → d.reference ∈ x.includes → Ancestor bs x b → Ancestor bs d b
further_up m k (itself n) = included n k (itself m)
further_up m k (included n j a) = included n j (further_up m k a)

module _ (bs cs : List Block) (found : (b : Block) → b ∈ cs → named cs b.reference ≡ some b) where
  only_one : (b d : Block) → b ∈ cs → d ∈ cs → b.reference ≡ d.reference → b ≡ d
  only_one b d m k e = some-injective _ _ (sym (found b m) ∙ ap (named cs) e ∙ found d k)

  named_there : (r : BlockReference) (b : Block) → named bs r ≡ some b → b ∈ cs → named cs r ≡ some b
  named_there r b h m = subst (λ (x : BlockReference). named cs x ≡ some b) (named_reference bs r b h) (found b m)

  -- a path leads where it led
  leads_there : (ps : List ℕ) (b d : Block) → leads bs ps b ≡ to_block d → ((x : Block) → OnPath bs x ps b → x ∈ cs)
      → leads cs ps b ≡ to_block d
  unfolding leads
  leads_there [] b d h f = h
  leads_there (p ∷ ps) b d h f =
      let s = first_step bs p ps b d h in
      step_leads cs p ps b d
      (record {
        include = s.include;
        next = s.next;
        at = s.at;
        given = named_there s.include s.next s.given (f s.next (later s.at s.given start));
        onward = leads_there ps s.next d s.onward (λ x y. f x (later s.at s.given y));
      })

  -- a whole ancestry stays the one that it was, and who does not reject there does not
  standing_there : (reading : Reading) (l : TransactionLocator) (vs : List SlipVoter) (b : Block) → b ∈ bs
      → (reading ≡ withdrawing → (x : Block) → Ancestor bs x b → x ∈ cs) → StandingIn reading bs l vs b → StandingIn reading cs l vs b
  standing_there old l vs b m f h = tt
  standing_there withdrawing l vs b m f h =
      record {
        whole = λ x a i k.
            let d = h.whole x (back a) i k in
            (d.0, f refl d.0 (further_up d.1 (subst (λ (r : BlockReference). r ∈ x.includes) (sym d.2) k) (back a)), d.2);
        kept = λ v n r. h.kept v n (record { rejecting = r.rejecting; ancestor = back r.ancestor; rejects = r.rejects; authored = r.authored });
      }
    where
      back : {d : Block} → Ancestor cs d b → Ancestor bs d b
      back a = whole_ancestor only_one m h.whole (f refl) a

  module _ (c : Committee) (s : Slip) (right : RightSlip c bs s) (f : (d : Block) → NamedBy bs s d → d ∈ cs) where
    certifier_there : (k : SlipCertifier) → k ∈ s.certifiers → RightCertifier s.reading c cs s.locator k
    certifier_there k m =
        let r = right.certifiers k m in
        record {
          block = r.block;
          given = named_there k.reference r.block r.given (f r.block (as_certifier k m r.given));
          unmarked = r.unmarked;
          ends = λ v n.
              let e = r.ends v n in
              record {
                vote = e.vote;
                leading = leads_there v.path r.block e.vote e.leading (λ d y. f d (by_path k v r.block m n r.given y));
                voting = e.voting;
              };
          standing =
              standing_there s.reading s.locator k.voters r.block (named_in bs k.reference r.block r.given)
              (λ e d y. f d (in_ancestry e k r.block m r.given y)) r.standing;
          quorum = r.quorum;
        }

    pub slip_there : RightSlip c cs s
    slip_there = record { certifiers = certifier_there; quorum = right.quorum }
