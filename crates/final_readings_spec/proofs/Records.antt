-- What some blocks say of the voters of one of them is so in every store with them. Assumes nothing.
use mathlib.Core.Path.{◌≡◌, sym, subst}
use mathlib.Core.Logic.{◌↔◌}
use mathlib.Core.List.{List}
use Rattle.base.specs.Lists.{◌∈◌}
use Rattle.committee.specs.Committee.{AuthorityIndex}
use Rattle.record_spec.specs.Reference.{BlockReference, TransactionLocator}
use Rattle.record_spec.specs.Block.{Block}
use Rattle.store_spec.proofs.Stored.{WellStored, one_reference}
use Rattle.final_spec.specs.Ancestry.{Ancestor, itself, included, Voter}
use Rattle.final_spec.proofs.Ancestors.{ancestor_grows, ancestor_stored, descendant_stored}
use Rattle.final_readings_spec.specs.Readings.{Reading, old, withdrawing}
use Rattle.final_readings_spec.specs.Withdrawing.{Rejecter, VoterIn, WholeAncestry}

-- a whole ancestry is the ancestry among all blocks with those in it, of which no two have one reference
pub whole_ancestor : {bs cs : List Block} → ((x y : Block) → x ∈ cs → y ∈ cs → x.reference ≡ y.reference → x ≡ y)
    → {d b : Block} → b ∈ bs → WholeAncestry bs b → ((x : Block) → Ancestor bs x b → x ∈ cs) → Ancestor cs d b → Ancestor bs d b
whole_ancestor one m f more (itself k) = itself m
whole_ancestor {bs} one {b = b} m f more (included {i = i} k j a) =
    let r = f b (itself m) i.reference j in
    let below : Ancestor bs r.0 b = included m (subst (λ (x : BlockReference). x ∈ b.includes) (sym r.2) j) (itself r.1) in
    let same_one : r.0 ≡ i = one r.0 i (more r.0 below) (descendant_stored a) r.2 in
    included m j (whole_ancestor one (subst (λ (x : Block). x ∈ bs) same_one r.1) (λ x y. f x (included m j y)) (λ x y. more x (included m j y)) a)

module _ {bs cs : List Block} (w : WellStored cs) (more : (x : Block) → x ∈ bs → x ∈ cs) (b : Block) (m : b ∈ bs) (l : TransactionLocator)
    (a : AuthorityIndex) where
  pub voter_more : Voter bs b l a → Voter cs b l a
  voter_more v = record { voting = v.voting; ancestor = ancestor_grows more v.ancestor; votes = v.votes; authored = v.authored }

  rejecter_more : Rejecter bs b l a → Rejecter cs b l a
  rejecter_more v = record { rejecting = v.rejecting; ancestor = ancestor_grows more v.ancestor; rejects = v.rejects; authored = v.authored }

  module _ (f : WholeAncestry bs b) where
    voter_back : Voter cs b l a → Voter bs b l a
    voter_back v = record {
      voting = v.voting;
      ancestor = whole_ancestor (λ x y. one_reference w) m f (λ x y. more x (ancestor_stored y)) v.ancestor;
      votes = v.votes;
      authored = v.authored;
    }

    rejecter_back : Rejecter cs b l a → Rejecter bs b l a
    rejecter_back v = record {
      rejecting = v.rejecting;
      ancestor = whole_ancestor (λ x y. one_reference w) m f (λ x y. more x (ancestor_stored y))
          v.ancestor;
      rejects = v.rejects;
      authored = v.authored;
    }

    pub voter_in_whole : (reading : Reading) → VoterIn reading bs b l a ↔ VoterIn reading cs b l a
    voter_in_whole old = (voter_more, voter_back)
    voter_in_whole withdrawing = (λ v. (voter_more v.0, λ r. v.1 (rejecter_back r)), λ v. (voter_back v.0, λ r. v.1 (rejecter_more r)))
