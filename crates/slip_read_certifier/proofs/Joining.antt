-- What a certifier shows, with the quorum of its voters. Assumes nothing.
use mathlib.Core.Path.{◌≡◌, refl, sym, ap, ◌∙◌}
use mathlib.Core.Bool.{Bool, true, false, not, ◌&&◌, ◌||◌, and_assoc}
use mathlib.Core.List.{List, map}
use mathlib.Core.Option.{Option, none, some}
use Prim.Native.Nat.{ℕ, ◌<◌}
use native.Mathlib.Omega.{arith}
use lib.ListN.{length}
use Rattle.base.specs.Lists.{pick, any_of, all_of, is_none, holds}
use Rattle.committee.specs.Committee.{AuthorityIndex, Committee, broken, is_quorum}
use Rattle.committee.proofs.Bounds.{few_members}
use Rattle.committee_set.specs.AuthoritySet.{AuthoritySet, set_of, stake_of}
use Rattle.committee_set.proofs.Votes.{member_set_of}
use Rattle.committee_set.proofs.Quorums.{stake_same}
use Rattle.record_spec.specs.Reference.{TransactionLocator}
use Rattle.record_spec.specs.Block.{Block}
use Rattle.final_readings_spec.specs.Readings.{Reading}
use Rattle.slip_spec.specs.Ancestry.{lacks_ancestor, has_rejected}
use Rattle.slip_spec.specs.Slip.{SlipVoter}
use Rattle.slip_spec.specs.Paths.{on_from, leads}
use Rattle.slip_spec.specs.Reading.{is_not_given, missing_from, ends_at_vote, certifier_holds}
use Rattle.slip_read_verdicts.specs.Verdict.{verdict, worse}
use Rattle.slip_read_verdicts.proofs.Verdicts.{worse_both}
use Rattle.slip_read_voters.specs.Step.{Speak, voters_verdict}
use Rattle.slip_read_certifier.specs.Verdict.{own_verdict, standing_verdict, certifier_verdict}

-- ---- the quorum of authors

pub quorum_same : (c : Committee) (v : AuthoritySet) (as' : List AuthorityIndex) → broken c ≡ false → Speak v as' → is_quorum c (stake_of c v) ≡ is_quorum c
    (stake_of c (set_of as'))
unfolding Speak
quorum_same c v as' b h = ap (is_quorum c) (stake_same c v (set_of as')
    (λ a (k : a < length c). h a (omega (arith, few_members c b)) ∙ sym (member_set_of as' a)))

-- ---- one test more

one_not_zero : ◌≡◌ {A = ℕ} 1 0 → ⊥
one_not_zero h = omega arith

two_not_zero : ◌≡◌ {A = ℕ} 2 0 → ⊥
two_not_zero h = omega arith

-- where something is found already, it decides
pub join_found : (m h q : Bool) → (verdict m h ≡ 0 → ⊥) → verdict m h ≡ verdict m (h && q)
unfolding verdict
join_found true h q f = refl
join_found false true q f = absurd (f refl)
join_found false false q f = refl

-- else the quorum does
pub join_quorum : (m h q : Bool) → verdict m h ≡ 0 → pick q 0 1 ≡ verdict m (h && q)
unfolding verdict
join_quorum true h q e = absurd (two_not_zero e)
join_quorum false true q e = refl
join_quorum false false q e = absurd (one_not_zero e)

-- ---- a certifier

module _ (reading : Reading) (c : Committee) (bs : List Block) (l : TransactionLocator) (vs : List SlipVoter) where
  abbrev lost : Option Block → SlipVoter → Bool
  lost o v = is_not_given (on_from (leads bs v.path) o)

  abbrev right : Option Block → SlipVoter → Bool
  right o v = ends_at_vote l v.author (on_from (leads bs v.path) o)

  abbrev keeps : Block → SlipVoter → Bool
  keeps b v = not (has_rejected reading bs l b v.author)

  abbrev quorum : Bool
  quorum = is_quorum c (stake_of c (set_of (map (λ v. v.author) vs)))

  abbrev unspoilt : Block → Bool
  unspoilt b = (not b.marked && all_of (right (some b)) vs) && all_of (keeps b) vs

  abbrev pub shown_of : Option Block → ℕ
  shown_of o = worse (worse (own_verdict o) (voters_verdict bs l o vs)) (standing_verdict reading bs l vs o)

  shown_some : (b : Block) → shown_of (some b) ≡ verdict (any_of (lost (some b)) vs || lacks_ancestor reading bs b) (unspoilt b)
  unfolding own_verdict voters_verdict standing_verdict is_none holds
  shown_some b =
      ap (λ (x : ℕ). worse x (standing_verdict reading bs l vs (some b)))
      (worse_both false (any_of (lost (some b)) vs) (not b.marked) (all_of (right (some b)) vs))
      ∙ worse_both (any_of (lost (some b)) vs) (lacks_ancestor reading bs b) (not b.marked && all_of (right (some b)) vs) (all_of (keeps b) vs)

  shown_none : shown_of none ≡ verdict true false
  unfolding own_verdict voters_verdict standing_verdict verdict is_none holds
  shown_none = ap (λ (x : ℕ). worse x 0) (worse_both true (any_of (lost none) vs) false (all_of (right none) vs)) ∙ worse_both true false false true

  whole_some : (b : Block) → certifier_verdict reading c bs l vs (some b) ≡ verdict (any_of (lost (some b)) vs || lacks_ancestor reading bs b)
      (unspoilt b && quorum)
  unfolding certifier_verdict missing_from certifier_holds holds on_from
  whole_some b =
      ap (verdict (any_of (lost (some b)) vs || lacks_ancestor reading bs b))
      (sym (and_assoc (not b.marked && all_of (right (some b)) vs) (all_of (keeps b) vs) quorum
      ∙ and_assoc (not b.marked) (all_of (right (some b)) vs) (all_of (keeps b) vs && quorum)))

  pub certifier_found : (o : Option Block) (v : ℕ) → v ≡ shown_of o → (v ≡ 0 → ⊥) → v ≡ certifier_verdict reading c bs l vs o
  unfolding certifier_verdict missing_from holds
  certifier_found none v e f = e ∙ shown_none
  certifier_found (some b) v e f =
      let shown = e ∙ shown_some b in
      shown ∙ join_found (any_of (lost (some b)) vs || lacks_ancestor reading bs b) (unspoilt b) quorum (λ z. f (shown ∙ z)) ∙ sym (whole_some b)

  pub certifier_quorum : (o : Option Block) (v : ℕ) (t : Bool) → v ≡ shown_of o → v ≡ 0 → t ≡ quorum → pick t 0 1 ≡ certifier_verdict reading c bs l vs o
  unfolding verdict
  certifier_quorum none v t e z q = absurd (two_not_zero (sym (e ∙ shown_none) ∙ z))
  certifier_quorum (some b) v t e z q =
      rw q (join_quorum (any_of (lost (some b)) vs || lacks_ancestor reading bs b) (unspoilt b) quorum (sym (e ∙ shown_some b) ∙ z) ∙ sym (whole_some b))
