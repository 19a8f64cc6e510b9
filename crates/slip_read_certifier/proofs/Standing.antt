-- What the ancestry of a certifier shows. Assumes nothing.
use mathlib.Core.Path.{◌≡◌, refl, sym, ap, subst, ◌∙◌}
use mathlib.Core.Bool.{Bool, true, false, not, ◌&&◌}
use mathlib.Core.List.{List, map}
use mathlib.Core.Option.{some}
use Prim.Native.Nat.{ℕ, ◌<◌}
use native.Mathlib.Omega.{arith}
use native.Mathlib.Decide.{dec_lt}
use lib.Dec.{eqb}
use lib.ListN.{length, get_or}
use borrow.Author.Tests.{eqb-true, eq-eqb}
use Rattle.base.specs.Lists.{pick, all_of, ◌∈◌}
use Rattle.base.specs.Le.{Bytes}
use Rattle.base.proofs.Tests.{and_left, and_right, fails, not_both}
use Rattle.base.proofs.Members.{any_in, in_any, all_in, in_all, in_map, map_in}
use Rattle.committee_set.specs.AuthoritySet.{AuthoritySet, member}
use Rattle.record_spec.specs.Reference.{TransactionLocator}
use Rattle.record_spec.specs.Block.{Block}
use Rattle.final_spec.proofs.Ancestors.{ancestor_stored}
use Rattle.final_readings_spec.specs.Readings.{Reading, old, withdrawing}
use Rattle.slip_spec.specs.Slip.{SlipVoter}
use Rattle.slip_spec.specs.Supplied.{supplied_blocks}
use Rattle.slip_spec.specs.Ancestry.{lacks_ancestor, has_rejected}
use Rattle.slip_spec.proofs.Ancestry.{found_rejecter}
use Rattle.slip_read_records.specs.Places.{block_at_place, Places}
use Rattle.slip_read_verdicts.specs.Verdict.{verdict}
use Rattle.slip_read_voters.specs.Step.{Speak}
use Rattle.slip_read_ancestry.specs.Lacking.{Right, LackingIn}
use Rattle.slip_read_ancestry.proofs.Places.{right_falls, right_small}
use Rattle.slip_read_rejecters.specs.Rejecting.{set_at, RejectingIn, Meeting}
use Rattle.slip_read_certifier.specs.Verdict.{standing_verdict}

-- nobody whom a set cannot hold has rejected
none_beyond : (reading : Reading) (q : Bytes) → Right q → (l : TransactionLocator) (b : Block) → b ∈ supplied_blocks q → (a : ℕ) → (a < 128 → ⊥) → has_rejected
    reading (supplied_blocks q) l b a ≡ false
unfolding has_rejected
none_beyond old q r l b m a f = refl
none_beyond withdrawing q r l b m a f =
    fails _ λ h.
    let x = found_rejecter (supplied_blocks q) (right_falls q r) b m l a h in
    f (subst (λ (n : ℕ). n < 128) x.authored (right_small q r x.rejecting (ancestor_stored x.ancestor)))

one_is : (x : Bool) (n : ℕ) → n ≡ pick x 1 0 → n ≡ 1 → x ≡ true
one_is true n e h = refl
one_is false n e h = absurd (omega (arith, e, h))

other_is : (x : Bool) (n : ℕ) → n ≡ pick x 1 0 → (n ≡ 1 → ⊥) → x ≡ false
other_is true n e h = absurd (h e)
other_is false n e h = refl

module _ (reading : Reading) (q : Bytes) (order : List ℕ) (l : TransactionLocator) (vs : List SlipVoter) (fit : Right q)
    (p : Places q (supplied_blocks q) order)
    (lacking rejecting : List ℕ) (n : LackingIn reading q order lacking) (k : RejectingIn reading q order l rejecting) (j : ℕ) (h : j < length order) where
  abbrev b : Block
  b = block_at_place q order j

  abbrev bs : List Block
  bs = supplied_blocks q

  pub stands_lost : get_or lacking j 0 ≡ 1 → 2 ≡ standing_verdict reading bs l vs (some b)
  unfolding standing_verdict verdict
  stands_lost e = rw (one_is (lacks_ancestor reading bs b) (get_or lacking j 0) (n.at j h) e)

  module _ (whole : get_or lacking j 0 ≡ 1 → ⊥) (v : AuthoritySet) (speak : Speak v (map (λ x. x.author) vs)) where
    abbrev keeps : SlipVoter → Bool
    keeps x = not (has_rejected reading bs l b x.author)

    pub stands_rejected : Meeting v (set_at rejecting j) true → 1 ≡ standing_verdict reading bs l vs (some b)
    unfolding standing_verdict verdict Meeting Speak
    stands_rejected m =
        let a = m.0 in
        let x = any_in (eqb a) (map (λ y. y.author) vs) (sym (speak a m.1.0) ∙ and_left _ _ m.1.1) in
        let y = map_in (λ (z : SlipVoter). z.author) vs x.1 in
        let own : y.0.author ≡ a = y.2 ∙ sym (eqb-true a x.0 x.2) in
        let t : has_rejected reading bs l b a ≡ true = sym (k.at j h a m.1.0) ∙ and_right (member v a) _ m.1.1 in
        let u : keeps y.0 ≡ false = ap (λ (z : ℕ). not (has_rejected reading bs l b z)) own ∙ ap not t in
        let f : all_of keeps vs ≡ false = fails _ (λ g. not_both (all_in keeps vs g y.1) u) in
        rw (other_is (lacks_ancestor reading bs b) (get_or lacking j 0) (n.at j h) whole, f)

    pub stands_kept : Meeting v (set_at rejecting j) false → 0 ≡ standing_verdict reading bs l vs (some b)
    unfolding standing_verdict verdict
    stands_kept m = rw (
      other_is (lacks_ancestor reading bs b) (get_or lacking j 0) (n.at j h) whole,
      in_all keeps vs
          (λ x i. ap not (one x i (dec_lt x.author 128))),
    )
      where
        right_no : (s t : Bool) → s ≡ true → s && t ≡ false → t ≡ false
        right_no true t e f = f
        right_no false t e f = absurd (not_both e refl)

        one : (x : SlipVoter) → x ∈ vs → Dec (x.author < 128) → has_rejected reading bs l b x.author ≡ false
        one x i (yes s) =
            sym (k.at j h x.author s)
            ∙ right_no (member v x.author) _ (unfold Speak in speak x.author s ∙ in_any (eqb x.author) (in_map (λ (z : SlipVoter). z.author) i)
            (eq-eqb x.author x.author refl)) (unfold Meeting in m x.author s)
        one x i (no s) = none_beyond reading q fit l b (p.only j h) x.author s
