-- A slip is accepted exactly where it says what the relations ask. Assumes nothing.
use mathlib.Core.Path.{◌≡◌, refl, sym, ap, ◌∙◌, subst}
use mathlib.Core.Logic.{◌↔◌}
use mathlib.Core.Bool.{Bool, true, false, not, ◌||◌}
use mathlib.Core.List.{List, map}
use mathlib.Core.Option.{Option, none, some}
use Prim.Native.Nat.{ℕ}
use lib.Dec.{eqb}
use lib.ListN.{length}
use borrow.Author.Tests.{eqb-true, eq-eqb, not-true, not-false}
use Rattle.base.specs.Lists.{any_of, all_of, is_none, holds, ◌∈◌, here, there}
use Rattle.base.specs.Le.{Bytes}
use Rattle.base.specs.Checks.{◌⇒◌, passes, Answer, answered, checked}
use Rattle.base.proofs.Tests.{and_both, and_left, and_right, neither_right, fails, not_both}
use Rattle.base.proofs.Members.{any_in, in_any, all_in, in_all, map_in, in_map}
use Rattle.base.proofs.Lists.{holds_some}
use Rattle.base.proofs.Checks.{passes_none, checked_answered}
use Rattle.committee.specs.Committee.{AuthorityIndex, Committee, broken, is_quorum}
use Rattle.committee_set.specs.AuthoritySet.{member, set_of, stake_of}
use Rattle.committee.specs.Quorum.{HoldQuorum}
use Rattle.committee_set.proofs.Votes.{member_set_of}
use Rattle.committee_set.proofs.Quorums.{quorum_counted, counted_quorum}
use Rattle.record_spec.specs.Reference.{TransactionLocator}
use Rattle.record_spec.specs.Block.{Block}
use Rattle.store_spec.specs.Layout.{Record, blocks}
use Rattle.final_readings_spec.specs.Readings.{Reading, old, withdrawing}
use Rattle.slip_spec.specs.Slip.{SlipVoter, SlipCertifier, Slip, read_slip, slip_in}
use Rattle.slip_spec.specs.Supplied.{supplied_records, supplied_in, supplied_blocks, right_blocks}
use Rattle.slip_spec.specs.Paths.{named, Led, to_block, nowhere, not_given, leads}
use Rattle.slip_spec.specs.Ancestry.{lacks_ancestor, has_rejected}
use Rattle.slip_spec.specs.Reading.{is_not_given, missing_from, missing, votes_as, ends_at_vote, certifier_holds, slip_holds, read_checks, read_answer}
use Rattle.slip_spec.specs.Meaning.{LeadsToVote, StandingIn, RightCertifier, RightSlip, AcceptedSlip}
use Rattle.slip_spec.proofs.Paths.{named_in}
use Rattle.slip_spec.proofs.Ancestry.{Falling, whole_lacks, lacks_whole, rejecter_found, found_rejecter, right_falling}
use Rattle.slip_spec.proofs.Slips.{read_names}

-- ---- authors that a list names, as a vote set and as a relation

module _ {A : Type 0} (f : A → AuthorityIndex) (xs : List A) where
  abbrev pub NamedAs : AuthorityIndex → Type 0
  NamedAs a = (x : A) × (x ∈ xs) × (f x ≡ a)

  pub listed_author : (a : AuthorityIndex) → member (set_of (map f xs)) a ≡ true → NamedAs a
  listed_author a h =
      let x = any_in (eqb a) (map f xs) (sym (member_set_of (map f xs) a) ∙ h) in
      let y = map_in f xs x.1 in
      (y.0, y.1, y.2 ∙ sym (eqb-true a x.0 x.2))

  pub author_listed : (a : AuthorityIndex) → NamedAs a → member (set_of (map f xs)) a ≡ true
  author_listed a x = member_set_of (map f xs) a ∙ in_any (eqb a) (in_map f x.1) (eq-eqb a (f x.0) (sym x.2))

  pub quorum_listed : (c : Committee) → is_quorum c (stake_of c (set_of (map f xs))) ≡ true → HoldQuorum c NamedAs
  quorum_listed c h = counted_quorum c (set_of (map f xs)) NamedAs (λ a k e. listed_author a e) h

  pub listed_quorum : (c : Committee) → HoldQuorum c NamedAs → is_quorum c (stake_of c (set_of (map f xs))) ≡ true
  listed_quorum c q = quorum_counted c (set_of (map f xs)) NamedAs (λ a k e. author_listed a e) q

-- ---- a slip that holds

module _ (bs : List Block) (l : TransactionLocator) where
  at_vote : (a : AuthorityIndex) (ps : List ℕ) (b : Block) → ends_at_vote l a (leads bs ps b) ≡ true → LeadsToVote (votes_as l a) bs ps b
  unfolding ends_at_vote
  at_vote a ps b h = go (leads bs ps b) refl h
    where
      go : (o : Led) → leads bs ps b ≡ o → ends_at_vote l a o ≡ true → LeadsToVote (votes_as l a) bs ps b
      go (to_block d) e k = record { vote = d; leading = e; voting = k }
      go nowhere e k = absurd (not_both k refl)
      go not_given e k = absurd (not_both k refl)

  vote_at : (a : AuthorityIndex) (ps : List ℕ) (b : Block) → LeadsToVote (votes_as l a) bs ps b → ends_at_vote l a (leads bs ps b) ≡ true
  unfolding ends_at_vote
  vote_at a ps b h = ap (ends_at_vote l a) h.leading ∙ h.voting

  -- ---- the ancestry of a certifier, in the new reading

  module _ (f : Falling bs) (vs : List SlipVoter) (b : Block) (m : b ∈ bs) where
    abbrev keeps : Reading → SlipVoter → Bool
    keeps reading v = not (has_rejected reading bs l b v.author)

    kept_standing : (reading : Reading) → lacks_ancestor reading bs b ≡ false → all_of (keeps reading) vs ≡ true → StandingIn reading bs l vs b
    unfolding lacks_ancestor has_rejected
    kept_standing old h k = tt
    kept_standing withdrawing h k =
        record {
          whole = lacks_whole bs f b m h;
          kept = λ v n r. not_both (rejecter_found bs f b m l v.author r) (not-true _ (all_in (keeps withdrawing) vs k n));
        }

    standing_kept : (reading : Reading) → StandingIn reading bs l vs b → all_of (keeps reading) vs ≡ true
    unfolding has_rejected
    standing_kept old h = in_all (keeps old) vs (λ v n. refl)
    standing_kept withdrawing h = in_all (keeps withdrawing) vs (λ v n. ap not (fails _ (λ t. h.kept v n (found_rejecter bs f b m l v.author t))))

    standing_whole : (reading : Reading) → StandingIn reading bs l vs b → lacks_ancestor reading bs b ≡ false
    unfolding lacks_ancestor
    standing_whole old h = refl
    standing_whole withdrawing h = whole_lacks bs f b m h.whole

module _ (reading : Reading) (c : Committee) (bs : List Block) (f : Falling bs) (l : TransactionLocator) (k : SlipCertifier) where
  abbrev ends_right : Block → SlipVoter → Bool
  ends_right b v = ends_at_vote l v.author (leads bs v.path b)

  certifier_right : holds (certifier_holds reading c bs l k.voters) (named bs k.reference) ≡ true → missing_from reading bs k.voters
      (named bs k.reference) ≡ false
      → RightCertifier reading c bs l k
  unfolding certifier_holds missing_from
  certifier_right h g =
      let x = holds_some (certifier_holds reading c bs l k.voters) (named bs k.reference) h in
      let b : Block = x.0 in
      let m = named_in bs k.reference b x.1 in
      let t = and_right (not b.marked) _ x.2 in
      let u = and_right (all_of (ends_right b) k.voters) _ t in
      let n = ap (missing_from reading bs k.voters) (sym x.1) ∙ g in
      record {
        block = b;
        given = x.1;
        unmarked = not-true b.marked (and_left (not b.marked) _ x.2);
        ends = λ v j. at_vote bs l v.author v.path b (all_in (ends_right b) k.voters (and_left (all_of (ends_right b) k.voters) _ t) j);
        standing =
            kept_standing bs l f k.voters b m reading (neither_right (any_of (λ v. is_not_given (leads bs v.path b)) k.voters) _ n)
            (and_left (all_of (keeps bs l f k.voters b m reading) k.voters) _ u);
        quorum = quorum_listed (λ (v : SlipVoter). v.author) k.voters c (and_right (all_of (keeps bs l f k.voters b m reading) k.voters) _ u);
      }

  module _ (r : RightCertifier reading c bs l k) where
    own_in : r.block ∈ bs
    own_in = named_in bs k.reference r.block r.given

    right_certifier : holds (certifier_holds reading c bs l k.voters) (named bs k.reference) ≡ true
    unfolding holds certifier_holds
    right_certifier =
        rw r.given
        (and_both _ _ (ap not r.unmarked)
        (and_both _ _ (in_all (ends_right r.block) k.voters (λ v m. vote_at bs l v.author v.path r.block (r.ends v m)))
        (and_both _ _ (standing_kept bs l f k.voters r.block own_in reading r.standing)
        (listed_quorum (λ (v : SlipVoter). v.author) k.voters c r.quorum))))

    right_given : missing_from reading bs k.voters (named bs k.reference) ≡ false
    unfolding missing_from is_not_given
    right_given =
        rw (r.given, standing_whole bs l f k.voters r.block own_in reading r.standing)
        (or_none _ (fails _ λ t.
        let v = any_in (λ (x : SlipVoter). is_not_given (leads bs x.path r.block)) k.voters t in
        not_both v.2 (ap is_not_given (r.ends v.0 v.1).leading)))
      where
        or_none : (t : Bool) → t ≡ false → t || false ≡ false
        or_none true e = e
        or_none false e = refl

module _ (c : Committee) (bs : List Block) (f : Falling bs) (s : Slip) where
  abbrev all_hold : SlipCertifier → Bool
  all_hold k = holds (certifier_holds s.reading c bs s.locator k.voters) (named bs k.reference)

  abbrev any_lost : SlipCertifier → Bool
  any_lost k = missing_from s.reading bs k.voters (named bs k.reference)

  pub slip_right : slip_holds c bs s ≡ true → missing bs s ≡ false → RightSlip c bs s
  unfolding slip_holds missing
  slip_right h g =
      record {
        certifiers = λ k m.
            certifier_right s.reading c bs f s.locator k (all_in all_hold s.certifiers (and_left (all_of all_hold s.certifiers) _ h) m)
            (fails (any_lost k) (λ t. not_both (in_any any_lost m t) g));
        quorum = quorum_listed (λ (k : SlipCertifier). k.reference.authority) s.certifiers c (and_right (all_of all_hold s.certifiers) _ h);
      }

  pub right_slip : RightSlip c bs s → slip_holds c bs s ≡ true
  unfolding slip_holds
  right_slip r =
      and_both _ _ (in_all all_hold s.certifiers (λ k m. right_certifier s.reading c bs f s.locator k (r.certifiers k m)))
      (listed_quorum (λ (k : SlipCertifier). k.reference.authority) s.certifiers c r.quorum)

  -- nothing that it names is missing
  pub right_supplied : RightSlip c bs s → missing bs s ≡ false
  unfolding missing
  right_supplied r =
      fails _ λ t.
      let k = any_in any_lost s.certifiers t in
      not_both k.2 (right_given s.reading c bs f s.locator k.0 (r.certifiers k.0 k.1))

-- ---- the answer

slip_in_lem : (s : Slip) (r : Bytes) → read_slip r ≡ some s → slip_in r ≡ s
unfolding slip_in
slip_in_lem s r e = rw e

supplied_in_lem : (rs : List Record) (q : Bytes) → supplied_records q ≡ some rs → supplied_blocks q ≡ blocks rs
unfolding supplied_blocks supplied_in
supplied_in_lem rs q e = rw e

some_of : {A : Type 0} (o : Option A) → is_none o ≡ false → (a : A) × (o ≡ some a)
unfolding is_none
some_of none h = absurd (not_both refl h)
some_of (some a) h = (a, refl)

module _ (c : Committee) (r q : Bytes) (n : ℕ) where
  module _ (h : read_answer c r q ≡ answered n) where
    pass : passes (read_checks c r q) ≡ true
    unfolding read_answer
    pass = (checked_answered (read_checks c r q) _ n h).0

    pub accepted_sound : broken c ≡ false
    unfolding read_checks
    accepted_sound = passes_none (read_checks c r q) pass (broken c ⇒ 5) here

    right_by_themselves : right_blocks c (supplied_blocks q) ≡ true
    unfolding read_checks
    right_by_themselves = not-false _ (passes_none (read_checks c r q) pass (not (right_blocks c (supplied_blocks q)) ⇒ 52)
        (there (there (there (there here)))))

    pub accepted_right : RightSlip c (supplied_blocks q) (slip_in r)
    accepted_right = slip_right c (supplied_blocks q) (right_falling c (supplied_blocks q) right_by_themselves) (slip_in r) held given_all
      where
        held : slip_holds c (supplied_blocks q) (slip_in r) ≡ true
        held = unfold read_checks in not-false _ (passes_none (read_checks c r q) pass (not (slip_holds c (supplied_blocks q) (slip_in r)) ⇒ 52)
            (there (there (there (there (there (there here)))))))

        given_all : missing (supplied_blocks q) (slip_in r) ≡ false
        given_all = unfold read_checks in passes_none (read_checks c r q) pass (missing (supplied_blocks q) (slip_in r) ⇒ 53)
            (there (there (there (there (there here)))))

    answer_accepted : AcceptedSlip c r q n
    unfolding read_checks read_answer
    answer_accepted =
        let s = some_of (read_slip r) (passes_none (read_checks c r q) pass (is_none (read_slip r) ⇒ 52) (there (there here))) in
        let rs = some_of (supplied_records q) (passes_none (read_checks c r q) pass (is_none (supplied_records q) ⇒ 52) (there (there (there here)))) in
        let e : slip_in r ≡ s.0 = slip_in_lem s.0 r s.1 in
        let f : supplied_blocks q ≡ blocks rs.0 = supplied_in_lem rs.0 q rs.1 in
        record {
          sound = accepted_sound;
          slip = s.0;
          records = rs.0;
          reads = s.1;
          supplied = rs.1;
          right = ap (right_blocks c) (sym f) ∙ right_by_themselves;
          holding = subst (λ (x : Slip). RightSlip c (blocks rs.0) x) e (subst (λ (bs : List Block). RightSlip c bs (slip_in r)) f accepted_right);
          many = ap (λ (x : Slip). length x.certifiers) (sym e) ∙ (checked_answered (read_checks c r q) _ n h).1;
        }

  pub accepted_answer : AcceptedSlip c r q n → read_answer c r q ≡ answered n
  unfolding read_answer read_checks checked passes all_of is_none
  accepted_answer a =
      rw (
        a.sound,
        read_names r a.slip a.reads,
        slip_in_lem a.slip r a.reads,
        supplied_in_lem a.records q a.supplied,
        a.reads,
        a.supplied,
        a.right,
        right_supplied c (blocks a.records) (falling a) a.slip a.holding,
        right_slip c (blocks a.records) (falling a) a.slip a.holding,
      )
      (ap {B = Answer ℕ} (λ (m : ℕ). answered m) a.many)
    where
      falling : (a : AcceptedSlip c r q n) → Falling (blocks a.records)
      falling a = right_falling c (blocks a.records) a.right

  pub answer_iff : (read_answer c r q ≡ answered n) ↔ AcceptedSlip c r q n
  answer_iff = (answer_accepted, accepted_answer)
