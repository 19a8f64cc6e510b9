-- An accepted slip's blocks certify wherever the records that it names are stored. Assumes nothing.
use mathlib.Core.Path.{◌≡◌, refl, sym, ap, subst}
use mathlib.Core.Bool.{true}
use mathlib.Core.List.{List}
use Prim.Native.Nat.{ℕ}
use lib.Dec.{eqb}
use borrow.Author.Tests.{eqb-true}
use Rattle.base.specs.Lists.{◌∈◌}
use Rattle.base.specs.Le.{Bytes}
use Rattle.base.specs.Checks.{answered}
use Rattle.base.proofs.Tests.{and_left, and_right}
use Rattle.base.proofs.Members.{map_in, in_map}
use Rattle.committee.specs.Committee.{AuthorityIndex, Committee}
use Rattle.committee.specs.Quorum.{HoldQuorum}
use Rattle.committee_set.proofs.Quorums.{quorum_mono}
use Rattle.record_spec.specs.Reference.{TransactionLocator}
use Rattle.record_spec.specs.Block.{Block, author}
use Rattle.store_spec.specs.Layout.{Record}
use Rattle.store_spec.specs.Store.{records_of, store_in_order}
use Rattle.store_spec.proofs.Stored.{WellStored, one_reference}
use Rattle.store_spec.proofs.Store.{in_order_lem}
use Rattle.final_spec.specs.Ancestry.{Ancestor, Voter}
use Rattle.final_spec.specs.Finality.{blocks_of}
use Rattle.final_spec.specs.Claims.{Stored}
use Rattle.final_spec.proofs.Votes.{votes_for_lem}
use Rattle.final_spec.proofs.Ancestors.{ancestor_stored}
use Rattle.final_spec.proofs.Claimed.{well_stored}
use Rattle.final_readings_spec.specs.Readings.{Reading, old, withdrawing}
use Rattle.final_readings_spec.specs.Withdrawing.{VoterIn, CertificateIn}
use Rattle.final_readings_spec.proofs.Records.{whole_ancestor}
use Rattle.final_readings_spec.proofs.FinalsIn.{true_certifies_in, final_in_iff}
use Rattle.slip_spec.specs.Slip.{SlipVoter, SlipCertifier, Slip, slip_in}
use Rattle.slip_spec.specs.Supplied.{supplied_in, supplied_blocks}
use Rattle.slip_spec.specs.Reading.{votes_as, read_answer}
use Rattle.slip_spec.specs.Meaning.{OnPath, LeadsToVote, StandingIn, RightCertifier, RightSlip, NamedBy, as_certifier, by_path, in_ancestry, Certifies}
use Rattle.slip_spec.specs.Meaning.{ReallyFinal}
use Rattle.slip_spec.proofs.Paths.{named_reference, named_in, path_ancestor, on_path_in}
use Rattle.slip_spec.proofs.Reading.{accepted_sound, accepted_right}

-- a path over bs to an author's vote makes it a voter among blocks that contain those on the path
pub path_voter : (bs cs : List Block) (l : TransactionLocator) (a : AuthorityIndex) (b : Block) (ps : List ℕ) → LeadsToVote (votes_as l a) bs ps b
    → ((x : Block) → OnPath bs x ps b → x ∈ cs) → Voter cs b l a
unfolding votes_as
path_voter bs cs l a b ps h f =
    record {
      voting = h.vote;
      ancestor = path_ancestor bs cs ps b h.vote h.leading f;
      votes = votes_for_lem h.vote l (and_right (eqb (author h.vote) a) _ h.voting);
      authored = eqb-true (author h.vote) a (and_left _ _ h.voting);
    }

-- ---- a slip that holds over bs, among stored blocks cs that contain what it names

module _ (c : Committee) (bs cs : List Block) (w : WellStored cs) (s : Slip) (right : RightSlip c bs s) (f : (d : Block) → NamedBy bs s d → d ∈ cs) where
  module _ (k : SlipCertifier) (m : k ∈ s.certifiers) where
    own : RightCertifier s.reading c bs s.locator k
    own = right.certifiers k m

    own_stored : own.block ∈ cs
    own_stored = f own.block (as_certifier k m own.given)

    -- a listed voter votes, and in the new reading it does not reject: the ancestry is the one that was given
    still_votes : (reading : Reading) → s.reading ≡ reading → StandingIn reading bs s.locator k.voters own.block → (v : SlipVoter) → v ∈ k.voters
        → Voter cs own.block s.locator v.author → VoterIn reading cs own.block s.locator v.author
    still_votes old e h v n x = x
    still_votes withdrawing e h v n x = (
      x,
      λ r. h.kept v n (record
          { rejecting = r.rejecting; ancestor = given_too r.ancestor; rejects = r.rejects; authored = r.authored }),
    )
      where
        given_too : {d : Block} → Ancestor cs d own.block → Ancestor bs d own.block
        given_too a = whole_ancestor (λ x y. one_reference w) (named_in bs k.reference own.block own.given) h.whole
            (λ d y. f d (in_ancestry e k own.block m own.given y)) a

    voters_quorum : HoldQuorum c (VoterIn s.reading cs own.block s.locator)
    voters_quorum =
        quorum_mono c _ (VoterIn s.reading cs own.block s.locator)
        (λ a x. subst (VoterIn s.reading cs own.block s.locator) x.2
        (still_votes s.reading refl own.standing x.0 x.1
        (path_voter bs cs s.locator x.0.author own.block x.0.path (own.ends x.0 x.1)
        (λ d y. f d (by_path k x.0 own.block m x.1 own.given y)))))
        own.quorum

    own_certifies : Certifies c cs s k
    own_certifies =
        record {
          block = own.block;
          stored = own_stored;
          listed = named_reference bs k.reference own.block own.given;
          certifying = true_certifies_in s.reading c w s.locator own.block own_stored own.unmarked voters_quorum;
        }

    certificate : CertificateIn s.reading c cs s.locator k.reference.authority
    certificate =
        record {
          block = own.block;
          stored = own_stored;
          unmarked = own.unmarked;
          quorum = voters_quorum;
          authored = ap (λ r. r.authority) (named_reference bs k.reference own.block own.given);
        }

  pub really_final : ReallyFinal c cs s
  really_final =
      record {
        certifying = own_certifies;
        final =
            (final_in_iff s.reading c w s.locator).1
            (quorum_mono c _ (CertificateIn s.reading c cs s.locator)
            (λ a x. subst (CertificateIn s.reading c cs s.locator) x.2 (certificate x.0 x.1)) right.quorum);
      }

-- ---- the claims

pub accepted_certifies : (c : Committee) (r q : Bytes) (n : ℕ) → read_answer c r q ≡ answered n → (bs : List Block) → Stored c bs
    → ((d : Block) → NamedBy (supplied_blocks q) (slip_in r) d → d ∈ bs) → ReallyFinal c bs (slip_in r)
accepted_certifies c r q n h bs k f = really_final c (supplied_blocks q) bs (well_stored c bs k) (slip_in r) (accepted_right c r q n h) f

-- what is named is one of the blocks given
pub named_by_in : (bs : List Block) (s : Slip) (d : Block) → NamedBy bs s d → d ∈ bs
named_by_in bs s d (as_certifier k m e) = named_in bs k.reference d e
named_by_in bs s d (in_ancestry r k b m e y) = ancestor_stored y
named_by_in bs s d (by_path k v b m n e y) = on_path_in bs v.path b d (named_in bs k.reference b e) y

pub accepted_in_store : (c : Committee) (r q : Bytes) (n : ℕ) → read_answer c r q ≡ answered n → (t : Bytes) → store_in_order c t ≡ true
    → ((x : Record) → x ∈ supplied_in q → NamedBy (supplied_blocks q) (slip_in r) x.block → x ∈ records_of t) → ReallyFinal c (blocks_of t) (slip_in r)
unfolding blocks_of supplied_blocks
accepted_in_store c r q n h t o g =
    accepted_certifies c r q n h (blocks_of t)
    (record { sound = accepted_sound c r q n h; records = records_of t; accepted = (in_order_lem c t o).accepted; blocks = refl })
    (λ d y.
    let x = map_in (λ z. z.block) (supplied_in q) (named_by_in (supplied_blocks q) (slip_in r) d y) in
    subst (λ (z : Block). z ∈ blocks_of t) x.2 (in_map (λ z. z.block)
    (g x.0 x.1 (subst (λ (z : Block). NamedBy (supplied_blocks q) (slip_in r) z) (sym x.2) y))))
