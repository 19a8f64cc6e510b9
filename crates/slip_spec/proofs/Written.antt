-- The written slip is accepted with all right records that have what it names, and it reads as the slip that names all. Assumes nothing.
use mathlib.Core.Path.{◌≡◌, refl, sym, ◌∙◌, subst}
use mathlib.Core.Bool.{true, false, not}
use mathlib.Core.List.{List}
use mathlib.Core.Option.{some}
use Prim.Native.Nat.{ℕ, ◌≤◌}
use native.Mathlib.Omega.{arith}
use lib.ListN.{length, length-map, take, drop}
use lib.Seq.{take_at}
use borrow.Author.Tests.{not-true, not-false}
use Rattle.base.specs.Lists.{◌∈◌, here, there, Once}
use Rattle.base.specs.Le.{Bytes}
use Rattle.base.specs.Checks.{◌⇒◌, passes, answered}
use Rattle.base.proofs.Tests.{and_left, and_right}
use Rattle.base.proofs.Members.{in_map, map_in}
use Rattle.base.proofs.Checks.{passes_none, checked_answered}
use Rattle.base.proofs.Le.{AllBytes}
use Rattle.committee.specs.Committee.{Committee, broken}
use Rattle.committee_set.specs.AuthoritySet.{AuthoritySet, members}
use Rattle.committee.proofs.Bounds.{few_members}
use Rattle.committee_set.proofs.Quorums.{counted_quorum, quorum_mono}
use Rattle.record_spec.specs.Reference.{TransactionLocator}
use Rattle.record_spec.specs.Block.{Block, author}
use Rattle.record_spec.proofs.Records.{LocatorFits}
use Rattle.store_spec.specs.Layout.{Record, blocks}
use Rattle.store_spec.specs.Store.{records_of, store_in_order}
use Rattle.store_spec.proofs.Stored.{WellStored, include_stored}
use Rattle.store_spec.proofs.Store.{InOrder, in_order_lem}
use Rattle.final_spec.specs.Finality.{blocks_of}
use Rattle.final_spec.specs.Claims.{Stored}
use Rattle.final_spec.proofs.Votes.{votes_for_lem}
use Rattle.final_spec.proofs.Ancestors.{ancestor_stored}
use Rattle.final_spec.proofs.Growing.{final_votes}
use Rattle.final_spec.proofs.Claimed.{well_stored}
use Rattle.final_readings_spec.specs.Readings.{Reading, old, withdrawing, voters_in, certifies_in, certifiers_in, is_final_in}
use Rattle.final_readings_spec.specs.Withdrawing.{VoterIn}
use Rattle.final_readings_spec.proofs.FinalsIn.{final_in_old}
use Rattle.final_readings_spec.proofs.Claimed.{old_reading}
use Rattle.committee_set.proofs.Members.{in_members}
use Rattle.final_spec.proofs.Fits.{block_fits}
use Rattle.slip_spec.specs.Slip.{SlipVoter, read_slip, slip_bytes}
use Rattle.slip_spec.specs.Supplied.{supplied_bytes}
use Rattle.slip_spec.specs.Reading.{votes_as, read_answer}
use Rattle.slip_spec.specs.Meaning.{LeadsToVote, StandingIn, RightCertifier, RightSlip, NamedBy, Supplies, SaysAll}
use Rattle.slip_spec.specs.Writing.{voter_of, certifier_of, ordered_certifiers, slip_for, write_checks, write_slip}
use Rattle.slip_spec.proofs.Slips.{read_slip_slip_bytes}
use Rattle.slip_spec.proofs.Ancestry.{right_falling}
use Rattle.slip_spec.proofs.Given.{slip_there}
use Rattle.slip_spec.proofs.Supplying.{stored_supply, whole_supply}
use Rattle.slip_spec.proofs.Reading.{NamedAs, quorum_listed, accepted_answer}
use Rattle.slip_spec.proofs.Distances.{named_stored}
use Rattle.slip_spec.proofs.Naming.{own_voter, own_path, certifier_in, certifiers_in_lem, names_all}
use Rattle.slip_spec.proofs.Fitting.{vote_fits, length_certifiers, slip_fits}

-- ---- the written slip holds

module _ (reading : Reading) (c : Committee) (bs : List Block) (h : Stored c bs) (l : TransactionLocator) where
  well : WellStored bs
  well = well_stored c bs h

  module _ (b : Block) (m : b ∈ bs) where
    abbrev own : AuthoritySet
    own = voters_in reading bs l b.reference

    -- all that is stored is given, and who is counted has not rejected
    stands : (r : Reading) {vs : List SlipVoter} → ((v : SlipVoter) → v ∈ vs → VoterIn r bs b l v.author) → StandingIn r bs l vs b
    stands old f = tt
    stands withdrawing f = record { whole = λ x a i k. include_stored well (ancestor_stored a) i k; kept = λ v n r. (f v n).1 r }

    written_certifier : certifies_in reading c bs l b ≡ true → RightCertifier reading c bs l (certifier_of reading bs l b)
    unfolding certifier_of voter_of certifies_in
    written_certifier e =
        record {
          block = b;
          given = named_stored well b m;
          unmarked = not-true b.marked (and_left (not b.marked) _ e);
          ends = λ v k.
              let x = map_in (voter_of bs l b) (members own) k in
              subst (λ (y : SlipVoter). LeadsToVote (votes_as l y.author) bs y.path b) x.2 (own_path reading c bs h l b m x.0 x.1).leading;
          standing = stands reading (λ v k. let x = map_in (voter_of bs l b) (members own) k in subst (λ (y : SlipVoter). VoterIn reading bs b l y.author)
              x.2 (own_voter reading c bs h l b m x.0 x.1));
          quorum =
              counted_quorum c own _
              (λ a k t. (voter_of bs l b a, in_map (voter_of bs l b) (in_members own a (omega (arith, few_members c h.sound, k)) t), refl))
              (and_right (not b.marked) _ e);
        }

  written_right : is_final_in reading c bs l ≡ true → RightSlip c bs (slip_for reading c bs l)
  unfolding slip_for is_final_in
  written_right f =
      record {
        certifiers = λ k m.
            let x = map_in (certifier_of reading bs l) (ordered_certifiers reading c bs l) m in
            let i = certifier_in reading c bs h l x.0 x.1 in
            subst (RightCertifier reading c bs l) x.2 (written_certifier x.0 i.0 i.1);
        quorum =
            quorum_mono c (NamedAs author (certifiers_in reading c bs l)) _
            (λ a x. (
              certifier_of reading bs l x.0,
              in_map (certifier_of reading bs l) (certifiers_in_lem reading c bs h l x.0 x.1),
              unfold certifier_of in
                  x.2,
            ))
            (quorum_listed author (certifiers_in reading c bs l) c f);
      }

-- ---- together

module _ (reading : Reading) (c : Committee) (t : Bytes) (sound : broken c ≡ false) (bytes : AllBytes t) (o : store_in_order c t ≡ true)
    (l : TransactionLocator) (f : is_final_in reading c (blocks_of t) l ≡ true) where
  order : InOrder c t
  order = in_order_lem c t o

  all_stored : Stored c (blocks_of t)
  unfolding blocks_of
  all_stored = record { sound = sound; records = records_of t; accepted = order.accepted; blocks = refl }

  few_blocks : length (blocks_of t) ≤ 1024
  unfolding blocks_of
  few_blocks = omega (arith, length-map (records_of t) (λ r. r.block), order.few)

  target : LocatorFits l
  target = let v = final_votes c (blocks_of t) l (sym (old_reading.final c (blocks_of t) l) ∙ final_in_old reading c (blocks_of t) l f) in vote_fits v.block
      l (block_fits t bytes v.block v.stands) (votes_for_lem v.block l v.votes)

  slip_reads : read_slip (slip_bytes (slip_for reading c (blocks_of t) l)) ≡ some (slip_for reading c (blocks_of t) l)
  slip_reads = read_slip_slip_bytes (slip_for reading c (blocks_of t) l) (slip_fits reading c (blocks_of t) all_stored l few_blocks (block_fits t bytes) target)

  pub slip_accepted : (q : Bytes) → Supplies c (blocks_of t) (slip_for reading c (blocks_of t) l) q
      → read_answer c (slip_bytes (slip_for reading c (blocks_of t) l)) q ≡ answered (length (certifiers_in reading c (blocks_of t) l))
  slip_accepted q g =
      accepted_answer c (slip_bytes (slip_for reading c (blocks_of t) l)) q (length (certifiers_in reading c (blocks_of t) l))
      (record {
        sound = sound;
        slip = slip_for reading c (blocks_of t) l;
        records = g.records;
        reads = slip_reads;
        supplied = g.supplied;
        right = g.right;
        holding =
            slip_there (blocks_of t) (blocks g.records) (right_falling c (blocks g.records) g.right).found c (slip_for reading c (blocks_of t) l)
            (written_right reading c (blocks_of t) all_stored l f) g.names;
        many = unfold slip_for in length_certifiers reading c (blocks_of t) all_stored l few_blocks (block_fits t bytes) target;
      })

  slip_says : SaysAll reading c (blocks_of t) l (slip_bytes (slip_for reading c (blocks_of t) l))
  slip_says =
      record {
        slip = slip_for reading c (blocks_of t) l;
        reads = slip_reads;
        chosen = unfold slip_for in refl;
        asked = unfold slip_for in refl;
        names = names_all reading c (blocks_of t) all_stored l;
      }

-- the slice that was lent holds the slip in front
module _ (reading : Reading) (c : Committee) (t out : Bytes) (l : TransactionLocator) (n : ℕ) (bytes : AllBytes t)
    (h : (write_slip reading c t out l).answer ≡ answered n) where
  pass : passes (write_checks reading c t out l) ≡ true
  unfolding write_slip
  pass = (checked_answered (write_checks reading c t out l) _ n h).0

  sound : broken c ≡ false
  unfolding write_checks
  sound = passes_none (write_checks reading c t out l) pass (broken c ⇒ 5) here

  ordered : store_in_order c t ≡ true
  unfolding write_checks
  ordered = not-false (store_in_order c t) (passes_none (write_checks reading c t out l) pass (not (store_in_order c t) ⇒ 10) (there here))

  final : is_final_in reading c (blocks_of t) l ≡ true
  unfolding write_checks
  final =
      not-false (is_final_in reading c (blocks_of t) l)
      (passes_none (write_checks reading c t out l) pass (not (is_final_in reading c (blocks_of t) l) ⇒ 52) (there (there here)))

  in_front : take n (write_slip reading c t out l).out ≡ slip_bytes (slip_for reading c (blocks_of t) l)
  unfolding write_slip
  in_front =
      let e : length (slip_bytes (slip_for reading c (blocks_of t) l)) ≡ n = (checked_answered (write_checks reading c t out l) _ n h).1 in
      rw (pass) (take_at (slip_bytes (slip_for reading c (blocks_of t) l)) (drop (length (slip_bytes (slip_for reading c (blocks_of t) l))) out) n e)

  pub slice_accepted : (q : Bytes) → Supplies c (blocks_of t) (slip_for reading c (blocks_of t) l) q
      → read_answer c (take n (write_slip reading c t out l).out) q ≡ answered (length (certifiers_in reading c (blocks_of t) l))
  slice_accepted q g = rw (in_front) (slip_accepted reading c t sound bytes ordered l final q g)

  pub slice_carried : (rs : List Record) → ((x : Record) → x ∈ rs → x ∈ records_of t) → Once rs → length rs ≤ 1024
      → ((d : Block) → NamedBy (blocks_of t) (slip_for reading c (blocks_of t) l) d → d ∈ blocks rs)
      → read_answer c (take n (write_slip reading c t out l).out) (supplied_bytes rs) ≡ answered (length (certifiers_in reading c (blocks_of t) l))
  slice_carried rs f e few g = slice_accepted (supplied_bytes rs)
      (stored_supply c t (in_order_lem c t ordered) rs f e few (slip_for reading c (blocks_of t) l) g)

  pub slice_whole : read_answer c (take n (write_slip reading c t out l).out) (supplied_bytes (records_of t)) ≡ answered
      (length (certifiers_in reading c (blocks_of t) l))
  slice_whole = slice_accepted (supplied_bytes (records_of t)) (whole_supply c t (in_order_lem c t ordered) (slip_for reading c (blocks_of t) l))

  pub slice_says : SaysAll reading c (blocks_of t) l (take n (write_slip reading c t out l).out)
  slice_says = rw (in_front) (slip_says reading c t sound bytes ordered l final)
