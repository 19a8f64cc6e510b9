-- The reader's answer, by what was found. Assumes nothing.
use mathlib.Core.Path.{◌≡◌, refl, sym, ◌∙◌}
use mathlib.Core.Bool.{Bool, true, false, not, ◌&&◌}
use mathlib.Core.List.{List}
use mathlib.Core.Option.{none, some}
use Prim.Native.Nat.{ℕ, ◌≤◌}
use native.Mathlib.Omega.{arith}
use lib.ListN.{length}
use borrow.Author.Tests.{not-true, le-leb}
use Rattle.base.specs.Lists.{pick, is_none, all_of}
use Rattle.base.specs.Le.{Bytes}
use Rattle.base.specs.Checks.{refusal, passes, refused, answered, checked}
use Rattle.base.proofs.Tests.{and_both, and_left, and_right}
use Rattle.committee.specs.Committee.{Committee, broken}
use Rattle.record_spec.specs.Reference.{TransactionLocator}
use Rattle.final_readings_spec.specs.Readings.{Reading}
use Rattle.record_reference_bytes.specs.Step.{locator_at}
use Rattle.slip_spec.specs.Slip.{Slip, names_reading, read_slip, slip_in}
use Rattle.slip_spec.specs.Supplied.{supplied_records, supplied_blocks, right_blocks}
use Rattle.slip_spec.specs.Reading.{missing, slip_holds, read_checks, read_answer}
use Rattle.slip_read_records.specs.Places.{right_records}
use Rattle.slip_read_verdicts.specs.Verdict.{verdict}
use Rattle.slip_read_paths.specs.Walk.{Noted}
use Rattle.slip_read_ancestry.specs.Lacking.{Right, LackingIn}
use Rattle.slip_read_rejecters.specs.Rejecting.{RejectingIn}
use Rattle.slip_read_certifier.specs.Step.{Known}
use Rattle.slip_read_body.specs.Step.{head_right, reading_at, TookSlip}
use Rattle.slip_read_call.specs.Step.{Showed}
use Rattle.std.specs.Prelude.{None, Some, Option}

module _ (c : Committee) (s q : Bytes) where
  pub answer_broken : broken c ≡ true → refused 5 ≡ read_answer c s q
  unfolding read_answer read_checks checked passes all_of refusal
  answer_broken h = rw h

  pub answer_reading : broken c ≡ false → names_reading s ≡ false → refused 61 ≡ read_answer c s q
  unfolding read_answer read_checks checked passes all_of refusal
  answer_reading sound h = rw (sound, h)

  module _ (sound : broken c ≡ false) (names : names_reading s ≡ true) where
    pub answer_form : read_slip s ≡ none → refused 52 ≡ read_answer c s q
    unfolding read_answer read_checks checked passes all_of refusal is_none
    answer_form h = rw (sound, names, h)

    pub answer_records : right_records c q ≡ false → refused 52 ≡ read_answer c s q
    unfolding read_answer read_checks checked passes all_of refusal right_records
    answer_records h = rw (sound, names) (go (is_none (read_slip s)) (is_none (supplied_records q)) (right_blocks c (supplied_blocks q)) h)
      where
        go : (a b r : Bool) → not b && r ≡ false → refused 52
            ≡ pick (not a && (not b && (not (not r) && (not (missing (supplied_blocks q) (slip_in s)) &&
            (not (not (slip_holds c (supplied_blocks q) (slip_in s))) && true))))) (answered (length (slip_in s).certifiers))
            (refused (pick a 52 (pick b 52 (pick (not r) 52 (pick (missing (supplied_blocks q) (slip_in s)) 53
            (pick (not (slip_holds c (supplied_blocks q) (slip_in s))) 52 0))))))
        go true b r k = refl
        go false true r k = refl
        go false false true k = absurd (let z : ◌≡◌ {A = ℕ} 0 1 = cc in omega arith)
        go false false false k = refl

    module _ (right : right_records c q ≡ true) (x : Slip) (reads : read_slip s ≡ some x) where
      supplied_some : is_none (supplied_records q) ≡ false
      unfolding right_records
      supplied_some = not-true (is_none (supplied_records q)) (and_left (not (is_none (supplied_records q))) _ right)

      blocks_right : right_blocks c (supplied_blocks q) ≡ true
      unfolding right_records
      blocks_right = and_right (not (is_none (supplied_records q))) _ right

      lost : Bool
      lost = missing (supplied_blocks q) x

      held : Bool
      held = slip_holds c (supplied_blocks q) x

      whole : read_answer c s q ≡ pick lost (refused 53) (pick held (answered (length x.certifiers)) (refused 52))
      unfolding read_answer read_checks checked passes all_of refusal is_none slip_in lost held
      whole = rw (sound, names, reads, supplied_some, blocks_right) (go (missing (supplied_blocks q) x) (slip_holds c (supplied_blocks q) x))
        where
          go : (m h : Bool) → pick (not m && (not (not h) && true)) (answered (length x.certifiers)) (refused (pick m 53 (pick (not h) 52 0)))
              ≡ pick m (refused 53) (pick h (answered (length x.certifiers)) (refused 52))
          go true h = refl
          go false true = refl
          go false false = refl

      module _ (v : ℕ) (shows : v ≡ verdict (missing (supplied_blocks q) x) (slip_holds c (supplied_blocks q) x)) where
        pub answer_missing : v ≡ 2 → refused 53 ≡ read_answer c s q
        unfolding verdict lost held
        answer_missing e = go (missing (supplied_blocks q) x) (slip_holds c (supplied_blocks q) x) (sym shows ∙ e) ∙ sym whole
          where
            go : (m h : Bool) → ◌≡◌ {A = ℕ} (pick m 2 (pick h 0 1)) 2 → refused 53 ≡ pick m (refused 53)
                (pick h (answered (length x.certifiers)) (refused 52))
            go true h k = refl
            go false true k = absurd (omega arith)
            go false false k = absurd (omega arith)

        pub answer_fails : v ≡ 1 → refused 52 ≡ read_answer c s q
        unfolding verdict lost held
        answer_fails e = go (missing (supplied_blocks q) x) (slip_holds c (supplied_blocks q) x) (sym shows ∙ e) ∙ sym whole
          where
            go : (m h : Bool) → ◌≡◌ {A = ℕ} (pick m 2 (pick h 0 1)) 1 → refused 52 ≡ pick m (refused 53)
                (pick h (answered (length x.certifiers)) (refused 52))
            go true h k = absurd (omega arith)
            go false true k = absurd (omega arith)
            go false false k = refl

        pub answer_holds : (n : ℕ) → (v ≡ 2 → ⊥) → (v ≡ 1 → ⊥) → length x.certifiers ≡ n → answered n ≡ read_answer c s q
        unfolding verdict lost held
        answer_holds n f g e = rw (← e) (go (missing (supplied_blocks q) x) (slip_holds c (supplied_blocks q) x) shows ∙ sym whole)
          where
            go : (m h : Bool) → v ≡ pick m 2 (pick h 0 1) → answered (length x.certifiers) ≡ pick m (refused 53)
                (pick h (answered (length x.certifiers)) (refused 52))
            go true h k = absurd (f k)
            go false true k = refl
            go false false k = absurd (g k)

-- ---- what is noted of the records

pub named_head : (s : Bytes) → names_reading s ≡ true → 59 ≤ length s → head_right s ≡ true
unfolding head_right
named_head s h k = and_both _ _ h (le-leb 59 (length s) k)

pub right_of : (c : Committee) (q : Bytes) → broken c ≡ false → right_records c q ≡ true → Right q
unfolding Right right_records
right_of c q h r = (c, (h, and_right (not (is_none (supplied_records q))) _ r))

-- what was noted in the reading that the first byte names
pub known_all : (s q : Bytes) (order votes lacking rejecting : List ℕ) (l : TransactionLocator) (reading : Reading) → reading ≡ reading_at s → l
    ≡ locator_at s 1
    → Noted q order l (length order) votes → LackingIn reading q order lacking → RejectingIn reading q order l rejecting
    → Known (reading_at s) q order (locator_at s 1) votes lacking rejecting
known_all s q order votes lacking rejecting l reading e f n k r = rw (← e, ← f) (record { noted = n; lacks = k; rejects = r })

pub shown_slip : (c : Committee) (s q : Bytes) (order votes lacking rejecting : List ℕ) (r : Option ℕ) → Known (reading_at s) q order (locator_at s 1) votes
    lacking rejecting
    → TookSlip c s q order votes lacking rejecting r → Showed c s q r
unfolding TookSlip Showed
shown_slip c s q order votes lacking rejecting (Some v) k t = record { slip = t.slip; reads = t.reads; many = t.many; shows = t.shows k }
shown_slip c s q order votes lacking rejecting None k t = t
