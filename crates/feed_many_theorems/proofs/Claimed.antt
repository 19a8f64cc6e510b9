-- The claims. Assumes nothing.
use mathlib.Core.Path.{◌≡◌, refl, ap, ◌∙◌}
use mathlib.Core.Bool.{Bool, true, false}
use mathlib.Core.List.{List, [], ◌∷◌, ◌++◌, append_assoc}
use mathlib.Core.Option.{none}
use Prim.Native.Nat.{ℕ, ◌+◌, ◌^◌, ◌≤◌, ◌<◌}
use native.Mathlib.Omega.{arith}
use lib.ListN.{length, take, drop, length-append, length-drop, take-append-drop}
use lib.Seq.{take_at, drop_at, drop-drop}
use borrow.Author.Tests.{lt-ltb, ltb-false}
use Rattle.base.specs.Lists.{pick, all_of}
use Rattle.base.specs.Le.{Bytes}
use Rattle.base.specs.Checks.{refusal, passes, refused, answered}
use Rattle.base.proofs.Lists.{all_left, all_right}
use Rattle.base.proofs.Checks.{passes_first, passes_left, passes_right}
use Rattle.base.proofs.Refusals.{passes_zero}
use Rattle.committee.specs.Committee.{Committee}
use Rattle.store_spec.specs.Layout.{read_record}
use Rattle.feed_spec.specs.Pending.{pending_checks}
use Rattle.feed_spec.specs.Feed.{Lent, lent_checks, rule_checks, accept_checks, record_checks, refused_feed, feed_record, feed}
use Rattle.feed_spec.proofs.Computing.{computing}
use Rattle.feed_refusals.proofs.Order.{feeds_record}
use Rattle.feed_frames.specs.Frames.{records_in}
use Rattle.feed_many.specs.Records.{outcome_of, words_told, feed_all, records_checks, refused_call, fed_call, feed_records}
use Rattle.feed_many.specs.Step.{Ready}
use Rattle.feed_many_theorems.specs.Claims.{framed, sized, call_on, Joined}
use Rattle.feed_many.proofs.Calls.{refuses_nothing, call_feeds}
use Rattle.feed_many_theorems.proofs.Framed.{records_framed}
use Rattle.feed_many_theorems.proofs.Appended.{after, Parted, parted, all_many, all_ready}

ready_checked : (c : Committee) (m : Lent) → passes (lent_checks c m) ≡ true → Ready c m.store m.table m.work
unfolding lent_checks
ready_checked c m h =
    record {
      lent = passes_zero _ (passes_left (pending_checks c m.store m.table) _ h);
      work = ltb-false _ _ (passes_first _ _ (passes_right (pending_checks c m.store m.table) _ h));
    }

-- ---- a record of no bytes

none_read : read_record [] ≡ none
unfolding computing
none_read = refl

pub malformed : (c : Committee) (m : Lent) → passes (lent_checks c m) ≡ true → (feed c m []).answer ≡ refused 20
unfolding feed feed_record refused_feed record_checks accept_checks rule_checks refusal
malformed c m h =
    let r = ready_checked c m h in
    rw none_read (ap refused (feeds_record c m none r.lent r.work))

-- ---- calls that are not refused

call_framed : (c : Committee) (m : Lent) (o : List ℕ) (rs : List Bytes) → Ready c m.store m.table m.work → sized rs ≡ true → length rs ≤ length o
    → feed_records c m o (framed rs) ≡ fed_call o (feed_all c m rs)
call_framed c m o rs h z l =
    let e = records_framed rs z in
    call_feeds c m o (framed rs) (refuses_nothing c m o (records_in (framed rs)) h.lent h.work (omega (arith, l, ap length e))) ∙ rw e

pub one : (c : Committee) (m : Lent) (o : List ℕ) (r : Bytes) → length r < 2 ^ 32 → passes (lent_checks c m) ≡ true → 1 ≤ length o
    → feed_records c m o (framed (r ∷ []))
    ≡ record {
      answer = answered 1;
      store = (feed c m r).store;
      table = (feed c m r).table;
      events = (feed c m r).events;
      outcomes = outcome_of
          (feed c m r).answer ∷ drop 1 o;
    }
unfolding feed_all fed_call sized all_of
one c m o r l h k =
    call_framed c m o (r ∷ []) (ready_checked c m h) (rw (lt-ltb (length r) (2 ^ 32) l)) (omega arith)
    ∙ rw (take-append-drop (words_told (feed c m r).answer) (feed c m r).events)

-- ---- two calls

answered_passes : (c : Committee) (m : Lent) (o : List ℕ) (bytes : Bytes) (n : ℕ) → (feed_records c m o bytes).answer ≡ answered n
    → passes (records_checks c m o (records_in bytes)) ≡ true
unfolding feed_records refused_call
answered_passes c m o bytes n e = go (passes (records_checks c m o (records_in bytes))) e
  where
    go : (t : Bool) → (pick t (fed_call o (feed_all c m (records_in bytes))) (refused_call m o (refusal (records_checks c m o (records_in bytes))))).answer ≡
        answered n → t ≡ true
    go true e = refl
    go false e = let z : ◌≡◌ {A = ℕ} 0 1 = cc in absurd (omega arith)

module _ (c : Committee) (m : Lent) (o : List ℕ) (rs qs : List Bytes) where
  -- the outcomes' words past those of the first call
  past : List ℕ
  past = drop (length (feed_all c m rs).outcomes) o

  these : take (length rs) ((feed_all c m rs).outcomes ++ past) ≡ (feed_all c m rs).outcomes
  these = take_at (feed_all c m rs).outcomes past (length rs) (all_many c m rs)

  second : Ready c m.store m.table m.work → sized qs ≡ true → length rs + length qs ≤ length o
      → call_on c m (length rs) (fed_call o (feed_all c m rs)) (framed qs) ≡ fed_call past (feed_all c (after c m rs) qs)
  unfolding call_on fed_call past
  second h z l =
      rw (these, drop_at (feed_all c m rs).outcomes past (length rs) (all_many c m rs))
      (call_framed c (after c m rs) past qs (all_ready c m rs h) z (omega (arith, l, length-drop (length (feed_all c m rs).outcomes) o, all_many c m rs)))

  joined_fed : Parted c m rs qs
      → Joined (length rs) (length qs) (fed_call o (feed_all c m (rs ++ qs))) (fed_call o (feed_all c m rs)) (fed_call past (feed_all c (after c m rs) qs))
  unfolding fed_call past
  joined_fed p =
      let y = (feed_all c (after c m rs) qs).outcomes in
      let z = (feed_all c m rs).outcomes in
      record {
        all = ap answered (all_many c m (rs ++ qs) ∙ length-append rs qs);
        these = ap answered (all_many c m rs);
        others = ap answered (all_many c (after c m rs) qs);
        store = p.store;
        table = p.table;
        events = rw these p.events;
        outcomes = rw (these, p.outcomes, length-append z y, ← drop-drop (length y) (length z) o) (append_assoc z y (drop (length y) past));
      }

pub joined : (c : Committee) (m : Lent) (o : List ℕ) (rs qs : List Bytes) (n : ℕ) → sized (rs ++ qs) ≡ true → length m.events < 2 ^ 63
    → (feed_records c m o (framed (rs ++ qs))).answer ≡ answered n
    → Joined (length rs) (length qs) (feed_records c m o (framed (rs ++ qs))) (feed_records c m o (framed rs))
    (call_on c m (length rs) (feed_records c m o (framed rs)) (framed qs))
unfolding records_checks sized
joined c m o rs qs n z l a =
    let p = rw (records_framed (rs ++ qs) z) at (answered_passes c m o (framed (rs ++ qs)) n a) in
    let h = ready_checked c m (passes_left (lent_checks c m) _ p) in
    let k : length (rs ++ qs) ≤ length o = ltb-false _ _ (passes_first _ _ (passes_right (lent_checks c m) _ p)) in
    let many = length-append rs qs in
    rw (
      call_framed c m o (rs ++ qs) h z k,
      call_framed c m o rs h (all_left _ rs qs z) (omega (arith, k, many)),
      second c m o rs qs h (all_right _ rs qs z) (omega (arith, k, many)),
    )
    (joined_fed c m o rs qs (parted c m rs qs l))
