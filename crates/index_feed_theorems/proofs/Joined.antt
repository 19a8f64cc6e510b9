-- Two calls are one. Assumes nothing.
use mathlib.Core.Path.{◌≡◌, refl, ap, ◌∙◌}
use mathlib.Core.Bool.{Bool, true, false}
use mathlib.Core.List.{List, ◌++◌, append_assoc}
use Prim.Native.Nat.{ℕ, ◌+◌, ◌^◌, ◌≤◌, ◌<◌}
use native.Mathlib.Omega.{arith}
use lib.ListN.{length, take, drop, length-append, length-drop}
use lib.Seq.{take_at, drop_at, drop-drop}
use borrow.Author.Tests.{not-false, ltb-false}
use Rattle.base.specs.Lists.{pick}
use Rattle.base.specs.Le.{Bytes}
use Rattle.base.specs.Checks.{refusal, passes, answered}
use Rattle.base.proofs.Lists.{all_left, all_right}
use Rattle.base.proofs.Checks.{passes_first, passes_others, passes_left, passes_right}
use Rattle.base.proofs.Refusals.{passes_zero, refusal_then}
use Rattle.committee.specs.Committee.{Committee}
use Rattle.feed_spec.specs.Pending.{pending_checks}
use Rattle.feed_spec.specs.Feed.{Lent}
use Rattle.feed_spec.proofs.Checks.{pending_numbered}
use Rattle.pending_question.proofs.Lending.{lying, refuses_none}
use Rattle.index_feed_spec.specs.IndexedFeed.{indexed_lent_checks}
use Rattle.feed_frames.specs.Frames.{records_in}
use Rattle.feed_many_theorems.specs.Claims.{framed, sized}
use Rattle.feed_many_theorems.proofs.Framed.{records_framed}
use Rattle.index_feed_many.specs.Records.{feed_all_indexed, indexed_records_checks, refused_indexed_call, fed_indexed_call, feed_records_indexed}
use Rattle.index_feed_theorems.specs.Joined.{call_on_indexed, JoinedIndexed}
use Rattle.index_feed_many.proofs.Calls.{refuses_nothing, call_feeds}
use Rattle.index_feed_theorems.proofs.Parted.{Agreeing, all_agreeing, all_table, all_many, after, Parted, parted}

-- ---- memory in order, with an index that agrees

agreeing_lent : (c : Committee) (m : Lent) (ix : List ℕ) → passes (indexed_lent_checks c m.store m.table ix) ≡ true
    → Agreeing c m.store m.table ix
unfolding indexed_lent_checks
agreeing_lent c m ix h =
    let l = lying c m.store m.table (passes_zero _ (passes_left (pending_checks c m.store m.table) _ h)) in
    record {
      committee = l.committee;
      state = record { store = l.store; table = l.table };
      agrees = not-false _ (passes_first _ _ (passes_right (pending_checks c m.store m.table) _ h));
    }

lent_none : (c : Committee) (m : Lent) (ix : List ℕ) → Agreeing c m.store m.table ix → refusal (indexed_lent_checks c m.store m.table ix) ≡ 0
unfolding indexed_lent_checks refusal
lent_none c m ix k =
    refusal_then (pending_checks c m.store m.table) _ (pending_numbered c m.store m.table)
    (refuses_none c _ _ k.committee k.state.store k.state.table)
    ∙ rw k.agrees

-- ---- two calls

call_framed : (c : Committee) (m : Lent) (ix o : List ℕ) (rs : List Bytes) → Agreeing c m.store m.table ix → length m.table ≤ length m.work →
    sized rs ≡ true
    → length rs ≤ length o → feed_records_indexed c m ix o (framed rs) ≡ fed_indexed_call o (feed_all_indexed c m ix rs)
call_framed c m ix o rs k w z l =
    let e = records_framed rs z in
    call_feeds c m ix o (framed rs) (refuses_nothing c m ix o (records_in (framed rs)) (lent_none c m ix k) w (omega (arith, l, ap length e))) ∙ rw e

answered_passes : (c : Committee) (m : Lent) (ix o : List ℕ) (bytes : Bytes) (n : ℕ) → (feed_records_indexed c m ix o bytes).answer ≡ answered n
    → passes (indexed_records_checks c m ix o (records_in bytes)) ≡ true
unfolding feed_records_indexed refused_indexed_call
answered_passes c m ix o bytes n e = go (passes (indexed_records_checks c m ix o (records_in bytes))) e
  where
    go : (t : Bool) → (pick t (fed_indexed_call o (feed_all_indexed c m ix (records_in bytes)))
        (refused_indexed_call m ix o (refusal (indexed_records_checks c m ix o (records_in bytes))))).answer ≡ answered n → t ≡ true
    go true e = refl
    go false e = let z : ◌≡◌ {A = ℕ} 0 1 = cc in absurd (omega arith)

module _ (c : Committee) (m : Lent) (ix o : List ℕ) (rs qs : List Bytes) where
  -- the outcomes' words past those of the first call
  past : List ℕ
  past = drop (length (feed_all_indexed c m ix rs).outcomes) o

  these : take (length rs) ((feed_all_indexed c m ix rs).outcomes ++ past) ≡ (feed_all_indexed c m ix rs).outcomes
  these = take_at (feed_all_indexed c m ix rs).outcomes past (length rs) (all_many c m ix rs)

  second : Agreeing c m.store m.table ix → length m.table ≤ length m.work → sized qs ≡ true → length rs + length qs ≤ length o
      → call_on_indexed c m (length rs) (fed_indexed_call o (feed_all_indexed c m ix rs)) (framed qs)
      ≡ fed_indexed_call past (feed_all_indexed c (after c m ix rs) (feed_all_indexed c m ix rs).index qs)
  unfolding call_on_indexed fed_indexed_call past
  second k w z l =
      rw (these, drop_at (feed_all_indexed c m ix rs).outcomes past (length rs) (all_many c m ix rs))
      (call_framed c (after c m ix rs) (feed_all_indexed c m ix rs).index past qs (all_agreeing c m ix rs k) (omega (arith, w, all_table c m ix rs k)) z
      (omega (arith, l, length-drop (length (feed_all_indexed c m ix rs).outcomes) o, all_many c m ix rs)))

  joined_fed : Parted c m ix rs qs
      → JoinedIndexed (length rs) (length qs) (fed_indexed_call o (feed_all_indexed c m ix (rs ++ qs))) (fed_indexed_call o (feed_all_indexed c m ix rs))
      (fed_indexed_call past (feed_all_indexed c (after c m ix rs) (feed_all_indexed c m ix rs).index qs))
  unfolding fed_indexed_call past
  joined_fed p =
      let y = (feed_all_indexed c (after c m ix rs) (feed_all_indexed c m ix rs).index qs).outcomes in
      let z = (feed_all_indexed c m ix rs).outcomes in
      record {
        all = ap answered (all_many c m ix (rs ++ qs) ∙ length-append rs qs);
        these = ap answered (all_many c m ix rs);
        others = ap answered (all_many c (after c m ix rs) (feed_all_indexed c m ix rs).index qs);
        store = p.store;
        table = p.table;
        index = p.index;
        events = rw these p.events;
        outcomes = rw (these, p.outcomes, length-append z y, ← drop-drop (length y) (length z) o) (append_assoc z y (drop (length y) past));
      }

pub joined : (c : Committee) (m : Lent) (ix o : List ℕ) (rs qs : List Bytes) (n : ℕ) → sized (rs ++ qs) ≡ true → length m.events < 2 ^ 63
    → (feed_records_indexed c m ix o (framed (rs ++ qs))).answer ≡ answered n
    → JoinedIndexed (length rs) (length qs) (feed_records_indexed c m ix o (framed (rs ++ qs))) (feed_records_indexed c m ix o (framed rs))
    (call_on_indexed c m (length rs) (feed_records_indexed c m ix o (framed rs)) (framed qs))
unfolding indexed_records_checks sized
joined c m ix o rs qs n z l a =
    let p = rw (records_framed (rs ++ qs) z) at (answered_passes c m ix o (framed (rs ++ qs)) n a) in
    let q = passes_right (indexed_lent_checks c m.store m.table ix) _ p in
    let k = agreeing_lent c m ix (passes_left (indexed_lent_checks c m.store m.table ix) _ p) in
    let w : length m.table ≤ length m.work = ltb-false _ _ (passes_first _ _ q) in
    let room : length (rs ++ qs) ≤ length o = ltb-false _ _ (passes_first _ _ (passes_others _ _ q)) in
    let many = length-append rs qs in
    rw (
      call_framed c m ix o (rs ++ qs) k w z room,
      call_framed c m ix o rs k w (all_left _ rs qs z) (omega (arith, room, many)),
      second c m ix o rs qs k w (all_right _ rs qs z) (omega (arith, room, many)),
    )
    (joined_fed c m ix o rs qs (parted c m ix rs qs k l))
