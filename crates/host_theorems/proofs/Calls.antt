-- The finality question and the pending questions of a host after a list of feeds. Assumes nothing.
use mathlib.Core.Path.{◌≡◌, ap, ◌∙◌}
use mathlib.Core.Bool.{true, false}
use mathlib.Core.List.{List}
use mathlib.Core.Option.{some}
use Prim.Native.Nat.{ℕ, ◌/◌, ◌≤◌}
use native.Mathlib.Omega.{arith}
use lib.ListN.{length, length-map}
use borrow.Author.Tests.{eq-eqb, ne_eqb}
use Rattle.base.specs.Le.{Bytes}
use Rattle.base.specs.Checks.{Answer, refused}
use Rattle.committee.specs.Committee.{Committee, broken}
use Rattle.record_spec.specs.Reference.{TransactionLocator}
use Rattle.store_spec.specs.Store.{store_in_order}
use Rattle.store_spec.specs.Shares.{is_stored_share}
use Rattle.store_spec.proofs.Store.{in_order_lem}
use Rattle.feed_spec.specs.Pending.{pending}
use Rattle.words.specs.Words.{words_of, bytes_of}
use Rattle.words.proofs.Words.{length_words_in, length_bytes_of}
use Rattle.final_readings_spec.specs.Readings.{old}
use Rattle.final_readings_spec.proofs.Claimed.{old_reading}
use Rattle.mission_theorems.specs.Feeds.{Engine, Accepted, stored_blocks}
use Rattle.mission_theorems.specs.ThirdStatement as words
use Rattle.mission_theorems.proofs.Storing.{as_record}
use Rattle.mission_theorems.proofs.Finals.{store_of, answers_final}
use Rattle.mission_theorems.proofs.Shares.{share_stands}
use Rattle.engine_theorems.specs.Claims.{OthersNotPending}
use Rattle.engine_theorems.proofs.Others.{others_not_pending}
use Rattle.host_calls.specs.Calls.{flag, committee_of}
use Rattle.host_locators.specs.Locators.{locator_of}
use Rattle.host_locators.proofs.Locators.{before_lent}
use Rattle.host_finality.specs.Finality.{finality_number, finality_of, asked_finality, finality_call}
use Rattle.host_pending_bytes.specs.Pending.{pending_in, asked_pending, stake_of, voters_of, pending_stake_call, pending_voters_call}
use Rattle.host_theorems.specs.Feeds.{ByteStart}
use Rattle.host_theorems.specs.Statement.{AnsweredFinal, ShareStands, stays, gone}
use Rattle.host_theorems.proofs.Running.{table_fits, words_back, in_bytes, to_start, host_fits}

-- 8,192 bytes are 1,024 words
positions : (ps : Bytes) → length ps ≡ 8192 → length (words_of ps) ≡ 1024
unfolding words_of
positions ps k = length_words_in (length ps / 8) ps ∙ omega (arith, k)

module _ (stakes : Bytes) (b : broken (committee_of stakes) ≡ false) (t : ByteStart) where
  abbrev c : Committee
  c = committee_of stakes

  abbrev g : Engine
  g = words.engine_of c (to_start t)

  abbrev as' : List Accepted
  as' = words.accepted_of c (to_start t)

  order : store_in_order c g.store ≡ true
  order = (store_of c (to_start t)).order

  few : length as' ≤ 1024
  few =
      let many = ap (λ rs. length rs) (store_of c (to_start t)).records ∙ length-map as' as_record in
      omega (arith, (in_order_lem c g.store order).few, many)

  module _ (x : Bytes) (l : TransactionLocator) (e : locator_of x ≡ some l) where
    pub answered_final : (ps : Bytes) → length ps ≡ 8192 → AnsweredFinal stakes (in_bytes g) (stored_blocks as') x l ps
    unfolding finality_call asked_finality finality_of finality_number flag in_bytes
    answered_final ps k =
        let a = answers_final c b (to_start t) l (words_of ps) (omega (arith, few, positions ps k)) in
        record {
          final = a.final;
          certifying = a.certifying;
          answer = rw (e, eq-eqb (length ps) 8192 k, old_reading.finality c g.store (words_of ps) l, a.answer);
          exactly = a.exactly;
        }

    pub answered_40 : (ps : Bytes) → (length ps ≡ 8192 → ⊥) → (finality_call old stakes (in_bytes g).store ps x).answer ≡ refused 40
    unfolding finality_call asked_finality finality_of in_bytes
    answered_40 ps k = rw (e, ne_eqb (length ps) 8192 k) (ap {B = Answer ℕ} refused (before_lent 40 c g.store b order))

    -- the questions are that of words
    standing : asked_pending c (in_bytes g).store (in_bytes g).table (locator_of x) ≡ pending c g.store g.table l
    unfolding asked_pending pending_in in_bytes
    standing =
        let size : length (bytes_of g.table) ≡ 49160 = omega (arith, length_bytes_of g.table, (host_fits stakes b t).size) in
        rw (eq-eqb (length (bytes_of g.table)) 49160 size, words_back g.table (table_fits c b g (host_fits stakes b t)), e)

    pub stands : is_stored_share (stored_blocks as') l ≡ true → ShareStands stakes (in_bytes g) as' x l
    unfolding pending_stake_call pending_voters_call stake_of voters_of
    stands h = go (share_stands c b (to_start t) l h)
      where
        go : words.ShareStands c g as' l → ShareStands stakes (in_bytes g) as' x l
        go (words.stays st n y p a) = stays st n y (ap stake_of (standing ∙ p)) (ap voters_of (standing ∙ p)) a
        go (words.gone u v w s n q p a) = gone u v w s n q (ap stake_of (standing ∙ p)) (ap voters_of (standing ∙ p)) a

    pub not_pending : is_stored_share (stored_blocks as') l ≡ false
        → (pending_stake_call stakes (in_bytes g).store (in_bytes g).table x ≡ refused 42) ×
        (pending_voters_call stakes (in_bytes g).store (in_bytes g).table x ≡ refused 42)
    unfolding pending_stake_call pending_voters_call stake_of voters_of OthersNotPending to_start
    not_pending h =
        let p : asked_pending c (in_bytes g).store (in_bytes g).table (locator_of x) ≡ refused 42 =
        standing ∙ others_not_pending c b (to_start t) (omega arith) l h in
        (ap stake_of p, ap voters_of p)
