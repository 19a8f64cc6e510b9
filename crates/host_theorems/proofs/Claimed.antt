-- The third statement of the calls of a host, whole, from its parts. Assumes nothing.
use mathlib.Core.Path.{◌≡◌, refl, sym, ap, subst, ◌∙◌}
use mathlib.Core.Logic.{◌↔◌}
use mathlib.Core.Bool.{true, false}
use mathlib.Core.List.{List, [], map}
use mathlib.Core.Option.{none}
use Prim.Native.Nat.{◌≤◌}
use native.Mathlib.Omega.{arith}
use lib.Dec.{leb}
use lib.ListN.{length, length-map}
use borrow.Author.Tests.{leb-true}
use Rattle.base.specs.Lists.{pairwise, ◌∈◌}
use Rattle.base.specs.Le.{Bytes}
use Rattle.base.proofs.Tests.{and_left, and_right}
use Rattle.base.proofs.Le.{AllBytes}
use Rattle.committee.specs.Committee.{Committee, broken}
use Rattle.record_spec.specs.Reference.{TransactionLocator, locator_before}
use Rattle.record_spec.specs.Record.{locator_bytes}
use Rattle.store_spec.specs.Store.{store_in_order}
use Rattle.store_spec.specs.Shares.{is_stored_share}
use Rattle.final_spec.specs.Voters.{is_final}
use Rattle.final_spec.specs.Finality.{blocks_of}
use Rattle.final_spec.specs.NextFinal.{FinalList}
use Rattle.list_stretches_spec.specs.Stretches.{Listing, wide, FinalStretch}
use Rattle.list_stretches_spec.specs.Claims as list
use Rattle.list_stretches_spec.proofs.Wide.{wide_lawful_lem, wide_gives_lem}
use Rattle.list_ordinary_spec.specs.FinalShares.{is_final_share, FinalShareList}
use Rattle.list_ordinary_spec.specs.Ordinary.{ordinary}
use Rattle.list_ordinary_spec.specs.Claims.{OrdinaryGives}
use Rattle.list_ordinary_spec.proofs.Ordinary.{ordinary_lawful, ordinary_gives}
use Rattle.record_reference_bytes.specs.Step.{locator_at}
use Rattle.mission_theorems.specs.Feeds.{Engine, Accepted}
use Rattle.mission_theorems.specs.ThirdStatement as words
use Rattle.mission_theorems.proofs.ThirdStatement.{third_statement}
use Rattle.mission_theorems.proofs.Finals.{blocks_are, store_of}
use Rattle.list_theorems.specs.Bulk as bulk
use Rattle.list_theorems.proofs.Asked.{wide_spread, ordinary_spread}
use Rattle.list_theorems.proofs.Reaching.{reach}
use Rattle.host_calls.specs.Calls.{committee_of}
use Rattle.host_final_answers.specs.Answers.{after_of, whole_stretches}
use Rattle.host_finals.specs.NextFinal.{asked_next_final, next_final_call, next_wide_call}
use Rattle.host_finals.specs.Stretches.{asked_stretches, stretches_call, wide_stretches_call}
use Rattle.host_theorems.specs.Feeds.{ByteStart, host_of, accepted_by}
use Rattle.host_theorems.specs.Lists.{NextCall, FoundOn, BulkCall}
use Rattle.host_theorems.specs.Statement.{Gives, Holds, SameRecords, HostStatement}
use Rattle.host_theorems.proofs.Running.{in_bytes, to_start, host_engine, host_accepted, host_fits}
use Rattle.host_theorems.proofs.Calls.{answered_final, answered_40, stands, not_pending}
use Rattle.host_theorems.proofs.Lists.{after_start, locators_back, to_found, from_found, from_bulk, to_bulk}

-- ---- a list

whole_long : (out : Bytes) → whole_stretches out ≡ true → 80 ≤ length out
unfolding whole_stretches
whole_long out h = leb-true 80 (length out) (and_left (leb 80 (length out)) _ h)

module _ (stakes : Bytes) (b : broken (committee_of stakes) ≡ false) (g : Engine) (o : store_in_order (committee_of stakes) g.store ≡ true)
    (bytes : AllBytes g.store)
    (k : Listing) (law : list.Lawful (blocks_of g.store) k)
    (finals : (l : TransactionLocator) → k.shows l ≡ true → is_final (committee_of stakes) (blocks_of g.store) l ≡ true)
    (next : NextCall) (asks : (x out : Bytes) → next stakes g.store x out ≡ asked_next_final (committee_of stakes) g.store k (after_of x) out)
    (many : BulkCall) (asks-many : (x out : Bytes) → many stakes g.store x out ≡ asked_stretches (committee_of stakes) g.store k (after_of x) out) where
  abbrev c : Committee
  c = committee_of stakes

  abbrev s : Bytes
  s = g.store

  gives : (ls : List TransactionLocator) → list.Gives k none ls → ((ts : List FinalStretch) → bulk.StretchesOn c s k none ts → bulk.spread_out ts ≡ ls)
      → (Is : TransactionLocator → Type 0) → ((l : TransactionLocator) → (l ∈ ls) ↔ Is l) → pairwise locator_before ls ≡ true
      → Gives next many stakes (in_bytes g) Is
  unfolding in_bytes
  gives ls given spread Is exactly ascending =
      let back : map (λ x. locator_at x 0) (map locator_bytes ls) ≡ ls = locators_back c b s o bytes k law finals ls given in
      record {
        found = map locator_bytes ls;
        given = to_found c b s o bytes k law finals next stakes asks [] none after_start ls given;
        exactly = λ l. subst (λ (ms : List TransactionLocator). (l ∈ ms) ↔ Is l) (sym back) (exactly l);
        ascending = ap (λ (ms : List TransactionLocator). pairwise locator_before ms) back ∙ ascending;
        spread = λ outs ts on. spread ts (from_bulk c b s o bytes k law finals many stakes asks-many [] none after_start outs ts on) ∙ sym back;
        reaches = λ outs whole some few.
            let r = reach c s b o k law outs (λ out m. whole_long out (whole out m)) some none ls given (omega (arith, few, length-map ls locator_bytes)) in
            (r.0, to_bulk c b s o bytes k law finals many stakes asks-many [] after_start whole r.1);
      }

  -- two lists of bytes that are found are the same
  found_once : (ls : List TransactionLocator) → list.Gives k none ls → (ys : List Bytes) → FoundOn next stakes s [] ys → ys ≡ map locator_bytes ls
  found_once ls given ys on = from_found c b s o bytes k law finals next stakes asks [] none after_start ys on ls given

-- ---- after a list of feeds

module _ (stakes : Bytes) (b : broken (committee_of stakes) ≡ false) (t : ByteStart) where
  abbrev d : Committee
  d = committee_of stakes

  abbrev e : Engine
  e = words.engine_of d (to_start t)

  abbrev as' : List Accepted
  as' = words.accepted_of d (to_start t)

  order : store_in_order d e.store ≡ true
  order = (store_of d (to_start t)).order

  third : words.Holds d e as'
  third = third_statement.every d b (to_start t)

  asks_wide : (x out : Bytes) → next_wide_call stakes e.store x out ≡ asked_next_final d e.store (wide d (blocks_of e.store)) (after_of x) out
  unfolding next_wide_call
  asks_wide x out = refl

  asks_shares : (x out : Bytes) → next_final_call stakes e.store x out ≡ asked_next_final d e.store (ordinary d (blocks_of e.store)) (after_of x) out
  unfolding next_final_call
  asks_shares x out = refl

  many_wide : (x out : Bytes) → wide_stretches_call stakes e.store x out ≡ asked_stretches d e.store (wide d (blocks_of e.store)) (after_of x) out
  unfolding wide_stretches_call
  many_wide x out = refl

  many_shares : (x out : Bytes) → stretches_call stakes e.store x out ≡ asked_stretches d e.store (ordinary d (blocks_of e.store)) (after_of x) out
  unfolding stretches_call
  many_shares x out = refl

  share_final : (l : TransactionLocator) → is_final_share d (blocks_of e.store) l ≡ true → is_final d (blocks_of e.store) l ≡ true
  unfolding is_final_share
  share_final l h = and_right (is_stored_share (blocks_of e.store) l) _ h

  given_wide : (ls : List TransactionLocator) → list.Gives (wide d (blocks_of e.store)) none ls ↔ FinalList d e.store ls
  unfolding list.WideGives
  given_wide ls = wide_gives_lem d e.store b order none ls

  given_shares : (ls : List TransactionLocator) → list.Gives (ordinary d (blocks_of e.store)) none ls ↔ FinalShareList d e.store ls
  unfolding OrdinaryGives
  given_shares ls = ordinary_gives d e.store b order none ls

  holds : Holds stakes (in_bytes e) as'
  unfolding in_bytes
  holds =
      let f = third.finals in
      let h = third.ordinary in
      let bytes = (host_fits stakes b t).bytes in
      record {
        stored = blocks_are d e.store as' (store_of d (to_start t));
        final = answered_final stakes b t;
        only40 = answered_40 stakes b t;
        finals =
            gives stakes b e order bytes (wide d (blocks_of e.store)) (wide_lawful_lem d (blocks_of e.store))
            (λ l x. x) next_wide_call asks_wide wide_stretches_call many_wide
            f.list ((given_wide f.list).1 f.given) (λ ts on. wide_spread d e.store b order on f.list f.given) _ f.exactly f.ascending;
        ordinary =
            gives stakes b e order bytes (ordinary d (blocks_of e.store))
            (ordinary_lawful d (blocks_of e.store)) share_final next_final_call asks_shares stretches_call many_shares
            h.shares ((given_shares h.shares).1 h.given) (λ ts on. ordinary_spread d e.store b order on h.shares h.given) _ h.exactly
            h.ascending;
        shares = stands stakes b t;
        not_shares = not_pending stakes b t;
        others = third.others;
        announced = third.announced;
      }

  holds_bytes : Holds stakes (host_of stakes t) (accepted_by stakes t)
  holds_bytes = rw (host_engine stakes b t, host_accepted stakes b t) holds

  -- what is found is the list of words
  wide_found : (ys : List Bytes) → FoundOn next_wide_call stakes (host_of stakes t).store [] ys → ys ≡ map locator_bytes third.finals.list
  unfolding in_bytes
  wide_found ys on =
      found_once stakes b e order (host_fits stakes b t).bytes (wide d (blocks_of e.store)) (wide_lawful_lem d (blocks_of e.store))
      (λ l x. x) next_wide_call asks_wide wide_stretches_call many_wide
      third.finals.list ((given_wide third.finals.list).1 third.finals.given) ys (rw (host_engine stakes b t) at on)

  shares_found : (ys : List Bytes) → FoundOn next_final_call stakes (host_of stakes t).store [] ys → ys ≡ map locator_bytes third.ordinary.shares
  unfolding in_bytes
  shares_found ys on =
      found_once stakes b e order (host_fits stakes b t).bytes (ordinary d (blocks_of e.store))
      (ordinary_lawful d (blocks_of e.store)) share_final next_final_call asks_shares stretches_call many_shares
      third.ordinary.shares ((given_shares third.ordinary.shares).1 third.ordinary.given) ys (rw (host_engine stakes b t) at on)

-- ---- two lists of feeds

module _ (stakes : Bytes) (b : broken (committee_of stakes) ≡ false) (t u : ByteStart) (same : SameRecords stakes t u) where
  same_words : words.SameRecords (committee_of stakes) (to_start t) (to_start u)
  same_words = rw (host_accepted stakes b t, host_accepted stakes b u) at same

  same_wide : (ys zs : List Bytes) → FoundOn next_wide_call stakes (host_of stakes t).store [] ys → FoundOn next_wide_call stakes (host_of stakes u).store [] zs
      → ys ≡ zs
  same_wide ys zs x y =
      wide_found stakes b t ys x
      ∙ ap (map locator_bytes)
      (third_statement.same_list (committee_of stakes) b (to_start t) (to_start u) same_words _ _ (third stakes b t).finals.given
      (third stakes b u).finals.given)
      ∙ sym (wide_found stakes b u zs y)

  same_shares_lem : (ys zs : List Bytes) → FoundOn next_final_call stakes (host_of stakes t).store [] ys
      → FoundOn next_final_call stakes (host_of stakes u).store [] zs → ys ≡ zs
  same_shares_lem ys zs x y =
      shares_found stakes b t ys x
      ∙ ap (map locator_bytes)
      (third_statement.same_shares (committee_of stakes) b (to_start t) (to_start u) same_words _ _ (third stakes b t).ordinary.given
      (third stakes b u).ordinary.given)
      ∙ sym (shares_found stakes b u zs y)

pub claimed : HostStatement
claimed = record { every = holds_bytes; same_list = same_wide; same_shares = same_shares_lem }
