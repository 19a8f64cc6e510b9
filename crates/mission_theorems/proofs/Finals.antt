-- The parts of the third statement that are about finality: the finality question, the final list, and its independence of the order of feeds.
-- Assumes nothing.
use mathlib.Core.Path.{◌≡◌, refl, sym, ap, ◌∙◌, subst}
use mathlib.Core.Logic.{◌↔◌}
use mathlib.Core.Bool.{true, false}
use mathlib.Core.List.{List, [], ◌∷◌, map}
use mathlib.Core.Option.{some-injective}
use Prim.Native.Nat.{ℕ, ◌≤◌, ◌<◌}
use native.Mathlib.Omega.{arith}
use lib.ListN.{length, length-map}
use borrow.Author.Tests.{le-ltb, lt-ltb}
use Rattle.base.specs.Lists.{all_of, ◌∈◌}
use Rattle.base.specs.Le.{Bytes}
use Rattle.base.specs.Checks.{refusal, passes, refused, checked}
use Rattle.base.proofs.Members.{in_map, map_in}
use Rattle.base.proofs.Lists.{every_in}
use Rattle.committee.specs.Committee.{Committee, broken}
use Rattle.record_spec.specs.Reference.{TransactionLocator}
use Rattle.record_spec.specs.Block.{Block}
use Rattle.record_spec.specs.Record.{block_of}
use Rattle.store_spec.specs.Layout.{Record}
use Rattle.store_spec.specs.Store.{records_of}
use Rattle.store_spec.specs.Shares.{StoredShare}
use Rattle.store_spec.proofs.Store.{in_order_lem, records_of_right, right_block}
use Rattle.final_spec.specs.Ancestry.{Final}
use Rattle.final_spec.specs.Voters.{is_final}
use Rattle.final_spec.specs.Finality.{blocks_of, certifying_positions, finality_checks, finality}
use Rattle.final_spec.specs.Claims.{FinalMeant}
use Rattle.final_spec.specs.NextFinal.{next_final, FinalList, final_list}
use Rattle.final_spec.proofs.Claimed.{final_meant}
use Rattle.final_spec.proofs.FinalList.{final_list_ascending, final_list_in, final_list_order}
use Rattle.final_spec.proofs.Asked.{in_order_stored, asked_on, asked_once}
use Rattle.list_ordinary_spec.specs.FinalShares.{next_final_share, FinalShareList, final_shares}
use Rattle.list_ordinary_spec.proofs.Asked.{shares_asked}
use Rattle.list_ordinary_spec.proofs.Lists.{exactly_finals, same_shares_lem}
use Rattle.list_ordinary_spec.proofs.Orders.{ascending_pairwise}
use Rattle.mission_theorems.specs.Feeds.{Engine, fresh, Accepted, stored_blocks, stored_records}
use Rattle.mission_theorems.specs.ThirdStatement.{AnsweredFinal, GivesFinal, GivesFinalShares, Start, engine_of, accepted_of, SameRecords}
use Rattle.mission_theorems.proofs.Storing.{as_record, StoreOf, fresh_holds, run_holds}

-- ---- what a store that holds the accepted records answers

blocks_in : (as' : List Accepted) → map (λ (r : Record). r.block) (map as_record as') ≡ map (λ (a : Accepted). a.block) as'
blocks_in [] = refl
blocks_in (a ∷ as') = ap {B = List Block} (λ bs. a.block ∷ bs) (blocks_in as')

pub blocks_are : (c : Committee) (s : Bytes) (as' : List Accepted) → StoreOf c s as' → blocks_of s ≡ stored_blocks as'
unfolding blocks_of stored_blocks
blocks_are c s as' h = ap (λ (rs : List Record). map (λ (r : Record). r.block) rs) h.records ∙ blocks_in as'

final_exactly : (c : Committee) (s : Bytes) (as' : List Accepted) → broken c ≡ false → StoreOf c s as' → (l : TransactionLocator) →
    (is_final c (blocks_of s) l ≡ true) ↔ Final c (stored_blocks as') l
unfolding FinalMeant blocks_of
final_exactly c s as' b h l =
    subst (λ (bs : List Block). (is_final c (blocks_of s) l ≡ true) ↔ Final c bs l) (blocks_are c s as' h)
    (final_meant c (blocks_of s) (record { sound = b; records = records_of s; accepted = (in_order_lem c s h.order).accepted; blocks = refl }) l)

as_many : (c : Committee) (s : Bytes) (as' : List Accepted) → StoreOf c s as' → length (records_of s) ≡ length as'
as_many c s as' h = ap (λ (rs : List Record). length rs) h.records ∙ length-map as' as_record

-- "A locator is answered final exactly when ..": only 40 can refuse
answered_final : (c : Committee) (g : Engine) (as' : List Accepted) → broken c ≡ false → StoreOf c g.store as' → (l : TransactionLocator) (ps : List ℕ)
    → length as' ≤ length ps → AnsweredFinal c g (stored_blocks as') l ps
unfolding finality finality_checks checked passes refusal all_of
answered_final c g as' b h l ps k =
    record {
      final = is_final c (blocks_of g.store) l;
      certifying = length (certifying_positions c g.store l);
      answer = rw (b, h.order, le-ltb (length ps) (length (records_of g.store)) (omega (arith, as_many c g.store as' h)));
      exactly = final_exactly c g.store as' b h l;
    }

-- 01: "Only 40 can then refuse the finality question"
short_refused : (c : Committee) (g : Engine) (as' : List Accepted) → broken c ≡ false → StoreOf c g.store as' → (l : TransactionLocator) (ps : List ℕ)
    → length ps < length as' → (finality c g.store ps l).answer ≡ refused 40
unfolding finality finality_checks checked passes refusal all_of
short_refused c g as' b h l ps k = rw (b, h.order, lt-ltb (length ps) (length (records_of g.store)) (omega (arith, as_many c g.store as' h)))

-- "the final list gives exactly these, ascending"
gives_final : (c : Committee) (g : Engine) (as' : List Accepted) → broken c ≡ false → StoreOf c g.store as' → GivesFinal c g (stored_blocks as')
gives_final c g as' b h =
    let bs : List Block = blocks_of g.store in
    record {
      list = final_list c bs;
      given = asked_on c g.store b h.order;
      exactly = λ l.
          let e = final_list_in c bs l in
          let f = final_exactly c g.store as' b h l in
          (λ m. f.0 (e.0 m), λ q. e.1 (f.1 q));
      ascending = ascending_pairwise (final_list_ascending c bs);
    }

-- 02: "the ordinary list adds being a stored share"
gives_final_share : (c : Committee) (g : Engine) (as' : List Accepted) → broken c ≡ false → StoreOf c g.store as' → GivesFinalShares c g (stored_blocks as')
gives_final_share c g as' b h =
    let bs : List Block = blocks_of g.store in
    let x = exactly_finals c (in_order_stored c g.store h.order) in
    record {
      shares = final_shares c bs;
      given = shares_asked c g.store b h.order;
      exactly = λ l. subst (λ (ds : List Block). (l ∈ final_shares c bs) ↔ (StoredShare ds l × Final c ds l)) (blocks_are c g.store as' h) (x.exactly l);
      ascending = x.ascending;
    }

-- ---- the same records have the same blocks

block_carried : (c d : Committee) (s t : Bytes) (xs ys : List Accepted) → StoreOf c s xs → StoreOf d t ys
    → ((r : Bytes) → r ∈ stored_records xs → r ∈ stored_records ys) → (b : Block) → b ∈ blocks_of s → b ∈ blocks_of t
unfolding blocks_of stored_records
block_carried c d s t xs ys h k f b m =
    let y = map_in (λ (r : Record). r.block) (records_of s) m in
    let r : Record = y.0 in
    let x = map_in as_record xs (subst (λ (rs : List Record). r ∈ rs) h.records y.1) in
    let p : r.bytes ∈ map (λ (a : Accepted). a.bytes) xs =
    subst (λ (z : Bytes). z ∈ map (λ (a : Accepted). a.bytes) xs) (ap (λ (z : Record). z.bytes) x.2) (in_map (λ (a : Accepted). a.bytes) x.1) in
    let z = map_in (λ (a : Accepted). a.bytes) ys (f r.bytes p) in
    let q : Record = as_record z.0 in
    let there_too : q ∈ records_of t = subst (λ (rs : List Record). q ∈ rs) (sym k.records) (in_map as_record z.1) in
    let one_block : q.block ≡ r.block =
    some-injective _ _
    (sym (right_block q (every_in (records_of t) q (records_of_right t) there_too)) ∙ ap block_of z.2 ∙ right_block r
    (every_in (records_of s) r (records_of_right s) y.1)) in
    subst (λ (e : Block). e ∈ map (λ (w : Record). w.block) (records_of t)) (one_block ∙ y.2) (in_map (λ (w : Record). w.block) there_too)

-- ---- the parts of the third statement

pub store_of : (c : Committee) (t : Start) → StoreOf c (engine_of c t).store (accepted_of c t)
unfolding engine_of accepted_of fresh
store_of c t = run_holds c (fresh t.past t.words) t.feeds (fresh_holds c t.past t.allowed)

pub answers_final : (c : Committee) → broken c ≡ false → (t : Start) (l : TransactionLocator) (ps : List ℕ) → length (accepted_of c t) ≤ length ps
    → AnsweredFinal c (engine_of c t) (stored_blocks (accepted_of c t)) l ps
answers_final c b t = answered_final c (engine_of c t) (accepted_of c t) b (store_of c t)

pub answers_40 : (c : Committee) → broken c ≡ false → (t : Start) (l : TransactionLocator) (ps : List ℕ) → length ps < length (accepted_of c t)
    → (finality c (engine_of c t).store ps l).answer ≡ refused 40
answers_40 c b t = short_refused c (engine_of c t) (accepted_of c t) b (store_of c t)

pub gives_finals : (c : Committee) → broken c ≡ false → (t : Start) → GivesFinal c (engine_of c t) (stored_blocks (accepted_of c t))
gives_finals c b t = gives_final c (engine_of c t) (accepted_of c t) b (store_of c t)

pub gives_final_shares : (c : Committee) → broken c ≡ false → (t : Start) → GivesFinalShares c (engine_of c t) (stored_blocks (accepted_of c t))
gives_final_shares c b t = gives_final_share c (engine_of c t) (accepted_of c t) b (store_of c t)

pub same_blocks : (c : Committee) (t u : Start) → SameRecords c t u → (e : Block) → (e ∈ blocks_of (engine_of c t).store)
    ↔ (e ∈ blocks_of (engine_of c u).store)
same_blocks c t u f e =
    let h = store_of c t in
    let k = store_of c u in
    let s : Bytes = (engine_of c t).store in
    let r : Bytes = (engine_of c u).store in (
      block_carried c c s r (accepted_of c t) (accepted_of c u) h k (λ z. (f z).0) e,
      block_carried c c r s (accepted_of c u) (accepted_of c t) k h
          (λ z. (f z).1) e,
    )

pub same_list_lem : (c : Committee) → broken c ≡ false → (t u : Start) → SameRecords c t u → (ls ms : List TransactionLocator)
    → FinalList c (engine_of c t).store ls → FinalList c (engine_of c u).store ms → ls ≡ ms
same_list_lem c b t u f ls ms x y =
    let h = store_of c t in
    let k = store_of c u in
    let s : Bytes = (engine_of c t).store in
    let r : Bytes = (engine_of c u).store in
    asked_once (next_final c s) x (asked_on c s b h.order)
    ∙ final_list_order c (in_order_stored c s h.order) (in_order_stored c r k.order) (same_blocks c t u f)
    ∙ asked_once (next_final c r) (asked_on c r b k.order) y

pub same_share_list : (c : Committee) → broken c ≡ false → (t u : Start) → SameRecords c t u → (ls ms : List TransactionLocator)
    → FinalShareList c (engine_of c t).store ls → FinalShareList c (engine_of c u).store ms → ls ≡ ms
same_share_list c b t u f ls ms x y =
    let h = store_of c t in
    let k = store_of c u in
    let s : Bytes = (engine_of c t).store in
    let r : Bytes = (engine_of c u).store in
    asked_once (next_final_share c s) x (shares_asked c s b h.order)
    ∙ (same_shares_lem c (in_order_stored c s h.order) (in_order_stored c r k.order) (same_blocks c t u f)).final
    ∙ asked_once (next_final_share c r) (shares_asked c r b k.order) y
