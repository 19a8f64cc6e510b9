-- The statements, from those without the index. Assumes nothing.
use mathlib.Core.Path.{◌≡◌, refl, sym, ap, subst, ◌∙◌}
use mathlib.Core.Bool.{Bool, true, false}
use mathlib.Core.List.{List, [], ◌∷◌, ◌++◌, map}
use Prim.Native.Nat.{ℕ}
use Rattle.base.specs.Lists.{◌∈◌}
use Rattle.base.proofs.Orders.{same_refl, same_true}
use Rattle.committee.specs.Committee.{Committee, broken}
use Rattle.record_spec.specs.Reference.{TransactionLocator}
use Rattle.store_spec.specs.Layout.{Record}
use Rattle.store_spec.specs.Store.{store_in_order}
use Rattle.final_spec.specs.Finality.{blocks_of}
use Rattle.final_spec.specs.NextFinal.{FinalList}
use Rattle.index_spec.specs.Index.{indexed, body_words, used_words, index_words, index_of, fresh_index, used_part, index_agrees}
use Rattle.final_readings_spec.specs.Readings.{Reading}
use Rattle.mission_theorems.specs.Feeds.{Feed, Engine, fresh, run, Accepted, stored_records}
use Rattle.mission_theorems.specs.ThirdStatement.{Holds, engine_of, accepted_of, SameRecords}
use Rattle.mission_theorems.proofs.Storing.{fresh_holds}
use Rattle.mission_theorems.proofs.ThirdStatement.{third_statement}
use Rattle.trust_theorems.specs.Staying.{StillFinal}
use Rattle.trust_theorems.proofs.Staying.{stays_final}
use Rattle.list_ordinary_spec.specs.FinalShares.{FinalShareList}
use Rattle.index_list_spec.specs.Claims.{SameLists}
use Rattle.index_list_spec.proofs.Claimed.{claimed}
use Rattle.index_theorems.specs.Indexed.{IndexedEngine, run_indexed, IndexedStart, fresh_indexed, engine_indexed, accepted_indexed_of, but55, without55}
use Rattle.index_theorems.specs.Statement.{IndexStatement, SameStored, IndexedThird, IndexedStays}
use Rattle.index_theorems.proofs.Reduced.{Agreeing, same_outcome, run_agreeing, run_reduced, taken_reduced, run_unmoved}

fresh_index_lem : (past : List ℕ) → index_agrees [] (fresh_index ++ past) ≡ true
unfolding index_agrees used_part fresh_index index_words used_words body_words indexed
fresh_index_lem past = same_refl (1 ∷ [])

fresh_agreeing : (c : Committee) (t : IndexedStart) → Agreeing c (fresh_indexed t)
unfolding fresh_indexed fresh blocks_of
fresh_agreeing c t =
    let h = fresh_holds c t.start.past t.start.allowed in
    record {
      order = h.order;
      agrees = ap (λ (rs : List Record). index_agrees (map (λ r. r.block) rs) (fresh_index ++ t.past)) h.records ∙ fresh_index_lem t.past;
    }

after : (c : Committee) (t : IndexedStart) → Agreeing c (engine_indexed c t)
unfolding engine_indexed
after c t = run_agreeing c (fresh_indexed t) (fresh_agreeing c t) t.start.feeds

same_engine : (c : Committee) (t : IndexedStart) → (engine_indexed c t).engine ≡ engine_of c (without55 c t)
unfolding engine_indexed engine_of without55 fresh_indexed
same_engine c t = unfold fresh_indexed in run_reduced c (fresh_indexed t) (fresh_agreeing c t) t.start.feeds

same_accepted : (c : Committee) (t : IndexedStart) → accepted_indexed_of c t ≡ accepted_of c (without55 c t)
unfolding accepted_indexed_of accepted_of without55 fresh_indexed
same_accepted c t = unfold fresh_indexed in taken_reduced c (fresh_indexed t) (fresh_agreeing c t) t.start.feeds

worked_afresh : (c : Committee) (g : IndexedEngine) → Agreeing c g → used_part g.index ≡ index_of g.engine.store
unfolding index_of
worked_afresh c g h = same_true (used_part g.index) (index_words (blocks_of g.engine.store)) (unfold index_agrees in h.agrees)

pub index_statement : IndexStatement
unfolding SameLists
index_statement =
    record {
      afresh = λ c t. worked_afresh c (engine_indexed c t) (after c t);
      alike = λ c t f n. same_outcome c (engine_indexed c t) (after c t) f n;
      engine = same_engine;
      accepted = same_accepted;
      lists = λ c t k out o. claimed.same c (engine_indexed c t).engine.store (engine_indexed c t).index k out o (after c t).agrees;
    }

every : (c : Committee) → broken c ≡ false → (t : IndexedStart) → Holds c (engine_indexed c t).engine (accepted_indexed_of c t)
every c b t =
    subst (λ (g : Engine). Holds c g (accepted_indexed_of c t)) (sym (same_engine c t))
    (subst (λ (as' : List Accepted). Holds c (engine_of c (without55 c t)) as') (sym (same_accepted c t)) (third_statement.every c b (without55 c t)))

-- the same records stored, without the feeds that 55 refused
stored_alike : (c : Committee) (t u : IndexedStart) → SameStored c t u → SameRecords c (without55 c t) (without55 c u)
stored_alike c t u s r = (to t u (s r).0, to u t (s r).1)
  where
    to : (v w : IndexedStart) → (r ∈ stored_records (accepted_indexed_of c v) → r ∈ stored_records (accepted_indexed_of c w))
        → r ∈ stored_records (accepted_of c (without55 c v)) → r ∈ stored_records (accepted_of c (without55 c w))
    to v w f m =
        subst (λ (as' : List Accepted). r ∈ stored_records as') (same_accepted c w)
        (f (subst (λ (as' : List Accepted). r ∈ stored_records as') (sym (same_accepted c v)) m))

same_list_lem : (c : Committee) → broken c ≡ false → (t u : IndexedStart) → SameStored c t u → (ls ms : List TransactionLocator)
    → FinalList c (engine_indexed c t).engine.store ls → FinalList c (engine_indexed c u).engine.store ms → ls ≡ ms
same_list_lem c b t u s ls ms x y =
    third_statement.same_list c b (without55 c t) (without55 c u) (stored_alike c t u s) ls ms
    (subst (λ (g : Engine). FinalList c g.store ls) (same_engine c t) x)
    (subst (λ (g : Engine). FinalList c g.store ms) (same_engine c u) y)

same_shares_lem : (c : Committee) → broken c ≡ false → (t u : IndexedStart) → SameStored c t u → (ls ms : List TransactionLocator)
    → FinalShareList c (engine_indexed c t).engine.store ls → FinalShareList c (engine_indexed c u).engine.store ms → ls ≡ ms
same_shares_lem c b t u s ls ms x y =
    third_statement.same_shares c b (without55 c t) (without55 c u) (stored_alike c t u s) ls ms
    (subst (λ (g : Engine). FinalShareList c g.store ls) (same_engine c t) x)
    (subst (λ (g : Engine). FinalShareList c g.store ms) (same_engine c u) y)

pub third_indexed : IndexedThird
third_indexed = record { every = every; same_list = same_list_lem; same_shares = same_shares_lem }

-- from any store in order: an index that disagrees has every feed refused
further : (reading : Reading) (c : Committee) → broken c ≡ false → (g : IndexedEngine) → store_in_order c g.engine.store ≡ true → (fs : List Feed)
    → StillFinal reading c g.engine.store (run_indexed c g fs).engine.store
further reading c b g h fs = split (index_agrees (blocks_of g.engine.store) g.index) refl
  where
    split : (t : Bool) → index_agrees (blocks_of g.engine.store) g.index ≡ t → StillFinal reading c g.engine.store (run_indexed c g fs).engine.store
    split true e =
        subst (λ (d : Engine). StillFinal reading c g.engine.store d.store) (sym (run_reduced c g (record { order = h; agrees = e }) fs))
        (stays_final.further reading c b g.engine h (but55 c g fs))
    split false e =
        subst (λ (d : IndexedEngine). StillFinal reading c g.engine.store d.engine.store) (sym (run_unmoved c g e fs))
        (unfold run in stays_final.further reading c b g.engine h [])

pub stays_indexed : IndexedStays
stays_indexed =
    record { further = further; fed = λ reading c b t fs. further reading c b (engine_indexed c t) (after c t).order fs }
