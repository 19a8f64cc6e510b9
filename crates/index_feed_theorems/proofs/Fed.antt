-- The statement, by induction over the records of the call. Assumes nothing.
use mathlib.Core.Path.{◌≡◌, refl, sym, ◌∙◌}
use mathlib.Core.Bool.{false}
use mathlib.Core.List.{List, [], ◌∷◌, ◌++◌, map, reverse, reverse_aux, reverse_aux-eq}
use Prim.Native.Nat.{ℕ}
use lib.ListN.{drop}
use Rattle.base.specs.Le.{Bytes}
use Rattle.committee.specs.Committee.{Committee, broken}
use Rattle.feed_spec.specs.Feed.{Lent, lent_of}
use Rattle.index_feed_spec.specs.IndexedFeed.{IndexedFed, feed_indexed}
use Rattle.index_spec.specs.Index.{index_of, used_part}
use Rattle.feed_many.specs.Records.{words_told}
use Rattle.index_feed_many.specs.Records.{feed_all_indexed}
use Rattle.mission_theorems.specs.Feeds.{Feed, left}
use Rattle.mission_theorems.specs.ThirdStatement.{Holds}
use Rattle.index_theorems.specs.Indexed.{IndexedEngine, outcome_indexed, left_indexed, run_indexed, IndexedStart, fresh_indexed, engine_indexed}
use Rattle.index_theorems.specs.Indexed.{accepted_indexed_of}
use Rattle.index_theorems.proofs.Stated.{index_statement, third_indexed}
use Rattle.index_feed_theorems.specs.Fed.{feeds_of, lent_by, fed_on, engine_fed}

-- what stands in lent memory, with the index
abbrev held : Lent → List ℕ → IndexedEngine
held m ix = record { engine = record { store = m.store; table = m.table }; index = ix }

run_all : (c : Committee) (g : IndexedEngine) (m : Lent) (ix : List ℕ) (rs : List Bytes) (earlier : List Feed) → run_indexed c g earlier ≡ held m ix
    → run_indexed c g (feeds_of c m ix rs earlier)
    ≡ record {
      engine = record { store = (feed_all_indexed c m ix rs).store; table = (feed_all_indexed c m ix rs).table };
      index =
          (feed_all_indexed c m ix rs).index;
    }
unfolding feeds_of feed_all_indexed
run_all c g m ix [] earlier e = e
run_all c g m ix (r ∷ rs) earlier e =
    let f : IndexedFed = feed_indexed c m ix r in
    run_all c g (lent_of f.fed.store f.fed.table m.work (drop (words_told f.fed.answer) f.fed.events)) f.index rs
    (record { bytes = r; work = m.work; events = m.events } ∷ earlier)
    (unfold run_indexed outcome_indexed left_indexed left in rw e)

pub same_engine : (c : Committee) (t : IndexedStart) (w v : List ℕ) (rs : List Bytes) → engine_fed c t w v rs ≡ engine_indexed c (fed_on c t w v rs)
unfolding engine_fed engine_indexed fed_on lent_by fresh_indexed
same_engine c t w v rs = sym (run_all c _ _ _ rs t.start.feeds refl)

fed_bytes : (c : Committee) (m : Lent) (ix : List ℕ) (rs : List Bytes) (earlier : List Feed)
    → map (λ f. f.bytes) (feeds_of c m ix rs earlier) ≡ reverse_aux rs (map (λ f. f.bytes) earlier)
unfolding feeds_of
fed_bytes c m ix [] earlier = refl
fed_bytes c m ix (r ∷ rs) earlier =
    let f : IndexedFed = feed_indexed c m ix r in
    fed_bytes c (lent_of f.fed.store f.fed.table m.work (drop (words_told f.fed.answer) f.fed.events)) f.index rs
    (record { bytes = r; work = m.work; events = m.events } ∷ earlier)

pub same_records : (c : Committee) (t : IndexedStart) (w v : List ℕ) (rs : List Bytes)
    → map (λ f. f.bytes) (fed_on c t w v rs).start.feeds ≡ reverse rs ++ map (λ f. f.bytes) t.start.feeds
unfolding fed_on
same_records c t w v rs = fed_bytes c _ _ rs t.start.feeds ∙ reverse_aux-eq rs (map (λ f. f.bytes) t.start.feeds)

pub it_holds : (c : Committee) → broken c ≡ false → (t : IndexedStart) (w v : List ℕ) (rs : List Bytes)
    → Holds c (engine_fed c t w v rs).engine (accepted_indexed_of c (fed_on c t w v rs))
it_holds c h t w v rs = rw (same_engine c t w v rs) (third_indexed.every c h (fed_on c t w v rs))

pub index_afresh : (c : Committee) (t : IndexedStart) (w v : List ℕ) (rs : List Bytes)
    → used_part (engine_fed c t w v rs).index ≡ index_of (engine_fed c t w v rs).engine.store
index_afresh c t w v rs = rw (same_engine c t w v rs) (index_statement.afresh c (fed_on c t w v rs))
