-- The statement, by induction over the records of the call. Assumes nothing.
use mathlib.Core.Path.{◌≡◌, refl, sym, ◌∙◌}
use mathlib.Core.Bool.{false}
use mathlib.Core.List.{List, [], ◌∷◌, ◌++◌, map, reverse, reverse_aux, reverse_aux-eq}
use Prim.Native.Nat.{ℕ}
use lib.ListN.{drop}
use Rattle.base.specs.Le.{Bytes}
use Rattle.committee.specs.Committee.{Committee, broken}
use Rattle.feed_spec.specs.Feed.{Lent, lent_of, feed}
use Rattle.feed_many.specs.Records.{words_told, feed_all}
use Rattle.mission_theorems.specs.Feeds.{Feed, Engine, outcome, left, run}
use Rattle.mission_theorems.specs.ThirdStatement.{Start, engine_of, accepted_of, Holds}
use Rattle.mission_theorems.proofs.ThirdStatement.{third_statement}
use Rattle.feed_many_theorems.specs.Fed.{feeds_of, lent_by, fed_on, engine_fed}

-- what stands in lent memory
abbrev held : Lent → Engine
held m = record { store = m.store; table = m.table }

run_all : (c : Committee) (g : Engine) (m : Lent) (rs : List Bytes) (earlier : List Feed) → run c g earlier ≡ held m
    → run c g (feeds_of c m rs earlier) ≡ record { store = (feed_all c m rs).store; table = (feed_all c m rs).table }
unfolding feeds_of feed_all run
run_all c g m [] earlier e = e
run_all c g m (r ∷ rs) earlier e =
    run_all c g (lent_of (feed c m r).store (feed c m r).table m.work (drop (words_told (feed c m r).answer) (feed c m r).events)) rs
    (record { bytes = r; work = m.work; events = m.events } ∷ earlier)
    (unfold run outcome left in rw e)

pub same_engine : (c : Committee) (t : Start) (w v : List ℕ) (rs : List Bytes) → engine_fed c t w v rs ≡ engine_of c (fed_on c t w v rs)
unfolding engine_fed engine_of fed_on lent_by
same_engine c t w v rs = sym (run_all c _ _ rs t.feeds refl)

fed_bytes : (c : Committee) (m : Lent) (rs : List Bytes) (earlier : List Feed)
    → map (λ f. f.bytes) (feeds_of c m rs earlier) ≡ reverse_aux rs (map (λ f. f.bytes) earlier)
unfolding feeds_of
fed_bytes c m [] earlier = refl
fed_bytes c m (r ∷ rs) earlier =
    fed_bytes c (lent_of (feed c m r).store (feed c m r).table m.work (drop (words_told (feed c m r).answer) (feed c m r).events)) rs
    (record { bytes = r; work = m.work; events = m.events } ∷ earlier)

pub same_records : (c : Committee) (t : Start) (w v : List ℕ) (rs : List Bytes)
    → map (λ f. f.bytes) (fed_on c t w v rs).feeds ≡ reverse rs ++ map (λ f. f.bytes) t.feeds
unfolding fed_on
same_records c t w v rs = fed_bytes c _ rs t.feeds ∙ reverse_aux-eq rs (map (λ f. f.bytes) t.feeds)

pub it_holds : (c : Committee) → broken c ≡ false → (t : Start) (w v : List ℕ) (rs : List Bytes) → Holds c (engine_fed c t w v rs)
    (accepted_of c (fed_on c t w v rs))
it_holds c h t w v rs = rw (same_engine c t w v rs) (third_statement.every c h (fed_on c t w v rs))
