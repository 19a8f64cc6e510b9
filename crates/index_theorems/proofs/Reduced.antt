-- A list of feeds with the index leaves what the list without it leaves, the feeds that 55 refused left out. Assumes nothing.
use mathlib.Core.Path.{◌≡◌, refl, ap, ◌∙◌}
use mathlib.Core.Bool.{Bool, true, false, not}
use mathlib.Core.List.{List, [], ◌∷◌, ◌++◌}
use mathlib.Core.Option.{Option, none, some}
use Prim.Native.Nat.{ℕ}
use borrow.Author.Tests.{eqb-true}
use Rattle.base.specs.Lists.{pick, all_of}
use Rattle.base.specs.Checks.{Check, ◌⇒◌, passes, Answer, refused, answered}
use Rattle.base.proofs.Tests.{not_both, fails}
use Rattle.base.proofs.Checks.{passes_left, passes_right}
use Rattle.committee.specs.Committee.{Committee}
use Rattle.store_spec.specs.Layout.{Record, read_record}
use Rattle.store_spec.specs.Store.{store_in_order}
use Rattle.feed_spec.specs.Feed.{Lent, Fed, refused_feed}
use Rattle.feed_spec.specs.Pending.{pending_checks}
use Rattle.final_spec.specs.Finality.{blocks_of}
use Rattle.index_spec.specs.Index.{index_agrees}
use Rattle.index_feed_spec.specs.IndexedFeed.{IndexedFed, indexed_lent_checks, indexed_checks, refused_indexed, feed_indexed_record, feed_indexed}
use Rattle.index_feed_spec.specs.Claims.{AsWithout, RefusedLeaves, StaysAgreed}
use Rattle.index_feed_spec.proofs.Claimed.{as_without_lem, refused_leaves, stays_agreed}
use Rattle.mission_theorems.specs.Feeds.{Feed, Engine, outcome, left, run, Accepted, accepted_in, accepted}
use Rattle.trust_theorems.proofs.Growing.{run_grows}
use Rattle.index_theorems.specs.Indexed.{IndexedEngine, outcome_indexed, left_indexed, run_indexed, taken_indexed, is55, but55}

-- a store in order and an index that agrees with it
pub record Agreeing (c : Committee) (g : IndexedEngine) : Type 0 where
  pub order : store_in_order c g.engine.store ≡ true
  pub agrees : index_agrees (blocks_of g.engine.store) g.index ≡ true

was55 : (a : Answer ℕ) → is55 a ≡ true → a ≡ refused 55
unfolding is55
was55 (refused n) h = ap refused (eqb-true n 55 h)
was55 (answered n) h = absurd (not_both h refl)

is_55 : (a : Answer ℕ) → a ≡ refused 55 → is55 a ≡ true
unfolding is55
is_55 a e = ap is55 e

-- ---- one feed

module _ (c : Committee) (g : IndexedEngine) (h : Agreeing c g) (f : Feed) where
  index_stays : index_agrees (blocks_of (left_indexed (outcome_indexed c g f)).engine.store) (left_indexed (outcome_indexed c g f)).index ≡ true
  unfolding outcome_indexed left_indexed left StaysAgreed
  index_stays = stays_agreed c (record { store = g.engine.store; table = g.engine.table; work = f.work; events = f.events }) g.index f.bytes
      h.order h.agrees

  pub same_outcome : ((outcome_indexed c g f).fed.answer ≡ refused 55 → ⊥) → (outcome_indexed c g f).fed ≡ outcome c g.engine f
  unfolding outcome_indexed outcome AsWithout
  same_outcome n = as_without_lem c (record { store = g.engine.store; table = g.engine.table; work = f.work; events = f.events }) g.index f.bytes
      h.agrees n

  left_alone : (outcome_indexed c g f).fed.answer ≡ refused 55 → (left_indexed (outcome_indexed c g f)).engine ≡ g.engine
  unfolding outcome_indexed left_indexed left RefusedLeaves refused_feed
  left_alone e = ap left (refused_leaves c (record { store = g.engine.store; table = g.engine.table; work = f.work; events = f.events }) g.index
      f.bytes 55 e).0

-- ---- a list of feeds

-- what a list leaves
record Reduced (c : Committee) (g : IndexedEngine) (fs : List Feed) : Type 0 where
  engine : (run_indexed c g fs).engine ≡ run c g.engine (but55 c g fs)
  agrees : index_agrees (blocks_of (run_indexed c g fs).engine.store) (run_indexed c g fs).index ≡ true

reduced_agreeing : (c : Committee) (g : IndexedEngine) → Agreeing c g → (fs : List Feed) → Reduced c g fs → Agreeing c (run_indexed c g fs)
reduced_agreeing c g h fs r =
    record {
      order = ap (λ (e : Engine). store_in_order c e.store) r.engine ∙ (run_grows c g.engine (but55 c g fs) h.order).order;
      agrees = r.agrees;
    }

module _ (c : Committee) (g : IndexedEngine) (h : Agreeing c g) where
  reduced : (fs : List Feed) → Reduced c g fs
  unfolding run_indexed run but55
  reduced [] = record { engine = refl; agrees = h.agrees }
  reduced (f ∷ earlier) =
      let ih = reduced earlier in
      let k = reduced_agreeing c g h earlier ih in
      record { engine = go (is55 (outcome_indexed c (run_indexed c g earlier) f).fed.answer) refl ih k; agrees = index_stays c (run_indexed c g earlier) k f }
    where
      go : (t : Bool) → is55 (outcome_indexed c (run_indexed c g earlier) f).fed.answer ≡ t → Reduced c g earlier → Agreeing c (run_indexed c g earlier)
          → (left_indexed (outcome_indexed c (run_indexed c g earlier) f)).engine ≡ run c g.engine (pick t (but55 c g earlier) (f ∷ but55 c g earlier))
      go true e ih k = left_alone c (run_indexed c g earlier) k f (was55 _ e) ∙ ih.engine
      go false e ih k =
          unfold left_indexed in
          (ap left (same_outcome c (run_indexed c g earlier) k f (λ u. not_both (is_55 _ u) e)) ∙ ap (λ (x : Engine). left (outcome c x f)) ih.engine)

  pub run_agreeing : (fs : List Feed) → Agreeing c (run_indexed c g fs)
  run_agreeing fs = reduced_agreeing c g h fs (reduced fs)

  pub run_reduced : (fs : List Feed) → (run_indexed c g fs).engine ≡ run c g.engine (but55 c g fs)
  run_reduced fs = (reduced fs).engine

  pub taken_reduced : (fs : List Feed) → taken_indexed c g fs ≡ accepted c g.engine (but55 c g fs)
  unfolding taken_indexed accepted but55
  taken_reduced [] = refl
  taken_reduced (f ∷ earlier) = go (is55 (outcome_indexed c (run_indexed c g earlier) f).fed.answer) refl (taken_reduced earlier)
    where
      o : IndexedFed
      o = outcome_indexed c (run_indexed c g earlier) f

      none_taken : (r : Option Record) (a : Answer ℕ) (w : List ℕ) → a ≡ refused 55 → accepted_in r a w ≡ []
      none_taken none a w e = unfold accepted_in in refl
      none_taken (some r) a w e = unfold accepted_in in rw e

      go : (t : Bool) → is55 o.fed.answer ≡ t → taken_indexed c g earlier ≡ accepted c g.engine (but55 c g earlier)
          → accepted_in (read_record f.bytes) o.fed.answer o.fed.events ++ taken_indexed c g earlier
          ≡ accepted c g.engine (pick t (but55 c g earlier) (f ∷ but55 c g earlier))
      go true e ih = ap (λ (as' : List Accepted). as' ++ taken_indexed c g earlier)
          (none_taken (read_record f.bytes) o.fed.answer o.fed.events (was55 _ e)) ∙ ih
      go false e ih =
          let same = same_outcome c (run_indexed c g earlier) (run_agreeing earlier) f (λ u. not_both (is_55 _ u) e) ∙ ap (λ (x : Engine). outcome c x f)
          (run_reduced earlier) in
          ap (λ (x : Fed). accepted_in (read_record f.bytes) x.answer x.events ++ taken_indexed c g earlier) same
          ∙ ap (λ (as' : List Accepted). accepted_in (read_record f.bytes) (outcome c (run c g.engine (but55 c g earlier)) f).answer
          (outcome c (run c g.engine (but55 c g earlier)) f).events ++ as') ih

-- ---- an index that disagrees

-- every feed is refused (54, or what comes before it), and leaves all as it was
unmoved : (c : Committee) (g : IndexedEngine) → index_agrees (blocks_of g.engine.store) g.index ≡ false → (f : Feed) → left_indexed (outcome_indexed c g f)
    ≡ g
unfolding outcome_indexed left_indexed left feed_indexed feed_indexed_record refused_indexed refused_feed indexed_checks indexed_lent_checks passes all_of
unmoved c g e f = go (read_record f.bytes)
  where
    m : Lent
    m = record { store = g.engine.store; table = g.engine.table; work = f.work; events = f.events }

    lent : List Check
    lent = (not (index_agrees (blocks_of m.store) g.index) ⇒ 54) ∷ []

    refuses : passes lent ≡ true → ⊥
    refuses p = not_both p (rw e)

    short : (o : Option Record) → passes (indexed_checks c m g.index o) ≡ false
    short o =
        fails (passes (indexed_checks c m g.index o)) (λ p.
        refuses (passes_right (pending_checks c m.store m.table) lent (passes_left (indexed_lent_checks c m.store m.table g.index) _ p)))

    go : (o : Option Record) → left_indexed (feed_indexed_record c m g.index o) ≡ g
    go none = refl
    go (some r) = rw (short (some r))

pub run_unmoved : (c : Committee) (g : IndexedEngine) → index_agrees (blocks_of g.engine.store) g.index ≡ false → (fs : List Feed) → run_indexed c g fs ≡ g
unfolding run_indexed
run_unmoved c g e [] = refl
run_unmoved c g e (f ∷ fs) = ap (λ (d : IndexedEngine). left_indexed (outcome_indexed c d f)) (run_unmoved c g e fs) ∙ unmoved c g e f
