-- A store that is fed holds what it held and later records. Assumes nothing.
use mathlib.Core.Path.{◌≡◌, refl, sym, ap, ◌∙◌}
use mathlib.Core.Bool.{true}
use mathlib.Core.List.{List, [], ◌∷◌, ◌++◌, append_assoc}
use mathlib.Core.Option.{some}
use Rattle.base.specs.Le.{Bytes}
use Rattle.base.specs.Checks.{passes}
use Rattle.committee.specs.Committee.{Committee}
use Rattle.store_spec.specs.Layout.{Record, read_record}
use Rattle.store_spec.specs.Store.{records_of, store_in_order}
use Rattle.store_spec.proofs.Store.{read_record_some, Holding, accepting}
use Rattle.feed_spec.specs.Feed.{Lent, feed_checks, refused_feed, accepted_feed, feed}
use Rattle.feed_spec.proofs.Keeping.{Passed, passed}
use Rattle.mission_theorems.specs.Feeds.{Feed, Engine, outcome, left, run}
use Rattle.mission_theorems.proofs.Feeds.{feed_cases}

-- a store in order that holds what another held, and later records
pub record Grown (c : Committee) (s t : Bytes) : Type 0 where
  pub order : store_in_order c t ≡ true
  pub later : List Record
  pub records : records_of t ≡ later ++ records_of s

feed_grows : (c : Committee) (m : Lent) (bytes : Bytes) → store_in_order c m.store ≡ true → Grown c m.store (feed c m bytes).store
unfolding refused_feed accepted_feed
feed_grows c m bytes h = feed_cases c m bytes (λ o as'. Grown c m.store o.store) (λ n. record { order = h; later = []; records = refl }) held
  where
    held : (r : Record) → read_record bytes ≡ some r → passes (feed_checks c m (some r)) ≡ true → Grown c m.store (accepted_feed c m r).store
    held r e p =
        let a : Passed c m r = passed c m r p in
        let k : Holding c (r ∷ records_of m.store) m.store = accepting c m.store r h (read_record_some bytes r e) a.block a.stored in
        record { order = k.order; later = r ∷ []; records = k.records }

pub run_grows : (c : Committee) (g : Engine) (fs : List Feed) → store_in_order c g.store ≡ true → Grown c g.store (run c g fs).store
unfolding run outcome left
run_grows c g [] h = record { order = h; later = []; records = refl }
run_grows c g (f ∷ fs) h =
    let k = run_grows c g fs h in
    let n = feed_grows c (record { store = (run c g fs).store; table = (run c g fs).table; work = f.work; events = f.events }) f.bytes k.order in
    record {
      order = n.order;
      later = n.later ++ k.later;
      records = n.records ∙ ap (λ (rs : List Record). n.later ++ rs) k.records ∙ sym (append_assoc n.later k.later (records_of g.store));
    }
