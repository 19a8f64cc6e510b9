-- Feeds one after the other, from the start of `listing`. Assumes nothing.
use Prim.Native.Nat.{ℕ, ◌≤◌}
use mathlib.Core.Path.{◌≡◌, refl, ap, ◌∙◌}
use mathlib.Core.List.{List, [], ◌∷◌, ◌++◌}
use native.Mathlib.Omega.{arith}
use lib.ListN.{replicate, length-append, length-replicate}
use Rattle.base.specs.Le.{Bytes}
use Rattle.committee.specs.Committee.{Committee}
use Rattle.store_spec.specs.Layout.{layout, used_by}
use Rattle.store_spec.specs.Claims.{FreshInOrder}
use Rattle.store_spec.proofs.Store.{length_layout}
use Rattle.store_spec.proofs.Claimed.{fresh_in_order}
use Rattle.pending_spec.specs.Table.{HoldsItems}
use Rattle.feed_spec.specs.Feed.{feed, lent_of}
use Rattle.feed_spec.proofs.Keeping.{State, feed_keeps, fresh_table}
use Rattle.feed_counted_vote.proofs.Votes.{order_holds}
use Rattle.mission_theorems.specs.Feeds.{Feed, Engine, fresh, outcome, left, run}
use Rattle.listing_feed_steps.specs.Feeds.{engine, FedFrom, start}

-- nothing was fed
pub fed_none : (c : Committee) (s : Bytes) (t : List ℕ) → FedFrom c (engine s t) s t
unfolding run
fed_none c s t = record { feeds = []; leaves = refl }

-- one feed
pub fed_one : {c : Committee} {s s' : Bytes} {t t' : List ℕ} (w v : List ℕ) (rec : Bytes)
    → s' ≡ (feed c (lent_of s t w v) rec).store → t' ≡ (feed c (lent_of s t w v) rec).table → FedFrom c (engine s t) s' t'
unfolding run outcome left
fed_one w v rec d e = record { feeds = record { bytes = rec; work = w; events = v } ∷ []; leaves = rw (d, e) }

run_on : (c : Committee) (g : Engine) (more fs : List Feed) → run c g (more ++ fs) ≡ run c (run c g fs) more
unfolding run
run_on c g [] fs = refl
run_on c g (f ∷ more) fs = ap (λ (h : Engine). left (outcome c h f)) (run_on c g more fs)

-- feeds after feeds
pub fed_on : {c : Committee} {g : Engine} {s s' : Bytes} {t t' : List ℕ} → FedFrom c g s t → FedFrom c (engine s t) s' t' → FedFrom c g s' t'
fed_on {c} {g} a b =
    record {
      feeds = b.feeds ++ a.feeds;
      leaves = run_on c g b.feeds a.feeds ∙ rw a.leaves b.leaves;
    }

-- feeds from a fresh store and a table of zeros are feeds from the start
pub fed_start : {c : Committee} {s s' : Bytes} {t t' : List ℕ} (n m : ℕ)
    → s ≡ layout [] ++ replicate n 0 → t ≡ replicate m 0 → FedFrom c (engine s t) s' t' → FedFrom c (fresh (replicate n 0) m) s' t'
unfolding fresh
fed_start n m d e a = rw (← d, ← e) a

-- ---- in order

run_state : (c : Committee) (g : Engine) (fs : List Feed) → State c g.store g.table → State c (run c g fs).store (run c g fs).table
unfolding run outcome left
run_state c g [] a = a
run_state c g (f ∷ fs) a =
    (feed_keeps c (lent_of (run c g fs).store (run c g fs).table f.work f.events) f.bytes (run_state c g fs a)).state

pub fresh_state : (c : Committee) (n m : ℕ) → n ≤ 4294967279 → 1 ≤ m → State c (fresh (replicate n 0) m).store (fresh (replicate n 0) m).table
unfolding fresh FreshInOrder used_by
fresh_state c n m h k =
    record {
      store = fresh_in_order c (replicate n 0) (rw (length-append (layout []) (replicate n 0), length_layout [], length-replicate {A = ℕ} n 0) (omega arith));
      table = fresh_table c _ m k;
    }

-- the table stays in order, so it holds items
pub fed_holds : {c : Committee} {s : Bytes} {t : List ℕ} → FedFrom c start s t → HoldsItems t
unfolding start
fed_holds {c} {s} {t} a =
    let state : State c (run c start a.feeds).store (run c start a.feeds).table = run_state c start a.feeds
    (fresh_state c 65520 6145 (omega arith) (omega arith)) in
    let ended : State c s t = rw a.leaves at state in
    order_holds c _ t ended.table
