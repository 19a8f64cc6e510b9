-- The work slice: no answer reads it. Assumes nothing.
use mathlib.Core.Path.{◌≡◌, refl, ◌∙◌}
use mathlib.Core.List.{List, [], ◌∷◌}
use Prim.Native.Nat.{ℕ}
use lib.ListN.{length, drop}
use Rattle.base.specs.Le.{Bytes}
use Rattle.committee.specs.Committee.{Committee}
use Rattle.feed_spec.specs.Feed.{lent_of, lent_checks, feed}
use Rattle.host_feed_bytes.proofs.Feeds.{work_free}
use Rattle.feed_frames.specs.Frames.{records_in}
use Rattle.feed_many.specs.Records.{words_told, feed_all, records_checks, refused_call, feed_records}

all_work : (c : Committee) (s : Bytes) (t w u v : List ℕ) (rs : List Bytes) → length w ≡ length u → feed_all c (lent_of s t w v) rs
    ≡ feed_all c (lent_of s t u v)
    rs
unfolding feed_all
all_work c s t w u v [] e = refl
all_work c s t w u v (r ∷ rs) e =
    let f = feed c (lent_of s t u v) r in
    rw (work_free c s t w u v r e, all_work c f.store f.table w u (drop (words_told f.answer) f.events) rs e)

pub call_work : (c : Committee) (s : Bytes) (t w u v o : List ℕ) (recs : Bytes) → length w ≡ length u
    → feed_records c (lent_of s t w v) o recs ≡ feed_records c (lent_of s t u v) o recs
unfolding feed_records records_checks lent_checks refused_call
call_work c s t w u v o recs e = rw (e, all_work c s t w u v (records_in recs) e)
