-- The work slice: no answer of the call reads it. Assumes nothing.
use mathlib.Core.Path.{◌≡◌, refl}
use mathlib.Core.List.{List, [], ◌∷◌}
use Prim.Native.Nat.{ℕ}
use lib.ListN.{length, drop}
use Rattle.base.specs.Le.{Bytes}
use Rattle.committee.specs.Committee.{Committee}
use Rattle.feed_spec.specs.Feed.{lent_of}
use Rattle.feed_frames.specs.Frames.{records_in}
use Rattle.feed_many.specs.Records.{words_told}
use Rattle.index_feed_spec.specs.IndexedFeed.{feed_indexed}
use Rattle.index_feed_many.specs.Records.{feed_all_indexed, indexed_records_checks, refused_indexed_call, feed_records_indexed}
use Rattle.index_feed_many.proofs.Numbers.{work_free}

all_work : (c : Committee) (s : Bytes) (t w u v ix : List ℕ) (rs : List Bytes) → length w ≡ length u
    → feed_all_indexed c (lent_of s t w v) ix rs ≡ feed_all_indexed c (lent_of s t u v) ix rs
unfolding feed_all_indexed
all_work c s t w u v ix [] e = refl
all_work c s t w u v ix (r ∷ rs) e =
    let f = feed_indexed c (lent_of s t u v) ix r in
    rw (work_free c s t w u v ix r e, all_work c f.fed.store f.fed.table w u (drop (words_told f.fed.answer) f.fed.events) f.index rs e)

pub call_work : (c : Committee) (s : Bytes) (t w u v ix o : List ℕ) (recs : Bytes) → length w ≡ length u
    → feed_records_indexed c (lent_of s t w v) ix o recs ≡ feed_records_indexed c (lent_of s t u v) ix o recs
unfolding feed_records_indexed indexed_records_checks refused_indexed_call
call_work c s t w u v ix o recs e = rw (e, all_work c s t w u v ix (records_in recs) e)
