-- Refused feeds keep each byte. Assumes nothing.
use mathlib.Core.Path.{◌≡◌, sym, ap, ◌∙◌}
use mathlib.Core.Bool.{Bool, true, false}
use mathlib.Core.List.{List}
use mathlib.Core.Option.{Option, none, some}
use Prim.Native.Nat.{ℕ}
use native.Mathlib.Decide.{ℕ_discrete}
use native.Mathlib.Omega.{arith}
use lib.ListN.{length}
use borrow.Author.Tests.{eq-eqb, ne_eqb}
use Rattle.base.specs.Lists.{pick}
use Rattle.base.specs.Le.{Bytes}
use Rattle.base.specs.Checks.{Check, refusal, passes, refused}
use Rattle.base.proofs.Le.{AllBytes}
use Rattle.committee.specs.Committee.{Committee}
use Rattle.record_spec.proofs.Claimed.{bytes_fit}
use Rattle.store_spec.specs.Layout.{Record, read_record}
use Rattle.words.specs.Words.{words_in, words_of, bytes_of}
use Rattle.words.proofs.Words.{bytes_of_words_in}
use Rattle.feed_spec.specs.Feed.{Lent, lent_of, refused_feed, accepted_feed}
use Rattle.index_feed_spec.specs.IndexedFeed.{indexed_checks, refused_indexed, accepted_indexed, feed_indexed_record, feed_indexed}
use Rattle.feed_frames.specs.Frames.{records_in}
use Rattle.feed_many.specs.Records as one
use Rattle.index_feed_many.specs.Records as both
use Rattle.host_calls.specs.Calls.{committee_of}
use Rattle.host_locators.specs.Locators.{refusal_before}
use Rattle.host_feed_indexed.specs.IndexedFeed.{IndexedCall, refused_call, fed_call, fed_with, feed_indexed_of, feed_indexed_call}
use Rattle.host_feed_indexed.proofs.Sizes.{feed_unsized, feed_eventless, feed_sized}
use Rattle.host_feed_records.specs.FeedRecords as plain
use Rattle.host_feed_records_indexed.specs.FeedRecords as indexed
use Rattle.host_refused_theorems.specs.Claims.{FeedKept, RefusedFeed, RefusedRecords, RefusedRecordsIndexed}

-- ---- one record, with the index

-- of the words
words_kept : (c : Committee) (m : Lent) (ix : List ℕ) (rec : Bytes) (n : ℕ) → (feed_indexed c m ix rec).fed.answer ≡ refused n
    → feed_indexed c m ix rec ≡ refused_indexed m ix n
unfolding feed_indexed feed_indexed_record refused_indexed accepted_indexed refused_feed accepted_feed
words_kept c m ix rec n e = by (read_record rec) e
  where
    by : (o : Option Record) → (feed_indexed_record c m ix o).fed.answer ≡ refused n → feed_indexed_record c m ix o ≡ refused_indexed m ix n
    by none e = let z : refusal (indexed_checks c m ix none) ≡ n = cc in rw z
    by (some r) e = go (passes (indexed_checks c m ix (some r))) e
      where
        go : (t : Bool) → (pick t (accepted_indexed c m ix r) (refused_indexed m ix (refusal (indexed_checks c m ix (some r))))).fed.answer ≡ refused n
            → pick t (accepted_indexed c m ix r) (refused_indexed m ix (refusal (indexed_checks c m ix (some r)))) ≡ refused_indexed m ix n
        go true e = let z : ◌≡◌ {A = ℕ} 0 1 = cc in absurd (omega arith)
        go false e = let z : refusal (indexed_checks c m ix (some r)) ≡ n = cc in rw z

-- of the bytes
module _ (c : Committee) (s t : Bytes) (ix : List ℕ) (v rec : Bytes) (n : ℕ) where
  -- a refused call that kept what it was lent
  same_bytes : (k : ℕ) → feed_indexed_of c s t ix v rec ≡ refused_call s t ix v k → FeedKept (feed_indexed_of c s t ix v rec) s t ix v
  unfolding refused_call
  same_bytes k e =
      record {
        store = ap (λ (x : IndexedCall). x.store) e;
        table = ap (λ (x : IndexedCall). x.table) e;
        index = ap (λ (x : IndexedCall). x.index) e;
        events = ap (λ (x : IndexedCall). x.events) e;
      }

  sized_kept : AllBytes t → AllBytes v → length t ≡ 49160 → length v ≡ 65536 → (feed_indexed_of c s t ix v rec).answer ≡ refused n
      → feed_indexed_of c s t ix v rec ≡ refused_call s t ix v n
  unfolding refused_call fed_call fed_with refused_indexed refused_feed words_of
  sized_kept a b h k e =
      let sized = feed_sized c s t ix v rec h k in
      let m : Lent = lent_of s (words_in 6145 t) (words_in 6145 t) (words_of v) in
      let whole : words_of v ≡ words_in 8192 v = rw k in
      sized
      ∙ ap fed_call (words_kept c m ix rec n (sym (ap (λ (x : IndexedCall). x.answer) sized) ∙ e))
      ∙ rw (bytes_of_words_in 6145 t a h, whole, bytes_of_words_in 8192 v b k)

  fed_kept : AllBytes t → AllBytes v → (feed_indexed_of c s t ix v rec).answer ≡ refused n → FeedKept (feed_indexed_of c s t ix v rec) s t ix v
  fed_kept a b e = by (ℕ_discrete (length t) 49160) (ℕ_discrete (length v) 65536)
    where
      by : Dec (length t ≡ 49160) → Dec (length v ≡ 65536) → FeedKept (feed_indexed_of c s t ix v rec) s t ix v
      by (no h) k = same_bytes _ (feed_unsized c s t ix v rec h)
      by (yes h) (no k) = same_bytes _ (feed_eventless c s t ix v rec h k)
      by (yes h) (yes k) = same_bytes n (sized_kept a b h k e)

pub refused_feed_lem : RefusedFeed
unfolding RefusedFeed feed_indexed_call
refused_feed_lem stakes s t ix v rec n a b e = fed_kept (committee_of stakes) s t ix v rec n (bytes_fit t a) (bytes_fit v b) e

-- ---- many records

whole_table : (t : Bytes) → AllBytes t → length t ≡ 49160 → bytes_of (words_of t) ≡ t
unfolding words_of
whole_table t a h = rw h (bytes_of_words_in 6145 t a h)

pub refused_records : RefusedRecords
unfolding RefusedRecords plain.feed_records_call plain.feed_records_of plain.told_host plain.refused_host plain.records_with one.feed_records one.refused_call
    one.fed_call
refused_records stakes s t v o recs n a = by (ℕ_discrete (length t) 49160)
  where
    c : Committee
    c = committee_of stakes

    by : Dec (length t ≡ 49160) → (plain.feed_records_of c s t v o recs).answer ≡ refused n → plain.feed_records_of c s t v o recs
        ≡ plain.refused_host s t v o n
    by (no h) = rw (ne_eqb (length t) 49160 h) λ e. let z : refusal_before 11 c s ≡ n = cc in rw z
    by (yes h) = rw (eq-eqb (length t) 49160 h) (go (passes ks))
      where
        ks : List Check
        ks = one.records_checks c (lent_of s (words_of t) (words_of t) v) o (records_in recs)

        told : Bool → one.RecordsCall
        told x =
            pick x (one.fed_call o (one.feed_all c (lent_of s (words_of t) (words_of t) v) (records_in recs)))
            (one.refused_call (lent_of s (words_of t) (words_of t) v) o (refusal ks))

        go : (x : Bool) → (plain.told_host (told x)).answer ≡ refused n → plain.told_host (told x) ≡ plain.refused_host s t v o n
        go true e = let z : ◌≡◌ {A = ℕ} 0 1 = cc in absurd (omega arith)
        go false e = let z : refusal ks ≡ n = cc in rw (z, whole_table t (bytes_fit t a) h)

pub refused_records_indexed : RefusedRecordsIndexed
unfolding RefusedRecordsIndexed indexed.feed_records_indexed_call indexed.feed_records_indexed_of indexed.told_host indexed.refused_host indexed.records_with
    both.feed_records_indexed both.refused_indexed_call both.fed_indexed_call
refused_records_indexed stakes s t ix v o recs n a = by (ℕ_discrete (length t) 49160)
  where
    c : Committee
    c = committee_of stakes

    by : Dec (length t ≡ 49160) → (indexed.feed_records_indexed_of c s t ix v o recs).answer ≡ refused n
        → indexed.feed_records_indexed_of c s t ix v o recs ≡ indexed.refused_host s t ix v o n
    by (no h) = rw (ne_eqb (length t) 49160 h) λ e. let z : refusal_before 11 c s ≡ n = cc in rw z
    by (yes h) = rw (eq-eqb (length t) 49160 h) (go (passes ks))
      where
        ks : List Check
        ks = both.indexed_records_checks c (lent_of s (words_of t) (words_of t) v) ix o (records_in recs)

        told : Bool → both.IndexedRecordsCall
        told x =
            pick x (both.fed_indexed_call o (both.feed_all_indexed c (lent_of s (words_of t) (words_of t) v) ix (records_in recs)))
            (both.refused_indexed_call (lent_of s (words_of t) (words_of t) v) ix o (refusal ks))

        go : (x : Bool) → (indexed.told_host (told x)).answer ≡ refused n → indexed.told_host (told x) ≡ indexed.refused_host s t ix v o n
        go true e = let z : ◌≡◌ {A = ℕ} 0 1 = cc in absurd (omega arith)
        go false e = let z : refusal ks ≡ n = cc in rw (z, whole_table t (bytes_fit t a) h)
