-- 01: "A refusal writes nothing": the bytes that a refused feed was lent are as they were. Assumes nothing.
use mathlib.Core.Path.{◌≡◌, sym, ap, ◌∙◌}
use mathlib.Core.Bool.{Bool, true, false}
use mathlib.Core.List.{List}
use mathlib.Core.Option.{Option, none, some}
use Prim.Native.Nat.{ℕ}
use native.Mathlib.Decide.{ℕ_discrete}
use native.Mathlib.Omega.{arith}
use lib.ListN.{length}
use Rattle.base.specs.Lists.{pick}
use Rattle.base.specs.Le.{Bytes}
use Rattle.base.specs.Checks.{refusal, passes, refused}
use Rattle.base.proofs.Le.{AllBytes}
use Rattle.committee.specs.Committee.{Committee}
use Rattle.store_spec.specs.Layout.{Record, read_record}
use Rattle.words.specs.Words.{words_in, words_of}
use Rattle.words.proofs.Words.{bytes_of_words_in}
use Rattle.feed_spec.specs.Feed.{Lent, lent_of, feed_checks, refused_feed, accepted_feed, feed_record, feed}
use Rattle.host_feed_bytes.specs.Feed.{FeedCall, refused_call, fed_call, fed_with, feed_of}
use Rattle.host_feed_bytes.proofs.Feeds.{feed_unsized, feed_eventless, feed_sized}

-- of the words
words_kept : (c : Committee) (m : Lent) (rec : Bytes) (n : ℕ) → (feed c m rec).answer ≡ refused n → feed c m rec ≡ refused_feed m n
unfolding feed feed_record refused_feed accepted_feed
words_kept c m rec n e = by (read_record rec) e
  where
    by : (o : Option Record) → (feed_record c m o).answer ≡ refused n → feed_record c m o ≡ refused_feed m n
    by none e = let z : refusal (feed_checks c m none) ≡ n = cc in rw z
    by (some r) e = go (passes (feed_checks c m (some r))) e
      where
        go : (t : Bool) → (pick t (accepted_feed c m r) (refused_feed m (refusal (feed_checks c m (some r))))).answer ≡ refused n
            → pick t (accepted_feed c m r) (refused_feed m (refusal (feed_checks c m (some r)))) ≡ refused_feed m n
        go true e = let z : ◌≡◌ {A = ℕ} 0 1 = cc in absurd (omega arith)
        go false e = let z : refusal (feed_checks c m (some r)) ≡ n = cc in rw z

-- of the bytes
module _ (c : Committee) (s t v rec : List ℕ) (n : ℕ) where
  -- a refused call that kept what it was lent
  same_bytes : (k : ℕ) → feed_of c s t v rec ≡ refused_call s t v k → ((feed_of c s t v rec).store ≡ s) ×
      (((feed_of c s t v rec).table ≡ t) × ((feed_of c s t v rec).events ≡ v))
  unfolding refused_call
  same_bytes k e = (ap (λ (x : FeedCall). x.store) e, (ap (λ (x : FeedCall). x.table) e, ap (λ (x : FeedCall). x.events) e))

  sized_kept : AllBytes t → AllBytes v → length t ≡ 49160 → length v ≡ 65536 → (feed_of c s t v rec).answer ≡ refused n → feed_of c s t v rec
      ≡ refused_call s t v n
  unfolding refused_call fed_call fed_with refused_feed words_of
  sized_kept a b h k e =
      let sized = feed_sized c s t v rec h k in
      let m : Lent = lent_of s (words_in 6145 t) (words_in 6145 t) (words_of v) in
      let whole : words_of v ≡ words_in 8192 v = rw k in
      sized ∙ ap fed_call (words_kept c m rec n (sym (ap (λ (x : FeedCall). x.answer) sized) ∙ e)) ∙ rw
      (bytes_of_words_in 6145 t a h, whole, bytes_of_words_in 8192 v b k)

  pub fed_kept : AllBytes t → AllBytes v → (feed_of c s t v rec).answer ≡ refused n
      → ((feed_of c s t v rec).store ≡ s) × (((feed_of c s t v rec).table ≡ t) × ((feed_of c s t v rec).events ≡ v))
  fed_kept a b e = by (ℕ_discrete (length t) 49160) (ℕ_discrete (length v) 65536)
    where
      by : Dec (length t ≡ 49160) → Dec (length v ≡ 65536) → ((feed_of c s t v rec).store ≡ s) ×
          (((feed_of c s t v rec).table ≡ t) × ((feed_of c s t v rec).events ≡ v))
      by (no h) k = same_bytes _ (feed_unsized c s t v rec h)
      by (yes h) (no k) = same_bytes _ (feed_eventless c s t v rec h k)
      by (yes h) (yes k) = same_bytes n (sized_kept a b h k e)
