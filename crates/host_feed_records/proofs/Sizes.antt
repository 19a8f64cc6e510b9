-- Feeding many records of a host: the table's size and the work slice. Assumes nothing.
use mathlib.Core.Path.{◌≡◌, sym, ap, ◌∙◌}
use mathlib.Core.List.{List}
use Prim.Native.Nat.{ℕ}
use lib.ListN.{length}
use borrow.Author.Tests.{eq-eqb, ne_eqb}
use Rattle.base.specs.Le.{Bytes}
use Rattle.committee.specs.Committee.{Committee}
use Rattle.words.specs.Words.{words_in, words_of}
use Rattle.feed_spec.specs.Feed.{lent_of}
use Rattle.feed_many.specs.Records.{feed_records}
use Rattle.feed_many.proofs.Work.{call_work}
use Rattle.host_locators.specs.Locators.{refusal_before}
use Rattle.host_feed_records.specs.FeedRecords.{refused_host, told_host, records_with, feed_records_of}

module _ (c : Committee) (s t : Bytes) (v o : List ℕ) (recs : Bytes) where
  pub host_unsized : (length t ≡ 49160 → ⊥) → feed_records_of c s t v o recs ≡ refused_host s t v o (refusal_before 11 c s)
  unfolding feed_records_of
  host_unsized h = rw (ne_eqb (length t) 49160 h)

  pub host_sized : length t ≡ 49160 → feed_records_of c s t v o recs ≡ told_host (records_with c s (words_in 6145 t) v o recs)
  unfolding feed_records_of words_of
  host_sized h = rw (eq-eqb (length t) 49160 h, h)

  -- with any work slice of the table's length
  pub host_fed : (ws w : List ℕ) → length t ≡ 49160 → ws ≡ words_in 6145 t → length w ≡ length ws
      → feed_records_of c s t v o recs ≡ told_host (feed_records c (lent_of s ws w v) o recs)
  unfolding records_with
  host_fed ws w h e k = host_sized h ∙ rw (← e) (ap told_host (sym (call_work c s ws w ws v o recs k)))
