-- Feeding of a host with the index: sizes, the work slice, and how large a refusal number is. Assumes nothing.
use mathlib.Core.Path.{◌≡◌, ◌∙◌}
use mathlib.Core.Bool.{true}
use mathlib.Core.List.{List, [], ◌∷◌, ◌++◌}
use Prim.Native.Nat.{ℕ}
use lib.Dec.{lit<}
use lib.ListN.{length}
use borrow.Author.Tests.{eq-eqb, ne_eqb}
use Rattle.base.specs.Le.{Bytes}
use Rattle.base.specs.Checks.{◌⇒◌, refusal}
use Rattle.base.proofs.Lists.{and}
use Rattle.base.proofs.Refusals.{refusal_first, refusal_then}
use Rattle.committee.specs.Committee.{Committee}
use Rattle.store_spec.specs.Layout.{read_record}
use Rattle.words.specs.Words.{words_in, words_of}
use Rattle.feed_spec.specs.Pending.{pending_checks}
use Rattle.feed_spec.specs.Feed.{lent_of}
use Rattle.index_feed_spec.specs.IndexedFeed.{indexed_lent_checks, feed_indexed}
use Rattle.index_feed_refusals.specs.Refusals.{early_indexed_checks}
use Rattle.host_locators.specs.Locators.{refusal_before}
use Rattle.host_feed_bytes.proofs.Feeds.{Below, numbered, rules_ordinary}
use Rattle.index_feed_many.proofs.Numbers.{ordinary, work_free}
use Rattle.host_feed_indexed.specs.IndexedFeed.{refused_call, fed_call, fed_with, feed_indexed_of}

-- ---- the numbers are below 56

early_below : (c : Committee) (s : Bytes) (t ix : List ℕ) (rec : Bytes) → Below 56 (early_indexed_checks c s t ix rec)
unfolding early_indexed_checks indexed_lent_checks pending_checks
early_below c s t ix rec = and (lit< tt, lit< tt) (and (lit< tt, lit< tt)
    (and (lit< tt, lit< tt) (and (lit< tt, lit< tt) (ordinary _ (rules_ordinary c s (read_record rec))))))

-- the events as bytes
pub fed_lent : (c : Committee) (s : Bytes) (t w u ix : List ℕ) (v rec : Bytes) → length w ≡ length t → length v ≡ 65536 → u ≡ words_in 8192 v
    → feed_indexed c (lent_of s t w u) ix rec ≡ fed_with c s t ix (words_of v) rec
unfolding fed_with words_of
fed_lent c s t w u ix v rec h k e = work_free c s t w t u ix rec h ∙ rw (e, k)

-- ---- sizes

module _ (c : Committee) (s t ix v rec : List ℕ) where
  pub feed_unsized : (length t ≡ 49160 → ⊥) → feed_indexed_of c s t ix v rec ≡ refused_call s t ix v (refusal_before 11 c s)
  unfolding feed_indexed_of
  feed_unsized h = rw (ne_eqb (length t) 49160 h)

  pub feed_eventless : length t ≡ 49160 → (length v ≡ 65536 → ⊥)
      → feed_indexed_of c s t ix v rec ≡ refused_call s t ix v (refusal (early_indexed_checks c s (words_in 6145 t) ix rec ++ ((true ⇒ 15) ∷ [])))
  unfolding feed_indexed_of words_of
  feed_eventless h k = rw (eq-eqb (length t) 49160 h, ne_eqb (length v) 65536 k, h)

  pub feed_sized : length t ≡ 49160 → length v ≡ 65536 → feed_indexed_of c s t ix v rec ≡ fed_call (fed_with c s (words_in 6145 t) ix (words_of v) rec)
  unfolding feed_indexed_of words_of
  feed_sized h k = rw (eq-eqb (length t) 49160 h, eq-eqb (length v) 65536 k, h)

-- ---- 15 comes after 5, 10, 11, 54, 20 to 30

module _ (c : Committee) (s : Bytes) (t ix : List ℕ) (rec : Bytes) where
  pub early_refused : (refusal (early_indexed_checks c s t ix rec) ≡ 0 → ⊥) → refusal (early_indexed_checks c s t ix rec ++ ((true ⇒ 15) ∷ [])) ≡ refusal
      (early_indexed_checks c s t ix rec)
  early_refused h = refusal_first (early_indexed_checks c s t ix rec) ((true ⇒ 15) ∷ []) h

  pub early_passed : refusal (early_indexed_checks c s t ix rec) ≡ 0 → refusal (early_indexed_checks c s t ix rec ++ ((true ⇒ 15) ∷ [])) ≡ 15
  unfolding refusal
  early_passed h = refusal_then (early_indexed_checks c s t ix rec) ((true ⇒ 15) ∷ [])
      (numbered 56 (early_indexed_checks c s t ix rec) (early_below c s t ix rec)) h
