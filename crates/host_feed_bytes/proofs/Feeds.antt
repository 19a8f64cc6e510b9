-- Feeding of a host. Assumes nothing.
use mathlib.Core.Path.{◌≡◌, ◌∙◌}
use mathlib.Core.Bool.{Bool, true, false}
use mathlib.Core.List.{List, [], ◌∷◌, ◌++◌, map, flatten}
use mathlib.Core.Option.{Option, none, some}
use Prim.Native.Nat.{ℕ, ◌≤◌, ◌<◌}
use native.Mathlib.Omega.{arith}
use lib.Dec.{lit<}
use lib.ListN.{length}
use borrow.Author.Tests.{eq-eqb, ne_eqb}
use Rattle.base.specs.Lists.{pick}
use Rattle.base.specs.Le.{Bytes}
use Rattle.base.specs.Checks.{Check, ◌⇒◌, refusal, passes, refused}
use Rattle.base.proofs.Lists.{Every, none_of, and, every, every_one, every_append, every_flatten}
use Rattle.base.proofs.Refusals.{Numbered, refusal_first, refusal_then}
use Rattle.committee.specs.Committee.{Committee}
use Rattle.record_spec.specs.Block.{Block, Statement, share, accept, reject, vote_range}
use Rattle.record_spec.specs.Verify.{head_checks, include_checks, statement_checks, body_checks}
use Rattle.store_spec.specs.Layout.{Record, read_record}
use Rattle.store_spec.specs.Accept.{block_checks}
use Rattle.store_spec.specs.Store.{records_of}
use Rattle.words.specs.Words.{words_in, words_of}
use Rattle.feed_spec.specs.Pending.{pending_checks}
use Rattle.feed_spec.specs.Feed.{Lent, lent_of, processed, lent_checks, rule_checks, accept_checks, record_checks, feed_checks, refused_feed, accepted_feed}
use Rattle.feed_spec.specs.Feed.{feed_record}
use Rattle.feed_spec.specs.Feed.{feed}
use Rattle.feed_refusals.specs.Refusals.{early_checks}
use Rattle.host_locators.specs.Locators.{refusal_before}
use Rattle.host_feed_bytes.specs.Feed.{refused_call, fed_call, fed_with, feed_of}

-- ---- the numbers of a feed are 1 to 30

-- every number is above 0 and below n
abbrev pub Below : ℕ → List Check → Type 0
Below n ks = Every (λ k. (0 < k.number) × (k.number < n)) ks

abbrev Ordinary : List Check → Type 0
Ordinary ks = Below 31 ks

pub numbered : (n : ℕ) (ks : List Check) → Below n ks → Numbered ks
numbered n ks h = every (λ k l. l.0) ks h

pub below : (n : ℕ) → 0 < n → (ks : List Check) → Below n ks → refusal ks < n
unfolding refusal
below n m [] none_of = omega arith
below n m (k ∷ ks) (and h hs) = go k.applies (below n m ks hs)
  where
    go : (t : Bool) → refusal ks < n → pick t k.number (refusal ks) < n
    go true l = omega (arith, h.1)
    go false l = l

most : (ks : List Check) → Ordinary ks → refusal ks ≤ 30
most ks h = omega (arith, below 31 (lit< tt) ks h)

statement_ordinary : (s : Statement) → Ordinary (statement_checks s)
unfolding statement_checks
statement_ordinary (share v) = none_of
statement_ordinary (accept l) = and (lit< tt, lit< tt) none_of
statement_ordinary (reject l o) = none_of
statement_ordinary (vote_range r) = and (lit< tt, lit< tt) (and (lit< tt, lit< tt) none_of)

block_ordinary : (c : Committee) (rs : List Record) (b : Block) → Ordinary (block_checks c rs b)
unfolding block_checks head_checks include_checks body_checks
block_ordinary c rs b =
    and (lit< tt, lit< tt) (and (lit< tt, lit< tt) (and (lit< tt, lit< tt)
    (every_append (body_checks c b) _
    (every_append (flatten (map (include_checks c b) b.includes)) _
    (every_flatten {P = λ i. Unit {0}} (include_checks c b) (λ i u. and (lit< tt, lit< tt) (and (lit< tt, lit< tt) none_of)) b.includes
    (every_one (λ i. tt) b.includes))
    (every_append (flatten (map statement_checks b.statements)) _
    (every_flatten {P = λ s. Unit {0}} statement_checks (λ s u. statement_ordinary s) b.statements (every_one (λ s. tt) b.statements))
    (and (lit< tt, lit< tt) none_of)))
    (and (lit< tt, lit< tt) none_of))))

pub rules_ordinary : (c : Committee) (s : Bytes) (o : Option Record) → Below 31 (rule_checks c s o)
unfolding rule_checks
rules_ordinary c s none = and (lit< tt, lit< tt) none_of
rules_ordinary c s (some r) = block_ordinary c (records_of s) r.block

pub record-ordinary : (c : Committee) (m : Lent) (o : Option Record) → Below 31 (record_checks c m o)
unfolding accept_checks record_checks
record-ordinary c m none = rules_ordinary c m.store none
record-ordinary c m (some r) =
    every_append (accept_checks c m.store (length m.events) (some r)) _
    (every_append _ _ (rules_ordinary c m.store (some r)) (and (lit< tt, lit< tt) (and (lit< tt, lit< tt) none_of)))
    (and (lit< tt, lit< tt) none_of)

checks_ordinary : (c : Committee) (m : Lent) (o : Option Record) → Ordinary (feed_checks c m o)
unfolding feed_checks lent_checks pending_checks
checks_ordinary c m o = and (lit< tt, lit< tt) (and (lit< tt, lit< tt) (and (lit< tt, lit< tt) (and (lit< tt, lit< tt) (record-ordinary c m o))))

pub feed_most : (c : Committee) (m : Lent) (rec : Bytes) (n : ℕ) → (feed c m rec).answer ≡ refused n → n ≤ 30
unfolding feed feed_record refused_feed accepted_feed
feed_most c m rec n e = by (read_record rec) e
  where
    by : (o : Option Record) → (feed_record c m o).answer ≡ refused n → n ≤ 30
    by none e = let z : refusal (feed_checks c m none) ≡ n = cc in omega (arith, most (feed_checks c m none) (checks_ordinary c m none))
    by (some r) e = go (passes (feed_checks c m (some r))) e
      where
        go : (t : Bool) → (pick t (accepted_feed c m r) (refused_feed m (refusal (feed_checks c m (some r))))).answer ≡ refused n → n ≤ 30
        go true e = let z : ◌≡◌ {A = ℕ} 0 1 = cc in absurd (omega arith)
        go false e = let z : refusal (feed_checks c m (some r)) ≡ n = cc in omega (arith, most (feed_checks c m (some r)) (checks_ordinary c m (some r)))

early_ordinary : (c : Committee) (s : Bytes) (t : List ℕ) (rec : Bytes) → Ordinary (early_checks c s t rec)
unfolding early_checks pending_checks
early_ordinary c s t rec = and (lit< tt, lit< tt) (and (lit< tt, lit< tt) (and (lit< tt, lit< tt) (rules_ordinary c s (read_record rec))))

-- ---- the work slice: no answer reads it

pub work_free : (c : Committee) (s : Bytes) (t w u v : List ℕ) (rec : Bytes) → length w ≡ length u → feed c (lent_of s t w v) rec ≡ feed c (lent_of s t u v) rec
unfolding feed feed_record feed_checks lent_checks pending_checks record_checks processed refused_feed accepted_feed
work_free c s t w u v rec e = by (read_record rec)
  where
    by : (o : Option Record) → feed_record c (lent_of s t w v) o ≡ feed_record c (lent_of s t u v) o
    by none = rw e
    by (some r) = rw e

-- the events as bytes
pub fed_lent : (c : Committee) (s : Bytes) (t w u : List ℕ) (v rec : Bytes) → length w ≡ length t → length v ≡ 65536 → u ≡ words_in 8192 v → feed c
    (lent_of s t w u) rec ≡ fed_with c s t (words_of v) rec
unfolding fed_with words_of
fed_lent c s t w u v rec h k e = work_free c s t w t u rec h ∙ rw (e, k)

-- ---- sizes

module _ (c : Committee) (s t v rec : List ℕ) where
  pub feed_unsized : (length t ≡ 49160 → ⊥) → feed_of c s t v rec ≡ refused_call s t v (refusal_before 11 c s)
  unfolding feed_of
  feed_unsized h = rw (ne_eqb (length t) 49160 h)

  pub feed_eventless : length t ≡ 49160 → (length v ≡ 65536 → ⊥) → feed_of c s t v rec ≡ refused_call s t v
      (refusal (early_checks c s (words_in 6145 t) rec ++ ((true ⇒ 15) ∷ [])))
  unfolding feed_of words_of
  feed_eventless h k = rw (eq-eqb (length t) 49160 h, ne_eqb (length v) 65536 k, h)

  pub feed_sized : length t ≡ 49160 → length v ≡ 65536 → feed_of c s t v rec ≡ fed_call (fed_with c s (words_in 6145 t) (words_of v) rec)
  unfolding feed_of words_of
  feed_sized h k = rw (eq-eqb (length t) 49160 h, eq-eqb (length v) 65536 k, h)

-- ---- 15 comes after 5, 10, 11, 20 to 30

module _ (c : Committee) (s : Bytes) (t : List ℕ) (rec : Bytes) where
  pub early_refused : (refusal (early_checks c s t rec) ≡ 0 → ⊥) → refusal (early_checks c s t rec ++ ((true ⇒ 15) ∷ [])) ≡ refusal (early_checks c s t rec)
  early_refused h = refusal_first (early_checks c s t rec) ((true ⇒ 15) ∷ []) h

  pub early_passed : refusal (early_checks c s t rec) ≡ 0 → refusal (early_checks c s t rec ++ ((true ⇒ 15) ∷ [])) ≡ 15
  unfolding refusal
  early_passed h = refusal_then (early_checks c s t rec) ((true ⇒ 15) ∷ []) (numbered 31 (early_checks c s t rec) (early_ordinary c s t rec)) h
