-- What a feed gives where it is refused and where not. Assumes nothing.
use mathlib.Core.Path.{◌≡◌, refl, sym, ap, ◌∙◌}
use mathlib.Core.Bool.{true}
use mathlib.Core.List.{List, [], ◌∷◌, ◌++◌}
use mathlib.Core.Option.{Option, none, some}
use Prim.Native.Nat.{ℕ, ◌+◌, ◌≤◌}
use native.Mathlib.Nat.{zero-add}
use native.Mathlib.Omega.{arith}
use lib.ListN.{length, drop}
use lib.Seq.{sets-eq}
use Rattle.base.specs.Le.{Bytes}
use Rattle.base.specs.Checks.{refusal, passes, Answer, refused, answered}
use Rattle.base.proofs.Tests.{fails}
use Rattle.base.proofs.Refusals.{passes_zero}
use Rattle.committee.specs.Committee.{Committee}
use Rattle.record_spec.specs.Record.{well_formed, block_in}
use Rattle.store_spec.specs.Layout.{Record, read_record, entries}
use Rattle.store_spec.specs.Store.{records_of, record_in, store_holding}
use Rattle.pending_spec.specs.Table.{items_of}
use Rattle.feed_spec.specs.Feed.{Lent, lent_of, processed, feed_checks, refused_feed, accepted_feed, feed_record, feed}
use Rattle.feed_spec.specs.ProcessBlock.{words_of}
use Rattle.feed_counted_vote.specs.Vote.{VotesCounted}
use Rattle.feed_counted_vote.specs.declared.Processed.{Processed}
use Rattle.feed_spec.proofs.Checks.{read_some}
use Rattle.feed_spec.proofs.ProcessBlock.{events_process_block, length_words}
use Rattle.feed_refusals.specs.Step.{Accepting}
use Rattle.feed_single.specs.Accepted.{AcceptedAs}
use Rattle.feed_refusals.proofs.Order.{checks_pass}

module _ (c : Committee) (m : Lent) (bytes : Bytes) where
  feed_refuses : (n : ℕ) → n ≡ refusal (feed_checks c m (read_record bytes)) → (n ≡ 0 → ⊥) → feed c m bytes ≡ refused_feed m n
  unfolding feed feed_record
  feed_refuses n e f = go (read_record bytes) e
    where
      go : (o : Option Record) → n ≡ refusal (feed_checks c m o) → feed_record c m o ≡ refused_feed m n
      go none z = ap (refused_feed m) (sym z)
      go (some r) z = rw (fails (passes (feed_checks c m (some r))) (λ p. f (z ∙ passes_zero _ p))) (ap (refused_feed m) (sym z))

  feed_accepts : well_formed bytes ≡ true → refusal (feed_checks c m (read_record bytes)) ≡ 0 → feed c m bytes ≡ accepted_feed c m (record_in bytes)
  unfolding feed feed_record
  feed_accepts w z = rw (read_some bytes w, checks_pass c m bytes w z)

  -- the answer, the store, the table and the events are those of the definition
  abbrev pub Gives : Answer ℕ → Bytes → List ℕ → List ℕ → Type 0
  Gives a s t v = (a ≡ (feed c m bytes).answer) × ((s ≡ (feed c m bytes).store) × ((t ≡ (feed c m bytes).table) × (v ≡ (feed c m bytes).events)))

  pub gives_refusal : (n : ℕ) → n ≡ refusal (feed_checks c m (read_record bytes)) → (n ≡ 0 → ⊥) → Gives (refused n) m.store m.table m.events
  unfolding refused_feed
  gives_refusal n e f = rw (feed_refuses n e f) (refl, (refl, (refl, refl)))

  -- no refusal applies, and the slices are those of an accepted feed
  pub gives_acceptance : (n : ℕ) (s : Bytes) (t v : List ℕ) → well_formed bytes ≡ true → refusal (feed_checks c m (read_record bytes)) ≡ 0
      → AcceptedAs (accepted_feed c (lent_of m.store m.table [] m.events) (record_in bytes)) n s t v → Gives (answered n) s t v
  unfolding accepted_feed processed
  gives_acceptance n s t v w z a = rw (feed_accepts w z) (a.answer, (a.store, (a.table, a.events)))

-- what counting and storing the record leaves
pub accepted_as : (c : Committee) (s : Bytes) (t v : List ℕ) (bytes after : Bytes) (t' v' : List ℕ) (q : Processed) → Accepting c s t v bytes
    → after ≡ store_holding (record_in bytes ∷ records_of s) s
    → VotesCounted (processed c (lent_of s t [] v) (record_in bytes)) true 0 t v q t' v'
    → AcceptedAs (accepted_feed c (lent_of s t [] v) (record_in bytes)) q.events after t' v'
unfolding accepted_feed
accepted_as c s t v bytes after t' v' q a e w =
    record {
      answer = ap answered many;
      store = e;
      table = w.table y;
      events = (w.stated y).words ∙ sets-eq words v 0 enough ∙ ap (λ n. words ++ drop n v) (zero-add (length words));
    }
  where
    m : Lent
    m = lent_of s t [] v

    y : q.fits ≡ true
    y = w.fits ∙ a.items

    words : List ℕ
    words = words_of (processed c m (record_in bytes)).events

    many : q.events ≡ length (processed c m (record_in bytes)).events
    many = omega (arith, (w.stated y).many)

    enough : 0 + length words ≤ length v
    enough =
        unfold processed record_in in
        omega (
          arith,
          length_words (processed c m (record_in bytes)).events,
          events_process_block c (entries (record_in bytes ∷ records_of s)) (block_in bytes)
              (items_of t),
          a.events,
        )
