-- The part of the third statement about other locators: what is no stored share is not announced. Assumes nothing.
use mathlib.Core.Path.{◌≡◌, refl, ap, ◌∙◌, subst}
use mathlib.Core.Bool.{true, false}
use mathlib.Core.List.{List, [], ◌∷◌, ◌++◌, map}
use mathlib.Core.Option.{some}
use Prim.Native.Nat.{ℕ}
use native.Mathlib.Omega.{arith}
use lib.Dec.{eqb}
use borrow.Author.Tests.{eqb-true}
use Rattle.base.specs.Lists.{any_of, holds, ◌∈◌, here, there}
use Rattle.base.specs.Le.{Bytes}
use Rattle.base.specs.Checks.{passes}
use Rattle.base.proofs.Tests.{and_left, and_right, neither_right, fails, not_both}
use Rattle.base.proofs.Members.{in_empty, in_map}
use Rattle.committee.specs.Committee.{Committee}
use Rattle.record_spec.specs.Reference.{BlockReference, TransactionLocator, same_reference}
use Rattle.record_spec.specs.Block.{Block}
use Rattle.record_spec.proofs.References.{reference_same}
use Rattle.store_spec.specs.Layout.{Record, read_record, Entry, entries}
use Rattle.store_spec.specs.Shares.{is_share_of, is_stored_share}
use Rattle.store_spec.proofs.Shares.{share_stored}
use Rattle.feed_spec.specs.ProcessBlock.{Event}
use Rattle.feed_spec.specs.Feed.{Lent, processed, feed_checks, feed}
use Rattle.feed_spec.proofs.Events.{Shared, Source, processed_source}
use Rattle.mission_theorems.specs.Feeds.{Feed, Engine, fresh, outcome, left, run, Accepted, accepted_in, accepted, stored_blocks}
use Rattle.mission_theorems.specs.Shares.{votes_under, announces, announced_by, announcements}
use Rattle.mission_theorems.specs.ThirdStatement.{Start, accepted_of}
use Rattle.mission_theorems.proofs.Feeds.{taken, feed_cases}
use Rattle.mission_theorems.proofs.Storing.{as_record, StoreOf, fresh_holds, run_holds}

none_announced : (k : ℕ) (b : Block) (vs : List Event) (l : TransactionLocator) → ((v : Event) → v ∈ vs → announces b l v ≡ false) → announced_by k b vs l ≡ []
unfolding announced_by
none_announced k b [] l f = refl
none_announced k b (v ∷ vs) l f = rw (f v here) (none_announced k b vs l (λ w m. f w (there m)))

-- the accepted record of an entry
entry_accepted : (as' : List Accepted) (e : Entry) → e ∈ entries (map as_record as') → (a : Accepted) × (a ∈ as') × (a.block ≡ e.block)
unfolding entries
entry_accepted [] e m = absurd (in_empty m)
entry_accepted (a ∷ as') e here = (a, here, refl)
entry_accepted (a ∷ as') e (there m) = let r = entry_accepted as' e m in (r.0, there r.1, r.2)

-- a share of a stored entry is a stored share
entry_share : (as' : List Accepted) (l : TransactionLocator) → Shared (entries (map as_record as')) l.block l.offset → is_stored_share (stored_blocks as') l
    ≡ true
unfolding stored_blocks
entry_share as' l h =
    let r = entry_accepted as' h.entry h.stands in
    share_stored (stored_blocks as') l
    (record {
      block = r.0.block;
      stored = in_map (λ (a : Accepted). a.block) r.1;
      named = ap (λ (b : Block). b.reference) r.2 ∙ h.same;
      shared = rw
          r.2 h.share;
    })

-- an event that announces a locator came of a vote under its reference
announced_share : (es : List Entry) (b : Block) (l : TransactionLocator) (v : Event) → Source es 0 b.statements v → announces b l v ≡ true → Shared es
    l.block l.offset
unfolding announces votes_under holds
announced_share es b l v u h =
    let h₁ = and_right (eqb v.kind 1) _ h in
    let at : v.offset ≡ l.offset = eqb-true v.offset l.offset (and_left _ _ h₁) in
    let under = and_right (eqb v.offset l.offset) _ h₁ in
    let n : v.statement ≡ u.index = omega (arith, u.told) in
    let q : same_reference u.range.block l.block ≡ true = rw (n, u.stands, u.votes) at under in
    let s : Shared es u.range.block v.offset = u.processed (eqb-true v.kind 1 (and_left _ _ h)) in
    subst (λ (o : ℕ). Shared es l.block o) at (subst (λ (r : BlockReference). Shared es r v.offset) (reference_same u.range.block l.block q) s)

module _ (c : Committee) (l : TransactionLocator) where
  -- what is no stored share was not announced
  abbrev pub Quiet : List Accepted → Type 0
  Quiet as' = is_stored_share (stored_blocks as') l ≡ false → announcements as' l ≡ []

  quiet_feed : (m : Lent) (bytes : Bytes) (as' : List Accepted) → StoreOf c m.store as' → Quiet as'
      → Quiet (accepted_in (read_record bytes) (feed c m bytes).answer (feed c m bytes).events ++ as')
  unfolding announcements
  quiet_feed m bytes as' h q = feed_cases c m bytes (λ o as''. Quiet (as'' ++ as')) (λ n. q) silent
    where
      silent : (r : Record) → read_record bytes ≡ some r → passes (feed_checks c m (some r)) ≡ true → Quiet (taken c m r ∷ as')
      silent r e p f = rw (q before) (none_announced _ r.block (processed c m r).events l unannounced)
        where
          before : is_stored_share (stored_blocks as') l ≡ false
          before = unfold is_stored_share stored_blocks any_of in neither_right (is_share_of r.block l) _ f

          unannounced : (v : Event) → v ∈ (processed c m r).events → announces r.block l v ≡ false
          unannounced v n =
              fails (announces r.block l v) (λ t. not_both
              (entry_share (taken c m r ∷ as') l (subst (λ (rs : List Record). Shared (entries (r ∷ rs)) l.block l.offset) h.records
              (announced_share _ r.block l v (processed_source c m r p v n) t)))
              f)

  pub quiet_run : (g : Engine) (fs : List Feed) → StoreOf c g.store [] → Quiet (accepted c g fs)
  unfolding run accepted outcome left announcements
  quiet_run g [] h = λ f. refl
  quiet_run g (f ∷ fs) h =
      quiet_feed (record { store = (run c g fs).store; table = (run c g fs).table; work = f.work; events = f.events }) f.bytes (accepted c g fs)
      (run_holds c g fs h) (quiet_run g fs h)

pub others_quiet : (c : Committee) (t : Start) (l : TransactionLocator) → is_stored_share (stored_blocks (accepted_of c t)) l ≡ false → announcements
    (accepted_of c t) l ≡ []
unfolding accepted_of fresh
others_quiet c t l = quiet_run c l (fresh t.past t.words) t.feeds (fresh_holds c t.past t.allowed)
