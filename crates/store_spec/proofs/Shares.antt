-- Stored shares: the test and what it means, and the same by the entry that is found and by the payload. Assumes nothing.
use mathlib.Core.Path.{◌≡◌, refl, ap, ◌∙◌}
use mathlib.Core.Bool.{true, not}
use mathlib.Core.List.{List, [], ◌∷◌}
use mathlib.Core.Option.{Option, none, some}
use Prim.Native.Nat.{ℕ}
use lib.ListN.{get_elem?}
use Rattle.base.specs.Lists.{holds, is_none}
use Rattle.base.specs.Le.{Bytes}
use Rattle.base.proofs.Tests.{and_both, and_left, and_right, same_test}
use Rattle.base.proofs.Lists.{holds_some}
use Rattle.base.proofs.Members.{any_in, in_any, in_map, map_in}
use Rattle.committee.specs.Committee.{Committee}
use Rattle.record_spec.specs.Reference.{TransactionLocator, same_reference}
use Rattle.record_spec.specs.Block.{Statement, share, accept, reject, vote_range, Block, is_share, is_share_at}
use Rattle.record_spec.proofs.References.{reference_same, same_reference_lem}
use Rattle.store_spec.specs.Layout.{Record, blocks, Entry, entries, blocks_at, lookup}
use Rattle.store_spec.specs.Shares.{is_share_of, is_stored_share, StoredShare}
use Rattle.store_spec.specs.Store.{records_of, store_in_order}
use Rattle.store_spec.specs.Payload.{share_stretch, payload_of, payload_at}
use Rattle.store_spec.proofs.Chain.{Distinct, distinct}
use Rattle.store_spec.proofs.Lookups.{lookup_hit, lookup_in}
use Rattle.store_spec.proofs.Store.{in_order_lem}

-- ---- the test and what it means

pub stored_share : (bs : List Block) (l : TransactionLocator) → is_stored_share bs l ≡ true → StoredShare bs l
unfolding is_stored_share is_share_of
stored_share bs l h =
    let x = any_in (λ b. is_share_of b l) bs h in
    record {
      block = x.0;
      stored = x.1;
      named = reference_same x.0.reference l.block (and_left _ _ x.2);
      shared = and_right (same_reference x.0.reference l.block) _ x.2;
    }

pub share_stored : (bs : List Block) (l : TransactionLocator) → StoredShare bs l → is_stored_share bs l ≡ true
unfolding is_stored_share is_share_of
share_stored bs l h = in_any (λ b. is_share_of b l) h.stored (and_both _ _ (same_reference_lem h.named) h.shared)

-- ---- by the entry that is found

pub blocks_entered : (rs : List Record) → blocks_at (entries rs) ≡ blocks rs
unfolding entries
blocks_entered [] = refl
blocks_entered (r ∷ rs) = rw (blocks_entered rs)

pub share_looked_up : (es : List Entry) → Distinct es → (l : TransactionLocator)
    → is_stored_share (blocks_at es) l ≡ holds (λ e. is_share_at e.block l.offset) (lookup es l.block)
unfolding holds
share_looked_up es d l = same_test _ (holds (λ e. is_share_at e.block l.offset) (lookup es l.block)) to from
  where
    to : is_stored_share (blocks_at es) l ≡ true → holds (λ e. is_share_at e.block l.offset) (lookup es l.block) ≡ true
    to h =
        let x : StoredShare (blocks_at es) l = stored_share (blocks_at es) l h in
        let e = map_in (λ e. e.block) es x.stored in
        rw (lookup_hit es d e.0 e.1 l.block (ap (λ (b : Block). b.reference) e.2 ∙ x.named), e.2) x.shared

    from : holds (λ e. is_share_at e.block l.offset) (lookup es l.block) ≡ true → is_stored_share (blocks_at es) l ≡ true
    from h =
        let x = holds_some (λ e. is_share_at e.block l.offset) (lookup es l.block) h in
        let e = lookup_in es l.block x.0 x.1 in
        share_stored (blocks_at es) l (record { block = x.0.block; stored = in_map (λ e. e.block) e.0; named = e.1; shared = x.2 })

-- ---- by the payload

stretch_there : (p : ℕ) (o : Option Statement) → holds is_share o ≡ not (is_none (share_stretch p o))
unfolding share_stretch is_none holds is_share
stretch_there p none = refl
stretch_there p (some (share payload)) = refl
stretch_there p (some (accept l)) = refl
stretch_there p (some (reject l other)) = refl
stretch_there p (some (vote_range r)) = refl

payload_there : (e : Option Entry) (o : ℕ) → holds (λ d. is_share_at d.block o) e ≡ not (is_none (payload_of e o))
unfolding payload_of is_none holds is_share_at
payload_there none o = refl
payload_there (some e) o = stretch_there _ (get_elem? e.block.statements o)

pub share_has_payload : (c : Committee) (s : Bytes) → store_in_order c s ≡ true → (l : TransactionLocator) → is_stored_share (blocks (records_of s)) l ≡ not
    (is_none (payload_at s l))
unfolding payload_at
share_has_payload c s h l =
    let es : List Entry = entries (records_of s) in
    rw (← blocks_entered (records_of s)) (share_looked_up es (distinct c (records_of s) (in_order_lem c s h).accepted) l ∙ payload_there (lookup es l.block)
    l.offset)
