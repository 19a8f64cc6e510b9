-- The payload of a stored share, also as the payload question gives it. Assumes nothing.
use mathlib.Core.Path.{◌≡◌, refl, sym, ap, ◌∙◌}
use mathlib.Core.Bool.{true, false, not}
use mathlib.Core.List.{List}
use mathlib.Core.Option.{Option, none, some, some-injective, none-ne-some}
use Prim.Native.Nat.{ℕ}
use lib.ListN.{take, drop, get_elem?}
use Rattle.base.specs.Lists.{all_of, holds, is_none, ◌∈◌}
use Rattle.base.specs.Le.{Bytes}
use Rattle.base.specs.Checks.{passes}
use Rattle.base.proofs.Tests.{not_both}
use Rattle.base.proofs.Le.{AllBytes}
use Rattle.committee.specs.Committee.{Committee, broken}
use Rattle.record_spec.specs.Reference.{TransactionLocator}
use Rattle.record_spec.specs.Block.{Statement, share, accept, reject, vote_range, Block, is_share, is_share_at}
use Rattle.record_spec.specs.Claims.{are_bytes}
use Rattle.record_spec.proofs.Claimed.{bytes_fit}
use Rattle.store_spec.specs.Layout.{blocks, entries}
use Rattle.store_spec.specs.Store.{records_of, store_in_order}
use Rattle.store_spec.specs.Payload.{StoreStretch, payload_at, payload_checks, stretch_of, payload}
use Rattle.store_spec.proofs.Stored.{WellStored}
use Rattle.store_spec.proofs.Store.{in_order_lem}
use Rattle.store_spec.proofs.Chain.{distinct}
use Rattle.store_spec.proofs.Lookups.{lookup_hit, block_entry}
use Rattle.store_spec.proofs.Payloads.{payload_is}
use Rattle.final_spec.specs.Finality.{blocks_of}
use Rattle.final_spec.proofs.Asked.{in_order_stored}
use Rattle.store_spec.specs.Shares.{is_stored_share, StoredShare}
use Rattle.store_spec.proofs.Shares.{share_stored, share_has_payload}
use Rattle.load_spec.specs.Needs.{SharedAs, stored_block, shared_payload, payload_of, payload_in}
use Rattle.load_spec.proofs.Blocks.{block_found, found_block, of_stored_block}

shared_some : (o : Option Statement) (p : Bytes) → shared_payload o ≡ some p → o ≡ some (share p)
unfolding shared_payload
shared_some none p h = absurd (none-ne-some p h)
shared_some (some (share q)) p h = ap {B = Option Statement} (λ x. some (share x)) (some-injective q p h)
shared_some (some (accept l)) p h = absurd (none-ne-some p h)
shared_some (some (reject l other)) p h = absurd (none-ne-some p h)
shared_some (some (vote_range r)) p h = absurd (none-ne-some p h)

pub payload_shared : (bs : List Block) (l : TransactionLocator) (p : Bytes) → payload_in bs l ≡ some p → SharedAs bs l p
unfolding payload_in payload_of
payload_shared bs l p h = go (stored_block bs l.block) refl h
  where
    go : (o : Option Block) → stored_block bs l.block ≡ o → payload_of o l.offset ≡ some p → SharedAs bs l p
    go none e k = absurd (none-ne-some p k)
    go (some b) e k = let y = found_block bs l.block b e in record
        { block = b; stored = y.0; named = y.1; stands = shared_some (get_elem? b.statements l.offset) p k }

pub shared_payload_lem : {bs : List Block} → WellStored bs → {l : TransactionLocator} {p : Bytes} → SharedAs bs l p → payload_in bs l ≡ some p
unfolding payload_in payload_of shared_payload
shared_payload_lem w {l} s = rw (block_found w s.stored l.block s.named, s.stands)

-- a stored share has one payload
pub one_payload : {bs : List Block} → WellStored bs → {l : TransactionLocator} {p q : Bytes} → SharedAs bs l p → SharedAs bs l q → p ≡ q
one_payload w {l} {p} {q} s t = some-injective p q (sym (shared_payload_lem w s) ∙ shared_payload_lem w t)

pub shared_stored : {bs : List Block} {l : TransactionLocator} {p : Bytes} → SharedAs bs l p → StoredShare bs l
unfolding is_share_at holds is_share
shared_stored s = record { block = s.block; stored = s.stored; named = s.named; shared = rw s.stands }

pub shared_moved : {bs cs : List Block} → ((b : Block) → b ∈ bs → b ∈ cs) → {l : TransactionLocator} {p : Bytes} → SharedAs bs l p → SharedAs cs l p
shared_moved f s = record { block = s.block; stored = f s.block s.stored; named = s.named; stands = s.stands }

-- there is one exactly for a stored share
there_is : (o : Option Statement) → not (is_none (shared_payload o)) ≡ holds is_share o
unfolding shared_payload is_none holds is_share
there_is none = refl
there_is (some (share p)) = refl
there_is (some (accept l)) = refl
there_is (some (reject l other)) = refl
there_is (some (vote_range r)) = refl

in_block : (o : Option Block) (k : ℕ) → not (is_none (payload_of o k)) ≡ holds (λ b. is_share_at b k) o
unfolding payload_of is_none holds is_share_at
in_block none k = refl
in_block (some b) k = there_is (get_elem? b.statements k)

pub payload_stored : {bs : List Block} → WellStored bs → (l : TransactionLocator) → not (is_none (payload_in bs l)) ≡ is_stored_share bs l
unfolding payload_in
payload_stored {bs} w l = in_block (stored_block bs l.block) l.offset ∙ of_stored_block w l

-- ---- where the store has it

module _ (c : Committee) (s : Bytes) (a : AllBytes s) (h : store_in_order c s ≡ true) (l : TransactionLocator) where
  pub payload_stretch : (p : Bytes) → payload_in (blocks_of s) l ≡ some p → stretch_of (payload_at s l) s ≡ p
  unfolding blocks_of
  payload_stretch p e =
      let x = payload_shared (blocks_of s) l p e in
      let y = block_entry (records_of s) x.block x.stored in
      let found = lookup_hit (entries (records_of s)) (distinct c (records_of s) (in_order_lem c s h).accepted) y.0 y.1 l.block
      (ap (λ (d : Block). d.reference) y.2 ∙ x.named) in
      let stands : get_elem? y.0.block.statements l.offset ≡ some (share p) = ap (λ (d : Block). get_elem? d.statements l.offset) y.2 ∙ x.stands in
      payload_is c s a h l y.0 p found stands

  there_too : not (is_none (payload_in (blocks_of s) l)) ≡ not (is_none (payload_at s l))
  unfolding blocks_of
  there_too = payload_stored (in_order_stored c s h) l ∙ share_has_payload c s h l

  pub payload_nowhere : payload_at s l ≡ none → payload_in (blocks_of s) l ≡ none
  payload_nowhere e = go (payload_in (blocks_of s) l) refl
    where
      go : (o : Option Bytes) → payload_in (blocks_of s) l ≡ o → o ≡ none
      go none k = refl
      go (some p) k = absurd (not_both {t = not (is_none (payload_in (blocks_of s) l))} (unfold is_none in rw k) (there_too ∙ (unfold is_none in rw e)))

  pub payload_where : (t : StoreStretch) → payload_at s l ≡ some t → payload_in (blocks_of s) l ≡ some (take t.count (drop t.start s))
  unfolding stretch_of
  payload_where t e = go (payload_in (blocks_of s) l) refl
    where
      go : (o : Option Bytes) → payload_in (blocks_of s) l ≡ o → o ≡ some (take t.count (drop t.start s))
      go none k = absurd (not_both {t = not (is_none (payload_at s l))} (unfold is_none in rw e) (sym there_too ∙ (unfold is_none in rw k)))
      go (some p) k = ap {B = Option Bytes} some (sym (payload_stretch p k) ∙ ap (λ (o : Option StoreStretch). stretch_of o s) e)

-- ---- the payload question

pub payload_given_lem : (c : Committee) (s : Bytes) → are_bytes s ≡ true → broken c ≡ false → store_in_order c s ≡ true → (l : TransactionLocator) (p : Bytes)
    → payload_in (blocks_of s) l ≡ some p → payload c s l ≡ p
unfolding payload payload_checks passes all_of blocks_of
payload_given_lem c s a b h l p e =
    let stored : is_stored_share (blocks (records_of s)) l ≡ true = share_stored (blocks_of s) l (shared_stored (payload_shared (blocks_of s) l p e)) in
    rw (b, h, stored) (payload_stretch c s (bytes_fit s a) h l p e)
