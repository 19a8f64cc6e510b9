-- The list of all stored shares. Assumes nothing.
use mathlib.Core.Path.{◌≡◌, sym, ap, subst}
use mathlib.Core.Bool.{true}
use mathlib.Core.List.{List, map, flatten}
use Prim.Native.Nat.{◌<◌}
use native.Mathlib.Omega.{arith}
use lib.ListN.{length}
use Rattle.base.specs.Lists.{keep, count_from, ◌∈◌}
use Rattle.base.proofs.Members.{in_map, map_in, in_keep, keep_in, in_flatten, flatten_in, in_count_from}
use Rattle.record_spec.specs.Reference.{TransactionLocator, locator}
use Rattle.record_spec.specs.Block.{Block, is_share_at}
use Rattle.store_spec.specs.Shares.{StoredShare}
use Rattle.final_spec.proofs.FinalList.{Ascending, ascending_locators_lem, in_ascending}
use Rattle.record_spec.proofs.Spans.{share_index}
use Rattle.list_ordinary_spec.specs.Shares.{shares_of, stored_shares}
use Rattle.list_ordinary_spec.proofs.Orders.{ascending_in}

-- it depends on which blocks are stored alone
pub share_moved : {bs cs : List Block} → ((b : Block) → b ∈ bs → b ∈ cs) → (l : TransactionLocator) → StoredShare bs l → StoredShare cs l
share_moved f l h = record { block = h.block; stored = f h.block h.stored; named = h.named; shared = h.shared }

-- ---- all stored shares

pub shares_in : (b : Block) (l : TransactionLocator) → l ∈ shares_of b → (b.reference ≡ l.block) × (is_share_at b l.offset ≡ true)
unfolding shares_of locator
shares_in b l m =
    let x = map_in (locator b.reference) (keep (is_share_at b) (count_from 0 (length b.statements))) m in
    let k = keep_in (is_share_at b) (count_from 0 (length b.statements)) x.1 in
    (ap (λ (y : TransactionLocator). y.block) x.2, subst (λ (y : TransactionLocator). is_share_at b y.offset ≡ true) x.2 k.1)

pub in_shares : (b : Block) (l : TransactionLocator) → b.reference ≡ l.block → is_share_at b l.offset ≡ true → l ∈ shares_of b
unfolding shares_of locator is_share_at
in_shares b l e h =
    let own : locator b.reference l.offset ≡ l = λ i. record { block = e i; offset = l.offset } in
    let few : l.offset < length b.statements = share_index b.statements l.offset h in
    subst (λ (y : TransactionLocator). y ∈ shares_of b) own
    (in_map (locator b.reference) (in_keep (is_share_at b) (count_from 0 (length b.statements))
    (in_count_from 0 (length b.statements) l.offset (omega arith) (omega arith)) h))

pub gathered_in : (bs : List Block) (l : TransactionLocator) → l ∈ flatten (map shares_of bs) → StoredShare bs l
gathered_in bs l m =
    let x = flatten_in (map shares_of bs) m in
    let y = map_in shares_of bs x.2 in
    let z = shares_in y.0 l (subst (λ (ls : List TransactionLocator). l ∈ ls) (sym y.2) x.1) in
    record { block = y.0; stored = y.1; named = z.0; shared = z.1 }

pub in_gathered : (bs : List Block) (l : TransactionLocator) → StoredShare bs l → l ∈ flatten (map shares_of bs)
in_gathered bs l h = in_flatten (in_shares h.block l h.named h.shared) (in_map shares_of h.stored)

pub all_ascending : (bs : List Block) → Ascending (stored_shares bs)
unfolding stored_shares
all_ascending bs = ascending_locators_lem (flatten (map shares_of bs))

pub all_in : (bs : List Block) (l : TransactionLocator) → l ∈ stored_shares bs → StoredShare bs l
unfolding stored_shares
all_in bs l m = gathered_in bs l (ascending_in l (flatten (map shares_of bs)) m)

pub in_all_shares : (bs : List Block) (l : TransactionLocator) → StoredShare bs l → l ∈ stored_shares bs
unfolding stored_shares
in_all_shares bs l h = in_ascending l (flatten (map shares_of bs)) (in_gathered bs l h)
