-- A locator that is no stored share is not pending. Assumes nothing.
use mathlib.Core.Path.{◌≡◌, refl, sym, ap, ◌∙◌, subst}
use mathlib.Core.Bool.{true, false}
use mathlib.Core.List.{List, [], ◌∷◌, map}
use mathlib.Core.Option.{Option, none, some}
use Prim.Native.Nat.{ℕ, ◌≤◌}
use native.Mathlib.Omega.{arith}
use lib.Dec.{eqb}
use borrow.Author.Tests.{eqb-true}
use Rattle.base.specs.Lists.{◌∈◌}
use Rattle.base.specs.Le.{Bytes}
use Rattle.base.specs.Checks.{refused}
use Rattle.base.proofs.Tests.{not_both, and_both}
use Rattle.base.proofs.Lists.{every_in, find_in, find_passes}
use Rattle.base.proofs.Members.{in_any}
use Rattle.committee.specs.Committee.{Committee, broken}
use Rattle.record_spec.specs.Reference.{TransactionLocator}
use Rattle.record_spec.specs.Block.{Block, is_share_at}
use Rattle.record_spec.proofs.References.{same_reference_lem}
use Rattle.store_spec.specs.Layout.{Record, Entry, entries, lookup, position_of}
use Rattle.store_spec.specs.Store.{records_of}
use Rattle.store_spec.specs.Shares.{is_share_of, is_stored_share}
use Rattle.store_spec.proofs.Lookups.{entry_block}
use Rattle.store_spec.proofs.Store.{entries_within}
use Rattle.store_spec.proofs.Visit.{one_position}
use Rattle.pending_spec.specs.Items.{Item, item_holds, item_at}
use Rattle.pending_spec.specs.Table.{items_of}
use Rattle.pending_spec.proofs.Items.{holds_facts}
use Rattle.pending_spec.proofs.Order.{Pending, InOrder, in_order_lem}
use Rattle.feed_spec.specs.Feed.{lent_of}
use Rattle.feed_spec.specs.Pending.{standing_of, pending}
use Rattle.feed_spec.proofs.Keeping.{State, feed_keeps, fresh_table}
use Rattle.feed_spec.proofs.View.{position_in, found_in, found_called, pending_passes}
use Rattle.final_spec.specs.Finality.{blocks_of}
use Rattle.mission_theorems.specs.Feeds.{Feed, Engine, fresh, outcome, left, run, stored_blocks}
use Rattle.mission_theorems.specs.ThirdStatement.{Start, engine_of, accepted_of}
use Rattle.mission_theorems.proofs.Storing.{fresh_holds}
use Rattle.mission_theorems.proofs.Finals.{blocks_are, store_of}
use Rattle.engine_theorems.specs.Claims.{OthersNotPending}

-- ---- in order

run_state : (c : Committee) (g : Engine) (fs : List Feed) → State c g.store g.table → State c (run c g fs).store (run c g fs).table
unfolding run outcome left
run_state c g [] a = a
run_state c g (f ∷ fs) a = (feed_keeps c (lent_of (run c g fs).store (run c g fs).table f.work f.events) f.bytes (run_state c g fs a)).state

engine_state : (c : Committee) (t : Start) → 1 ≤ t.words → State c (engine_of c t).store (engine_of c t).table
unfolding engine_of fresh
engine_state c t w =
    let start : Engine = fresh t.past t.words in
    run_state c start t.feeds (record {
      store = (fresh_holds c t.past t.allowed).order;
      table = fresh_table c (entries (records_of start.store))
          t.words w;
    })

-- ---- an item stands for stored shares

module _ (c : Committee) (s : Bytes) (t : List ℕ) (ordered : State c s t) (l : TransactionLocator) where
  abbrev rs : List Record
  rs = records_of s

  abbrev p : ℕ
  p = position_in (entries rs) l.block

  held_share : (x : Item) → item_at (items_of t) p l.offset ≡ some x → is_stored_share (blocks_of s) l ≡ true
  unfolding item_at position_of is_stored_share is_share_of blocks_of
  held_share x e =
      let y : Pending c (entries rs) x = every_in (items_of t) x (in_order_lem c (entries rs) t ordered.table).items
      (find_in (item_holds p l.offset) (items_of t) x e) in
      let f = holds_facts p l.offset x (find_passes (item_holds p l.offset) (items_of t) x e) in
      let d : Entry = y.entry in
      let stands : d.position ≡ x.position = eqb-true d.position x.position
      (find_passes (λ z. eqb z.position x.position) (entries rs) d y.found) in
      go d (find_in (λ z. eqb z.position x.position) (entries rs) d y.found) (stands ∙ f.0) (y.shares l.offset f.1 f.2)
      (lookup (entries rs) l.block) refl
    where
      go : (d : Entry) → d ∈ entries rs → d.position ≡ p → is_share_at d.block l.offset ≡ true → (o : Option Entry) → lookup (entries rs) l.block ≡ o
          → is_stored_share (blocks_of s) l ≡ true
      go d m q share none e = absurd (omega (arith, rw e at q, (every_in (entries rs) d (entries_within rs) m).from))
      go d m q share (some f) e =
          let same : d ≡ f = one_position rs d f m (found_in (entries rs) l.block f e) (rw e at q) in
          let called : d.block.reference ≡ l.block = ap (λ (z : Entry). z.block.reference) same ∙ found_called (entries rs) l.block f e in
          in_any (λ b. is_share_of b l) (entry_block rs d m) (and_both _ _ (same_reference_lem called) share)

  none_held : is_stored_share (blocks_of s) l ≡ false → standing_of (item_at (items_of t) p l.offset) ≡ refused 42
  unfolding standing_of
  none_held n = go (item_at (items_of t) p l.offset) refl
    where
      go : (o : Option Item) → item_at (items_of t) p l.offset ≡ o → standing_of o ≡ refused 42
      go none e = refl
      go (some x) e = absurd (not_both (held_share x e) n)

pub others_not_pending : OthersNotPending
unfolding OthersNotPending
others_not_pending c b t w l n =
    let s : Bytes = (engine_of c t).store in
    let h : State c s (engine_of c t).table = engine_state c t w in
    pending_passes c s (engine_of c t).table l b h
    ∙ none_held c s (engine_of c t).table h l (subst (λ (bs : List Block). is_stored_share bs l ≡ false) (sym (blocks_are c s (accepted_of c t) (store_of c t)))
    n)
