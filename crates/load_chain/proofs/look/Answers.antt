use Prim.Native.Nat.{ℕ, ◌+◌}
use mathlib.Core.Path.{◌≡◌, sym, ap, ◌∙◌}
use mathlib.Core.Option.{some}
use native.Mathlib.Omega.{arith}
use native.Mathlib.Nat.{add-sub_cancel_left}
use lib.ListN.{take, drop}
use borrow.Author.Tests.{leb-true}
use Rattle.base.proofs.Le.{bytes_of}
use Rattle.record_spec.specs.Reference.{locator}
use Rattle.types.specs.Values.{as_reference, as_locator}
use Rattle.store_payload.specs.Answers.{as_share, share_within}
use Rattle.store_spec.specs.Payload.{StoreStretch, payload_at}
use Rattle.final_block_votes.specs.Walk.{SortedStore}
use Rattle.load_spec.specs.Needs.{needed_by}
use Rattle.load_needed.specs.Answers.{as_needed}
use Rattle.load_chain.specs.Chain.{Seen}
use Rattle.load_chain.proofs.Chains.{share_block}
use Rattle.load_chain.proofs.Looking.{looked_nowhere, looked_stored, looked_placed, looked_alone, looked_late, looked_needs}
use borrow.Author.Rules.{rules}
use Rattle.load_chain.proofs.look.Goals as goal

pub stored_payload-requires : goal.stored_payload-requires
unfolding SortedStore
stored_payload-requires c = c.requires.1.laid

pub returns-in_default : goal.returns-in_default
unfolding SortedStore Seen as_share
returns-in_default c =
    let a = c.args in
    let o = c.requires.1 in
    let l = as_locator a.locator in
    let bytes = bytes_of a.store.now (λ j h. omega (arith, c.shared_slice_known-1.given j)) in
    looked_nowhere a.store.now bytes l (sym c.stored_payload.ensures.result_value ∙ ap as_share c.in_default.is)

pub place_of-place-requires : goal.place_of-place-requires
unfolding SortedStore as_share as_locator locator
place_of-place-requires c =
    let a = c.args in
    let o = c.requires.1 in
    let l = as_locator a.locator in
    let bytes = bytes_of a.store.now (λ j h. omega (arith, c.shared_slice_known-1.given j)) in
    let start = c.in-Some.start in
    let count = c.in-Some.len in
    let t : StoreStretch = record { start = start; count = count } in
    let held : payload_at a.store.now l ≡ some t = sym c.stored_payload.ensures.result_value ∙ ap as_share c.in-Some.is in (
      c.requires,
      share_block a.store.now l
          (looked_stored a.store.now bytes l t held c.requires.0 o.in_order),
    )

pub overflow_add-end : goal.overflow_add-end
unfolding share_within
overflow_add-end c =
    let inside = rw c.in-Some.is at c.stored_payload.ensures.result_value_2 in
    omega (arith, leb-true (c.in-Some.start + c.in-Some.len) _ inside)

pub slice_bounds-needed_by-end : goal.slice_bounds-needed_by-end
unfolding share_within
slice_bounds-needed_by-end c =
    let inside = rw c.in-Some.is at c.stored_payload.ensures.result_value_2 in
    omega (arith, leb-true (c.in-Some.start + c.in-Some.len) _ inside)

pub returns-in_default-needed_by : goal.returns-in_default-needed_by
unfolding SortedStore Seen as_share as_needed as_locator locator as_reference
returns-in_default-needed_by c =
    let a = c.args in
    let o = c.requires.1 in
    let l = as_locator a.locator in
    let bytes = bytes_of a.store.now (λ j h. omega (
      arith,
      c.shared_slice_known-1.given j,
    )) in
    let start = c.in-Some.start in
    let count = c.in-Some.len in
    let t : StoreStretch = record { start = start; count = count } in
    let held : payload_at a.store.now l ≡ some t = sym c.stored_payload.ensures.result_value ∙ ap as_share c.in-Some.is in
    let part = ap (λ (n : ℕ). needed_by (take n (drop start a.store.now))) (add-sub_cancel_left start count) in
    let p = c.place_of-place.ensures in
    let placed = looked_placed a.store.now bytes l t held c.requires.0 o.in_order a.order.now c.place_of-place.result p.0 p.1 in
    (placed, looked_alone a.store.now bytes l t held (sym part ∙ sym c.needed_by.ensures ∙ ap as_needed c.in_default-needed_by.is))

pub returns-then-locator-change : goal.returns-then-locator-change
unfolding SortedStore Seen as_share as_needed as_locator locator as_reference
returns-then-locator-change c =
    let a = c.args in
    let o = c.requires.1 in
    let l = as_locator a.locator in
    let bytes = bytes_of a.store.now (λ j h. omega (
      arith,
      c.shared_slice_known-1.given j,
    )) in
    let start = c.in-Some.start in
    let count = c.in-Some.len in
    let t : StoreStretch = record { start = start; count = count } in
    let held : payload_at a.store.now l ≡ some t = sym c.stored_payload.ensures.result_value ∙ ap as_share c.in-Some.is in
    let part = ap (λ (n : ℕ). needed_by (take n (drop start a.store.now))) (add-sub_cancel_left start count) in
    let m = c.in-Some-needed_by.change in
    let change = sym part ∙ sym c.needed_by.ensures ∙ ap as_needed
    c.in-Some-needed_by.is in
    looked_late a.store.now bytes l t held (as_locator m) change (omega (arith, c.if-locator-change.true))

pub returns : goal.returns
unfolding SortedStore Seen as_share as_needed as_locator locator as_reference
returns c =
    let a = c.args in
    let o = c.requires.1 in
    let l = as_locator a.locator in
    let bytes = bytes_of a.store.now (λ j h. omega (
      arith,
      c.shared_slice_known-1.given j,
    )) in
    let start = c.in-Some.start in
    let count = c.in-Some.len in
    let t : StoreStretch = record { start = start; count = count } in
    let held : payload_at a.store.now l ≡ some t = sym c.stored_payload.ensures.result_value ∙ ap as_share c.in-Some.is in
    let part = ap (λ (n : ℕ). needed_by (take n (drop start a.store.now))) (add-sub_cancel_left start count) in
    let p = c.place_of-place.ensures in
    let placed = looked_placed a.store.now bytes l t held c.requires.0 o.in_order a.order.now
    c.place_of-place.result p.0 p.1 in
    let m = c.in-Some-needed_by.change in
    let change = sym part ∙ sym c.needed_by.ensures ∙ ap as_needed
    c.in-Some-needed_by.is in
    (placed, omega (arith, c.if-locator-change.false), looked_needs a.store.now bytes l t held (as_locator m) change (omega (arith, c.if-locator-change.false)))
