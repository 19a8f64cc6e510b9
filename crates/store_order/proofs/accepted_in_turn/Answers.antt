use Prim.Native.Nat.{ℕ, ◌<◌}
use mathlib.Core.Path.{◌≡◌, refl, sym, ap, ◌∙◌}
use mathlib.Core.List.{List}
use native.Mathlib.Omega.{arith}
use lib.ListN.{length, get_or}
use Rattle.store_spec.specs.Layout.{Record}
use Rattle.store_spec.specs.Store.{records_of}
use Rattle.store_spec.specs.Check.{accepted_at}
use Rattle.store_spec.specs.Entry.{positions}
use Rattle.store_spec.proofs.Loops.{place_entry, length_positions}
use Rattle.store_spec.proofs.Sorted.{is_in_lem}
use Rattle.store_spec.proofs.Search.{laid_out_lem}
use Rattle.store_order.proofs.Accepting.{accepting_start, accepting_on, accepting_stop, accepting_end}
use Rattle.store_order.proofs.accepted_in_turn.Goals as goal

pub loop-start-init : goal.loop-start-init
loop-start-init c = (
  omega arith,
  accepting_start c.args.stakes.now
      (records_of c.args.store.now),
)

pub entry_accepted-requires : goal.entry_accepted-requires
entry_accepted-requires c =
    let a = c.args in
    let l = c.loop-start in
    let k = c.requires in (
      k.0,
      (
        k.1.0,
        (
          k.1.1.0,
          place_entry a.store.now (laid_out_lem a.store.now k.1.0).tested a.starts.now k.1.1.1 (get_or a.starts.now l.start-index 0)
              (is_in_lem (get_or a.starts.now l.start-index 0) a.starts.now l.start-index c.loop-start-test.true refl),
        ),
      ),
    )

pub returns-then-not-entry_accepted : goal.returns-then-not-entry_accepted
returns-then-not-entry_accepted c =
    let a = c.args in
    let l = c.loop-start in
    let c₀ : List ℕ = a.stakes.now in
    let rs : List Record = records_of a.store.now in
    let q : a.starts.now ≡ positions rs = c.requires.1.1.1 in
    let inside : l.start-index < length rs = omega (arith, ap length q, length_positions rs) in
    let decided : c.entry_accepted.result ≡ accepted_at c₀ rs (get_or (positions rs) l.start-index 0) = c.entry_accepted.ensures ∙ ap
    (λ (x : List ℕ). accepted_at c₀ rs (get_or x l.start-index 0)) q in
    sym (accepting_stop c₀ rs l.start-index l.invariant.1 inside (sym decided ∙ c.if-not-entry_accepted.true))

pub loop-start-preserved : goal.loop-start-preserved
loop-start-preserved c =
    let a = c.args in
    let l = c.loop-start in
    let c₀ : List ℕ = a.stakes.now in
    let rs : List Record = records_of a.store.now in
    let q : a.starts.now ≡ positions rs = c.requires.1.1.1 in
    let inside : l.start-index < length rs = omega (arith, ap length q, length_positions rs) in
    let decided : c.entry_accepted.result ≡ accepted_at c₀ rs (get_or (positions rs) l.start-index 0) = c.entry_accepted.ensures ∙ ap
    (λ (x : List ℕ). accepted_at c₀ rs (get_or x l.start-index 0)) q in
    (omega arith, accepting_on c₀ rs l.start-index l.invariant.1 inside (sym decided ∙ c.if-not-entry_accepted.false))

pub returns : goal.returns
returns c =
    let a = c.args in
    let l = c.loop-start in
    let rs : List Record = records_of a.store.now in
    sym (accepting_end a.stakes.now rs l.start-index l.invariant.1 (omega
    (arith, ap length c.requires.1.1.1, length_positions rs)))
