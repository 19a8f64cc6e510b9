use Prim.Native.Nat.{ℕ, ◌-◌}
use mathlib.Core.Path.{◌≡◌, refl, sym, subst, ◌∙◌}
use native.Mathlib.Omega.{arith}
use lib.ListN.{length, get_or}
use Rattle.types.specs.Values.{as_locator}
use Rattle.final_readings_spec.specs.Answers.{as_reading}
use Rattle.slip_write_table.specs.Table.{Listed}
use Rattle.slip_write_table.proofs.Words.{position_entry, position_found, position_same, listed_start, listed_more}
use Rattle.slip_write_table.proofs.list_certifiers.Goals as goal

pub loop-i-init : goal.loop-i-init
loop-i-init c = let a = c.args in (
  (omega arith, refl),
  (
    c.requires.0.1,
    listed_start (as_reading a.reading) a.store.now a.order.now
        (as_locator a.locator) a.positions.now a.certifiers.now,
  ),
)

pub reference_at-block-requires : goal.reference_at-block-requires
reference_at-block-requires c = let a = c.args in
    let q = c.requires in
    let g = c.loop-i in
    position_entry a.store.now a.order.now q.0.0 (get_or a.positions.now g.i 0) (q.1.0 g.i c.loop-i-test.true)

pub place_of-k-requires : goal.place_of-k-requires
place_of-k-requires c = let a = c.args in
    let q = c.requires in
    let g = c.loop-i in (
      q.0.0,
      rw c.reference_at-block.ensures (position_found a.store.now a.order.now q.0.0 (get_or a.positions.now g.i 0)
          (q.1.0 g.i c.loop-i-test.true)),
    )

pub voters_at-voters-requires : goal.voters_at-voters-requires
voters_at-voters-requires c = (
  (
    c.requires.0.0,
    c.place_of-k.ensures.0,
  ),
  c.loop-i.invariant.1.0,
)

pub note_certifier-requires : goal.note_certifier-requires
note_certifier-requires c = omega (
  arith,
  c.requires.1.1,
  c.loop-i.invariant.0.1,
  c.loop-i-test.true,
)

pub loop-i-preserved : goal.loop-i-preserved
loop-i-preserved c = let a = c.args in
    let q = c.requires in
    let g = c.loop-i in
    let t = c.loop-i-test.true in
    let k = c.place_of-k.result in
    let e = c.place_of-k.ensures in
    let v = c.voters_at-voters in
    let same = position_same a.store.now a.order.now q.0.0 (get_or a.positions.now g.i 0) (q.1.0 g.i t) k e.0
    (e.1 ∙ c.reference_at-block.ensures) in (
      (omega (arith, t), c.note_certifier.auto.certifiers ∙ g.invariant.0.1),
      (
        v.ensures.remembers_both,
        rw c.note_certifier.ensures (listed_more (as_reading a.reading) a.store.now a.order.now (as_locator a.locator)
            a.positions.now g.certifiers g.i g.invariant.1.1 (omega (arith, q.1.1, g.invariant.0.1, t)) k e.0 same v.result v.ensures.value),
      ),
    )

pub shape_of-memo : goal.shape_of-memo
shape_of-memo c = c.loop-i.invariant.1.0.long ∙ sym c.requires.0.1.long

pub shape_of-certifiers : goal.shape_of-certifiers
shape_of-certifiers c = c.loop-i.invariant.0.1

pub returns : goal.returns
returns c = let a = c.args in
    let g = c.loop-i in
    let e : g.i ≡ length a.positions.now = omega (arith, c.loop-i-test.false, g.invariant.0.0) in
    subst (λ (i : ℕ). Listed (as_reading a.reading) a.store.now a.order.now (as_locator a.locator) a.positions.now g.certifiers i) e
    g.invariant.1.1
