use Prim.Native.Nat.{ℕ, ◌+◌}
use mathlib.Core.Path.{refl, sym, ap, ◌∙◌}
use native.Mathlib.Omega.{arith}
use lib.ListN.{length-set}
use Rattle.base.proofs.Tests.{not_both}
use Rattle.record_spec.specs.Record.{well_formed}
use Rattle.store_spec.specs.Store.{block_count, used_length}
use Rattle.store_spec.proofs.Check.{header_right_lem}
use Rattle.store_spec.proofs.Loops.{formed_at, record-part, refuses, walking_done, walking_start, walking_on, walking_stop}
use Rattle.store_form.proofs.entries_readable.Goals as goal

named_value_starts_after : {P0 P1 : Type 0} → P0 × P1 → record { value : P0; starts_after : P1 }
named_value_starts_after p = record { value = p.0; starts_after = p.1 }

pub read_u32-used-requires : goal.read_u32-used-requires
read_u32-used-requires c = omega (arith, (header_right_lem c.args.store.now c.requires.0).long)

pub read_u16-count-requires : goal.read_u16-count-requires
read_u16-count-requires c = omega (arith, (header_right_lem c.args.store.now c.requires.0).long)

pub loop-i-init : goal.loop-i-init
loop-i-init c =
    let a = c.args in (
      walking_start a.store.now a.starts.now,
      (
        refl,
        (
          omega arith,
          omega
              (arith, (header_right_lem a.store.now c.requires.0).long),
        ),
      ),
    )

pub returns-then-store-at-lt8 : goal.returns-then-store-at-lt8
unfolding block_count
returns-then-store-at-lt8 c =
    named_value_starts_after (let l = c.loop-i in
    let s = c.args.store.now in
    refuses (walking_stop s l.i l.at l.starts l.invariant.0 (omega arith) (λ r st. omega (arith, st.inside))))

pub returns-then-store-from : goal.returns-then-store-from
unfolding block_count
returns-then-store-from c =
    named_value_starts_after (let l = c.loop-i in
    let s = c.args.store.now in
    refuses (walking_stop s l.i l.at l.starts l.invariant.0 (omega arith) (λ r st. omega (arith, st.inside, st.size))))

pub returns-then-not-well_formed : goal.returns-then-not-well_formed
unfolding block_count
returns-then-not-well_formed c =
    named_value_starts_after (let l = c.loop-i in
    let s = c.args.store.now in
    let n = c.read_u32-n in
    refuses (walking_stop s l.i l.at l.starts l.invariant.0 (omega arith)
    (λ r st. not_both (formed_at s l.at r st) (ap well_formed (sym
    (record-part s l.at (l.at + 8 + n.result) (ap (λ (k : ℕ). l.at + 8 + k) n.ensures))) ∙ sym c.well_formed-in-loop-i.ensures ∙ c.if-not-well_formed.true))))

pub bounds-starts-i : goal.bounds-starts-i
unfolding block_count
bounds-starts-i c = omega (
  arith,
  c.loop-i.invariant.1.0,
  c.requires.1,
  (header_right_lem
      c.args.store.now
      c.requires.0).few,
)

pub loop-i-preserved : goal.loop-i-preserved
unfolding block_count
loop-i-preserved c =
    let l = c.loop-i in
    let s = c.args.store.now in
    let n = c.read_u32-n in (
      walking_on s l.i l.at (l.at + 8 + n.result) l.starts l.invariant.0
          (omega (
            arith,
            l.invariant.1.0,
            c.requires.1,
            (header_right_lem
                s c.requires.0).few,
          ))
          (ap (λ (k : ℕ). l.at + 8 + k) n.ensures) (omega arith)
          (sym c.well_formed-in-loop-i.ensures ∙ c.if-not-well_formed.false),
      (simp length-set l.invariant.1.0, (omega arith, omega arith)),
    )

pub returns : goal.returns
unfolding block_count used_length
returns c =
    named_value_starts_after (let l = c.loop-i in
    let s = c.args.store.now in
    let u = c.read_u32-used in
    walking_done s l.i l.at u.result l.starts c.requires.0 l.invariant.0 (omega arith) u.ensures)
