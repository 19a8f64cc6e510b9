use Prim.Native.Nat.{ℕ, ◌<◌}
use mathlib.Core.Path.{◌≡◌, subst, ◌∙◌}
use native.Mathlib.Omega.{arith}
use lib.ListN.{length, get_or}
use Rattle.base.proofs.Le.{bytes_of}
use Rattle.record_spec.specs.Record.{no_reference}
use Rattle.types.specs.Values.{as_locator}
use Rattle.final_block_votes.specs.Walk.{block_at_place}
use Rattle.final_block_votes.proofs.Sorting.{place_entry, include_found, include_lower}
use Rattle.slip_write_distances.proofs.Reading.{Reading, reading_start, include_word, reading_more, reading_done, few_steps, few_includes_lem}
use Rattle.slip_write_distances.proofs.read_block.Goals as goal

pub include_count_at-count-requires : goal.include_count_at-count-requires
include_count_at-count-requires c = let a = c.args in
    place_entry a.store.now a.order.now c.requires.0.0.0 a.k
    c.requires.0.0.1

pub loop-j-init : goal.loop-j-init
loop-j-init c = let a = c.args in (
  omega arith,
  reading_start a.store.now a.order.now (as_locator a.locator) a.near.now a.steps.now a.k
      c.requires.1,
)

pub include_at-requires : goal.include_at-requires
unfolding block_at_place
include_at-requires c = let a = c.args in
    let q = c.requires.0.0 in
    (place_entry a.store.now a.order.now q.0 a.k q.1, omega (arith, c.loop-j-test.true, c.include_count_at-count.ensures))

pub place_of-i-requires : goal.place_of-i-requires
unfolding block_at_place
place_of-i-requires c = let a = c.args in
    let q = c.requires.0.0 in (
      q.0,
      rw c.include_at.ensures (include_found a.store.now a.order.now q.0 a.k q.1 c.loop-j.j
          (omega (arith, c.loop-j-test.true, c.include_count_at-count.ensures))),
    )

pub overflow_cast-j : goal.overflow_cast-j
unfolding block_at_place
overflow_cast-j c = let a = c.args in
    let q = c.requires.0.0 in
    let bytes = bytes_of a.store.now (λ j h. omega (
      arith,
      c.shared_slice_known-1.given j,
    )) in
    omega (
      arith,
      c.loop-j-test.true,
      c.include_count_at-count.ensures,
      few_includes_lem a.store.now a.order.now (as_locator a.locator) q.0 bytes a.k q.1,
    )

pub fold_include-requires : goal.fold_include-requires
unfolding block_at_place
fold_include-requires c = let a = c.args in
    let p = c.requires in
    let g = c.loop-j in
    let i = c.place_of-i.result in
    let s = a.store.now in
    let o = a.order.now in
    let n : g.j < length (block_at_place s o a.k).includes = omega
    (arith, c.loop-j-test.true, c.include_count_at-count.ensures) in
    let e : (block_at_place s o i).reference ≡ get_or (block_at_place s o a.k).includes g.j no_reference = c.place_of-i.ensures.1 ∙ c.include_at.ensures in
    let low = include_lower s o p.0.0.0 a.k p.0.0.1 g.j n i c.place_of-i.ensures.0 e in (
      (g.invariant.1.words.beside.long ∙ p.1.long, g.invariant.1.beside.long ∙ p.1.long_steps),
      (
        (low, omega (arith, p.0.0.1, p.0.1)),
        λ x w. omega (
          arith,
          include_word s o (as_locator a.locator) a.near.now a.steps.now a.k p.1 g.near g.steps g.j g.invariant.1 n i low e x w,
          few_steps s o (as_locator a.locator) p.0.0.0 x (get_or (block_at_place s o a.k).includes g.j no_reference),
          p.0.1,
        ),
      ),
    )

pub loop-j-preserved : goal.loop-j-preserved
unfolding block_at_place
loop-j-preserved c = let a = c.args in
    let p = c.requires in
    let g = c.loop-j in
    let i = c.place_of-i.result in
    let s = a.store.now in
    let o = a.order.now in
    let n : g.j < length (block_at_place s o a.k).includes = omega (
      arith,
      c.loop-j-test.true,
      c.include_count_at-count.ensures,
    ) in
    let e : (block_at_place s o i).reference ≡ get_or (block_at_place s o a.k).includes g.j no_reference = c.place_of-i.ensures.1 ∙ c.include_at.ensures in
    let low = include_lower s o p.0.0.0 a.k p.0.0.1 g.j n i c.place_of-i.ensures.0
    e in (
      omega (arith, c.loop-j-test.true),
      reading_more s o (as_locator a.locator)
          a.near.now a.steps.now a.k p.1 g.near g.steps g.j g.invariant.1 n i low e _ _
          c.fold_include.ensures,
    )

pub note_own-requires : goal.note_own-requires
note_own-requires c = let p = c.requires in
    (p.0.0, (p.0.1, c.loop-j.invariant.1.words.beside.long ∙ p.1.long))

pub shape_of-near : goal.shape_of-near
shape_of-near c = c.note_own.auto.near ∙ c.loop-j.invariant.1.words.beside.long

pub shape_of-steps : goal.shape_of-steps
shape_of-steps c = c.loop-j.invariant.1.beside.long

pub returns : goal.returns
unfolding block_at_place
returns c = let a = c.args in
    let p = c.requires in
    let g = c.loop-j in
    let s = a.store.now in
    let o = a.order.now in
    let n : g.j ≡ length (block_at_place s o a.k).includes = omega
    (arith, c.loop-j-test.false, g.invariant.0, c.include_count_at-count.ensures) in
    let r = subst (λ (j : ℕ). Reading s o (as_locator a.locator) a.near.now a.steps.now a.k g.near g.steps j) n g.invariant.1 in
    reading_done s o (as_locator a.locator) a.near.now a.steps.now a.k p.1 p.0.0.0 p.0.0.1 g.near g.steps r
    (omega (arith, p.0.0.1, p.0.1)) _ c.note_own.ensures
