use mathlib.Core.Path.{◌≡◌, sym, ap, subst, ◌∙◌}
use mathlib.Core.Bool.{true}
use mathlib.Core.List.{[], ◌∷◌}
use mathlib.Core.Option.{some}
use Prim.Native.Nat.{ℕ, ◌+◌, ◌-◌, ◌*◌, ◌≤◌, ◌<◌}
use native.Mathlib.Nat.{add-sub_cancel_left}
use native.Mathlib.Omega.{arith}
use lib.ListN.{length, take, drop, get_elem?}
use lib.Seq.{sets}
use Rattle.base.specs.Lists.{pick}
use Rattle.base.specs.Le.{Bytes}
use Rattle.base.proofs.Le.{bytes_of}
use Rattle.base.proofs.Tests.{not_both}
use Rattle.record_spec.specs.Reference.{locator, new_range}
use Rattle.record_spec.specs.Block.{share, is_share_at}
use Rattle.record_spec.specs.Record.{well_formed, block_in}
use Rattle.types.specs.Values.{as_locator, as_range}
use Rattle.record_statement.specs.Step.{payload_between}
use Rattle.record_statement.specs.Values.{as_statement}
use Rattle.record_statement.specs.declared.BaseStatement.TheVariants.{Share}
use Rattle.record_cursor.specs.Cursor.{cursor_at}
use Rattle.record_cursor.specs.declared.StatementCursor.{StatementCursor}
use Rattle.load_share_count.proofs.Statements.{share_here}
use Rattle.load_places.specs.Listed.{met_by}
use Rattle.load_pass.specs.Holding.{Read}
use Rattle.load_pass.proofs.Statements.{payload_here, told_other, told_share, payload_inside}
use Rattle.load_pass.proofs.Running.{coming_formed, coming_share, coming_below, coming_payload, going_start, going_before, going_looked}
use Rattle.load_pass.proofs.Running.{going_room, going_listed, going_end}
use Rattle.load_pass.proofs.list_run.Goals as goal

pub loop-cursor-init : goal.loop-cursor-init
unfolding as_range new_range
loop-cursor-init c = let a = c.args in going_start a.store.now (as_range a.range) a.places.now a.n
    c.requires.0 a.rec.now a.read.cursor c.requires.1.1.1.0
    c.requires.1.1.1.1

pub next_statement-next-requires : goal.next_statement-next-requires
unfolding as_range new_range
next_statement-next-requires c =
    let a = c.args in
    let l = c.loop-cursor in
    let same = c.requires.1.1.0 in
    let formed : well_formed a.rec.now ≡ true = subst (λ (x : Bytes). well_formed x ≡ true) (sym same)
    (coming_formed a.store.now (as_range a.range) a.places.now a.n c.requires.0
    a.read.at c.requires.1.0) in
    let few : l.cursor.index < length (block_in a.rec.now).statements = subst (λ (x : Bytes). l.cursor.index < length (block_in x).statements)
    (sym same) (coming_below a.store.now (as_range a.range) a.places.now a.n
    c.requires.0 a.read.at
    c.requires.1.0 l.cursor.index (omega (arith, c.loop-cursor-test.true))) in
    (formed, (l.invariant.there, few))

pub loop-cursor-smaller-then-offset-range : goal.loop-cursor-smaller-then-offset-range
unfolding cursor_at
loop-cursor-smaller-then-offset-range c = omega (
  arith,
  c.loop-cursor-test.true,
  ap (λ (x : StatementCursor). x.index)
      c.next_statement-next.ensures.1.0,
)

pub loop-cursor-preserved-then-offset-range : goal.loop-cursor-preserved-then-offset-range
unfolding as_range new_range
loop-cursor-preserved-then-offset-range c =
    let a = c.args in
    let l = c.loop-cursor in
    going_before a.store.now (as_range a.range) a.places.now a.n a.rec.now l.places l.cursor l.found l.invariant
    c.next_statement-next.result.next c.next_statement-next.ensures.1.0
    (omega (arith, c.loop-cursor-test.true)) (omega (arith, c.if-offset-range.true))

pub loop-cursor-smaller-in_default : goal.loop-cursor-smaller-in_default
unfolding cursor_at
loop-cursor-smaller-in_default c = omega (
  arith,
  c.loop-cursor-test.true,
  ap (λ (x : StatementCursor). x.index)
      c.next_statement-next.ensures.1.0,
)

pub loop-cursor-preserved-in_default : goal.loop-cursor-preserved-in_default
unfolding as_range new_range
loop-cursor-preserved-in_default c =
    let a = c.args in
    let l = c.loop-cursor in
    let same = c.requires.1.1.0 in
    let formed : well_formed a.rec.now ≡ true = subst (λ (x : Bytes). well_formed x ≡ true) (sym same)
    (coming_formed a.store.now (as_range a.range) a.places.now a.n
    c.requires.0 a.read.at
    c.requires.1.0) in
    let few : l.cursor.index < length (block_in a.rec.now).statements = subst (λ (x : Bytes). l.cursor.index < length (block_in x).statements)
    (sym same) (coming_below a.store.now (as_range a.range) a.places.now a.n
    c.requires.0 a.read.at
    c.requires.1.0 l.cursor.index
    (omega (arith, c.loop-cursor-test.true))) in
    let next = c.next_statement-next in
    let i = l.cursor.index in
    let rec = a.rec.now in
    let other = told_other rec next.result.statement (sym c.share_place.ensures ∙ c.in_default.is) in
    let is : is_share_at (block_in rec) i ≡ true = subst (λ (x : Bytes). is_share_at (block_in x) i ≡ true) (sym same)
    (coming_share a.store.now (as_range a.range) a.places.now a.n
    c.requires.0 a.read.at
    c.requires.1.0 i
    (omega (arith, c.if-offset-range.false)) (omega (arith, c.loop-cursor-test.true))) in
    absurd (not_both is (share_here (block_in rec) i (as_statement rec next.result.statement) few next.ensures.0 ∙ other))

pub overflow_add-end : goal.overflow_add-end
unfolding as_range new_range cursor_at
overflow_add-end c =
    let a = c.args in
    let l = c.loop-cursor in
    let same = c.requires.1.1.0
    in
    let formed : well_formed a.rec.now ≡ true = subst (λ (x : Bytes). well_formed x ≡ true) (sym same)
    (coming_formed a.store.now (as_range a.range) a.places.now a.n
    c.requires.0
    a.read.at c.requires.1.0) in
    let few : l.cursor.index < length (block_in a.rec.now).statements = subst (λ (x : Bytes). l.cursor.index < length (block_in x).statements)
    (sym same) (coming_below a.store.now (as_range a.range) a.places.now a.n
    c.requires.0
    a.read.at c.requires.1.0 l.cursor.index (omega (arith, c.loop-cursor-test.true))) in
    let next = c.next_statement-next in
    let i = l.cursor.index in
    let rec = a.rec.now in
    let st = told_share next.result.statement c.in-Some.start c.in-Some.len (sym c.share_place.ensures ∙ c.in-Some.is) in
    let between : payload_between l.cursor.at next.result.next.at (Share c.in-Some.start c.in-Some.len) ≡ true = sym
    (ap (payload_between l.cursor.at next.result.next.at) st) ∙ next.ensures.1.1 in
    omega (
      arith,
      c.well_formed,
      payload_inside rec (bytes_of rec (λ j h. omega (
        arith,
        c.shared_slice_known-2-1.given j,
      ))) formed l.cursor.index l.cursor.at next.result.next.at c.in-Some.start
          c.in-Some.len between (ap (λ (x : StatementCursor). x.at) next.ensures.1.0),
    )

pub slice_bounds-list_share-count : goal.slice_bounds-list_share-count
slice_bounds-list_share-count c = omega arith

pub slice_bounds-list_share-end : goal.slice_bounds-list_share-end
unfolding as_range new_range cursor_at
slice_bounds-list_share-end c =
    let a = c.args in
    let l = c.loop-cursor in
    let same = c.requires.1.1.0 in
    let formed : well_formed a.rec.now ≡ true = subst (λ (x : Bytes). well_formed x ≡ true) (sym same)
    (coming_formed a.store.now (as_range a.range) a.places.now a.n
    c.requires.0
    a.read.at c.requires.1.0) in
    let few : l.cursor.index < length (block_in a.rec.now).statements = subst (λ (x : Bytes). l.cursor.index < length (block_in x).statements)
    (sym same) (coming_below a.store.now (as_range a.range) a.places.now a.n
    c.requires.0
    a.read.at c.requires.1.0 l.cursor.index (omega (arith, c.loop-cursor-test.true)))
    in
    let next = c.next_statement-next in
    let i = l.cursor.index in
    let rec = a.rec.now in
    let st = told_share next.result.statement c.in-Some.start c.in-Some.len
    (sym c.share_place.ensures ∙ c.in-Some.is) in
    let between : payload_between l.cursor.at next.result.next.at (Share c.in-Some.start c.in-Some.len) ≡ true = sym
    (ap (payload_between l.cursor.at next.result.next.at) st) ∙ next.ensures.1.1 in
    omega (
      arith,
      payload_inside rec (bytes_of rec (λ j h. omega (
        arith,
        c.shared_slice_known-2-1.given j,
      ))) formed l.cursor.index l.cursor.at next.result.next.at c.in-Some.start c.in-Some.len between
          (ap (λ (x : StatementCursor). x.at) next.ensures.1.0),
    )

pub list_share-found-requires : goal.list_share-found-requires
unfolding as_range new_range
list_share-found-requires c =
    let a = c.args in
    let l = c.loop-cursor in
    let below : l.cursor.index < (as_range a.range).end = omega
    (arith, c.loop-cursor-test.true) in
    let from : (as_range a.range).start ≤ l.cursor.index = omega (arith, c.if-offset-range.false) in (
      going_looked a.store.now (as_range a.range) a.places.now a.n a.rec.now l.places l.cursor l.found l.invariant
          c.next_statement-next.result.next
          c.next_statement-next.ensures.1.0 below from
          c.requires.0,
      going_room a.store.now (as_range a.range) a.places.now a.n a.rec.now l.places l.cursor l.found l.invariant
          c.next_statement-next.result.next
          c.next_statement-next.ensures.1.0 below from
          c.requires.0,
    )

pub loop-cursor-smaller : goal.loop-cursor-smaller
unfolding cursor_at
loop-cursor-smaller c = omega (
  arith,
  c.loop-cursor-test.true,
  ap (λ (x : StatementCursor). x.index) c.next_statement-next.ensures.1.0,
)

pub loop-cursor-preserved : goal.loop-cursor-preserved
unfolding as_range new_range as_locator as_statement
loop-cursor-preserved c =
    let a = c.args in
    let l = c.loop-cursor in
    let same = c.requires.1.1.0 in
    let formed : well_formed a.rec.now ≡ true = subst (λ (x : Bytes). well_formed x ≡ true) (sym same)
    (coming_formed a.store.now (as_range a.range) a.places.now a.n
    c.requires.0 a.read.at c.requires.1.0) in
    let few : l.cursor.index < length (block_in a.rec.now).statements = subst (λ (x : Bytes). l.cursor.index < length (block_in x).statements)
    (sym same) (coming_below a.store.now (as_range a.range) a.places.now a.n
    c.requires.0 a.read.at c.requires.1.0 l.cursor.index
    (omega (arith, c.loop-cursor-test.true))) in
    let next = c.next_statement-next in
    let i = l.cursor.index in
    let rec = a.rec.now in
    let st = told_share next.result.statement c.in-Some.start c.in-Some.len
    (sym c.share_place.ensures ∙ c.in-Some.is) in
    let between : payload_between l.cursor.at next.result.next.at (Share c.in-Some.start c.in-Some.len) ≡ true = sym
    (ap (payload_between l.cursor.at next.result.next.at) st) ∙ next.ensures.1.1 in
    let start = c.in-Some.start in
    let count = c.in-Some.len in
    let p : Bytes = take count (drop start rec) in
    let part : take (start + count - start) (drop start rec) ≡ p = ap (λ (m : ℕ). take m (drop start rec)) (add-sub_cancel_left start count) in
    let stands : get_elem? (block_in rec).statements i ≡ some (share p) = payload_here (block_in rec) i p few (sym (ap (as_statement rec) st) ∙ next.ensures.0)
    in
    let below : i < (as_range a.range).end = omega (
      arith,
      c.loop-cursor-test.true,
    ) in
    let from : (as_range a.range).start ≤ i = omega (arith, c.if-offset-range.false) in
    let listed = c.list_share-found.ensures in
    going_listed a.store.now (as_range a.range) a.places.now a.n a.rec.now l.places l.cursor l.found l.invariant next.result.next
    next.ensures.1.0 below from c.requires.0 a.read.at
    c.requires.1.0 p
    (coming_payload a.store.now (as_range a.range) a.places.now a.n
    c.requires.0 a.read.at c.requires.1.0 i p
    (subst (λ (x : Bytes). get_elem? (block_in x).statements i ≡ some (share p)) same stands))
    c.list_share-found.new.places c.list_share-found.result
    (listed.value ∙ ap (λ (x : Bytes). pick (met_by a.store.now l.found l.places (locator (as_range a.range).block i) x) (l.found + 1) l.found)
    part)
    (listed.places_after ∙ ap (λ (x : Bytes). pick (met_by a.store.now l.found l.places (locator (as_range a.range).block i) x)
    (sets l.places (2 * l.found) (a.read.at ∷ i ∷ [])) l.places) part)

pub shape_of-places : goal.shape_of-places
shape_of-places c = c.loop-cursor.invariant.past.long

pub returns : goal.returns
unfolding as_range new_range Read
returns c =
    let a = c.args in
    let l = c.loop-cursor in (
      going_end a.store.now (as_range a.range) a.places.now a.n a.rec.now l.places l.cursor l.found l.invariant
          (omega (arith, c.loop-cursor-test.false)),
      λ e. l.invariant.there ∙ ap (λ (x : Bytes). cursor_at x l.cursor.index)
          c.requires.1.1.0,
    )
