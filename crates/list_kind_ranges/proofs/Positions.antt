-- Where the reference of what a statement votes for, or rejects, stands: after its kind. Assumes nothing.
use mathlib.Core.Path.{◌≡◌, refl, sym, ap, ◌∙◌}
use mathlib.Core.Bool.{Bool, true, false}
use mathlib.Core.List.{List, [], ◌∷◌, ◌++◌, map, flatten, append_assoc, Option-to_list}
use mathlib.Core.Option.{Option, some, some-injective}
use Prim.Native.Nat.{ℕ, suc, ◌+◌, ◌≤◌, ◌<◌}
use native.Mathlib.Omega.{arith}
use lib.Dec.{eqb}
use lib.ListN.{length, get_or, drop, length-append, length-drop}
use lib.Seq.{drop-cons, drop-drop}
use Rattle.base.specs.Lists.{pick}
use Rattle.base.specs.Le.{Bytes}
use Rattle.base.specs.Read.{Part}
use Rattle.base.proofs.Le.{AllBytes}
use Rattle.base.proofs.Lists.{Every, none_of, and, every}
use Rattle.base.proofs.Places.{every_place}
use Rattle.base.proofs.Read.{part}
use Rattle.base.proofs.Fixed.{reads_at}
use Rattle.record_spec.specs.Reference.{BlockReference, TransactionLocator, TransactionLocatorRange, new_range, one_range}
use Rattle.record_spec.specs.Block.{Statement, share, accept, reject, vote_range, voted_range}
use Rattle.record_spec.specs.Record.{read_reference, well_formed, block_in, time_in, no_statement, reference_bytes, locator_bytes, statement_bytes}
use Rattle.record_spec.specs.Record.{statement_start}
use Rattle.record_spec.proofs.Records.{ReferenceFits, StatementFits, BlockFits, reference_reads, length_reference, block_of_fits, block_of_lem, timed_of_lem}
use Rattle.record_spec.proofs.Places.{statements_place}
use Rattle.record_reference_bytes.proofs.Fixed.{fixed_reference, reference_value}
use Rattle.record_reader.proofs.Shape.{shape_in}
use Rattle.final_readings_spec.specs.Rejecting.{rejected_in}
use Rattle.list_block_spans.specs.Ranges.{rejected_range, reject_ranges}
use Rattle.list_kind_ranges.specs.Next.{StandsAt, AllStand}

-- ---- the reference that a statement names

data Names : Statement → BlockReference → Type 0 where
  by_accept : (l : TransactionLocator) → Names (accept l) l.block
  by_reject : (l : TransactionLocator) (o : Option TransactionLocator) → Names (reject l o) l.block
  by_range : (q : TransactionLocatorRange) → Names (vote_range q) q.block

vote_named : (st : Statement) → Every (λ q. Names st q.block) (Option-to_list (voted_range st))
unfolding voted_range one_range new_range Option-to_list
vote_named (share v) = none_of
vote_named (accept l) = and (by_accept l) none_of
vote_named (reject l o) = none_of
vote_named (vote_range q) = and (by_range q) none_of

reject_named : (st : Statement) → Every (λ q. Names st q.block) (reject_ranges st)
unfolding reject_ranges rejected_range rejected_in flatten one_range new_range
reject_named (share v) = none_of
reject_named (accept l) = none_of
reject_named (reject l o) = go (eqb l.offset 18446744073709551615)
  where
    go : (t : Bool) → Every (λ q. Names (reject l o) q.block) (pick t [] (one_range l ∷ []) ++ [])
    go true = none_of
    go false = and (by_reject l o) none_of
reject_named (vote_range q) = none_of

-- its bytes stand after the kind
record After (st : Statement) (r : BlockReference) : Type 0 where
  kind : ℕ
  others : List ℕ
  are : statement_bytes st ≡ kind ∷ reference_bytes r ++ others

named_bytes : {st : Statement} {r : BlockReference} → Names st r → After st r
unfolding statement_bytes locator_bytes
named_bytes (by_accept l) = record { kind = 1; others = _; are = refl }
named_bytes (by_reject l o) = record { kind = 2; others = _; are = ap (λ (xs : List ℕ). 2 ∷ xs) (append_assoc (reference_bytes l.block) _ _) }
named_bytes (by_range q) = record { kind = 3; others = _; are = refl }

named_fits : {st : Statement} {r : BlockReference} → Names st r → StatementFits st → ReferenceFits r
named_fits (by_accept l) h = h.block
named_fits (by_reject l o) h = h.0.block
named_fits (by_range q) h = h.block

long_statement : (st : Statement) → 0 < length (statement_bytes st)
unfolding statement_bytes
long_statement (share v) = omega arith
long_statement (accept l) = omega arith
long_statement (reject l o) = omega arith
long_statement (vote_range q) = omega arith

-- a reference is read where its bytes stand
reference_stands : (s : Bytes) (p : ℕ) (r : BlockReference) (x : List ℕ) → ReferenceFits r → drop p s ≡ reference_bytes r ++ x → StandsAt s p r
unfolding StandsAt
reference_stands s p r x f e =
    let h : p + 48 ≤ length s = omega (arith, ap length e, length-append (reference_bytes r) x, length_reference r f, length-drop p s) in
    let read : some (part (fixed_reference.value (drop p s)) (drop (p + 48) s)) ≡ some (part r x) = sym (reads_at read_reference 48 fixed_reference s p h) ∙
    ap read_reference e ∙ reference_reads r f x in
    (h, sym (reference_value s p) ∙ ap (λ (y : Part BlockReference). y.value) (some-injective _ _ read))

-- ---- in a record

module _ (r : Bytes) (bytes : AllBytes r) (well : well_formed r ≡ true) where
  fits : BlockFits (block_in r)
  fits = block_of_fits r (block_in r) bytes (block_of_lem r well)

  module _ (i : ℕ) (h : i < length (block_in r).statements) where
    abbrev st : Statement
    st = get_or (block_in r).statements i no_statement

    from_here : drop (statement_start r i) r ≡ statement_bytes st ++ flatten (map statement_bytes (drop (suc i) (block_in r).statements))
    unfolding flatten
    from_here = statements_place r (record { block = block_in r; time = time_in r }) bytes (timed_of_lem r (block_in r) (block_of_lem r well)) i ∙ rw
        (drop-cons (block_in r).statements i no_statement h)

    pub kind_inside : statement_start r i + 1 ≤ length r
    kind_inside = omega (
      arith,
      ap length from_here,
      length-append (statement_bytes st) (flatten (map statement_bytes (drop (suc i) (block_in r).statements))),
      long_statement st,
      length-drop (statement_start r i) r,
    )

    named_stands : (q : BlockReference) → Names st q → StandsAt r (statement_start r i + 1) q
    named_stands q n =
        let a = named_bytes n in
        let more = flatten (map statement_bytes (drop (suc i) (block_in r).statements)) in
        reference_stands r (statement_start r i + 1) q (a.others ++ more)
        (named_fits n (every_place no_statement (block_in r).statements i fits.statements h))
        (sym (drop-drop 1 (statement_start r i) r) ∙ ap (drop 1) (from_here ∙ ap (λ (xs : List ℕ). xs ++ more) a.are) ∙ append_assoc (reference_bytes q)
        a.others more)

    pub votes_stand : AllStand r (statement_start r i + 1) (Option-to_list (voted_range st))
    unfolding AllStand
    votes_stand = every (λ q n. named_stands q.block n) _ (vote_named st)

    pub rejects_stand : AllStand r (statement_start r i + 1) (reject_ranges st)
    unfolding AllStand
    rejects_stand = every (λ q n. named_stands q.block n) _ (reject_named st)

-- that of the block itself
pub own_stands : (r : Bytes) → well_formed r ≡ true → StandsAt r 0 (block_in r).reference
unfolding StandsAt
own_stands r well = let h = shape_in r well in (omega (arith, h.long), sym h.reference)
