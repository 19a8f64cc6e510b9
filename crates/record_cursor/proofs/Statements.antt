-- Where the statements of a well-formed record stand. Assumes nothing.
use mathlib.Core.Path.{◌≡◌, sym, ap, ◌∙◌}
use mathlib.Core.List.{List, [], ◌∷◌, map, flatten}
use mathlib.Core.Option.{some, some-injective, none-ne-some}
use mathlib.Core.Bool.{true}
use Prim.Native.Nat.{ℕ, zero, suc, ◌+◌, ◌*◌, ◌≤◌, ◌<◌}
use native.Mathlib.Numerals.{add-one}
use native.Mathlib.Omega.{arith}
use lib.ListN.{length, get_or, take, drop, length-append, length-drop}
use lib.Seq.{drop-cons}
use Rattle.base.specs.Lists.{sum_of}
use Rattle.base.proofs.Lists.{Every, none_of, and}
use Rattle.base.proofs.Le.{AllBytes}
use Rattle.base.specs.Read.{Part}
use Rattle.base.proofs.Read.{part}
use Rattle.record_spec.specs.Block.{Statement, Block}
use Rattle.record_spec.specs.Record.{read_statement, Timed, timed_of, time_in, well_formed, block_in, no_statement, statement_bytes, body_start}
use Rattle.record_spec.specs.Record.{statement_start}
use Rattle.record_spec.proofs.Records.{BlockFits, statement_reads, block_of_fits, block_of_lem, timed_of_lem}
use Rattle.record_spec.proofs.Places.{statements_place}
use Rattle.record_statement.specs.Values.{as_statement}
use Rattle.record_statement.specs.Step.{payload_between, Took}
use Rattle.record_statement.specs.declared.BaseStatement.{BaseStatement}
use Rattle.std.specs.Prelude.{Some, None}
use Rattle.record_reader.proofs.Shape.{shape_in, include_count}

-- ---- one after the other

module _ {A : Type 0} (w : A → List ℕ) where
  -- the bytes of the first i
  abbrev Before : ℕ → List A → ℕ
  Before i xs = sum_of (map (λ x. length (w x)) (take i xs))

  written_inside : (i : ℕ) (xs : List A) → Before i xs ≤ length (flatten (map w xs))
  unfolding sum_of flatten
  written_inside zero xs = omega arith
  written_inside (suc i) [] = omega arith
  written_inside (suc i) (x ∷ xs) = omega (arith, length-append (w x) (flatten (map w xs)), written_inside i xs)

every_at : {A : Type 0} {P : A → Type 0} (xs : List A) (d : A) (i : ℕ) → Every P xs → i < length xs → P (get_or xs i d)
every_at [] d i none_of h = absurd (omega arith)
every_at (x ∷ xs) d zero (and p ps) h = p
every_at (x ∷ xs) d (suc i) (and p ps) h = every_at xs d i ps (omega arith)

-- ---- in a record

module _ (s : List ℕ) (bytes : AllBytes s) (well : well_formed s ≡ true) where
  abbrev b : Block
  b = block_in s

  abbrev t : Timed
  t = record { block = block_in s; time = time_in s }

  read : timed_of s ≡ some t
  read = timed_of_lem s b (block_of_lem s well)

  fits : BlockFits b
  fits = block_of_fits s b bytes (block_of_lem s well)

  -- from the statement of that index on
  statements_from : (i : ℕ) → drop (statement_start s i) s ≡ flatten (map statement_bytes (drop i (block_in s).statements))
  statements_from i = statements_place s t bytes read i

  front_inside : body_start s + 48 * length b.includes + length (flatten (map statement_bytes b.statements)) ≡ length s
  unfolding statement_start sum_of
  front_inside =
      let shape = shape_in s well in
      omega (
        arith,
        shape.inside,
        include_count s b shape,
        length-drop (body_start s + 48 * length b.includes + 0) s,
        ap (λ (l : List ℕ). length l) (statements_from 0),
      )

  -- each statement starts inside the record
  pub start_inside : (i : ℕ) → statement_start s i ≤ length s
  unfolding statement_start
  start_inside i = omega (arith, front_inside, written_inside statement_bytes i b.statements)

  -- and is read there
  pub statement_at : (i : ℕ) → i < length (block_in s).statements
      → read_statement (drop (statement_start s i) s) ≡ some (part (get_or (block_in s).statements i no_statement) (drop (statement_start s (i + 1)) s))
  unfolding flatten
  statement_at i h =
      let st : Statement = get_or b.statements i no_statement in
      rw (statements_from i, statements_from (i + 1), add-one, drop-cons b.statements i no_statement h)
      (statement_reads st (every_at b.statements no_statement i fits.statements h) (flatten (map statement_bytes (drop (suc i) b.statements))))

  -- so what is taken there is the statement, up to the next
  pub took_some : (i end : ℕ) (st : BaseStatement) → i < length (block_in s).statements → Took s (statement_start s i) (Some (st, end))
      → (as_statement s st ≡ get_or (block_in s).statements i no_statement) ×
      ((end ≡ statement_start s (i + 1)) × (payload_between (statement_start s i) end st ≡ true))
  unfolding Took
  took_some i end st h k =
      let next = statement_start s (i + 1) in
      let e : part (as_statement s st) (drop end s) ≡ part (get_or b.statements i no_statement) (drop next s) = some-injective _ _
      (sym k.0 ∙ statement_at i h) in
      let f : length (drop end s) ≡ length (drop next s) = ap (λ (p : Part Statement). length p.rest) e in
      (ap (λ (p : Part Statement). p.value) e, (omega (arith, f, length-drop end s, length-drop next s, k.1.0, start_inside (i + 1)), k.1.1))

  -- and something is
  pub took_none : (i : ℕ) → i < length (block_in s).statements → Took s (statement_start s i) None → ⊥
  unfolding Took
  took_none i h k = none-ne-some _ (sym k ∙ statement_at i h)
