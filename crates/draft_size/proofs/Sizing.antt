-- What is measured of a record: 51 applies, or its size. Assumes nothing.
use mathlib.Core.Path.{◌≡◌, refl, sym, ap, ◌∙◌}
use mathlib.Core.Logic.{◌⊎◌, inl, inr}
use mathlib.Core.List.{List, [], ◌∷◌, ◌++◌, map, flatten, append_assoc, append-nil}
use mathlib.Core.Option
use mathlib.Core.Option.{Option, none, some, some-injective, none-ne-some}
use mathlib.Core.Bool.{Bool, true, false, ◌||◌}
use Prim.Native.Nat.{ℕ, ◌+◌, ◌*◌, ◌/◌, ◌%◌, ◌≤◌, ◌<◌}
use native.Mathlib.Nat.{zero-add}
use native.Mathlib.Omega.{arith}
use lib.Dec.{ltb}
use lib.ListN.{length, length-append}
use lib.Seq.{drop-length}
use borrow.Author.Tests.{ltb-true, ltb-false, le-ltb, eq-eqb}
use Rattle.base.specs.Lists.{pick, any_of, all_of, is_empty}
use Rattle.base.specs.Le.{le_bytes}
use Rattle.base.specs.Read.{complete}
use Rattle.base.specs.Checks.{passes}
use Rattle.base.proofs.Tests.{not_both, fails, or_cases, neither_left, neither_right}
use Rattle.base.proofs.Le.{AllBytes, length_le_bytes}
use Rattle.base.proofs.Fixed.{fixed_repeated}
use Rattle.record_spec.specs.Reference.{BlockReference, TransactionLocator, locators}
use Rattle.record_spec.specs.Block.{Statement, accept}
use Rattle.record_spec.specs.Record.{read_reference, reference_bytes, statement_bytes, edition_bytes, time_bytes, bytes_in as record_in, edition_for}
use Rattle.record_spec.specs.Record.{timed_bytes}
use Rattle.record_spec.proofs.Records.{mark_byte, three_bytes, length_includes}
use Rattle.record_reference_bytes.proofs.Fixed.{fixed_reference}
use Rattle.draft_spec.specs.Draft.{Draft, Request, includes_in, statements_in, with_parts, draft_in}
use Rattle.draft_spec.specs.Joining.{joined}
use Rattle.draft_spec.specs.Writing.{written_block, record_bytes, is_long, form_checks}
use Rattle.draft_spec.specs.Claims.{Joins, end, stays, range}
use Rattle.draft_spec.proofs.Joining.{joins}
use Rattle.draft_spec.proofs.Given.{includes_back}
use Rattle.draft_spec.proofs.Written.{Writable, writable}
use Rattle.draft_joined.specs.Step.{joined_from}
use Rattle.draft_size.specs.Step.{measured_on, sized_up, bytes_in, writable as can_write, front_bytes, count_bytes, part_bytes}
use Rattle.std.specs.Prelude.{Some, None}
use Rattle.std.specs.declared.option.Option as code

-- ---- what is given, in parts

pub record Parts (q : Request) (d : Draft) : Type 0 where
  pub author : d.author ≡ q.author
  pub round : d.round ≡ q.round
  pub digest : d.digest ≡ q.digest
  pub mark : d.mark ≡ q.mark
  pub includes : includes_in q.includes ≡ some d.includes
  pub statements : statements_in q.statements ≡ some d.statements

parts_of : (q : Request) (d : Draft) → draft_in q ≡ some d → Parts q d
unfolding draft_in with_parts
parts_of q d h = go (includes_in q.includes) (statements_in q.statements) refl refl h
  where
    go : (is : Option (List BlockReference)) (ss : Option (List Statement)) → includes_in q.includes ≡ is → statements_in q.statements ≡ ss → with_parts q
        is ss ≡ some d → Parts q d
    go none ss e k g = absurd (none-ne-some d g)
    go (some is) none e k g = absurd (none-ne-some d g)
    go (some is) (some ss) e k g =
        rw (← some-injective _ _ g) (record { author = refl; round = refl; digest = refl; mark = refl; includes = e; statements = k })

-- includes are of 48 bytes
includes_length : (s : List ℕ) (is : List BlockReference) → AllBytes s → includes_in s ≡ some is → length s ≡ 48 * length is
includes_length s is b h =
    let r = includes_back s is b h in
    ap length r.are ∙ length_includes is r.right

-- whole includes are read
includes_there : (s : List ℕ) → length s % 48 ≡ 0 → (is : List BlockReference) × (includes_in s ≡ some is)
unfolding includes_in fixed_repeated complete is_empty
includes_there s h =
    let n = length s / 48 in
    let all : n * 48 ≡ length s = omega arith in
    let F = fixed_repeated read_reference 48 fixed_reference n in
    (F.value s, rw (F.reads s (omega (arith, all)), all, drop-length s))

-- ---- joined statements are no longer than those that were given

accepts_short : (ls : List TransactionLocator) (ss : List Statement) → any_of is_long (map accept ls ++ ss) ≡ any_of is_long ss
unfolding any_of is_long
accepts_short [] ss = refl
accepts_short (l ∷ ls) ss = accepts_short ls ss

joins_long : {ss ws : List Statement} → Joins ss ws → any_of is_long ws ≡ any_of is_long ss
unfolding any_of is_long
joins_long end = refl
joins_long (stays {s = s} j) = ap (λ (t : Bool). is_long s || t) (joins_long j)
joins_long (range {r = r} {ss = ss} more few e j) = rw e (joins_long j ∙ sym (accepts_short (locators r) ss))

joined_long : (ss : List Statement) → any_of is_long (joined ss) ≡ any_of is_long ss
joined_long ss = joins_long (joins ss)

-- ---- another form

module _ (q : Request) where
  not_sized : ((d : Draft) → Parts q d → Writable d → ⊥) → sized_up (draft_in q) ≡ None
  unfolding sized_up
  not_sized f = go (draft_in q) refl
    where
      go : (o : Option Draft) → draft_in q ≡ o → sized_up o ≡ None
      go none e = refl
      go (some d) e = rw (fails (passes (form_checks d)) (λ h. f d (parts_of q d e) (writable d h)))

  pub sized_digest : (length q.digest ≡ 32 → ⊥) → sized_up (draft_in q) ≡ None
  sized_digest h = not_sized (λ d p w. h (rw p.digest at w.size))

  pub sized_mark : 1 < q.mark → sized_up (draft_in q) ≡ None
  sized_mark h = not_sized (λ d p w. omega (arith, p.mark, w.mark))

  pub sized_cut : AllBytes q.includes → (length q.includes % 48 ≡ 0 → ⊥) → sized_up (draft_in q) ≡ None
  sized_cut b h = not_sized (λ d p w. h (let e = includes_length q.includes d.includes b p.includes in omega (arith, e)))

  pub sized_includes : AllBytes q.includes → 256 < length q.includes / 48 → sized_up (draft_in q) ≡ None
  sized_includes b h = not_sized (λ d p w. let e = includes_length q.includes d.includes b p.includes in omega (arith, e, w.few_includes_lem))

measured_all : (ws : List Statement)
    → measured_on 0 0 (some ws) ≡ pick (any_of is_long ws || ltb 1024 (length ws)) None (Some (length ws, length (flatten (map statement_bytes ws))))
unfolding measured_on
measured_all ws = rw (zero-add (length ws), zero-add (length (flatten (map statement_bytes ws))))

-- what was measured of the statements that are written
measured_back : (ws : List Statement) → measured_on 0 0 (some ws) ≡ None → any_of is_long ws || ltb 1024 (length ws) ≡ true
measured_back ws h = go (any_of is_long ws || ltb 1024 (length ws)) (sym (measured_all ws) ∙ h)
  where
    go : (t : Bool) → pick {A = code.Option (ℕ × ℕ)} t None (Some (length ws, length (flatten (map statement_bytes ws)))) ≡ None → t ≡ true
    go true k = refl
    go false k = let z : ◌≡◌ {A = ℕ} 0 1 = cc in absurd (omega arith)

joined_from_lem : (s : List ℕ) (ss : List Statement) → statements_in s ≡ some ss → joined_from s 0 ≡ some (joined ss)
unfolding joined_from
joined_from_lem s ss h = rw h

pub sized_statements : (q : Request) → measured_on 0 0 (joined_from q.statements 0) ≡ None → sized_up (draft_in q) ≡ None
sized_statements q h = not_sized q (λ d p w. go d w (or_cases _ _
    (measured_back (joined d.statements) (rw (joined_from_lem q.statements d.statements p.statements) at h))))
  where
    go : (d : Draft) → Writable d → (any_of is_long (joined d.statements) ≡ true) ⊎ (ltb 1024 (length (joined d.statements)) ≡ true) → ⊥
    go d w (inl e) = not_both e (joined_long d.statements ∙ w.short)
    go d w (inr e) = omega (arith, ltb-true 1024 (length (joined d.statements)) e, w.few_statements_lem)

-- ---- the size

-- both numbers of a measure
abbrev numbers : code.Option (ℕ × ℕ) → ℕ × ℕ
numbers None = (0, 0)
numbers (Some p) = p

-- what was measured of statements that fit
record Fitting (s : List ℕ) (count bytes : ℕ) : Type 0 where
  statements : List Statement
  read : statements_in s ≡ some statements
  short : any_of is_long (joined statements) ≡ false
  few : length (joined statements) ≤ 1024
  counted : count ≡ length (joined statements)
  sized : bytes ≡ length (flatten (map statement_bytes (joined statements)))

fitting : (s : List ℕ) (count bytes : ℕ) → measured_on 0 0 (joined_from s 0) ≡ Some (count, bytes) → Fitting s count bytes
unfolding joined_from measured_on
fitting s count bytes h = go (statements_in s) refl h
  where
    test : (ss : List Statement) → statements_in s ≡ some ss → (t : Bool) → any_of is_long (joined ss) || ltb 1024 (length (joined ss)) ≡ t
        → pick {A = code.Option (ℕ × ℕ)} t None (Some (length (joined ss), length (flatten (map statement_bytes (joined ss))))) ≡ Some (count, bytes)
        → Fitting s count bytes
    test ss e true f k = let z : ◌≡◌ {A = ℕ} 0 1 = cc in absurd (omega arith)
    test ss e false f k =
        record {
          statements = ss;
          read = e;
          short = neither_left _ _ f;
          few = ltb-false 1024 (length (joined ss)) (neither_right (any_of is_long (joined ss)) _ f);
          counted = sym (ap (λ o. (numbers o).0) k);
          sized = sym (ap (λ o. (numbers o).1) k);
        }

    go : (o : Option (List Statement)) → statements_in s ≡ o → measured_on 0 0 (Option.map joined o) ≡ Some (count, bytes) → Fitting s count bytes
    go none e k = let z : ◌≡◌ {A = ℕ} 0 1 = cc in absurd (omega arith)
    go (some ss) e k = test ss e (any_of is_long (joined ss) || ltb 1024 (length (joined ss))) refl (sym (measured_all (joined ss)) ∙ k)

-- ---- the bytes of a record, in parts

module _ (q : Request) (d : Draft) (bytes : AllBytes q.includes) (p : Parts q d) where
  includes_are : flatten (map reference_bytes d.includes) ≡ q.includes
  includes_are = sym (includes_back q.includes d.includes bytes p.includes).are

  statements_are : bytes_in (joined_from q.statements 0) ≡ flatten (map statement_bytes (joined d.statements))
  unfolding bytes_in
  statements_are = rw (joined_from_lem q.statements d.statements p.statements)

  record-parts : (o : Option ℕ) → d.mark ≤ 1
      → record_bytes o d
      ≡ front_bytes q.author q.round q.digest
      ++ (count_bytes q.mark (length d.includes) (length (joined d.statements)) ++
      (part_bytes o ++ (q.includes ++ bytes_in (joined_from q.statements 0))))
  unfolding record_bytes timed_bytes record_in written_block front_bytes count_bytes part_bytes reference_bytes flatten
  record-parts o m =
      let n = le_bytes 2 (length (joined d.statements)) in
      let body = q.includes ++ flatten (map statement_bytes (joined d.statements)) in
      rw (
        ← mark_byte d.mark m,
        p.author,
        p.round,
        p.digest,
        p.mark,
        includes_are,
        statements_are,
        append-nil (flatten (map statement_bytes (joined d.statements))),
        append_assoc (le_bytes 2 (length d.includes)) n (part_bytes o ++ body),
        append_assoc (edition_bytes (edition_for o)) (time_bytes o) body,
      )

pub length_front : (a r : ℕ) (dg : List ℕ) → length dg ≡ 32 → length (front_bytes a r dg) ≡ 48
unfolding front_bytes
length_front a r dg h = simp (length-append, length_le_bytes, h)

pub length_counts : (m i n : ℕ) → length (count_bytes m i n) ≡ 5
unfolding count_bytes
length_counts m i n = simp (length-append, length_le_bytes)

pub length_part : (o : Option ℕ) → length (part_bytes o) ≡ 3 + length (time_bytes o)
unfolding part_bytes
length_part o = length-append (edition_bytes (edition_for o)) (time_bytes o) ∙ omega (arith, three_bytes (edition_for o))

-- ---- what the writer is to write

-- the record that is written, and what its parts are
pub record Plan (q : Request) (count bytes : ℕ) : Type 0 where
  pub draft : Draft
  pub given : draft_in q ≡ some draft
  pub passed : passes (form_checks draft) ≡ true
  pub mark : q.mark ≤ 1
  pub digest : length q.digest ≡ 32
  pub includes : length q.includes / 48 ≤ 256
  pub few : count ≤ 1024
  pub whole : (o : Option ℕ) → bytes + length (time_bytes o) ≡ length (record_bytes o draft)
  pub size : bytes ≡ 56 + length q.includes + length (bytes_in (joined_from q.statements 0))
  pub writes : can_write (joined_from q.statements 0) ≡ true
  pub are : (o : Option ℕ) → record_bytes o draft
      ≡ front_bytes q.author q.round q.digest
      ++ (count_bytes q.mark (length q.includes / 48) count ++ (part_bytes o ++ (q.includes ++ bytes_in (joined_from q.statements 0))))

module _ (q : Request) (all : AllBytes q.includes) where
  plan_of : (d : Draft) → draft_in q ≡ some d → passes (form_checks d) ≡ true → Plan q (length (joined d.statements)) (length (record_bytes none d))
  unfolding can_write time_bytes
  plan_of d e h =
      let p : Parts q d = parts_of q d e in
      let w : Writable d = writable d h in
      let many : length q.includes / 48 ≡ length d.includes = omega (arith, includes_length q.includes d.includes all p.includes) in
      let ss = bytes_in (joined_from q.statements 0) in
      let front = front_bytes q.author q.round q.digest in
      let counts = count_bytes q.mark (length q.includes / 48) (length (joined d.statements)) in
      let are : (o : Option ℕ) → record_bytes o d ≡ front ++ (counts ++ (part_bytes o ++ (q.includes ++ ss))) = λ o. rw many
      (record-parts q d all p o w.mark) in
      let sized : length q.digest ≡ 32 = rw p.digest at w.size in
      let size : (o : Option ℕ) → length (record_bytes o d) ≡ 56 + length (time_bytes o) + length q.includes + length ss =
      λ o. ap length (are o)
      ∙ omega (
        arith,
        length-append front (counts ++ (part_bytes o ++ (q.includes ++ ss))),
        length-append counts (part_bytes o ++ (q.includes ++ ss)),
        length-append (part_bytes o) (q.includes ++ ss),
        length-append q.includes ss,
        length_front q.author q.round q.digest sized,
        length_counts q.mark (length q.includes / 48) (length (joined d.statements)),
        length_part o,
      ) in
      record {
        draft = d;
        given = e;
        passed = h;
        mark = omega (arith, p.mark, w.mark);
        digest = sized;
        includes = omega (arith, many, w.few_includes_lem);
        few = w.few_statements_lem;
        whole = λ o. omega (arith, size none, size o);
        size = omega (arith, size none);
        writes = rw (joined_from_lem q.statements d.statements p.statements, joined_long d.statements ∙ w.short);
        are = are;
      }

  -- from what was measured
  pub planned : (count bytes : ℕ) → sized_up (draft_in q) ≡ Some (count, bytes) → Plan q count bytes
  unfolding sized_up
  planned count bytes h = go (draft_in q) refl h
    where
      test : (d : Draft) → draft_in q ≡ some d → (t : Bool) → passes (form_checks d) ≡ t
          → pick {A = code.Option (ℕ × ℕ)} t (Some (length (joined d.statements), length (record_bytes none d))) None ≡ Some (count, bytes) → Plan q count bytes
      test d e true f k =
          let c : length (joined d.statements) ≡ count = ap (λ o. (numbers o).0) k in
          let b : length (record_bytes none d) ≡ bytes = ap (λ o. (numbers o).1) k in
          rw (c, b) at (plan_of d e f)
      test d e false f k = let z : ◌≡◌ {A = ℕ} 0 1 = cc in absurd (omega arith)

      go : (o : Option Draft) → draft_in q ≡ o → sized_up o ≡ Some (count, bytes) → Plan q count bytes
      go none e k = let z : ◌≡◌ {A = ℕ} 0 1 = cc in absurd (omega arith)
      go (some d) e k = test d e (passes (form_checks d)) refl k

  -- and what code measures part by part
  pub sized_fits : (count bytes : ℕ) → length q.digest ≡ 32 → q.mark ≤ 1 → length q.includes % 48 ≡ 0 → length q.includes / 48 ≤ 256
      → measured_on 0 0 (joined_from q.statements 0) ≡ Some (count, bytes) → sized_up (draft_in q) ≡ Some (count, 56 + length q.includes + bytes)
  unfolding sized_up draft_in with_parts form_checks passes all_of
  sized_fits count bytes dg m whole few h =
      let f : Fitting q.statements count bytes = fitting q.statements count bytes h in
      let is = includes_there q.includes whole in
      let d : Draft = record { author = q.author; round = q.round; digest = q.digest; mark = q.mark; includes = is.0; statements = f.statements } in
      let given : draft_in q ≡ some d = rw (is.1, f.read) in
      let many : length is.0 ≤ 256 = omega (arith, includes_length q.includes is.0 all is.1) in
      let passed : passes (form_checks d) ≡ true =
      rw (
        eq-eqb (length q.digest) 32 dg,
        le-ltb 1 q.mark m,
        le-ltb 256 (length is.0) many,
        sym (joined_long f.statements) ∙ f.short,
        le-ltb 1024 (length (joined f.statements)) f.few,
      ) in
      let plan = plan_of d given passed in
      let size : length (record_bytes none d) ≡ 56 + length q.includes + bytes = plan.size ∙ rw (statements_are q d all (parts_of q d given), ← f.sized) in
      rw (given, passed, ← f.counted, size)
