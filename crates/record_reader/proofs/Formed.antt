-- A block in a record, in positions, as code tests it. Assumes nothing.
use mathlib.Core.Path.{◌≡◌, refl, ◌∙◌}
use mathlib.Core.List.{List}
use mathlib.Core.Option.{Option, none, some, map}
use mathlib.Core.Bool.{Bool, true, false, not, ◌&&◌}
use Prim.Native.Nat.{ℕ, ◌+◌, ◌-◌, ◌*◌, ◌≤◌, ◌<◌}
use native.Mathlib.Omega.{arith}
use lib.Dec.{leb, eqb}
use lib.ListN.{length, get_or, take, drop}
use borrow.Author.Tests.{le-leb, leb-true}
use Rattle.base.specs.Lists.{same, is_none}
use Rattle.base.specs.Le.{le_at}
use Rattle.base.specs.Read.{Part, Read, give, fail, onward, ◌>>=◌, items, number, given, repeated, complete}
use Rattle.base.proofs.Tests.{and_left, and_right, and_both, fails, not_both}
use Rattle.base.proofs.Le.{le_at_byte}
use Rattle.base.proofs.Fixed.{fixed_items, fixed_number, fixed_repeated, Least, least_zero, least_bind, reads_at, short_at, items_at, number_at}
use Rattle.record_spec.specs.Reference.{BlockReference}
use Rattle.record_spec.specs.Record.{read_reference, read_statement, Edition, Timed, edition_bytes, read_time, read_in, edition_of, timed_of, block_of}
use Rattle.record_spec.specs.Record.{well_formed}
use Rattle.record_spec.specs.Record.{body_start}
use Rattle.record_statement.specs.Step.{statements_only}
use Rattle.record_edition.specs.Step.{edition_right}
use Rattle.record_reference_bytes.proofs.Fixed.{fixed_reference}
use Rattle.record_statement.proofs.Only.{Whole, whole_map}
use Rattle.record_edition.proofs.Editions.{TimeRead, time_read}

-- ---- the first 56 bytes

-- what the definition tests of the first 56 bytes
unfoldable head_right : Edition → List ℕ → Bool
head_right e s =
    leb (le_at 1 s 48) 1 && leb (le_at 2 s 49) 256 && leb (le_at 2 s 51) 1024 && same (take 3 (drop 53 s)) (edition_bytes e)

-- what code tests of them, and of the time: facts
pub record Head (s : List ℕ) : Type 0 where
  pub mark : get_or s 48 0 ≤ 1
  pub includes : le_at 2 s 49 ≤ 256
  pub statements : le_at 2 s 51 ≤ 1024
  pub edition : edition_right s ≡ true

-- what follows the first 56 bytes
unfoldable read_body : Edition → BlockReference → ℕ → ℕ → ℕ → Read Timed
read_body e r mark i n = do
  time ← read_time e
  includes ← repeated i read_reference
  statements ← repeated n read_statement
  give (record { block = record { reference = r; marked = eqb mark 1; includes = includes; statements = statements }; time = time })

module _ (s : List ℕ) where
  -- well formed is read to the end in its edition
  whole_in : well_formed s ≡ Whole (read_in (edition_of s) s)
  unfolding well_formed block_of timed_of is_none
  whole_in = go (complete (read_in (edition_of s) s))
    where
      go : (o : Option Timed) → not (is_none (map (λ t. t.block) o)) ≡ not (is_none o)
      go none = refl
      go (some t) = refl

  pub block_short : length s < 56 → well_formed s ≡ false
  unfolding read_in complete is_none
  block_short h = whole_in ∙ rw (least s h)
    where
      least : Least 56 (read_in (edition_of s))
      least =
          least_bind read_reference _ 48 8 fixed_reference λ r.
          least_bind (number 1) _ 1 7 (fixed_number 1) λ m.
          least_bind (number 2) _ 2 5 (fixed_number 2) λ i.
          least_bind (number 2) _ 2 3 (fixed_number 2) λ n.
          least_bind (items 3) _ 3 0 (fixed_items 3) λ z. least_zero _

module _ (s : List ℕ) (long : 56 ≤ length s) where
  abbrev e : Edition
  e = edition_of s

  abbrev body : Option (Part Timed)
  body = read_body e (fixed_reference.value s) (le_at 1 s 48) (le_at 2 s 49) (le_at 2 s 51) (drop 56 s)

  block_head : read_in e s ≡ given (head_right e s) (read_body e (fixed_reference.value s) (le_at 1 s 48) (le_at 2 s 49) (le_at 2 s 51)) (drop 56 s)
  unfolding read_in read_body head_right ◌>>=◌ onward
  block_head =
      rw (
        fixed_reference.reads s (omega arith),
        number_at 1 s 48 (omega arith),
        number_at 2 s 49 (omega arith),
        number_at 2 s 51 (omega arith),
        items_at 3 s 53 (omega arith),
      )

  -- the head is right and the time is read
  headed : Head s → head_right e s ≡ true
  unfolding head_right edition_right
  headed h =
      rw (
        le_at_byte s 48 (omega arith),
        le-leb (get_or s 48 0) 1 h.mark,
        le-leb (le_at 2 s 49) 256 h.includes,
        le-leb (le_at 2 s 51) 1024 h.statements,
      )
      (and_left _ _ h.edition)

  head_back : head_right e s ≡ true → not (is_none (read_time e (drop 56 s))) ≡ true → Head s
  unfolding head_right edition_right
  head_back h t =
      let h₃ : leb (le_at 1 s 48) 1 && leb (le_at 2 s 49) 256 && leb (le_at 2 s 51) 1024 ≡ true = and_left _ _ h in
      let h₂ : leb (le_at 1 s 48) 1 && leb (le_at 2 s 49) 256 ≡ true = and_left _ _ h₃ in
      record {
        mark = rw (le_at_byte s 48 (omega arith)) at (leb-true (le_at 1 s 48) 1 (and_left _ _ h₂));
        includes = leb-true (le_at 2 s 49) 256 (and_right (leb (le_at 1 s 48) 1) _ h₂);
        statements = leb-true (le_at 2 s 51) 1024 (and_right (leb (le_at 1 s 48) 1 && leb (le_at 2 s 49) 256) _ h₃);
        edition = and_both _ _ (and_right (leb (le_at 1 s 48) 1 && leb (le_at 2 s 49) 256 && leb (le_at 2 s 51) 1024) _ h) t;
      }

  -- a record that is read to the end has a right head
  pub whole_head : well_formed s ≡ true → Head s
  unfolding given fail complete is_none read_body ◌>>=◌ onward
  whole_head w = go (head_right e s) refl (read_time e (drop 56 s)) refl
    where
      go : (t : Bool) → head_right e s ≡ t → (o : Option (Part (Option ℕ))) → read_time e (drop 56 s) ≡ o → Head s
      go false h o k = absurd (not_both w (whole_in s ∙ rw (block_head, h)))
      go true h none k = absurd (not_both w (whole_in s ∙ rw (block_head, h, k)))
      go true h (some p) k = head_back h (rw k)

  pub block_refused : (Head s → ⊥) → well_formed s ≡ false
  block_refused f = fails (well_formed s) (λ w. f (whole_head w))

  module _ (h : Head s) where
    abbrev time : TimeRead s e
    time = time_read s long h.edition

    -- the includes and the statements, read from where they begin
    abbrev Rest : Option (Part Timed)
    Rest =
        (repeated (le_at 2 s 49) read_reference >>= (λ is.
        repeated (le_at 2 s 51) read_statement >>= (λ ss.
        give (record {
          block = record { reference = fixed_reference.value s; marked = eqb (le_at 1 s 48) 1; includes = is; statements = ss };
          time = time.value;
        }))))
        (drop (body_start s) s)

    pub block_rest : read_in e s ≡ Rest
    unfolding given read_body body_start ◌>>=◌ onward
    block_rest = rw (block_head, headed h, time.reads)

    pub block_cut : length s - body_start s < le_at 2 s 49 * 48 → well_formed s ≡ false
    unfolding complete is_none ◌>>=◌ onward
    block_cut k = whole_in s ∙ rw (
      block_rest,
      short_at (repeated (le_at 2 s 49) read_reference) (le_at 2 s 49 * 48)
          (fixed_repeated read_reference 48 fixed_reference (le_at 2 s 49)) s (body_start s) k,
    )

    pub block_on : body_start s + le_at 2 s 49 * 48 ≤ length s → well_formed s ≡ statements_only (le_at 2 s 51) (drop (body_start s + le_at 2 s 49 * 48) s)
    unfolding ◌>>=◌ onward statements_only
    block_on k =
        let i = le_at 2 s 49 in
        let F = fixed_repeated read_reference 48 fixed_reference i in
        whole_in s ∙ rw (block_rest, reads_at (repeated i read_reference) (i * 48) F s (body_start s) k)
        (whole_map (repeated (le_at 2 s 51) read_statement)
        (λ ss. record {
          block = record {
            reference = fixed_reference.value s;
            marked = eqb (le_at 1 s 48) 1;
            includes = F.value (drop (body_start s) s);
            statements = ss;
          };
          time = time.value;
        })
        (drop (body_start s + i * 48) s))
