-- Blocks that differ in the bytes of payloads alone, written, are records that differ in payloads, but not in length. Assumes nothing.
use mathlib.Core.Path.{◌≡◌, refl, sym, ap, ap₂, ◌∙◌}
use mathlib.Core.Bool.{true}
use mathlib.Core.List.{List, [], ◌∷◌, ◌++◌, map, flatten}
use mathlib.Core.Option.{Option, some}
use Prim.Native.Nat.{ℕ}
use native.Mathlib.Omega.{arith}
use lib.ListN.{length, replicate, length-append, length-map, length-replicate}
use Rattle.base.specs.Lists.{pick}
use Rattle.base.specs.Le.{Bytes, le_bytes}
use Rattle.base.proofs.Le.{length_le_bytes}
use Rattle.record_spec.specs.Block.{Statement, share, accept, reject, vote_range, Block}
use Rattle.record_spec.specs.Record.{Timed, block_of, reference_bytes, statement_bytes, edition_bytes, time_bytes, bytes_in, edition_for, timed_bytes}
use Rattle.record_spec.specs.Claims.{fits_in, ReadsWhatIsWritten}
use Rattle.record_spec.proofs.Claimed as records
use Rattle.store_spec.specs.Layout.{read_record}
use Rattle.load_spec.specs.Needs.{emptied, without_payloads}
use Rattle.payload_theorems.specs.Apart.{Shape, shape, Apart, blanked, with_blanks}
use Rattle.payload_theorems.specs.Claims.{WrittenApart}

emptied_blanked : (s : Statement) → emptied (blanked s) ≡ emptied s
unfolding emptied blanked
emptied_blanked (share p) = refl
emptied_blanked (accept l) = refl
emptied_blanked (reject l other) = refl
emptied_blanked (vote_range r) = refl

all_emptied : (ss : List Statement) → map emptied (map blanked ss) ≡ map emptied ss
all_emptied [] = refl
all_emptied (s ∷ ss) = ap₂ {C = List Statement} (λ x xs. x ∷ xs) (emptied_blanked s) (all_emptied ss)

block_blanked : (b : Block) → without_payloads (with_blanks b) ≡ without_payloads b
unfolding without_payloads with_blanks
block_blanked b = rw (all_emptied b.statements)

statement_size : (s : Statement) → length (statement_bytes (blanked s)) ≡ length (statement_bytes s)
unfolding statement_bytes blanked
statement_size (share p) =
    let zeros : List ℕ = replicate (length p) 0 in
    let n : length zeros ≡ length p = length-replicate (length p) 0 in
    omega (
      arith,
      n,
      length-append (le_bytes 2 (length zeros)) zeros,
      length-append (le_bytes 2 (length p)) p,
      length_le_bytes 2 (length p),
      length_le_bytes 2 (length zeros),
    )
statement_size (accept l) = refl
statement_size (reject l other) = refl
statement_size (vote_range r) = refl

-- with a last part that is as long
last_sized : (parts : List Bytes) (xs ys : Bytes) → length xs ≡ length ys → length (flatten (parts ++ (xs ∷ []))) ≡ length (flatten (parts ++ (ys ∷ [])))
unfolding flatten
last_sized [] xs ys e = length-append xs [] ∙ rw e (sym (length-append ys []))
last_sized (part ∷ parts) xs ys e =
    omega (arith, last_sized parts xs ys e, length-append part (flatten (parts ++ (xs ∷ []))), length-append part (flatten (parts ++ (ys ∷ []))))

statements_size : (ss : List Statement) → length (flatten (map statement_bytes (map blanked ss))) ≡ length (flatten (map statement_bytes ss))
unfolding flatten
statements_size [] = refl
statements_size (s ∷ ss) =
    omega (
      arith,
      statement_size s,
      statements_size ss,
      length-append (statement_bytes (blanked s)) (flatten (map statement_bytes (map blanked ss))),
      length-append (statement_bytes s) (flatten (map statement_bytes ss)),
    )

blank : Timed → Timed
blank t = record { block = with_blanks t.block; time = t.time }

record-size : (t : Timed) → length (timed_bytes (blank t)) ≡ length (timed_bytes t)
unfolding timed_bytes bytes_in flatten blank with_blanks
record-size t =
    rw (length-map t.block.statements blanked)
    (last_sized parts (flatten (map statement_bytes (map blanked t.block.statements))) (flatten (map statement_bytes t.block.statements))
    (statements_size t.block.statements))
  where
    parts : List Bytes
    parts =
        reference_bytes t.block.reference
        ∷ (pick t.block.marked 1 0 ∷ [])
        ∷ le_bytes 2 (length t.block.includes)
        ∷ le_bytes 2 (length t.block.statements)
        ∷ edition_bytes (edition_for t.time)
        ∷ time_bytes t.time
        ∷ flatten (map reference_bytes t.block.includes)
        ∷ []

written_read : (t : Timed) → fits_in (edition_for t.time) t ≡ true → read_record (timed_bytes t) ≡ some (record { bytes = timed_bytes t; block = t.block })
unfolding ReadsWhatIsWritten read_record block_of
written_read t h = rw ((records.claimed).reads t h)

pub written_apart : WrittenApart
unfolding WrittenApart Apart shape
written_apart t u f g e k =
    let b : blank t ≡ blank u = unfold blank in rw (k, e) in
    let size : length (timed_bytes t) ≡ length (timed_bytes u) = sym (record-size t) ∙ ap (λ (x : Timed). length (timed_bytes x)) b ∙ record-size u in
    let block : without_payloads t.block ≡ without_payloads u.block = sym (block_blanked t.block) ∙ ap without_payloads k ∙ block_blanked u.block in
    rw (written_read t f, written_read u g) (ap₂ {C = Option Shape} (λ n x. some (record { size = n; block = x })) size block)
