-- One given statement at a position, as code reads it, and the statements from there on. Assumes nothing.
use mathlib.Core.Path.{◌≡◌, refl, ◌∙◌}
use mathlib.Core.List.{List, [], ◌∷◌}
use mathlib.Core.Option.{none, some, map}
use mathlib.Core.Bool.{true}
use Prim.Native.Nat.{ℕ, ◌+◌, ◌-◌, ◌≤◌, ◌<◌}
use native.Mathlib.Omega.{arith}
use lib.ListN.{length, get_or, take, drop, length-drop, drop_of_length-le}
use borrow.Author.Tests.{eq-eqb, ne_eqb, le-leb, leb-true, eqb-true}
use lib.Dec.{eqb}
use Rattle.base.specs.Le.{le_at}
use Rattle.base.specs.Read.{onward, ◌>>=◌, number}
use Rattle.base.proofs.Tests.{and_right}
use Rattle.base.proofs.Le.{AllBytes, bytes_drop, le_at_byte}
use Rattle.base.proofs.Read.{part}
use Rattle.base.proofs.Fixed.{fixed_number, least_zero, least_bind, number_at}
use Rattle.base.proofs.UpTo.{to_end_done, to_end_stops, falls, to_end_goes_on}
use Rattle.record_spec.specs.Block.{Statement, share}
use Rattle.record_spec.specs.Record.{read_statement}
use Rattle.record_statement.specs.Values.{as_statement}
use Rattle.record_statement.specs.Step.{payload_between, Took}
use Rattle.std.specs.Prelude.{Some, None}
use Rattle.std.specs.declared.option.Option as code
use Rattle.record_statement.specs.declared.BaseStatement.{BaseStatement}
use Rattle.record_statement.specs.declared.BaseStatement.TheVariants.{Share, Accept, Reject, RejectFor, VoteRange}
use Rattle.record_statement.proofs.Steps.{read_payload, payload_cut, payload_short, payload_reads}
use Rattle.draft_spec.specs.Draft.{read_long_share, read_given, statements_in, given_bytes}
use Rattle.draft_spec.proofs.Given.{GivenFits, some_bytes, given_back}
use Rattle.draft_accept_runs.specs.Step.{payload_inside}
use Rattle.draft_joined.specs.Step.{TookGiven}

-- ---- the kind byte

module _ (s : List ℕ) (p : ℕ) where
  pub given_none : length s ≤ p → read_given (drop p s) ≡ none
  unfolding read_given
  given_none h = least_bind (number 1) _ 1 0 (fixed_number 1) (λ n. least_zero _) (drop p s) (omega (arith, length-drop p s))

  given_share : p < length s → get_or s p 0 ≡ 0 → read_given (drop p s) ≡ read_payload 4 (drop (p + 1) s)
  unfolding read_given read_long_share read_payload ◌>>=◌ onward
  given_share h k = rw (number_at 1 s p (omega arith), le_at_byte s p h, eq-eqb (get_or s p 0) 0 k)

  -- but for shares it is read as in a record
  pub given_other : p < length s → (get_or s p 0 ≡ 0 → ⊥) → read_given (drop p s) ≡ read_statement (drop p s)
  unfolding read_given read_statement ◌>>=◌ onward
  given_other h k = rw (number_at 1 s p (omega arith), le_at_byte s p h, ne_eqb (get_or s p 0) 0 k)

-- ---- a share

module _ (s : List ℕ) (p : ℕ) (h : p < length s) (k : get_or s p 0 ≡ 0) where
  pub share_cut : length s - p < 5 → read_given (drop p s) ≡ none
  share_cut l = given_share s p h k ∙ payload_cut 4 s (p + 1) (omega arith)

  pub share_short : p + 5 ≤ length s → length s - (p + 5) < le_at 4 s (p + 1) → read_given (drop p s) ≡ none
  share_short l m = given_share s p h k ∙ payload_short 4 s (p + 1) (omega arith) (omega arith)

  pub share_reads : (n : ℕ) → n ≡ le_at 4 s (p + 1) → p + 5 + n ≤ length s → read_given (drop p s) ≡ some
      (part (share (take n (drop (p + 5) s))) (drop (p + 5 + n) s))
  share_reads n e l =
      let f : p + 1 + 4 ≡ p + 5 = omega arith in
      given_share s p h k ∙ rw f at (payload_reads 4 s (p + 1) n e (omega arith))

-- a payload that ends where the next statement begins
pub between_inside : (s : List ℕ) (p next : ℕ) (st : BaseStatement) → next ≤ length s → payload_between p next st ≡ true → payload_inside (length s) st ≡ true
unfolding payload_between payload_inside
between_inside s p next (Share start len) l h = le-leb (start + len) (length s) (omega (arith, eqb-true (start + len) next (and_right (eqb start (p + 3)) _ h)))
between_inside s p next (Accept x) l h = refl
between_inside s p next (Reject x) l h = refl
between_inside s p next (RejectFor x y) l h = refl
between_inside s p next (VoteRange x) l h = refl

-- no payload lies everywhere
pub inside_none : (n : ℕ) (st : BaseStatement) → payload_inside 0 st ≡ true → payload_inside n st ≡ true
unfolding payload_inside
inside_none n (Share start len) h = le-leb (start + len) n (omega (arith, leb-true (start + len) 0 h))
inside_none n (Accept x) h = refl
inside_none n (Reject x) h = refl
inside_none n (RejectFor x y) h = refl
inside_none n (VoteRange x) h = refl

-- ---- the statements from a position on

module _ (s : List ℕ) (p : ℕ) where
  pub none_given : p < length s → read_given (drop p s) ≡ none → statements_in (drop p s) ≡ none
  unfolding statements_in
  none_given h k = to_end_stops read_given (drop p s) (omega (arith, length-drop p s)) k

  pub all_given : length s ≤ p → statements_in (drop p s) ≡ some []
  unfolding statements_in
  all_given h = rw (drop_of_length-le s {i = p} h) (to_end_done read_given)

  module _ (bytes : AllBytes s) (v : Statement) (next : ℕ) (read : read_given (drop p s) ≡ some (part v (drop next s))) where
    pub given_falls : next ≤ length s → p < next
    given_falls l =
        omega (
          arith,
          (falls read_given given_bytes GivenFits some_bytes given_back (drop p s) (part v (drop next s)) (bytes_drop p s bytes) read).0,
          length-drop
              p s,
          length-drop next s,
        )

    pub one_given : statements_in (drop p s) ≡ map (λ ss. v ∷ ss) (statements_in (drop next s))
    unfolding statements_in
    one_given = to_end_goes_on read_given given_bytes GivenFits some_bytes given_back (drop p s) (part v (drop next s)) (bytes_drop p s bytes) read

-- what a record has there, where the kind byte is no share's
pub took_given : (s : List ℕ) (p : ℕ) (r : code.Option (BaseStatement × ℕ)) → AllBytes s → p < length s → (get_or s p 0 ≡ 0 → ⊥) → Took s p r → TookGiven s p r
unfolding Took TookGiven
took_given s p (Some (st, next)) b h k t =
    let read : read_given (drop p s) ≡ some (part (as_statement s st) (drop next s)) = given_other s p h k ∙ t.0 in
    (read, (given_falls s p b (as_statement s st) next read t.1.0, (t.1.0, between_inside s p next st t.1.0 t.1.1)))
took_given s p None b h k t = given_other s p h k ∙ t
