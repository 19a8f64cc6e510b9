-- The checks of statements, by index, as code makes them. Assumes nothing.
use mathlib.Core.Path.{◌≡◌}
use mathlib.Core.List.{List, map, flatten}
use Prim.Native.Nat.{ℕ, suc, ◌+◌, ◌≤◌, ◌<◌}
use native.Mathlib.Numerals.{add-one}
use lib.Dec.{lit<}
use lib.ListN.{length, get_or, drop, drop_of_length-le}
use lib.Seq.{drop-cons}
use Rattle.base.specs.Checks.{refusal}
use Rattle.base.proofs.Lists.{none_of, and, every_one, every_flatten}
use Rattle.base.proofs.Refusals.{Numbered, refusal_first, refusal_then}
use Rattle.record_spec.specs.Block.{Statement, share, accept, reject, vote_range}
use Rattle.record_spec.specs.Record.{no_statement}
use Rattle.record_spec.specs.Verify.{statement_checks}

-- the refusal of statements
unfoldable pub of_statements : List Statement → ℕ
of_statements ss = refusal (flatten (map statement_checks ss))

numbered : (s : Statement) → Numbered (statement_checks s)
unfolding statement_checks
numbered (share v) = none_of
numbered (accept l) = and (lit< tt) none_of
numbered (reject l o) = none_of
numbered (vote_range r) = and (lit< tt) (and (lit< tt) none_of)

pub statements_numbered : (ss : List Statement) → Numbered (flatten (map statement_checks ss))
statements_numbered ss = every_flatten {P = λ s. Unit {0}} statement_checks (λ s u. numbered s) ss (every_one (λ s. tt) ss)

module _ (ss : List Statement) (k : ℕ) where
  pub statement_refused : k < length ss → (refusal (statement_checks (get_or ss k no_statement)) ≡ 0 → ⊥) → of_statements (drop k ss) ≡ refusal
      (statement_checks (get_or ss k no_statement))
  unfolding of_statements flatten
  statement_refused h f = rw (drop-cons ss k no_statement h) (refusal_first (statement_checks (get_or ss k no_statement))
      (flatten (map statement_checks (drop (suc k) ss))) f)

  pub statement_on : k < length ss → refusal (statement_checks (get_or ss k no_statement)) ≡ 0 → of_statements (drop k ss) ≡ of_statements (drop (k + 1) ss)
  unfolding of_statements flatten
  statement_on h e = rw (add-one, drop-cons ss k no_statement h)
      (refusal_then (statement_checks (get_or ss k no_statement)) (flatten (map statement_checks (drop (suc k) ss))) (numbered (get_or ss k no_statement)) e)

  pub statement_end : length ss ≤ k → of_statements (drop k ss) ≡ 0
  unfolding of_statements refusal flatten
  statement_end h = rw (drop_of_length-le ss h)
