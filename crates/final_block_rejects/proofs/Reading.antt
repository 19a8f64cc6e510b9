-- Reading the rejects of a block, statement by statement. Assumes nothing.
use mathlib.Core.Path.{◌≡◌, sym, ap, ◌∙◌}
use mathlib.Core.Bool.{Bool, true, false, ◌||◌, or-false}
use mathlib.Core.Option.{Option}
use Prim.Native.Nat.{ℕ, ◌+◌, ◌≤◌, ◌<◌}
use native.Mathlib.Numerals.{add-one}
use lib.ListN.{length, get_or, drop, drop_of_length-le}
use lib.Seq.{drop-cons}
use Rattle.base.specs.Lists.{any_of}
use Rattle.committee_set.specs.AuthoritySet.{nobody, inserted}
use Rattle.record_spec.specs.Reference.{TransactionLocator, same_locator}
use Rattle.record_spec.specs.Block.{reject, Block, author}
use Rattle.record_spec.specs.Record.{no_statement}
use Rattle.final_readings_spec.specs.Rejecting.{rejected_in, rejects, own_reject}
use Rattle.final_readings_spec.proofs.Rejecting.{rejects_by_statement}
use Rattle.final_block_rejects.specs.Speeches.{statement_rejects}

-- ---- one statement

module _ (l : TransactionLocator) where
  pub rejects_first : (m : TransactionLocator) (other : Option TransactionLocator) → statement_rejects (reject m other) l ≡ same_locator l m
  unfolding statement_rejects rejected_in any_of
  rejects_first m other = or-false _

-- ---- the statements from one on

abbrev pub rejects_from : Block → TransactionLocator → ℕ → Bool
rejects_from b l i = any_of (λ s. statement_rejects s l) (drop i b.statements)

module _ (b : Block) (l : TransactionLocator) where
  pub rejects_start : rejects b l ≡ rejects_from b l 0
  unfolding statement_rejects
  rejects_start = rejects_by_statement b l

  rejects_on : (i : ℕ) → i < length b.statements → rejects_from b l i ≡ statement_rejects (get_or b.statements i no_statement) l || rejects_from b l (i + 1)
  unfolding any_of
  rejects_on i h = rw (drop-cons b.statements i no_statement h, add-one i)

  pub rejects_end : (i : ℕ) → length b.statements ≤ i → rejects_from b l i ≡ false
  unfolding any_of
  rejects_end i h = rw (drop_of_length-le b.statements h)

  pub rejects_found : (i : ℕ) → i < length b.statements → statement_rejects (get_or b.statements i no_statement) l ≡ true → true ≡ rejects_from b l i
  rejects_found i h e = sym (rejects_on i h ∙ ap (λ (t : Bool). t || rejects_from b l (i + 1)) e)

  pub rejects_passed : (i : ℕ) → i < length b.statements → statement_rejects (get_or b.statements i no_statement) l ≡ false → rejects_from b l i ≡
      rejects_from b l (i + 1)
  rejects_passed i h e = rejects_on i h ∙ ap (λ (t : Bool). t || rejects_from b l (i + 1)) e

  -- ---- its author, or nobody

  pub own_yes : rejects b l ≡ true → own_reject b l ≡ inserted nobody (author b)
  unfolding own_reject
  own_yes h = rw h

  pub own_no : rejects b l ≡ false → own_reject b l ≡ nobody
  unfolding own_reject
  own_no h = rw h
