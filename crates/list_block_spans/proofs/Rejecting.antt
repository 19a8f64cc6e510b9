-- The ranges that a block rejects, statement by statement, and what they say of a locator. Assumes nothing.
use mathlib.Core.Path.{◌≡◌, refl, sym, subst}
use mathlib.Core.Logic.{◌⊎◌, inl, inr}
use mathlib.Core.Bool.{Bool, true, false}
use mathlib.Core.List.{List, [], ◌∷◌, ◌++◌, map, flatten}
use Prim.Native.Nat.{ℕ, ◌+◌, ◌≤◌, ◌<◌}
use native.Mathlib.Omega.{arith}
use native.Mathlib.Numerals.{add-one}
use lib.Dec.{eqb}
use lib.ListN.{length, get_or, drop_of_length-le}
use lib.Seq.{drop-cons}
use borrow.Author.Tests.{ne_eqb}
use Rattle.base.specs.Lists.{pick, any_of, ◌∈◌, here}
use Rattle.base.specs.Le.{Bytes}
use Rattle.base.proofs.Tests.{same_test}
use Rattle.base.proofs.Members.{in_cases, in_empty, in_flatten, flatten_in, in_map, map_in, any_in, in_any}
use Rattle.record_spec.specs.Reference.{TransactionLocator, TransactionLocatorRange, same_locator, new_range, one_range, covers}
use Rattle.record_spec.specs.Block.{Block}
use Rattle.record_spec.specs.Record.{no_statement}
use Rattle.record_spec.proofs.References.{same_locator_lem}
use Rattle.final_spec.proofs.Votes.{covered, is_covered}
use Rattle.record_cursor.specs.Cursor.{cursor_at}
use Rattle.record_cursor.specs.declared.StatementCursor.{StatementCursor}
use Rattle.final_readings_spec.specs.Rejecting.{rejected_in, rejections, rejects}
use Rattle.final_readings_spec.proofs.Rejecting.{listed}
use Rattle.list_block_spans.specs.Answers.{voted_by, OnwardIn}
use Rattle.list_block_spans.specs.Ranges.{rejected_range, reject_ranges, ranges_at, ranges_of}
use Rattle.list_block_spans.proofs.Joining.{joined_end}
use Rattle.std.specs.Prelude.{Option}
use Rattle.types.specs.declared.TransactionLocatorRange as ranges

-- ---- from statement to statement

pub ranges_end : (rejecting : Bool) (b : Block) (i : ℕ) → length b.statements ≤ i → ranges_at rejecting b i ≡ []
unfolding ranges_at flatten
ranges_end true b i h = rw (drop_of_length-le b.statements h)
ranges_end false b i h = joined_end b i h

-- what one statement rejects, or nothing
pub reject_told : (b : Block) (i : ℕ) → i < length b.statements → (vote : Option ranges.TransactionLocatorRange) → voted_by vote
    ≡ reject_ranges (get_or b.statements i no_statement)
    → (r : Bytes) (next : StatementCursor) → next ≡ cursor_at r (i + 1) → (ranges_at true b i ≡ voted_by vote ++ ranges_at true b next.index) × OnwardIn b r i
    next
unfolding ranges_at flatten OnwardIn cursor_at
reject_told b i h vote v r next q = rw (q, v) (rw (drop-cons b.statements i no_statement h, add-one i), (omega arith, (omega arith, refl)))

-- ---- the rejected locators, but for the last offset

pub in_ranges : (b : Block) (l : TransactionLocator) → rejects b l ≡ true → (l.offset ≡ 18446744073709551615 → ⊥) → one_range l ∈ ranges_of true b
unfolding ranges_of ranges_at reject_ranges rejected_range rejections
in_ranges b l h n =
    let x = flatten_in (map rejected_in b.statements) (listed b l h) in
    let y = map_in rejected_in b.statements x.2 in
    let own : one_range l ∈ rejected_range l = rw (ne_eqb l.offset 18446744073709551615 n) here in
    in_flatten (in_flatten own (in_map rejected_range (subst (λ (ls : List TransactionLocator). l ∈ ls) (sym y.2) x.1))) (in_map reject_ranges y.1)

pub ranges_in : (b : Block) (q : TransactionLocatorRange) → q ∈ ranges_of true b → (l : TransactionLocator) × (rejects b l ≡ true) × (one_range l ≡ q)
unfolding ranges_of ranges_at reject_ranges rejected_range rejections rejects
ranges_in b q m =
    let x = flatten_in (map reject_ranges b.statements) m in
    let y = map_in reject_ranges b.statements x.2 in
    let z = flatten_in (map rejected_range (rejected_in y.0)) (subst (λ (qs : List TransactionLocatorRange). q ∈ qs) (sym y.2) x.1) in
    let w = map_in rejected_range (rejected_in y.0) z.2 in (
      w.0,
      in_any (same_locator w.0) (in_flatten w.1 (in_map rejected_in y.1)) (same_locator_lem refl),
      own w.0
          (eqb w.0.offset 18446744073709551615) (subst (λ (qs : List TransactionLocatorRange). q ∈ qs) (sym w.2) z.1),
    )
  where
    first : (l : TransactionLocator) → (q ≡ one_range l) ⊎ (q ∈ []) → one_range l ≡ q
    first l (inl e) = sym e
    first l (inr k) = absurd (in_empty k)

    own : (l : TransactionLocator) (t : Bool) → q ∈ pick t [] (one_range l ∷ []) → one_range l ≡ q
    own l true k = absurd (in_empty k)
    own l false k = first l (in_cases k)

pub rejected_covers : (b : Block) (l : TransactionLocator) → (l.offset ≡ 18446744073709551615 → ⊥) → any_of (λ q. covers q l) (ranges_of true b) ≡ rejects b l
unfolding one_range new_range
rejected_covers b l n = same_test _ _ to from
  where
    to : any_of (λ q. covers q l) (ranges_of true b) ≡ true → rejects b l ≡ true
    to h =
        let x = any_in (λ q. covers q l) (ranges_of true b) h in
        let y = ranges_in b x.0 x.1 in
        let k = covered (one_range y.0) l (subst (λ (q : TransactionLocatorRange). covers q l ≡ true) (sym y.2) x.2) in
        let g : y.0.block ≡ l.block = k.of in
        let e : y.0.offset ≡ l.offset = omega (arith, k.from, k.below) in
        let own : y.0 ≡ l = λ i. record { block = g i; offset = e i } in
        subst (λ (m : TransactionLocator). rejects b m ≡ true) own y.1

    from : rejects b l ≡ true → any_of (λ q. covers q l) (ranges_of true b) ≡ true
    from h = in_any (λ q. covers q l) (in_ranges b l h n) (is_covered (one_range l) l (record { of = refl; from = omega arith; below = omega arith }))
