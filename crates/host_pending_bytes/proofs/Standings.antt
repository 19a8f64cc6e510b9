-- The pending question of a host. Assumes nothing.
use mathlib.Core.Path.{◌≡◌, refl, sym, ◌∙◌}
use mathlib.Core.Bool.{Bool, true, false}
use mathlib.Core.List.{List, [], ◌∷◌, ◌++◌}
use mathlib.Core.Option.{Option, none, some}
use Prim.Native.Nat.{ℕ, ◌≤◌, ◌<◌}
use native.Mathlib.Decide.{ℕ_discrete}
use native.Mathlib.Omega.{arith}
use lib.ListN.{length}
use borrow.Author.Tests.{eq-eqb, ne_eqb, eqb-true}
use Rattle.base.specs.Lists.{pick, find, all_of, ◌∈◌}
use Rattle.base.specs.Checks.{◌⇒◌, refusal, passes, refused, answered}
use Rattle.base.proofs.Tests.{and_right}
use Rattle.base.proofs.Lists.{every_in, find_in}
use Rattle.base.proofs.Refusals.{passes_zero, refusal_first, refusal_then}
use Rattle.committee.specs.Committee.{Committee, known}
use Rattle.committee_set.specs.AuthoritySet.{members, stake_of}
use Rattle.committee_aggregator.specs.StakeAggregator.{aggregator_in_order}
use Rattle.committee.proofs.Bounds.{total_most}
use Rattle.committee_set.proofs.Sums.{stake_most}
use Rattle.record_spec.specs.Reference.{TransactionLocator}
use Rattle.words.specs.Words.{words_in, words_of}
use Rattle.store_spec.specs.Layout.{entries, position_of, lookup}
use Rattle.store_spec.specs.Store.{records_of}
use Rattle.pending_spec.specs.Items.{Item, item_holds, item_at}
use Rattle.pending_spec.specs.Table.{items_of}
use Rattle.pending_spec.proofs.Order.{in_order_lem}
use Rattle.feed_spec.specs.Pending.{Standing, pending_checks, standing_of, standing_at, pending}
use Rattle.feed_spec.proofs.Checks.{pending_numbered}
use Rattle.pending_question.proofs.Lending.{lying}
use Rattle.host_locators.specs.Locators.{refusal_before}
use Rattle.host_pending_bytes.specs.Pending.{pending_in, asked_pending}
use Rattle.host_calls.proofs.Numbers.{refusal_most}
use Rattle.host_locators.proofs.Locators.{before_most}

-- 20 comes after 5, 10, 11
module _ (c : Committee) (s t : List ℕ) where
  pub table_refused : (refusal (pending_checks c s t) ≡ 0 → ⊥) → refusal (pending_checks c s t ++ ((true ⇒ 20) ∷ [])) ≡ refusal (pending_checks c s t)
  table_refused h = refusal_first (pending_checks c s t) ((true ⇒ 20) ∷ []) h

  pub table_lent : refusal (pending_checks c s t) ≡ 0 → refusal (pending_checks c s t ++ ((true ⇒ 20) ∷ [])) ≡ 20
  unfolding refusal
  table_lent h = refusal_then (pending_checks c s t) ((true ⇒ 20) ∷ []) (pending_numbered c s t) h

module _ (c : Committee) (s t : List ℕ) (o : Option TransactionLocator) where
  pub pending_sized : length t ≡ 49160 → asked_pending c s t o ≡ pending_in c s (words_in 6145 t) o
  unfolding asked_pending words_of
  pending_sized h = rw (eq-eqb (length t) 49160 h, h)

  pub pending_other : (length t ≡ 49160 → ⊥) → asked_pending c s t o ≡ refused (refusal_before 11 c s)
  unfolding asked_pending
  pending_other h = rw (ne_eqb (length t) 49160 h)

-- ---- an answered stake is below 2^63, so that its word is taken for no refusal

item_fits : (c : Committee) (s t : List ℕ) (x : Item) → refusal (pending_checks c s t) ≡ 0 → x ∈ items_of t → x.aggregator.stake < 9223372036854775808
unfolding aggregator_in_order
item_fits c s t x z m =
    let lies = lying c s t z in
    let p = every_in (items_of t) x (in_order_lem c (entries (records_of s)) t lies.table).items m in
    let e = eqb-true x.aggregator.stake (stake_of c x.aggregator.votes) (and_right (all_of (known c) (members x.aggregator.votes)) _ p.votes) in
    omega (arith, e, stake_most c x.aggregator.votes, total_most c lies.committee)

pub question_fits : (c : Committee) (s t : List ℕ) (l : TransactionLocator) (y : Standing) → pending c s t l ≡ answered y → y.stake < 9223372036854775808
unfolding pending standing_of standing_at item_at
question_fits c s t l y e =
    go (passes (pending_checks c s t)) refl (find (item_holds (position_of (lookup (entries (records_of s)) l.block)) l.offset) (items_of t)) refl e
  where
    go : (b : Bool) → passes (pending_checks c s t) ≡ b → (o : Option Item)
        → find (item_holds (position_of (lookup (entries (records_of s)) l.block)) l.offset) (items_of t) ≡ o
        → pick b (standing_of o) (refused (refusal (pending_checks c s t))) ≡ answered y → y.stake < 9223372036854775808
    go true p none f e = let z : ◌≡◌ {A = ℕ} 0 1 = cc in absurd (omega arith)
    go true p (some x) f e =
        let z : x.aggregator.stake ≡ y.stake = cc in
        omega (arith, z, item_fits c s t x (passes_zero (pending_checks c s t) p) (find_in _ (items_of t) x f))
    go false p o f e = let z : ◌≡◌ {A = ℕ} 0 1 = cc in absurd (omega arith)
