-- The reject of one block, computed and as a relation. Assumes nothing.
use mathlib.Core.Path.{◌≡◌, refl, sym, subst}
use mathlib.Core.Logic.{◌⊎◌, inl, inr}
use mathlib.Core.Bool.{Bool, true, false}
use mathlib.Core.List.{List, [], ◌∷◌, map, flatten}
use mathlib.Core.Option.{Option}
use Prim.Native.Nat.{◌<◌}
use borrow.Author.Tests.{eq-eqb, eqb-true}
use Rattle.base.specs.Lists.{pick, any_of, ◌∈◌, here}
use Rattle.base.proofs.Tests.{not_both, fails, same_test}
use Rattle.base.proofs.Members.{in_empty, in_cases, in_flatten, flatten_in, any_in, in_any, in_map, map_in}
use Rattle.committee.specs.Committee.{AuthorityIndex}
use Rattle.committee_set.specs.AuthoritySet.{nobody, member, inserted}
use Rattle.committee_set.proofs.Words.{Small, small_nobody, small_inserted}
use Rattle.committee_set.proofs.Votes.{member_nobody, member_inserted}
use Rattle.record_spec.specs.Reference.{TransactionLocator, same_locator}
use Rattle.record_spec.specs.Block.{Statement, share, accept, reject, vote_range, Block, author}
use Rattle.record_spec.proofs.References.{locator_same, same_locator_lem}
use Rattle.final_readings_spec.specs.Rejecting.{rejected_in, rejections, rejects, own_reject}
use Rattle.final_readings_spec.specs.Withdrawing.{Rejects}

-- the locators that a block rejects are those of its rejects
pub in_rejections : (b : Block) (l : TransactionLocator) → l ∈ rejections b → Rejects b l
unfolding rejections rejected_in
in_rejections b l m =
    let s = flatten_in (map rejected_in b.statements) m in
    let t = map_in rejected_in b.statements s.2 in
    split t.0 t.1 (subst (λ (ls : List TransactionLocator). l ∈ ls) (sym t.2) s.1)
  where
    its_own : (k : TransactionLocator) (other : Option TransactionLocator) → reject k other ∈ b.statements → (l ≡ k) ⊎ (l ∈ []) → Rejects b l
    its_own k other m (inl e) = record { other = other; stands = subst (λ (x : TransactionLocator). reject x other ∈ b.statements) (sym e) m }
    its_own k other m (inr j) = absurd (in_empty j)

    split : (s : Statement) → s ∈ b.statements → l ∈ rejected_in s → Rejects b l
    split (share payload) m k = absurd (in_empty k)
    split (accept x) m k = absurd (in_empty k)
    split (reject x other) m k = its_own x other m (in_cases k)
    split (vote_range r) m k = absurd (in_empty k)

pub rejections_in : (b : Block) (l : TransactionLocator) → Rejects b l → l ∈ rejections b
unfolding rejections rejected_in
rejections_in b l r = in_flatten {xs = l ∷ []} here (in_map rejected_in r.stands)

-- a block rejects a locator exactly where the test says so
pub listed : (b : Block) (l : TransactionLocator) → rejects b l ≡ true → l ∈ rejections b
unfolding rejects
listed b l h =
    let r = any_in (same_locator l) (rejections b) h in
    subst (λ (x : TransactionLocator). x ∈ rejections b) (sym (locator_same l r.0 r.2)) r.1

pub is_rejected : (b : Block) (l : TransactionLocator) → rejects b l ≡ true → Rejects b l
is_rejected b l h = in_rejections b l (listed b l h)

pub rejected_is : (b : Block) (l : TransactionLocator) → Rejects b l → rejects b l ≡ true
unfolding rejects
rejected_is b l r = in_any (same_locator l) (rejections_in b l r) (same_locator_lem refl)

-- the same, statement by statement
pub rejects_by_statement : (b : Block) (l : TransactionLocator) → rejects b l ≡ any_of (λ s. any_of (same_locator l) (rejected_in s)) b.statements
unfolding rejects rejections
rejects_by_statement b l = each b.statements
  where
    each : (ss : List Statement) → any_of (same_locator l) (flatten (map rejected_in ss)) ≡ any_of (λ s. any_of (same_locator l) (rejected_in s)) ss
    each ss =
        same_test _ _
        (λ h.
        let x = any_in (same_locator l) (flatten (map rejected_in ss)) h in
        let y = flatten_in (map rejected_in ss) x.1 in
        let z = map_in rejected_in ss y.2 in
        in_any (λ s. any_of (same_locator l) (rejected_in s)) z.1
        (in_any (same_locator l) (subst (λ (ls : List TransactionLocator). x.0 ∈ ls) (sym z.2) y.1) x.2))
        (λ h.
        let z = any_in (λ s. any_of (same_locator l) (rejected_in s)) ss h in
        let x = any_in (same_locator l) (rejected_in z.0) z.2 in
        in_any (same_locator l) (in_flatten x.1 (in_map rejected_in z.1)) x.2)

-- the author of a block that rejects, and nobody else
pub own_reject_lem : (b : Block) (l : TransactionLocator) (a : AuthorityIndex) → member (own_reject b l) a ≡ true → Rejects b l × (author b ≡ a)
unfolding own_reject
own_reject_lem b l a h = split (rejects b l) refl h
  where
    split : (t : Bool) → rejects b l ≡ t → member (pick t (inserted nobody (author b)) nobody) a ≡ true → Rejects b l × (author b ≡ a)
    split true e k = (is_rejected b l e, sym (eqb-true a (author b) (rw (member_inserted nobody (author b) a, member_nobody a) at k)))
    split false e k = absurd (not_both k (member_nobody a))

pub reject_own : (b : Block) (l : TransactionLocator) (a : AuthorityIndex) → Rejects b l → author b ≡ a → member (own_reject b l) a ≡ true
unfolding own_reject
reject_own b l a r e = rw (rejected_is b l r, member_inserted nobody (author b) a, member_nobody a, eq-eqb a (author b) (sym e))

-- it fits two words
pub own_reject_small : (b : Block) (l : TransactionLocator) → author b < 128 → Small (own_reject b l)
unfolding own_reject
own_reject_small b l h = split (rejects b l)
  where
    split : (t : Bool) → Small (pick t (inserted nobody (author b)) nobody)
    split true = small_inserted nobody (author b) h small_nobody
    split false = small_nobody

-- a block that does not reject speaks for nobody
pub own_reject_none : (b : Block) (l : TransactionLocator) → (Rejects b l → ⊥) → own_reject b l ≡ nobody
unfolding own_reject
own_reject_none b l f = rw (fails (rejects b l) (λ h. f (is_rejected b l h)))
