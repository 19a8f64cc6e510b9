-- Asked on from the start until none, the question gives the final list. Assumes nothing.
use mathlib.Core.Path.{◌≡◌, refl, sym, ap, ap₂, ◌∙◌, subst}
use mathlib.Core.Logic.{◌⊎◌, inl, inr, ◌↔◌}
use mathlib.Core.Bool.{Bool, true, false}
use mathlib.Core.List.{List, [], ◌∷◌}
use mathlib.Core.Option.{Option, none, some}
use Rattle.base.specs.Lists.{all_of, ◌∈◌, here, there}
use Rattle.base.specs.Le.{Bytes}
use Rattle.base.specs.Checks.{refusal, passes, Answer, refused, answered, checked}
use Rattle.base.proofs.Tests.{not_both}
use Rattle.base.proofs.Members.{in_empty, in_cases}
use Rattle.committee.specs.Committee.{Committee, broken}
use Rattle.record_spec.specs.Reference.{TransactionLocator, locator_before}
use Rattle.record_spec.proofs.References.{locator_irrefl, locator_trans}
use Rattle.store_spec.specs.Store.{records_of, store_in_order}
use Rattle.store_spec.proofs.Stored.{WellStored}
use Rattle.store_spec.proofs.Store.{in_order_lem}
use Rattle.store_spec.proofs.Accepted.{accepted_stored}
use Rattle.final_spec.specs.Voters.{is_final}
use Rattle.final_spec.specs.Finality.{blocks_of}
use Rattle.final_spec.specs.NextFinal.{is_after, LeastOf, least, nothing, least_final, next_final_checks, next_final, AskedOf, done, onward, FinalList}
use Rattle.final_spec.specs.NextFinal.{final_list}
use Rattle.final_spec.proofs.Candidates.{least_final_lem}
use Rattle.final_spec.proofs.FinalList.{Ascending, none_left, and_then, final_list_ascending, final_list_in}

-- the locator that an answer tells, or another
told : TransactionLocator → Answer (Option TransactionLocator) → TransactionLocator
told d (refused n) = d
told d (answered none) = d
told d (answered (some l)) = l

IsNone : Answer (Option TransactionLocator) → Type 0
IsNone (refused n) = ⊥
IsNone (answered none) = Unit {0}
IsNone (answered (some l)) = ⊥

apart : {l : TransactionLocator} → ◌≡◌ {A = Answer (Option TransactionLocator)} (answered none) (answered (some l)) → ⊥
unfolding IsNone
apart e = subst IsNone e tt

-- a store in order holds well stored blocks
pub in_order_stored : (c : Committee) (s : Bytes) → store_in_order c s ≡ true → WellStored (blocks_of s)
unfolding blocks_of
in_order_stored c s h = accepted_stored c (records_of s) (in_order_lem c s h).accepted

-- a question that is not refused gives the least final locator
pub next_answers : (c : Committee) (s : Bytes) (after : Option TransactionLocator) → broken c ≡ false → store_in_order c s ≡ true → next_final c s after ≡
    answered (least_final c (blocks_of s) after)
unfolding next_final next_final_checks checked passes refusal all_of
next_answers c s after b h = rw (b, h)

-- what comes after a locator that is after the given one is after it too
pub later_after : (after : Option TransactionLocator) (l m : TransactionLocator) → is_after after l ≡ true → locator_before l m ≡ true → is_after after m ≡ true
unfolding is_after
later_after none l m h k = refl
later_after (some x) l m h k = locator_trans x l m h k

module _ (test : TransactionLocator → Bool) where
  -- the list is that of which the test holds after the given locator
  Rest : Option TransactionLocator → List TransactionLocator → Type 0
  Rest after ls = (l : TransactionLocator) → (l ∈ ls) ↔ ((test l ≡ true) × (is_after after l ≡ true))

  nothing_left : (after : Option TransactionLocator) → Rest after [] → {o : Option TransactionLocator} → LeastOf test after o → o ≡ none
  unfolding Rest
  nothing_left after r (least l f k g) = absurd (in_empty ((r l).1 (f, k)))
  nothing_left after r (nothing g) = refl

  first_left : (after : Option TransactionLocator) (l : TransactionLocator) {ls : List TransactionLocator} →
      ((m : TransactionLocator) → m ∈ ls → locator_before l m ≡ true) → Rest after (l ∷ ls)
      → {o : Option TransactionLocator} → LeastOf test after o → o ≡ some l
  unfolding Rest
  first_left after l {ls} h r (least x f k g) = split (in_cases ((r x).1 (f, k)))
    where
      split : (x ≡ l) ⊎ (x ∈ ls) → some x ≡ some l
      split (inl e) = ap {B = Option TransactionLocator} some e
      split (inr m) = let q = (r l).0 here in absurd (not_both (h x m) (g l q.0 q.1))
  first_left after l h r (nothing g) = let q = (r l).0 here in absurd (not_both q.0 (g l q.1))

  tail_left : (after : Option TransactionLocator) (l : TransactionLocator) {ls : List TransactionLocator} →
      ((m : TransactionLocator) → m ∈ ls → locator_before l m ≡ true) → Rest after (l ∷ ls) → Rest (some l) ls
  unfolding Rest is_after
  tail_left after l {ls} h r m = (λ k. (((r m).0 (there k)).0, h m k), λ q. back q (in_cases ((r m).1 (q.0, later_after after l m ((r l).0 here).1 q.1))))
    where
      back : (test m ≡ true) × (locator_before l m ≡ true) → (m ≡ l) ⊎ (m ∈ ls) → m ∈ ls
      back q (inl e) = absurd (locator_irrefl l (rw e at q).1)
      back q (inr k) = k

  -- where a question for the next one is not refused, it gives that list when it is asked on
  asked_of : (next : Option TransactionLocator → Answer (Option TransactionLocator)) (found : Option TransactionLocator → Option TransactionLocator)
      → ((after : Option TransactionLocator) → next after ≡ answered (found after)) → ((after : Option TransactionLocator) → LeastOf test after (found after))
      → (after : Option TransactionLocator) {ls : List TransactionLocator} → Ascending ls → Rest after ls → AskedOf next after ls
  asked_of next found answers finds after none_left r = done (answers after ∙ ap {B = Answer (Option TransactionLocator)} answered
      (nothing_left after r (finds after)))
  asked_of next found answers finds after (and_then {l = l} k a) r =
      onward {l = l} (answers after ∙ ap {B = Answer (Option TransactionLocator)} answered (first_left after l k r (finds after)))
      (asked_of next found answers finds (some l) a (tail_left after l k r))

  -- and from the start all of which the test holds
  pub asked_all : (next : Option TransactionLocator → Answer (Option TransactionLocator)) (found : Option TransactionLocator → Option TransactionLocator)
      → ((after : Option TransactionLocator) → next after ≡ answered (found after)) → ((after : Option TransactionLocator) → LeastOf test after (found after))
      → {ls : List TransactionLocator} → Ascending ls → ((l : TransactionLocator) → (l ∈ ls) ↔ (test l ≡ true)) → AskedOf next none ls
  unfolding Rest is_after
  asked_all next found answers finds a e = asked_of next found answers finds none a (λ l. (λ m. ((e l).0 m, refl), λ q. (e l).1 q.0))

-- 01: "asked on from the start until none, it gives the final list"
pub asked_on : (c : Committee) (s : Bytes) → broken c ≡ false → store_in_order c s ≡ true → FinalList c s (final_list c (blocks_of s))
asked_on c s b h =
    asked_all (is_final c (blocks_of s)) (next_final c s) (least_final c (blocks_of s)) (λ after. next_answers c s after b h)
    (λ after. least_final_lem c (blocks_of s) after)
    (final_list_ascending c (blocks_of s)) (λ l. final_list_in c (blocks_of s) l)

-- the question gives one list
pub asked_once : (next : Option TransactionLocator → Answer (Option TransactionLocator)) {after : Option TransactionLocator} {ls ms : List TransactionLocator}
    → AskedOf next after ls → AskedOf next after ms → ls ≡ ms
unfolding told
asked_once next (done e) (done f) = refl
asked_once next (done e) (onward f b) = absurd (apart (sym e ∙ f))
asked_once next (onward e a) (done f) = absurd (apart (sym f ∙ e))
asked_once next (onward {l = l} {ls = ls} e a) (onward {l = m} {ls = ms} f b) =
    let q : l ≡ m = ap (told l) (sym e ∙ f) in
    ap₂ {C = List TransactionLocator} (λ x xs. x ∷ xs) q (asked_once next (subst (λ (x : TransactionLocator). AskedOf next (some x) ls) q a) b)
