-- The final list of both readings: ascending, with every final locator, and what the question gives when it is asked on. Assumes nothing.
use mathlib.Core.Path.{◌≡◌, sym, ◌∙◌}
use mathlib.Core.Logic.{◌↔◌}
use mathlib.Core.Bool.{true, false}
use mathlib.Core.List.{List, map, flatten}
use mathlib.Core.Option.{Option}
use Rattle.base.specs.Lists.{all_of, ◌∈◌}
use Rattle.base.specs.Le.{Bytes}
use Rattle.base.specs.Checks.{refusal, passes, answered, checked}
use Rattle.base.proofs.Members.{in_flatten, in_map, in_keep, keep_in}
use Rattle.committee.specs.Committee.{Committee, broken}
use Rattle.record_spec.specs.Reference.{TransactionLocator}
use Rattle.record_spec.specs.Block.{Block}
use Rattle.store_spec.specs.Store.{store_in_order}
use Rattle.final_spec.specs.Finality.{blocks_of}
use Rattle.final_spec.specs.NextFinal.{next_final_checks, ascending_locators}
use Rattle.final_spec.proofs.FinalList.{Ascending, ascending_unique, keep_ascending, ascending_locators_lem, in_ascending, voted, vote_voted}
use Rattle.final_spec.proofs.LeastOf.{least_once}
use Rattle.final_spec.proofs.Asked.{asked_all}
use Rattle.final_readings_spec.specs.Readings.{Reading, is_final_in}
use Rattle.final_readings_spec.specs.NextFinal.{least_final_in, next_final_in, FinalListIn, final_list_in}
use Rattle.final_readings_spec.proofs.CandidatesIn.{final_in_votes, least_final_in_lem}

final_voted : (reading : Reading) (c : Committee) (bs : List Block) (l : TransactionLocator) → is_final_in reading c bs l ≡ true → l ∈ flatten (map voted bs)
final_voted reading c bs l h =
    let v = final_in_votes reading c bs l h in
    in_flatten (vote_voted v.block l v.votes) (in_map voted v.stands)

pub list_ascending : (reading : Reading) (c : Committee) (bs : List Block) → Ascending (final_list_in reading c bs)
unfolding final_list_in
list_ascending reading c bs = keep_ascending (is_final_in reading c bs) (ascending_locators_lem (flatten (map voted bs)))

-- it holds the final locators and no others
pub list_in : (reading : Reading) (c : Committee) (bs : List Block) (l : TransactionLocator) → (l ∈ final_list_in reading c bs) ↔
    (is_final_in reading c bs l ≡ true)
unfolding final_list_in
list_in reading c bs l = (
  λ m. (keep_in (is_final_in reading c bs) (ascending_locators (flatten (map voted bs))) m).1,
  λ e. in_keep (is_final_in reading c bs) (ascending_locators (flatten (map voted bs))) (in_ascending l (flatten (map voted bs)) (final_voted reading c bs l e))
      e,
)

-- where the same locators are final, the lists are the same, and so are the least ones
module _ (r q : Reading) (c : Committee) (bs cs : List Block) (same-finals : (l : TransactionLocator) → is_final_in r c bs l ≡ is_final_in q c cs l) where
  pub list_same : final_list_in r c bs ≡ final_list_in q c cs
  list_same =
      ascending_unique (list_ascending r c bs) (list_ascending q c cs)
      (λ l m. (list_in q c cs l).1 (sym (same-finals l) ∙ (list_in r c bs l).0 m))
      (λ l m. (list_in r c bs l).1 (same-finals l ∙ (list_in q c cs l).0 m))

  pub least_same : (after : Option TransactionLocator) → least_final_in r c bs after ≡ least_final_in q c cs after
  least_same after = least_once (is_final_in r c bs) (is_final_in q c cs) same-finals after (least_final_in_lem r c bs after) (least_final_in_lem q c cs after)

-- ---- asked on

-- a question that is not refused gives the least final locator
pub next_answers_in : (reading : Reading) (c : Committee) (s : Bytes) (after : Option TransactionLocator) → broken c ≡ false → store_in_order c s ≡ true
    → next_final_in reading c s after ≡ answered (least_final_in reading c (blocks_of s) after)
unfolding next_final_in next_final_checks checked passes refusal all_of
next_answers_in reading c s after b h = rw (b, h)

-- 01: "asked on from the start until none, it gives the final list"
pub asked_on_in : (reading : Reading) (c : Committee) (s : Bytes) → broken c ≡ false → store_in_order c s ≡ true → FinalListIn reading c s
    (final_list_in reading c (blocks_of s))
asked_on_in reading c s b h =
    asked_all (is_final_in reading c (blocks_of s)) (next_final_in reading c s) (least_final_in reading c (blocks_of s))
    (λ after. next_answers_in reading c s after b h)
    (λ after. least_final_in_lem reading c (blocks_of s) after) (list_ascending reading c (blocks_of s)) (λ l. list_in reading c (blocks_of s) l)
