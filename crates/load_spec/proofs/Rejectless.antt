-- With no rejects both readings load the same. Assumes nothing.
use mathlib.Core.Path.{◌≡◌, refl, ap, ap₂}
use mathlib.Core.Bool.{Bool, ◌&&◌}
use mathlib.Core.List.{List, ◌++◌, map, flatten}
use Prim.Native.Nat.{ℕ, zero, suc, ◌*◌}
use lib.ListN.{length, drop}
use Rattle.base.specs.Lists.{pick, keep, holds}
use Rattle.base.specs.Le.{Bytes}
use Rattle.base.specs.Checks.{passes, checked}
use Rattle.committee.specs.Committee.{Committee}
use Rattle.record_spec.specs.Reference.{TransactionLocator}
use Rattle.record_spec.specs.Block.{Block}
use Rattle.store_spec.specs.Layout.{entries}
use Rattle.store_spec.specs.Store.{records_of}
use Rattle.final_spec.specs.Finality.{blocks_of}
use Rattle.final_spec.specs.NextFinal.{next_final_checks}
use Rattle.final_readings_spec.specs.Readings.{old, withdrawing}
use Rattle.final_readings_spec.specs.Withdrawing.{NoRejects}
use Rattle.final_readings_spec.proofs.FinalsIn.{final_in_same}
use Rattle.list_ordinary_spec.specs.Shares.{stored_shares}
use Rattle.load_spec.specs.Needs.{needed_by, payload_in}
use Rattle.load_spec.specs.Loadable.{met, loadable_by, loadable_within, is_loadable_in, loadable_list_in}
use Rattle.load_spec.specs.Question.{place_words, list_checks, AskedList, loadable_question_in, loadable_questions_in}
use Rattle.load_spec.specs.Claims.{SameLoading}

module _ (c : Committee) (bs : List Block) (f : NoRejects bs) where
  same_within : (n : ℕ) (l : TransactionLocator) → loadable_within n withdrawing c bs l ≡ loadable_within n old c bs l
  unfolding loadable_within loadable_by
  same_within zero l = refl
  same_within (suc n) l =
      ap₂ {C = Bool} (λ (t : Bool) (loaded : TransactionLocator → Bool). t && holds (λ p. met loaded l (needed_by p)) (payload_in bs l))
      (final_in_same withdrawing c bs f l) (λ i m. same_within n m i)

  same_answer : (l : TransactionLocator) → is_loadable_in withdrawing c bs l ≡ is_loadable_in old c bs l
  unfolding is_loadable_in
  same_answer l = same_within (suc l.block.round) l

  same_list_lem : loadable_list_in withdrawing c bs ≡ loadable_list_in old c bs
  unfolding loadable_list_in
  same_list_lem = λ i. keep (λ l. same_answer l i) (stored_shares bs)

pub same_loading : (c : Committee) (s : Bytes) → NoRejects (blocks_of s) → SameLoading c s
unfolding loadable_question_in loadable_questions_in
same_loading c s f =
    record {
      answer = λ l. ap (checked (next_final_checks c s)) (same_answer c (blocks_of s) f l);
      list = same_list_lem c (blocks_of s) f;
      places = λ ps.
          ap {B = AskedList}
          (λ (found : List TransactionLocator). record {
            answer = checked (list_checks c s ps) (length found);
            places = pick (passes (list_checks c s ps)) (flatten (map (place_words (entries (records_of s))) found) ++ drop (2 * length found) ps) ps;
          })
          (same_list_lem c (blocks_of s) f);
    }
