-- What the questions answer, refusal by refusal. Assumes nothing.
use mathlib.Core.Path.{◌≡◌}
use mathlib.Core.Bool.{Bool, true, false}
use mathlib.Core.List.{List, ◌++◌, map, flatten}
use Prim.Native.Nat.{ℕ, ◌*◌, ◌/◌, ◌<◌, ◌≤◌}
use lib.ListN.{length, drop}
use borrow.Author.Tests.{lt-ltb, le-ltb}
use Rattle.base.specs.Lists.{all_of}
use Rattle.base.specs.Le.{Bytes}
use Rattle.base.specs.Checks.{refusal, passes, refused, answered, checked}
use Rattle.committee.specs.Committee.{Committee, broken}
use Rattle.record_spec.specs.Reference.{TransactionLocator}
use Rattle.store_spec.specs.Layout.{entries}
use Rattle.store_spec.specs.Store.{records_of, store_in_order}
use Rattle.final_spec.specs.Finality.{blocks_of}
use Rattle.final_spec.specs.NextFinal.{next_final_checks}
use Rattle.final_readings_spec.specs.Readings.{Reading}
use Rattle.list_ordinary_spec.specs.Shares.{stored_shares}
use Rattle.load_spec.specs.Loadable.{is_loadable_in, loadable_list_in}
use Rattle.load_spec.specs.Question.{loadable_question_in, place_words, list_checks, loadable_questions_in}

-- ---- yes or no

module _ (reading : Reading) (c : Committee) (s : Bytes) (l : TransactionLocator) where
  pub question_broken : broken c ≡ true → refused 5 ≡ loadable_question_in reading c s l
  unfolding loadable_question_in next_final_checks checked passes refusal all_of
  question_broken h = rw h

  pub question_disordered : broken c ≡ false → store_in_order c s ≡ false → refused 10 ≡ loadable_question_in reading c s l
  unfolding loadable_question_in next_final_checks checked passes refusal all_of
  question_disordered h k = rw (h, k)

  pub question_asked : broken c ≡ false → store_in_order c s ≡ true → (t : Bool) → t ≡ is_loadable_in reading c (blocks_of s) l → answered t
      ≡ loadable_question_in
      reading c s l
  unfolding loadable_question_in next_final_checks checked passes refusal all_of
  question_asked h k t e = rw (h, k, e)

-- ---- the list

module _ (reading : Reading) (c : Committee) (s : Bytes) (ps : List ℕ) where
  pub list_broken : broken c ≡ true → record { answer = refused 5; places = ps } ≡ loadable_questions_in reading c s ps
  unfolding loadable_questions_in list_checks checked passes refusal all_of
  list_broken h = rw h

  module _ (b : broken c ≡ false) where
    pub list_disordered : store_in_order c s ≡ false → record { answer = refused 10; places = ps } ≡ loadable_questions_in reading c s ps
    unfolding loadable_questions_in list_checks checked passes refusal all_of
    list_disordered h = rw (b, h)

    module _ (o : store_in_order c s ≡ true) where
      pub list_short : length ps / 2 < length (stored_shares (blocks_of s)) → record { answer = refused 58; places = ps } ≡ loadable_questions_in reading c s ps
      unfolding loadable_questions_in list_checks checked passes refusal all_of
      list_short h = rw (b, o, lt-ltb (length ps / 2) (length (stored_shares (blocks_of s))) h)

      pub list_asked : length (stored_shares (blocks_of s)) ≤ length ps / 2 → (n : ℕ) (qs : List ℕ) → n ≡ length (loadable_list_in reading c (blocks_of s))
          → qs ≡ flatten (map (place_words (entries (records_of s))) (loadable_list_in reading c (blocks_of s))) ++ drop
          (2 * length (loadable_list_in reading c (blocks_of s))) ps
          → record { answer = answered n; places = qs } ≡ loadable_questions_in reading c s ps
      unfolding loadable_questions_in list_checks checked passes refusal all_of
      list_asked h n qs e f = rw (b, o, le-ltb (length ps / 2) (length (stored_shares (blocks_of s))) h, e, f)
