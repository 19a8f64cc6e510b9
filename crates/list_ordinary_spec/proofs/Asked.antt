-- Asked on, the question gives the stored shares of the wide list. Assumes nothing.
use mathlib.Core.Path.{◌≡◌, refl, sym, ap, subst, ◌∙◌}
use mathlib.Core.Bool.{Bool, true, false}
use mathlib.Core.List.{List, ◌∷◌}
use mathlib.Core.Option.{Option, none, some}
use Rattle.base.specs.Lists.{pick, all_of, keep}
use Rattle.base.specs.Le.{Bytes}
use Rattle.base.specs.Checks.{refusal, passes, Answer, answered, checked}
use Rattle.committee.specs.Committee.{Committee, broken}
use Rattle.record_spec.specs.Reference.{TransactionLocator}
use Rattle.store_spec.specs.Store.{store_in_order}
use Rattle.final_spec.specs.Finality.{blocks_of}
use Rattle.final_spec.specs.NextFinal.{LeastFinal, least_final, next_final_checks, next_final, done, onward, AskedOn, final_list}
use Rattle.final_spec.proofs.Candidates.{least_final_lem}
use Rattle.final_spec.proofs.LeastOf.{one_least}
use Rattle.final_spec.proofs.Asked.{next_answers, asked_on}
use Rattle.store_spec.specs.Shares.{is_stored_share}
use Rattle.list_ordinary_spec.specs.FinalShares.{is_final_share, LeastFinalShare, least_final_share, next_final_share, SharesAskedOn, FinalShareList}
use Rattle.list_ordinary_spec.specs.FinalShares.{final_shares}
use Rattle.list_ordinary_spec.proofs.Least.{least_final_share_lem, none_wide, share_wide, passed_over}

module _ (c : Committee) (s : Bytes) (b : broken c ≡ false) (h : store_in_order c s ≡ true) where
  -- a question that is not refused gives the least final stored share
  pub next_share_answers : (after : Option TransactionLocator) → next_final_share c s after ≡ answered (least_final_share c (blocks_of s) after)
  unfolding next_final_share next_final_checks checked passes refusal all_of
  next_share_answers after = rw (b, h)

  answers : (after : Option TransactionLocator) {o : Option TransactionLocator} → LeastFinalShare c (blocks_of s) after o → next_final_share c s after
      ≡ answered o
  answers after {o} k =
      next_share_answers after ∙ ap {B = Answer (Option TransactionLocator)} answered
      (one_least (is_final_share c (blocks_of s)) after (least_final_share_lem c (blocks_of s) after) k)

  wide_least : (after o : Option TransactionLocator) → next_final c s after ≡ answered o → LeastFinal c (blocks_of s) after o
  wide_least after o e =
      let f : answered (least_final c (blocks_of s) after) ≡ answered o = sym (next_answers c s after b h) ∙ e in
      let q : least_final c (blocks_of s) after ≡ o = cc in
      subst (LeastFinal c (blocks_of s) after) q (least_final_lem c (blocks_of s) after)

  -- two questions with the same answer go on alike
  asked_from : {after from : Option TransactionLocator} {ls : List TransactionLocator} → next_final_share c s after ≡ next_final_share c s from
      → SharesAskedOn c
      s from ls → SharesAskedOn c s after ls
  asked_from e (done f) = done (e ∙ f)
  asked_from e (onward f a) = onward (e ∙ f) a

  -- of what the wide question gives, the stored shares
  pub wide_kept_lem : (after : Option TransactionLocator) (ls : List TransactionLocator) → AskedOn c s after ls → SharesAskedOn c s after
      (keep (is_stored_share (blocks_of s)) ls)
  unfolding keep
  wide_kept_lem after ls (done e) = done (answers after (none_wide c (blocks_of s) after (wide_least after none e)))
  wide_kept_lem after ls (onward {l = l} {ls = ms} e a) = split (is_stored_share (blocks_of s) l) refl (wide_kept_lem (some l) ms a)
    where
      first : LeastFinal c (blocks_of s) after (some l)
      first = wide_least after (some l) e

      split : (t : Bool) → is_stored_share (blocks_of s) l ≡ t → SharesAskedOn c s (some l) (keep (is_stored_share (blocks_of s)) ms)
          → SharesAskedOn c s after (pick t (l ∷ keep (is_stored_share (blocks_of s)) ms) (keep (is_stored_share (blocks_of s)) ms))
      split true f k = onward (answers after (share_wide c (blocks_of s) after l first f)) k
      split false f k =
          asked_from (answers after (passed_over c (blocks_of s) after l first f (least_final_share_lem c (blocks_of s) (some l))) ∙ sym
          (next_share_answers (some l))) k

  -- asked on from the start it gives the computed list
  pub shares_asked : FinalShareList c s (final_shares c (blocks_of s))
  unfolding final_shares
  shares_asked = wide_kept_lem none (final_list c (blocks_of s)) (asked_on c s b h)
