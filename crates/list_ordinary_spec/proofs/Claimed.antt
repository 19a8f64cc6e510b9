-- The claims, each from its law. Assumes nothing.
use Rattle.final_spec.proofs.Claimed.{well_stored}
use Rattle.final_spec.proofs.Asked.{asked_once}
use Rattle.list_ordinary_spec.specs.FinalShares.{next_final_share}
use Rattle.list_ordinary_spec.specs.Claims.{ByRuns, SharesAlongChain, LeastFinalShareMeant, WideKept, FinalShareListMeant, ListsFinalShares, AnyOrder}
use Rattle.list_ordinary_spec.specs.Claims.{OrdinaryLawful, Claims}
use Rattle.list_ordinary_spec.proofs.Least.{least_final_share_lem}
use Rattle.list_ordinary_spec.proofs.Asked.{wide_kept_lem, shares_asked}
use Rattle.list_ordinary_spec.proofs.Lists.{all_shares_lem, exactly_finals, same_shares_lem}
use Rattle.list_ordinary_spec.proofs.Through.{by_shared_ranges, through_entries, counted_shares}
use Rattle.list_ordinary_spec.proofs.Ordinary.{ordinary_lawful, ordinary_gives, wide_cut_lem}

pub claimed : Claims
unfolding ByRuns SharesAlongChain LeastFinalShareMeant WideKept FinalShareListMeant ListsFinalShares AnyOrder OrdinaryLawful
claimed =
    record {
      all_shares = all_shares_lem;
      by_runs = by_shared_ranges;
      along_chain = λ c s h. record { through = through_entries c s h; many = counted_shares c s h };
      least_final_share = least_final_share_lem;
      wide_kept = wide_kept_lem;
      final_share_list = λ c s b h. record { given = shares_asked c s b h; only = λ ls a. asked_once (next_final_share c s) a (shares_asked c s b h) };
      lists = λ c bs h. exactly_finals c (well_stored c bs h);
      any_order = λ c bs cs h k e. same_shares_lem c (well_stored c bs h) (well_stored c cs k) e;
      lawful = ordinary_lawful;
      gives = ordinary_gives;
      wide_cut = wide_cut_lem;
    }
