-- The lists of the old reading are those of the calls without one. Assumes nothing.
use mathlib.Core.Path.{◌≡◌, refl}
use mathlib.Core.Bool.{Bool, true, false}
use mathlib.Core.List.{List}
use Rattle.committee.specs.Committee.{Committee}
use Rattle.record_spec.specs.Reference.{TransactionLocator}
use Rattle.record_spec.specs.Block.{Block}
use Rattle.final_spec.specs.Voters.{certifies, certifiers, is_final}
use Rattle.final_spec.specs.NextFinal.{least_final}
use Rattle.list_stretches_spec.specs.Stretches.{wide, certified_alike}
use Rattle.final_readings_spec.specs.Readings.{old, voters_in, certifies_in, certifiers_in, is_final_in}
use Rattle.final_readings_spec.specs.NextFinal.{candidates_in, least_final_in}
use Rattle.list_ordinary_spec.specs.FinalShares.{is_final_share, least_final_share}
use Rattle.list_ordinary_spec.specs.Ordinary.{ordinary}
use Rattle.list_readings_spec.specs.Lists.{is_listed, least_listed, list_edges, listing}

module _ (c : Committee) (bs : List Block) where
  pub old_wide : listing false old c bs ≡ wide c bs
  unfolding listing is_listed least_listed list_edges least_final_in candidates_in is_final_in certifiers_in certifies_in voters_in least_final is_final
      certifiers certifies
  old_wide = refl

  pub old_ordinary : listing true old c bs ≡ ordinary c bs
  unfolding listing is_listed least_listed list_edges is_final_in certifiers_in certifies_in voters_in is_final certifiers certifies is_final_share
      least_final_share
  old_ordinary = refl

module _ (o : Bool) (c : Committee) (bs : List Block) where
  -- the certifying blocks are the same in both
  pub old_alike : (l m : TransactionLocator) → certified_alike bs (listing o old c bs) l m ≡ certified_alike bs (wide c bs) l m
  unfolding listing certifies_in voters_in certifies certified_alike
  old_alike l m = refl
