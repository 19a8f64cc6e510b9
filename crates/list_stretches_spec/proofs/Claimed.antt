-- The claims about stretches, put together. Assumes nothing.
use Rattle.list_stretches_spec.specs.Claims.{WideLawful, Claims}
use Rattle.list_stretches_spec.proofs.Ends.{stretch_end_meant}
use Rattle.list_stretches_spec.proofs.Spreading.{stretches_longest, stretches_spread}
use Rattle.list_stretches_spec.proofs.Wide.{wide_lawful_lem, wide_gives_lem, stretches_alike}

pub claimed : Claims
unfolding WideLawful
claimed = record {
  ends = stretch_end_meant;
  longest = stretches_longest;
  spread = stretches_spread;
  wide_lawful = wide_lawful_lem;
  wide_gives = wide_gives_lem;
  alike =
      stretches_alike;
}
