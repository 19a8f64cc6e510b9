use Rattle.final_spec.proofs.Certifying.{certifying_meant}
use Rattle.final_spec.proofs.Claimed.{voters_meant, voters_of_ancestry, final_meant, least_final_meant, final_list_meant}
use Rattle.final_spec.proofs.claims.Goals as goal

pub returns : goal.returns
returns c = record {
  voters = voters_meant;
  ancestry = voters_of_ancestry;
  final = final_meant;
  certifying = certifying_meant;
  least_final = least_final_meant;
  final_list = final_list_meant;
}
