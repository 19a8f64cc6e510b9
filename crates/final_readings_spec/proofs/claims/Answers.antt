use Rattle.final_readings_spec.proofs.Claimed.{old_reading, rejecters_meant, voters_in_meant, final_in_meant, least_final_in_meant, least_stands_there}
use Rattle.final_readings_spec.proofs.Claimed.{final_list_in_meant, are_less, final_in_both, same_without_rejects, same_answered, voters_in_of_ancestry}
use Rattle.final_readings_spec.proofs.Claimed.{in_any_order, voters_of_records, cut_at_rejects}
use Rattle.final_readings_spec.proofs.claims.Goals as goal

pub returns : goal.returns
returns c =
    record {
      old = old_reading;
      rejecters = rejecters_meant;
      voters = voters_in_meant;
      final = final_in_meant;
      least_final = least_final_in_meant;
      least_stands = least_stands_there;
      final_list = final_list_in_meant;
      less = are_less;
      both = final_in_both;
      no_rejects = same_without_rejects;
      same_answered = same_answered;
      ancestry = voters_in_of_ancestry;
      order = in_any_order;
      records = voters_of_records;
      cuts = cut_at_rejects;
    }
