-- The claims about joining and writing hold. Assumes nothing.
use Rattle.draft_spec.specs.Claims.{Claims}
use Rattle.draft_spec.proofs.Joining.{joining_meant, joined_in_order}
use Rattle.draft_spec.proofs.Joined.{joining_checked}
use Rattle.draft_spec.proofs.Written.{lent_meant, written_shows, refused_stays, written_anew}

pub claimed : Claims
claimed =
    record {
      joining = joining_meant;
      in_order = joined_in_order;
      checked = joining_checked;
      lent = lent_meant;
      shows = written_shows;
      refused = refused_stays;
      anew = written_anew;
    }
