-- The claims about slips hold. Assumes nothing.
use Rattle.record_spec.proofs.Claimed.{bytes_fit}
use Rattle.final_spec.proofs.Claimed.{well_stored}
use Rattle.slip_spec.specs.Claims.{SlipReadsBack, SlipWritesBack, ReadingMeant, MissingMeant, AcceptedCertifies, AcceptedInStore, PathsMeant}
use Rattle.slip_spec.specs.Claims.{WrittenNamesAll, WrittenAccepted, WrittenReads, WrittenCarried, WrittenWhole, WrittenSays, Claims}
use Rattle.slip_spec.proofs.Slips.{read_slip_slip_bytes, slip_bytes_read_slip, slip_fits}
use Rattle.slip_spec.proofs.Reading.{answer_iff}
use Rattle.slip_spec.proofs.Ancestry.{right_falling}
use Rattle.slip_spec.proofs.Missing.{missing_iff}
use Rattle.slip_spec.proofs.Accepted.{accepted_certifies, accepted_in_store}
use Rattle.slip_spec.proofs.Distances.{shortest_first}
use Rattle.slip_spec.proofs.Naming.{names_all}
use Rattle.slip_spec.proofs.Written.{slip_accepted, slice_accepted, slice_carried, slice_whole, slice_says}

slip_reads_back : SlipReadsBack
unfolding SlipReadsBack
slip_reads_back s h = read_slip_slip_bytes s (slip_fits s h)

slip_writes_back : SlipWritesBack
unfolding SlipWritesBack
slip_writes_back r s h k = slip_bytes_read_slip r s (bytes_fit r h) k

reading_meant : ReadingMeant
unfolding ReadingMeant
reading_meant = answer_iff

missing_meant : MissingMeant
unfolding MissingMeant
missing_meant c bs s h = missing_iff bs s (λ e. right_falling c bs (h e))

certifies_meant : AcceptedCertifies
unfolding AcceptedCertifies
certifies_meant = accepted_certifies

in_store_meant : AcceptedInStore
unfolding AcceptedInStore
in_store_meant = accepted_in_store

paths_meant : PathsMeant
unfolding PathsMeant
paths_meant c bs h votes = shortest_first votes bs (well_stored c bs h)

written_names_all : WrittenNamesAll
unfolding WrittenNamesAll
written_names_all = names_all

written_accepted : WrittenAccepted
unfolding WrittenAccepted
written_accepted reading c t b h o l f = slip_accepted reading c t b (bytes_fit t h) o l f

written_reads : WrittenReads
unfolding WrittenReads
written_reads reading c t out l n h = slice_accepted reading c t out l n (bytes_fit t h)

written_carried : WrittenCarried
unfolding WrittenCarried
written_carried reading c t out l n h k rs f e few g = slice_carried reading c t out l n (bytes_fit t h) k rs f e few g

written_whole : WrittenWhole
unfolding WrittenWhole
written_whole reading c t out l n h k = slice_whole reading c t out l n (bytes_fit t h) k

written_says : WrittenSays
unfolding WrittenSays
written_says reading c t out l n h k = slice_says reading c t out l n (bytes_fit t h) k

pub claimed : Claims
claimed =
    record {
      reads = slip_reads_back;
      writes = slip_writes_back;
      reading = reading_meant;
      missing = missing_meant;
      certifies = certifies_meant;
      in_store = in_store_meant;
      paths = paths_meant;
      names = written_names_all;
      accepted = written_accepted;
      written = written_reads;
      carried = written_carried;
      whole = written_whole;
      says = written_says;
    }
