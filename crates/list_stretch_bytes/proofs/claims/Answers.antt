use Rattle.record_spec.proofs.Claimed.{bytes_fit}
use Rattle.list_stretch_bytes.proofs.Stretch.{eighty, first_locator}
use Rattle.list_stretch_bytes.proofs.claims.Goals as goal

pub returns : goal.returns
returns c = record { eighty = eighty; first_locator = λ t a h. first_locator t (bytes_fit _ a) h }
