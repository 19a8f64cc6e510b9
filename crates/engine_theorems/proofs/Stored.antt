-- The store holds what was accepted. Assumes nothing.
use mathlib.Core.Path.{◌≡◌, refl, ap, ◌∙◌}
use mathlib.Core.List.{List, [], ◌∷◌, map}
use Rattle.base.specs.Le.{Bytes}
use Rattle.committee.specs.Committee.{Committee}
use Rattle.store_spec.specs.Layout.{Record}
use Rattle.mission_theorems.specs.Feeds.{Accepted, stored_records}
use Rattle.mission_theorems.specs.ThirdStatement.{Start, engine_of, accepted_of}
use Rattle.mission_theorems.proofs.Storing.{as_record}
use Rattle.mission_theorems.proofs.Finals.{blocks_are, store_of}
use Rattle.engine_theorems.specs.Claims.{StoresAccepted}

bytes_in : (as' : List Accepted) → map (λ (r : Record). r.bytes) (map as_record as') ≡ stored_records as'
unfolding stored_records
bytes_in [] = refl
bytes_in (a ∷ as') = ap {B = List Bytes} (λ rs. a.bytes ∷ rs) (bytes_in as')

pub stores_accepted : (c : Committee) (t : Start) → StoresAccepted c t
stores_accepted c t =
    let h = store_of c t in
    record {
      blocks = blocks_are c (engine_of c t).store (accepted_of c t) h;
      records = ap (λ (rs : List Record). map (λ (r : Record). r.bytes) rs) h.records ∙ bytes_in (accepted_of c t);
    }
