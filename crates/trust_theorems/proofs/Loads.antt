-- What is loadable stays loadable. Assumes nothing.
use Rattle.final_spec.proofs.Asked.{in_order_stored}
use Rattle.load_spec.proofs.Meaning.{loadable_stays, loadable_is, is_loadable}
use Rattle.mission_theorems.specs.Feeds.{run}
use Rattle.trust_theorems.specs.Loads.{LoadablesStay}
use Rattle.trust_theorems.proofs.Growing.{run_grows}
use Rattle.trust_theorems.proofs.Naming.{small, more_blocks}

pub loadables_stay : LoadablesStay
loadables_stay =
    record {
      loadable = λ reading c b g h fs l x.
          let s = g.store in
          let t = (run c g fs).store in
          let k = run_grows c g fs h in
          let v = in_order_stored c s h in
          let w = in_order_stored c t k.order in
          is_loadable reading c w l
          (loadable_stays reading c v w (small c s t b h k s h) (small c s t b h k t k.order) (more_blocks c s t b h k) (loadable_is reading c v l x));
    }
