-- A slip that is accepted with some records is accepted with more. Assumes nothing.
use mathlib.Core.Path.{◌≡◌, sym, subst, ◌∙◌}
use mathlib.Core.Bool.{true}
use mathlib.Core.List.{List}
use mathlib.Core.Option.{some-injective}
use Prim.Native.Nat.{ℕ}
use Rattle.base.specs.Le.{Bytes}
use Rattle.committee.specs.Committee.{Committee}
use Rattle.store_spec.specs.Layout.{Record, blocks}
use Rattle.store_spec.specs.Store.{records_of, store_in_order}
use Rattle.store_spec.proofs.Store.{in_order_lem}
use Rattle.store_spec.proofs.Accepted.{accepted_stored}
use Rattle.final_spec.specs.Finality.{blocks_of}
use Rattle.slip_spec.specs.Supplied.{supplied_bytes}
use Rattle.slip_spec.specs.Meaning.{RightSlip, AcceptedSlip}
use Rattle.slip_spec.proofs.Distances.{named_stored}
use Rattle.slip_spec.proofs.Accepted.{named_by_in}
use Rattle.slip_spec.proofs.Given.{slip_there}
use Rattle.slip_spec.proofs.Supplying.{all_supplied, all_right}
use Rattle.slip_spec.proofs.Reading.{answer_iff}
use Rattle.mission_theorems.specs.Feeds.{run}
use Rattle.trust_theorems.specs.Slips.{SlipsStay}
use Rattle.trust_theorems.proofs.Growing.{Grown, run_grows}
use Rattle.trust_theorems.proofs.Naming.{more_blocks}

module _ (c : Committee) (s t : Bytes) (h : store_in_order c s ≡ true) (g : Grown c s t) where
  accepted_more : (slip : Bytes) (n : ℕ) → AcceptedSlip c slip (supplied_bytes (records_of s)) n → AcceptedSlip c slip (supplied_bytes (records_of t)) n
  unfolding blocks_of
  accepted_more slip n a =
      let o = in_order_lem c t g.order in
      let w = accepted_stored c (records_of t) o.accepted in
      let same_records : records_of s ≡ a.records = some-injective _ _ (sym (all_supplied c s (in_order_lem c s h)) ∙ a.supplied) in
      record {
        sound = a.sound;
        slip = a.slip;
        records = records_of t;
        reads = a.reads;
        supplied = all_supplied c t o;
        right = all_right c t o;
        holding =
            slip_there (blocks_of s) (blocks_of t) (named_stored w) c a.slip
            (subst (λ (rs : List Record). RightSlip c (blocks rs) a.slip) (sym same_records) a.holding)
            (λ d y. more_blocks c s t a.sound h g d (named_by_in (blocks_of s) a.slip d y));
        many = a.many;
      }

pub slips_stay : SlipsStay
slips_stay =
    record {
      accepted = λ c g h fs slip n e.
          (answer_iff c slip (supplied_bytes (records_of (run c g fs).store)) n).1
          (accepted_more c g.store (run c g fs).store h (run_grows c g fs h) slip n ((answer_iff c slip (supplied_bytes (records_of g.store)) n).0 e));
    }
