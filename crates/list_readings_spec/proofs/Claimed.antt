-- The claims about the lists in both readings. Assumes nothing.
use mathlib.Core.Path.{◌≡◌, refl, sym, ap, ap₂, ◌∙◌}
use mathlib.Core.Bool.{Bool, true, false, ◌&&◌}
use mathlib.Core.List.{List, [], ◌∷◌, map, flatten, append-nil}
use mathlib.Core.Option.{Option}
use Prim.Native.Nat.{ℕ, ◌+◌}
use Rattle.base.specs.Lists.{pick, ◌∈◌, here, there}
use Rattle.committee.specs.Committee.{Committee}
use Rattle.record_spec.specs.Reference.{BlockReference, TransactionLocator, same_reference}
use Rattle.record_spec.specs.Block.{Block, spans}
use Rattle.store_spec.specs.Shares.{is_stored_share}
use Rattle.store_spec.proofs.Stored.{WellStored}
use Rattle.final_spec.specs.Finality.{blocks_of}
use Rattle.final_spec.proofs.Claimed.{well_stored, small_authors}
use Rattle.final_spec.proofs.FinalList.{ascending_unique}
use Rattle.final_spec.proofs.LeastOf.{least_once}
use Rattle.list_stretches_spec.specs.Stretches.{Listing, edges_by, stretches}
use Rattle.list_stretches_spec.specs.Bulk.{list_next, list_stretches}
use Rattle.final_readings_spec.specs.Rejecting.{rejections}
use Rattle.final_readings_spec.specs.Readings.{Reading, old, withdrawing, is_final_in}
use Rattle.final_readings_spec.specs.Withdrawing.{NoRejects}
use Rattle.final_readings_spec.specs.NextFinal.{reject_edges}
use Rattle.final_readings_spec.proofs.Rejecting.{in_rejections}
use Rattle.final_readings_spec.proofs.FinalsIn.{certifies_in_same, final_in_same, certifies_in_kept, final_in_order}
use Rattle.list_ordinary_spec.proofs.Lists.{same_stored}
use Rattle.list_readings_spec.specs.Lists.{is_listed, least_listed, list_edges, listing, all_listed}
use Rattle.list_readings_spec.specs.Claims.{ListsLawful, ListsGive, ListsAsked, ListsExactly, SameWithoutRejects, InAnyOrder, Claims}
use Rattle.list_readings_spec.proofs.Old.{old_wide, old_ordinary}
use Rattle.list_readings_spec.proofs.Least.{least_listed_lem, lists_lawful}
use Rattle.list_readings_spec.proofs.Whole.{all_ascending, all_in, asked_whole, gives_whole, whole_exactly}
use Rattle.list_readings_spec.proofs.Orders.{stretches_same}

-- where two lists show the same locators, they are the same as a whole
all_same : (shared : Bool) (r q : Reading) (c : Committee) (bs cs : List Block) →
    ((l : TransactionLocator) → is_listed shared r c bs l ≡ is_listed shared q c cs l) → all_listed shared r c bs ≡ all_listed shared q c cs
all_same shared r q c bs cs e =
    ascending_unique (all_ascending shared r c bs) (all_ascending shared q c cs)
    (λ l m. (all_in shared q c cs l).1 (sym (e l) ∙ (all_in shared r c bs l).0 m))
    (λ l m. (all_in shared r c bs l).1 (e l ∙ (all_in shared q c cs l).0 m))

least_same : (shared : Bool) (r q : Reading) (c : Committee) (bs cs : List Block) →
    ((l : TransactionLocator) → is_listed shared r c bs l ≡ is_listed shared q c cs l)
    → (after : Option TransactionLocator) → least_listed shared r c bs after ≡ least_listed shared q c cs after
least_same shared r q c bs cs e after = least_once (is_listed shared r c bs) (is_listed shared q c cs) e after (least_listed_lem shared r c bs after)
    (least_listed_lem shared q c cs after)

-- the test follows from being a stored share and being final
listed_by : (shared : Bool) (r q : Reading) (c : Committee) (bs cs : List Block) (l : TransactionLocator) → is_stored_share bs l ≡ is_stored_share cs l →
    is_final_in r c bs l ≡ is_final_in q c cs l
    → is_listed shared r c bs l ≡ is_listed shared q c cs l
unfolding is_listed
listed_by true r q c bs cs l s f = ap₂ {C = Bool} (λ t u. t && u) s f
listed_by false r q c bs cs l s f = f

-- ---- no rejects

module _ (bs : List Block) (f : NoRejects bs) where
  none_rejected : (b : Block) → b ∈ bs → rejections b ≡ []
  none_rejected b m = go (rejections b) (λ l k. f b m l (in_rejections b l k))
    where
      go : (ls : List TransactionLocator) → ((l : TransactionLocator) → l ∈ ls → ⊥) → ls ≡ []
      go [] g = refl
      go (l ∷ ls) g = absurd (g l here)

  no_edges : (r : BlockReference) → reject_edges bs r ≡ []
  unfolding reject_edges flatten
  no_edges r = go bs (λ b m. none_rejected b m)
    where
      go : (ds : List Block) → ((b : Block) → b ∈ ds → rejections b ≡ []) → flatten
          (map (λ b. flatten (map (λ l. pick (same_reference l.block r) (l.offset ∷ (l.offset + 1) ∷ []) []) (rejections b))) ds) ≡ []
      go [] g = refl
      go (d ∷ ds) g = rw (g d here) (go ds (λ b m. g b (there m)))

  module _ (shared : Bool) (c : Committee) where
    listed_same : (l : TransactionLocator) → is_listed shared withdrawing c bs l ≡ is_listed shared old c bs l
    listed_same l = listed_by shared withdrawing old c bs bs l refl (final_in_same withdrawing c bs f l)

    edges_same : (r : BlockReference) → list_edges withdrawing bs r ≡ list_edges old bs r
    unfolding list_edges
    edges_same r = rw (no_edges r) (append-nil (edges_by spans bs r))

    listing_same : listing shared withdrawing c bs ≡ listing shared old c bs
    unfolding listing
    listing_same = λ i.
        record {
          shows = λ l. listed_same l i;
          certifies = λ l b. certifies_in_same withdrawing c bs f l b i;
          next = λ after. least_same shared withdrawing old c bs bs listed_same after i;
          edges = λ r. edges_same r i;
        }

same_without_rejects : SameWithoutRejects
unfolding SameWithoutRejects
same_without_rejects shared c s f =
    record {
      listing = listing_same (blocks_of s) f shared c;
      all = all_same shared withdrawing old c (blocks_of s) (blocks_of s) (listed_same (blocks_of s) f shared c);
      next = λ after. ap (λ (k : Listing). list_next c s k after) (listing_same (blocks_of s) f shared c);
      bulk = λ out after. ap (λ (k : Listing). list_stretches c s k out after) (listing_same (blocks_of s) f shared c);
    }

-- ---- in any order

in_any_order : InAnyOrder
unfolding InAnyOrder listing
in_any_order shared reading c bs cs h k blocks =
    let v = well_stored c bs h in
    let w = well_stored c cs k in
    let same : (l : TransactionLocator) → is_listed shared reading c bs l ≡ is_listed shared reading c cs l =
    λ l. listed_by shared reading reading c bs cs l (same_stored blocks l)
    (final_in_order reading c v w (small_authors c bs h) (small_authors c cs k) blocks l) in
    record {
      all = all_same shared reading reading c bs cs same;
      next = least_same shared reading reading c bs cs same;
      bulk = bulk v w same;
    }
  where
    bulk : WellStored bs → WellStored cs → ((l : TransactionLocator) → is_listed shared reading c bs l ≡ is_listed shared reading c cs l)
        → (n : ℕ) (after : Option TransactionLocator) → stretches c bs (listing shared reading c bs) n after ≡ stretches c cs (listing shared reading c cs) n
        after
    bulk v w same n after =
        stretches_same c v w blocks (listing shared reading c bs) (listing shared reading c cs) (lists_lawful shared reading c bs)
        (lists_lawful shared reading c cs) same
        (λ l b m. certifies_in_kept reading c v w (small_authors c bs h) (small_authors c cs k) (λ x. (blocks x).0) l b m) n after

pub claimed : Claims
unfolding ListsLawful ListsGive ListsAsked ListsExactly
claimed =
    record {
      old = record { wide = old_wide; ordinary = old_ordinary };
      lawful = lists_lawful;
      gives = λ shared reading c s b h after ls. gives_whole shared reading c s b h;
      asked = asked_whole;
      exactly = λ shared reading c bs h. whole_exactly shared reading c (well_stored c bs h);
      no_rejects = same_without_rejects;
      order = in_any_order;
    }
