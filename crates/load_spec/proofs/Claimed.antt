-- The claims, each from its law. Assumes nothing.
use Rattle.final_spec.proofs.Claimed.{well_stored, small_authors}
use Rattle.load_spec.specs.Claims.{NeedsWhatIsWritten, LoadableMeant, OldLoading, ListsLoadable, AnyOrder, LoadableInBoth, SameWithoutRejects}
use Rattle.load_spec.specs.Claims.{WalkedShares, WalkedFinals, PayloadsUnseen, StaysLoadable, PlacesName, PlacesFit, PlacesRead, PayloadGiven, Claims}
use Rattle.load_spec.proofs.Payloads.{payload_shared, shared_payload_lem, payload_stored, payload_given_lem}
use Rattle.load_spec.proofs.Meaning.{old_loading, loadable_in_both, loadable_stays, loadable_is, is_loadable}
use Rattle.load_spec.proofs.Lists.{list_meant, same_loadable}
use Rattle.load_spec.proofs.Walking.{walked_shares_lem, walked_finals_lem}
use Rattle.load_spec.proofs.Rejectless.{same_loading}
use Rattle.load_spec.proofs.Unseen.{unseen}
use Rattle.load_spec.proofs.Places.{place_names, places_fit_lem, places_read_lem}
use Rattle.load_spec.proofs.Needed.{needs_written}

needs_meant : NeedsWhatIsWritten
unfolding NeedsWhatIsWritten
needs_meant = needs_written

loadable_meant : LoadableMeant
unfolding LoadableMeant
loadable_meant reading c bs h l = (loadable_is reading c (well_stored c bs h) l, is_loadable reading c (well_stored c bs h) l)

old_meant : OldLoading
unfolding OldLoading
old_meant = old_loading

lists_loadable : ListsLoadable
unfolding ListsLoadable
lists_loadable reading c bs h = list_meant reading c (well_stored c bs h)

any_order_lem : AnyOrder
unfolding AnyOrder
any_order_lem reading c bs cs h k e = same_loadable reading c (well_stored c bs h) (well_stored c cs k) (small_authors c bs h) (small_authors c cs k) e

in_both : LoadableInBoth
unfolding LoadableInBoth
in_both c bs h l = loadable_in_both c (well_stored c bs h) l

no_rejects_lem : SameWithoutRejects
unfolding SameWithoutRejects
no_rejects_lem = same_loading

shares_walked : WalkedShares
unfolding WalkedShares
shares_walked reading c bs h = walked_shares_lem reading c (well_stored c bs h)

finals_walked : WalkedFinals
unfolding WalkedFinals
finals_walked reading c bs h = walked_finals_lem reading c (well_stored c bs h)

payloads_unseen : PayloadsUnseen
unfolding PayloadsUnseen
payloads_unseen = unseen

stays_loadable : StaysLoadable
unfolding StaysLoadable
stays_loadable reading c bs cs h k f l x = loadable_stays reading c (well_stored c bs h) (well_stored c cs k) (small_authors c bs h) (small_authors c cs k) f x

places_name_lem : PlacesName
unfolding PlacesName
places_name_lem = place_names

fit_meant : PlacesFit
unfolding PlacesFit
fit_meant = places_fit_lem

read_meant : PlacesRead
unfolding PlacesRead
read_meant = places_read_lem

given_meant : PayloadGiven
unfolding PayloadGiven
given_meant = payload_given_lem

pub claimed : Claims
claimed =
    record {
      needs = needs_meant;
      payload = λ c bs h l. record {
        exactly = λ p. (payload_shared bs l p, shared_payload_lem (well_stored c bs h));
        stored = payload_stored (well_stored c bs h)
            l;
      };
      loadable = loadable_meant;
      old = old_meant;
      list = lists_loadable;
      any_order = any_order_lem;
      both = in_both;
      no_rejects = no_rejects_lem;
      walked_shares = shares_walked;
      walked_finals = finals_walked;
      unseen = payloads_unseen;
      stays = stays_loadable;
      places_name = places_name_lem;
      places_fit = fit_meant;
      places_read = read_meant;
      payload_given = given_meant;
    }
