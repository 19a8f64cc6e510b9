-- Finality, the pending question and both lists, in either reading, do not look at payloads. Assumes nothing.
use mathlib.Core.Path.{◌≡◌, refl, sym, ap, ap₂, ◌∙◌}
use mathlib.Core.Bool.{Bool, true, false, not, ◌&&◌, ◌||◌}
use mathlib.Core.List.{List, [], ◌∷◌, ◌++◌, map, flatten, map-map}
use mathlib.Core.Option.{Option, some}
use Prim.Native.Nat.{ℕ, zero, suc, ◌+◌}
use lib.ListN.{length, length-map}
use Rattle.base.specs.Lists.{pick, any_of, all_of, keep, count_from}
use Rattle.base.specs.Le.{Bytes}
use Rattle.base.specs.Checks.{Check, checked, passes}
use Rattle.committee.specs.Committee.{Committee, is_quorum}
use Rattle.committee_set.specs.AuthoritySet.{AuthoritySet, set_of, stake_of}
use Rattle.record_spec.specs.Reference.{BlockReference, TransactionLocator, TransactionLocatorRange, locator, same_reference, reference_before}
use Rattle.record_spec.specs.Block.{Block, author, spans}
use Rattle.store_spec.specs.Layout.{Record, Entry, reference_of, entries, placed, ascending}
use Rattle.store_spec.specs.Shares.{is_share_of, is_stored_share}
use Rattle.store_spec.specs.Store.{records_of}
use Rattle.feed_spec.specs.Pending.{standing_at, pending}
use Rattle.final_spec.specs.Finality.{blocks_of, finality_checks}
use Rattle.final_spec.specs.NextFinal.{is_after, just_after, candidates, least_locator, next_final_checks}
use Rattle.list_stretches_spec.specs.Stretches.{Listing, FinalStretch, edges_of, edges_by, certified_alike, goes_on, nearest, end_among, stretch_end}
use Rattle.list_stretches_spec.specs.Stretches.{stretch_at}
use Rattle.list_stretches_spec.specs.Stretches.{from_found, stretches, last_locator}
use Rattle.list_stretches_spec.specs.Bulk.{stretch_room, bytes_after, given_after, list_next, list_stretches}
use Rattle.final_readings_spec.specs.Rejecting.{rejections}
use Rattle.final_readings_spec.specs.Readings.{Reading, old, withdrawing, certifies_in, is_final_in}
use Rattle.final_readings_spec.specs.Finality.{certifying_positions_in, finality_in}
use Rattle.final_readings_spec.specs.NextFinal.{after_rejections, candidates_in, least_final_in, reject_edges}
use Rattle.list_ordinary_spec.specs.Shares.{shares_of}
use Rattle.list_readings_spec.specs.Lists.{is_listed, least_listed, list_edges, listing}
use Rattle.load_spec.specs.Needs.{emptied, without_payloads}
use Rattle.load_spec.proofs.Unseen.{same_spans, rejected_all, same_voters_lem, same_certifies, same_final}
use Rattle.engine_theorems.specs.Claims.{SameAnswers}
use Rattle.payload_theorems.specs.Apart.{Shape, shape, HeldApart}
use Rattle.payload_theorems.specs.Claims.{Seen, seen, QuestionsUnseen}
use Rattle.payload_theorems.proofs.Blocks.{at_same}
use Rattle.payload_theorems.proofs.Checks.{length_same, entries_same, shared_same}
use Rattle.payload_theorems.proofs.Feeds.{pending_same}

-- ---- what a list goes by

-- what is gathered of each block
gathered : {A : Type 0} (f : Block → List A) → ((b : Block) → f (without_payloads b) ≡ f b) → (bs : List Block)
    → flatten (map f (map without_payloads bs)) ≡ flatten (map f bs)
unfolding flatten
gathered f h [] = refl
gathered {A} f h (b ∷ bs) = ap₂ (λ (xs ys : List A). xs ++ ys) (h b) (gathered f h bs)

rejections_same : (b : Block) → rejections (without_payloads b) ≡ rejections b
unfolding rejections without_payloads
rejections_same b = rejected_all b.statements

shares_same : (b : Block) → shares_of (without_payloads b) ≡ shares_of b
unfolding shares_of without_payloads
shares_same b =
    ap₂ (λ (p : ℕ → Bool) (n : ℕ). map (locator b.reference) (keep p (count_from 0 n))) (λ j o. shared_same b o j) (length-map b.statements emptied)

stored_same : (bs : List Block) (l : TransactionLocator) → is_stored_share (map without_payloads bs) l ≡ is_stored_share bs l
unfolding is_stored_share any_of is_share_of without_payloads
stored_same [] l = refl
stored_same (b ∷ bs) l = ap₂ (λ (t u : Bool). (same_reference b.reference l.block && t) || u) (shared_same b l.offset) (stored_same bs l)

candidates_same : (bs : List Block) (after : Option TransactionLocator) → candidates (map without_payloads bs) after ≡ candidates bs after
unfolding candidates
candidates_same bs after =
    ap (λ (ls : List TransactionLocator). just_after after ++ ls)
    (gathered (λ b. map (λ r. locator r.block r.start) (spans b))
    (λ b. ap (λ (qs : List TransactionLocatorRange). map (λ r. locator r.block r.start) qs) (same_spans b)) bs)

edges_same : (bs : List Block) (r : BlockReference) → edges_by spans (map without_payloads bs) r ≡ edges_by spans bs r
unfolding edges_by
edges_same bs r =
    gathered (λ b. flatten (map (edges_of r) (spans b))) (λ b. ap (λ (qs : List TransactionLocatorRange). flatten (map (edges_of r) qs)) (same_spans b)) bs

rejected_edges : (bs : List Block) (r : BlockReference) → reject_edges (map without_payloads bs) r ≡ reject_edges bs r
unfolding reject_edges
rejected_edges bs r =
    gathered (λ b. flatten (map cut (rejections b))) (λ b. ap (λ (ls : List TransactionLocator). flatten (map cut ls)) (rejections_same b)) bs
  where
    cut : TransactionLocator → List ℕ
    cut l = pick (same_reference l.block r) (l.offset ∷ (l.offset + 1) ∷ []) []

module _ (reading : Reading) (c : Committee) (bs : List Block) where
  certified : (l : TransactionLocator) (b : Block) → certifies_in reading c (map without_payloads bs) l b ≡ certifies_in reading c bs l b
  unfolding certifies_in
  certified l b = ap (λ (v : AuthoritySet). not b.marked && is_quorum c (stake_of c v)) (same_voters_lem l reading bs b.reference)

  candidates_in_lem : (after : Option TransactionLocator) → candidates_in reading (map without_payloads bs) after ≡ candidates_in reading bs after
  unfolding candidates_in after_rejections
  candidates_in_lem after = by reading
    where
      by : (rd : Reading) → candidates_in rd (map without_payloads bs) after ≡ candidates_in rd bs after
      by old = candidates_same bs after
      by withdrawing =
          ap₂ (λ (ls ms : List TransactionLocator). ls ++ ms) (candidates_same bs after)
          (gathered after_rejections (λ b. ap (λ (ls : List TransactionLocator). map (λ l. locator l.block (l.offset + 1)) ls) (rejections_same b)) bs)

  edges_in : (r : BlockReference) → list_edges reading (map without_payloads bs) r ≡ list_edges reading bs r
  unfolding list_edges
  edges_in r = by reading
    where
      by : (rd : Reading) → list_edges rd (map without_payloads bs) r ≡ list_edges rd bs r
      by old = edges_same bs r
      by withdrawing = ap₂ (λ (xs ys : List ℕ). xs ++ ys) (edges_same bs r) (rejected_edges bs r)

  least_of : (after : Option TransactionLocator) {ls ms : List TransactionLocator} → ls ≡ ms
      → least_locator (keep (λ l. is_after after l && is_final_in reading c (map without_payloads bs) l) ls) ≡ least_locator
      (keep (λ l. is_after after l && is_final_in reading c bs l) ms)
  least_of after e =
      ap₂ (λ (p : TransactionLocator → Bool) (xs : List TransactionLocator). least_locator (keep (λ l. is_after after l && p l) xs))
      (λ j l. same_final l reading c bs j) e

  shown : (ordinary : Bool) (l : TransactionLocator) → is_listed ordinary reading c (map without_payloads bs) l ≡ is_listed ordinary reading c bs l
  unfolding is_listed
  shown true l = ap₂ (λ (t u : Bool). t && u) (stored_same bs l) (same_final l reading c bs)
  shown false l = same_final l reading c bs

  next_of : (ordinary : Bool) (after : Option TransactionLocator)
      → least_listed ordinary reading c (map without_payloads bs) after ≡ least_listed ordinary reading c bs after
  unfolding least_listed least_final_in
  next_of true after = least_of after (gathered shares_of shares_same bs)
  next_of false after = least_of after (candidates_in_lem after)

  listing_same : (ordinary : Bool) → listing ordinary reading c (map without_payloads bs) ≡ listing ordinary reading c bs
  unfolding listing
  listing_same ordinary j =
      record { shows = λ l. shown ordinary l j; certifies = λ l b. certified l b j; next = λ a. next_of ordinary a j; edges = λ r. edges_in r j }

-- ---- stretches of a list whose certificates do not look at payloads

module _ (c : Committee) (k : Listing) (blind : (l : TransactionLocator) (b : Block) → k.certifies l (without_payloads b) ≡ k.certifies l b)
    (bs : List Block) where
  kept : (l : TransactionLocator) (ds : List Block) → keep (k.certifies l) (map without_payloads ds) ≡ map without_payloads (keep (k.certifies l) ds)
  unfolding keep
  kept l [] = refl
  kept l (d ∷ ds) = rw (blind l d) (go (k.certifies l d) (kept l ds))
    where
      go : (t : Bool) → keep (k.certifies l) (map without_payloads ds) ≡ map without_payloads (keep (k.certifies l) ds)
          → pick t (without_payloads d ∷ keep (k.certifies l) (map without_payloads ds)) (keep (k.certifies l) (map without_payloads ds))
          ≡ map without_payloads (pick t (d ∷ keep (k.certifies l) ds) (keep (k.certifies l) ds))
      go true h = ap {B = List Block} (λ xs. without_payloads d ∷ xs) h
      go false h = h

  authors : (ds : List Block) → map author (map without_payloads ds) ≡ map author ds
  unfolding without_payloads
  authors ds = map-map author without_payloads ds

  alike : (l m : TransactionLocator) (ds : List Block) → certified_alike (map without_payloads ds) k l m ≡ certified_alike ds k l m
  unfolding certified_alike all_of
  alike l m [] = refl
  alike l m (d ∷ ds) = rw (blind l d, blind m d, alike l m ds)

  stretch_same : (l : TransactionLocator) → stretch_at c (map without_payloads bs) k l ≡ stretch_at c bs k l
  unfolding stretch_at stretch_end end_among goes_on
  stretch_same l j =
      record {
        block = l.block;
        first = l.offset;
        end = nearest l.offset 0 (keep (λ o. not (k.shows (locator l.block o) && alike l (locator l.block o) bs j)) (k.edges l.block));
        blocks = (ap (λ (ds : List Block). length ds) (kept l bs) ∙ length-map (keep (k.certifies l) bs) without_payloads) j;
        stake = stake_of c (set_of ((ap (map author) (kept l bs) ∙ authors (keep (k.certifies l) bs)) j));
      }

  stretches_same : (n : ℕ) (after : Option TransactionLocator) → stretches c (map without_payloads bs) k n after ≡ stretches c bs k n after
  unfolding stretches
  stretches_same zero after = refl
  stretches_same (suc n) after = ap (from_found (k.next after)) (λ j l. each (λ a. stretches_same n a) l j)
    where
      each : ((a : Option TransactionLocator) → stretches c (map without_payloads bs) k n a ≡ stretches c bs k n a) → (l : TransactionLocator)
          → stretch_at c (map without_payloads bs) k l
          ∷ stretches c (map without_payloads bs) k n (some (last_locator (stretch_at c (map without_payloads bs) k l)))
          ≡ stretch_at c bs k l ∷ stretches c bs k n (some (last_locator (stretch_at c bs k l)))
      each more l =
          ap₂ {C = List FinalStretch} (λ (x : FinalStretch) (f : Option TransactionLocator → List FinalStretch). x ∷ f (some (last_locator x)))
          (stretch_same l) (λ j a. more a j)

-- ---- certifying positions

placed_seen : Seen → List Seen → List Seen
placed_seen x [] = x ∷ []
placed_seen x (y ∷ ys) = pick (reference_before x.block.reference y.block.reference) (x ∷ y ∷ ys) (y ∷ placed_seen x ys)

ascending_seen : List Seen → List Seen
ascending_seen [] = []
ascending_seen (x ∷ xs) = placed_seen x (ascending_seen xs)

placed_seen_lem : (e : Entry) (es : List Entry) → map seen (placed e es) ≡ placed_seen (seen e) (map seen es)
unfolding placed placed_seen seen without_payloads
placed_seen_lem e [] = refl
placed_seen_lem e (d ∷ ds) = go (reference_before (reference_of e) (reference_of d)) (placed_seen_lem e ds)
  where
    go : (t : Bool) → map seen (placed e ds) ≡ placed_seen (seen e) (map seen ds)
        → map seen (pick t (e ∷ d ∷ ds) (d ∷ placed e ds)) ≡ pick t (seen e ∷ seen d ∷ map seen ds) (seen d ∷ placed_seen (seen e) (map seen ds))
    go true h = refl
    go false h = ap {B = List Seen} (λ xs. seen d ∷ xs) h

ascending_seen_lem : (es : List Entry) → map seen (ascending es) ≡ ascending_seen (map seen es)
unfolding ascending ascending_seen
ascending_seen_lem [] = refl
ascending_seen_lem (e ∷ es) = placed_seen_lem e (ascending es) ∙ ap (placed_seen (seen e)) (ascending_seen_lem es)

module _ (reading : Reading) (c : Committee) (l : TransactionLocator) where
  positions_seen : List Block → List Seen → List ℕ
  positions_seen bs xs = map (λ x. x.position) (keep (λ x. certifies_in reading c bs l x.block) xs)

  positions_seen_lem : (bs : List Block) (es : List Entry)
      → map (λ e. e.position) (keep (λ e. certifies_in reading c bs l e.block) es) ≡ positions_seen (map without_payloads bs) (map seen es)
  unfolding positions_seen keep seen
  positions_seen_lem bs [] = refl
  positions_seen_lem bs (e ∷ es) = rw (same_certifies l reading c bs e.block) (go (certifies_in reading c bs l e.block) (positions_seen_lem bs es))
    where
      go : (t : Bool) → map (λ d. d.position) (keep (λ d. certifies_in reading c bs l d.block) es) ≡ positions_seen (map without_payloads bs) (map seen es)
          → map (λ d. d.position) (pick t (e ∷ keep (λ d. certifies_in reading c bs l d.block) es) (keep (λ d. certifies_in reading c bs l d.block) es))
          ≡ map (λ x. x.position)
          (pick t (seen e ∷ keep (λ x. certifies_in reading c (map without_payloads bs) l x.block) (map seen es))
          (keep (λ x. certifies_in reading c (map without_payloads bs) l x.block) (map seen es)))
      go true h = ap {B = List ℕ} (λ ps. e.position ∷ ps) h
      go false h = h

-- ---- over stores

module _ (c : Committee) (s r : Bytes) (a : HeldApart c s r) where
  held : (rs : List Record) → map without_payloads (map (λ x. x.block) rs) ≡ map (λ x. x.block) (map shape rs)
  unfolding shape
  held [] = refl
  held (x ∷ xs) = ap {B = List Block} (λ bs. without_payloads x.block ∷ bs) (held xs)

  blocks_same : map without_payloads (blocks_of s) ≡ map without_payloads (blocks_of r)
  unfolding blocks_of
  blocks_same = held (records_of s) ∙ ap (map (λ (x : Shape). x.block)) a.records ∙ sym (held (records_of r))

  stands_same : map seen (entries (records_of s)) ≡ map seen (entries (records_of r))
  stands_same = entries_same (records_of s) (records_of r) a.records

  checks_same : next_final_checks c s ≡ next_final_checks c r
  unfolding next_final_checks
  checks_same = rw a.order

  module _ (reading : Reading) where
    final_same : (l : TransactionLocator) → is_final_in reading c (blocks_of s) l ≡ is_final_in reading c (blocks_of r) l
    final_same l =
        sym (same_final l reading c (blocks_of s)) ∙ ap (λ (bs : List Block). is_final_in reading c bs l) blocks_same ∙ same_final l reading c (blocks_of r)

    positions_same : (l : TransactionLocator) → certifying_positions_in reading c s l ≡ certifying_positions_in reading c r l
    unfolding certifying_positions_in
    positions_same l =
        positions_seen_lem reading c l (blocks_of s) (ascending (entries (records_of s)))
        ∙ ap₂ (positions_seen reading c l) blocks_same
        (ascending_seen_lem (entries (records_of s)) ∙ ap ascending_seen stands_same ∙ sym (ascending_seen_lem (entries (records_of r))))
        ∙ sym (positions_seen_lem reading c l (blocks_of r) (ascending (entries (records_of r))))

    finality_same : (ps : List ℕ) (l : TransactionLocator) → finality_in reading c s ps l ≡ finality_in reading c r ps l
    unfolding finality_in finality_checks
    finality_same ps l = rw (a.order, length_same (records_of s) (records_of r) a.records, final_same l, positions_same l)

    module _ (ordinary : Bool) where
      abbrev list : List Block → Listing
      list bs = listing ordinary reading c bs

      list_same : list (blocks_of s) ≡ list (blocks_of r)
      list_same = sym (listing_same reading c (blocks_of s) ordinary) ∙ ap list blocks_same ∙ listing_same reading c (blocks_of r) ordinary

      blind : (bs : List Block) (l : TransactionLocator) (b : Block) → (list bs).certifies l (without_payloads b) ≡ (list bs).certifies l b
      unfolding listing certifies_in without_payloads
      blind bs l b = refl

      given_same : (n : ℕ) (after : Option TransactionLocator)
          → stretches c (blocks_of s) (list (blocks_of s)) n after ≡ stretches c (blocks_of r) (list (blocks_of r)) n after
      given_same n after =
          sym (stretches_same c (list (blocks_of s)) (blind (blocks_of s)) (blocks_of s) n after)
          ∙ ap₂ (λ (bs : List Block) (k : Listing). stretches c bs k n after) blocks_same list_same
          ∙ stretches_same c (list (blocks_of r)) (blind (blocks_of r)) (blocks_of r) n after

      lists_same : SameAnswers ordinary reading c s r
      unfolding list_next list_stretches
      lists_same =
          record {
            next = λ after. ap₂ (λ (ks : List Check) (k : Listing). checked ks (k.next after)) checks_same list_same;
            bulk = λ out after j.
                record {
                  answer = checked (checks_same j) (given_after (list_same j) after (given_same (stretch_room out) after j));
                  out = pick (passes (checks_same j)) (bytes_after (given_same (stretch_room out) after j) out) out;
                };
          }

  standing_same : (t : List ℕ) (l : TransactionLocator) → pending c s t l ≡ pending c r t l
  unfolding pending standing_at
  standing_same t l = rw (pending_same c s r t a, at_same c (entries (records_of s)) (entries (records_of r)) stands_same l.block)

pub questions_unseen : QuestionsUnseen
unfolding QuestionsUnseen
questions_unseen c s r a =
    record { finality = finality_same c s r a; lists = λ ordinary reading. lists_same c s r a reading ordinary; pending = standing_same c s r a }
