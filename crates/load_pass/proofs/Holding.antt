-- The places while the final stored shares are gone through. Assumes nothing.
use mathlib.Core.Path.{◌≡◌, refl, sym, ap, ap₂, subst, ◌∙◌}
use mathlib.Core.Bool.{Bool, true, false}
use mathlib.Core.List.{List, [], ◌∷◌, ◌++◌, map, map-append, append_assoc, flatten, append-nil}
use mathlib.Core.Option.{some}
use Prim.Native.Nat.{ℕ, ◌+◌, ◌-◌, ◌*◌, ◌≤◌}
use native.Mathlib.Omega.{arith}
use lib.ListN.{length, take, drop, length-append, take-append-drop}
use lib.Seq.{sets, sets-eq, length-sets, length-take-le, take_at, drop_at, drop-drop}
use Rattle.base.specs.Lists.{pick, any_of, keep, holds, ◌∈◌, here}
use Rattle.base.specs.Le.{Bytes}
use Rattle.base.proofs.Lists.{keep_append, length_keep, flatten_append}
use Rattle.base.proofs.Tests.{and_both, and_left, and_right}
use Rattle.base.proofs.Members.{in_left, in_right, in_keep, keep_in}
use Rattle.committee.specs.Committee.{Committee}
use Rattle.record_spec.specs.Reference.{TransactionLocator, same_locator}
use Rattle.record_spec.specs.Block.{Block}
use Rattle.store_spec.specs.Layout.{entries, position_of, lookup}
use Rattle.store_spec.specs.Store.{records_of, store_in_order}
use Rattle.final_spec.specs.Finality.{blocks_of}
use Rattle.final_spec.proofs.Asked.{in_order_stored}
use Rattle.final_spec.proofs.FinalList.{Ascending, none_left, and_then, ascending_unique, keep_ascending}
use Rattle.final_readings_spec.specs.Readings.{Reading, is_final_in}
use Rattle.list_ordinary_spec.specs.Shares.{stored_shares}
use Rattle.list_ordinary_spec.proofs.Shares.{all_ascending as shares_ascending, in_all_shares, all_in as shares_in}
use Rattle.store_spec.specs.Shares.{is_stored_share}
use Rattle.store_spec.proofs.Shares.{stored_share, share_stored}
use Rattle.list_readings_spec.specs.Lists.{is_listed, all_listed}
use Rattle.list_readings_spec.proofs.Whole.{all_ascending, all_in}
use Rattle.load_spec.specs.Needs.{needed_by, payload_in}
use Rattle.load_spec.specs.Loadable.{met, loadable_by, is_loadable_in, loadable_list_in, loadable_after}
use Rattle.load_spec.specs.Question.{place_words, named_by}
use Rattle.load_spec.proofs.Places.{read_back}
use Rattle.load_spec.proofs.Walking.{walked_finals_lem}
use Rattle.load_places.specs.Listed.{Listed, met_by}
use Rattle.load_places.proofs.Listing.{listed_from}
use Rattle.load_pass.specs.Holding.{Holding, Past}

ascending_left : (xs ys : List TransactionLocator) → Ascending (xs ++ ys) → Ascending xs
ascending_left [] ys a = none_left
ascending_left (x ∷ xs) ys (and_then h a) = and_then (λ m k. h m (in_left ys k)) (ascending_left xs ys a)

-- ---- words past the places

pub past_none : (ps : List ℕ) (n : ℕ) → Past ps ps n
past_none ps n = record { long = refl; same = refl }

-- fewer of them are as they were before too
pub past_on : (ps qs rs : List ℕ) (n m : ℕ) → n ≤ m → Past ps qs n → Past qs rs m → Past ps rs m
past_on ps qs rs n m h p q =
    let far : 2 * m ≡ 2 * n + (2 * m - 2 * n) = omega arith in
    record {
      long = q.long ∙ p.long;
      same =
          q.same
          ∙ ap (λ (k : ℕ). drop k qs) far
          ∙ sym (drop-drop (2 * m - 2 * n) (2 * n) qs)
          ∙ ap (λ (l : List ℕ). drop (2 * m - 2 * n) l) p.same
          ∙ drop-drop (2 * m - 2 * n) (2 * n) ps
          ∙ ap (λ (k : ℕ). drop k ps) (sym far);
    }

-- ---- a place more

module _ (ps : List ℕ) (n at o : ℕ) (fits : 2 * n + 2 ≤ length ps) where
  abbrev after : List ℕ
  after = sets ps (2 * n) (at ∷ o ∷ [])

  one_more : 2 * (n + 1) ≡ 2 * n + 2
  one_more = omega arith

  after_is : after ≡ (take (2 * n) ps ++ at ∷ o ∷ []) ++ drop (2 * n + 2) ps
  after_is = sets-eq (at ∷ o ∷ []) ps (2 * n) fits

  long_enough : length (take (2 * n) ps ++ at ∷ o ∷ []) ≡ 2 * (n + 1)
  long_enough = omega (arith, length-append (take (2 * n) ps) (at ∷ o ∷ []), length-take-le (2 * n) ps (omega arith))

  after_words : take (2 * (n + 1)) after ≡ take (2 * n) ps ++ at ∷ o ∷ []
  after_words = ap (λ (l : List ℕ). take (2 * (n + 1)) l) after_is ∙ take_at (take (2 * n) ps ++ at ∷ o ∷ []) (drop (2 * n + 2) ps) (2 * (n + 1)) long_enough

  pub after_past : Past ps after (n + 1)
  after_past =
      record {
        long = length-sets ps (2 * n) (at ∷ o ∷ []);
        same =
            ap (λ (l : List ℕ). drop (2 * (n + 1)) l) after_is
            ∙ drop_at (take (2 * n) ps ++ at ∷ o ∷ []) (drop (2 * n + 2) ps) (2 * (n + 1)) long_enough
            ∙ ap (λ (k : ℕ). drop k ps) (sym one_more);
      }

-- ---- what the places hold

-- before any share
pub holding_start : (reading : Reading) (c : Committee) (s : Bytes) (ps : List ℕ) → 2 * length (all_listed true reading c (blocks_of s)) ≤ length ps → Holding
    reading c s [] ps 0
unfolding keep flatten
holding_start reading c s ps h = record { rest = all_listed true reading c (blocks_of s); splits = refl; many = refl; words = refl; room = h }

-- after the last one
pub holding_all : (reading : Reading) (c : Committee) (s : Bytes) → store_in_order c s ≡ true → (ps qs : List ℕ) (n : ℕ) → Holding reading c s
    (all_listed true reading c (blocks_of s)) qs n → Past ps qs n
    → (n ≡ length (loadable_list_in reading c (blocks_of s)))
    × (qs ≡ flatten (map (place_words (entries (records_of s))) (loadable_list_in reading c (blocks_of s))) ++ drop
    (2 * length (loadable_list_in reading c (blocks_of s))) ps)
holding_all reading c s o ps qs n g p =
    let found : List TransactionLocator = loadable_list_in reading c (blocks_of s) in
    let all : keep (is_loadable_in reading c (blocks_of s)) (all_listed true reading c (blocks_of s))
    ≡ found = (walked_finals_lem reading c (in_order_stored c s o)
    ).kept in
    let many : n ≡ length found = g.many ∙ ap length all in (
      many,
      sym (take-append-drop (2 * n) qs)
          ∙ ap₂ (λ (ws rest : List ℕ). ws ++ rest) (g.words ∙ ap (λ (ls : List TransactionLocator). flatten (map (place_words (entries (records_of s))) ls))
          all) p.same
          ∙ ap (λ (m : ℕ). flatten (map (place_words (entries (records_of s))) found) ++ drop (2 * m) ps) many,
    )

-- the final shares are the final ones among the stored shares, so there are no more of them
finals_kept : (reading : Reading) (c : Committee) (bs : List Block) → all_listed true reading c bs ≡ keep (is_final_in reading c bs) (stored_shares bs)
unfolding is_listed
finals_kept reading c bs =
    ascending_unique (all_ascending true reading c bs) (keep_ascending (is_final_in reading c bs) (shares_ascending bs))
    (λ l m. let k = (all_in true reading c bs l).0 m in in_keep (is_final_in reading c bs) (stored_shares bs)
    (in_all_shares bs l (stored_share bs l (and_left _ _ k))) (and_right (is_stored_share bs l) _ k))
    (λ l m. let k = keep_in (is_final_in reading c bs) (stored_shares bs) m in (all_in true reading c bs l).1
    (and_both _ _ (share_stored bs l (shares_in bs l k.0)) k.1))

pub few_finals : (reading : Reading) (c : Committee) (bs : List Block) → length (all_listed true reading c bs) ≤ length (stored_shares bs)
few_finals reading c bs = omega (arith, ap length (finals_kept reading c bs), length_keep (is_final_in reading c bs) (stored_shares bs))

module _ (reading : Reading) (c : Committee) (s : Bytes) (order : store_in_order c s ≡ true) (xs : List TransactionLocator) (ps : List ℕ) (n : ℕ)
    (g : Holding reading c s xs ps n) where
  abbrev found : List TransactionLocator
  found = keep (is_loadable_in reading c (blocks_of s)) xs

  pub final_stored : (l : TransactionLocator) → l ∈ all_listed true reading c (blocks_of s) → l ∈ stored_shares (blocks_of s)
  final_stored l m = (keep_in (is_final_in reading c (blocks_of s)) (stored_shares (blocks_of s))
      (subst (λ (ls : List TransactionLocator). l ∈ ls) (finals_kept reading c (blocks_of s)) m)).0

  found_stored : (l : TransactionLocator) → l ∈ found → l ∈ stored_shares (blocks_of s)
  found_stored l m = final_stored l (subst (λ (ls : List TransactionLocator). l ∈ ls) (sym g.splits)
      (in_left g.rest (keep_in (is_loadable_in reading c (blocks_of s)) xs m).0))

  found_ascends : Ascending found
  found_ascends = keep_ascending (is_loadable_in reading c (blocks_of s))
      (ascending_left xs g.rest (subst Ascending g.splits (all_ascending true reading c (blocks_of s))))

  pub whole : ps ≡ flatten (map (place_words (entries (records_of s))) found) ++ drop (2 * n) ps
  whole = sym (take-append-drop (2 * n) ps) ∙ ap (λ (ws : List ℕ). ws ++ drop (2 * n) ps) g.words

  pub holding_listed : Listed s ps n
  holding_listed =
      subst (λ (k : ℕ). Listed s ps k) (sym g.many)
      (subst (λ (qs : List ℕ). Listed s qs (length found)) (sym whole) (listed_from c s order found found_ascends found_stored (drop (2 * n) ps)))

  named : named_by s n ps ≡ found
  named = ap₂ (λ (k : ℕ) (qs : List ℕ). named_by s k qs) g.many whole ∙ read_back c s order found found_stored (drop (2 * n) ps)

  -- ---- the next share

  module _ (l : TransactionLocator) (ys : List TransactionLocator) (e : all_listed true reading c (blocks_of s) ≡ xs ++ l ∷ ys) where
    pub holding_room : 2 * n + 2 ≤ length ps
    holding_room =
        omega (arith, g.room, g.many, length_keep (is_loadable_in reading c (blocks_of s)) xs, ap length e, length-append xs (l ∷ ys))

    final_here : is_final_in reading c (blocks_of s) l ≡ true
    unfolding is_listed
    final_here = and_right (is_stored_share (blocks_of s) l) _ ((all_in true reading c (blocks_of s) l).0
        (subst (λ (ls : List TransactionLocator). l ∈ ls) (sym e) (in_right xs here)))

    -- it is loadable exactly if what it needs is at one of the places
    pub by_places : (p : Bytes) → payload_in (blocks_of s) l ≡ some p → is_loadable_in reading c (blocks_of s) l ≡ met_by s n ps l p
    unfolding loadable_after loadable_by holds met_by
    by_places p q =
        (walked_finals_lem reading c (in_order_stored c s order)).step xs l ys e
        ∙ rw (final_here, q) (ap (λ (ls : List TransactionLocator). met (λ m. any_of (same_locator m) ls) l (needed_by p)) (sym named))

    later : all_listed true reading c (blocks_of s) ≡ (xs ++ l ∷ []) ++ ys
    later = e ∙ sym (append_assoc xs (l ∷ []) ys)

    kept : (t : Bool) → is_loadable_in reading c (blocks_of s) l ≡ t → keep (is_loadable_in reading c (blocks_of s)) (xs ++ l ∷ [])
        ≡ pick t (found ++ l ∷ []) found
    unfolding keep
    kept true k = keep_append (is_loadable_in reading c (blocks_of s)) xs (l ∷ []) ∙ rw k
    kept false k = keep_append (is_loadable_in reading c (blocks_of s)) xs (l ∷ []) ∙ rw k (append-nil found)

    holding_skip : is_loadable_in reading c (blocks_of s) l ≡ false → Holding reading c s (xs ++ l ∷ []) ps n
    holding_skip k =
        record {
          rest = ys;
          splits = later;
          many = g.many ∙ ap length (sym (kept false k));
          words = g.words ∙ ap (λ (ls : List TransactionLocator). flatten (map (place_words (entries (records_of s))) ls)) (sym (kept false k));
          room = g.room;
        }

    module _ (at : ℕ) (place : at ≡ position_of (lookup (entries (records_of s)) l.block)) where
      words_on : flatten (map (place_words (entries (records_of s))) (found ++ l ∷ [])) ≡ flatten (map (place_words (entries (records_of s))) found) ++ at
          ∷ l.offset ∷ []
      unfolding flatten place_words
      words_on =
          ap flatten (map-append (place_words (entries (records_of s))) found (l ∷ []))
          ∙ flatten_append (map (place_words (entries (records_of s))) found) (place_words (entries (records_of s)) l ∷ [])
          ∙ ap (λ (q : ℕ). flatten (map (place_words (entries (records_of s))) found) ++ q ∷ l.offset ∷ []) (sym place)

      pub holding_more : is_loadable_in reading c (blocks_of s) l ≡ true → Holding reading c s (xs ++ l ∷ []) (sets ps (2 * n) (at ∷ l.offset ∷ [])) (n + 1)
      holding_more k =
          record {
            rest = ys;
            splits = later;
            many = omega (arith, g.many, ap length (kept true k), length-append found (l ∷ []));
            words =
                after_words ps n at l.offset holding_room
                ∙ ap (λ (ws : List ℕ). ws ++ at ∷ l.offset ∷ []) g.words
                ∙ sym words_on
                ∙ ap (λ (ls : List TransactionLocator). flatten (map (place_words (entries (records_of s))) ls)) (sym (kept true k));
            room = omega (arith, g.room, length-sets ps (2 * n) (at ∷ l.offset ∷ []));
          }

      -- after a final share, as it is listed
      pub record Listing (t : Bool) : Type 0 where
        pub holds_on : Holding reading c s (xs ++ l ∷ []) (pick t (sets ps (2 * n) (at ∷ l.offset ∷ [])) ps) (pick t (n + 1) n)
        pub past : Past ps (pick t (sets ps (2 * n) (at ∷ l.offset ∷ [])) ps) (pick t (n + 1) n)
        pub onward : n ≤ pick t (n + 1) n

      pub listing : (t : Bool) → is_loadable_in reading c (blocks_of s) l ≡ t → Listing t
      listing true k = record { holds_on = holding_more k; past = after_past ps n at l.offset holding_room; onward = omega arith }
      listing false k = record { holds_on = holding_skip k; past = past_none ps n; onward = omega arith }
