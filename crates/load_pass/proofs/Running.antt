-- Going through the shares of a stretch of the ordinary list. Assumes nothing.
use mathlib.Core.Path.{◌≡◌, sym, ap, subst, ◌∙◌}
use mathlib.Core.Bool.{Bool, true}
use mathlib.Core.List.{List, [], ◌∷◌, ◌++◌, map, map-append, append_assoc, append-nil}
use mathlib.Core.Option.{Option, some, some-injective}
use Prim.Native.Nat.{ℕ, suc, ◌+◌, ◌-◌, ◌*◌, ◌≤◌, ◌<◌}
use native.Mathlib.Omega.{arith}
use lib.ListN.{length, get_elem?}
use lib.Seq.{sets}
use Rattle.base.specs.Lists.{pick, count_from, ◌∈◌, here}
use Rattle.base.specs.Le.{Bytes}
use Rattle.base.proofs.Lists.{count_from_add, holds_some}
use Rattle.base.proofs.Members.{in_right}
use Rattle.record_spec.specs.Reference.{TransactionLocator, TransactionLocatorRange, locator, offsets, locators}
use Rattle.record_spec.specs.Block.{share, is_share, is_share_at, Block}
use Rattle.record_spec.specs.Record.{well_formed, block_in}
use Rattle.record_cursor.specs.Cursor.{cursor_at}
use Rattle.record_cursor.specs.declared.StatementCursor.{StatementCursor}
use Rattle.store_spec.specs.Layout.{Entry, entries, position_of, lookup}
use Rattle.store_spec.specs.Store.{records_of}
use Rattle.store_spec.specs.Entry.{record_at, block_at, is_entry}
use Rattle.store_spec.proofs.Check.{order_laid}
use Rattle.store_spec.proofs.Lookups.{lookup_in, entry_block}
use Rattle.store_spec.proofs.Loops.{is_entry_lem, entry_room, block_of_entry}
use Rattle.store_spec.proofs.Search.{laid_out_lem}
use Rattle.final_spec.specs.Finality.{blocks_of}
use Rattle.final_spec.proofs.Asked.{in_order_stored}
use Rattle.list_readings_spec.specs.Lists.{all_listed}
use Rattle.load_spec.specs.Needs.{payload_in}
use Rattle.load_spec.proofs.Payloads.{shared_payload_lem}
use Rattle.load_spec.proofs.Places.{found_entry}
use Rattle.load_chain.proofs.Looking.{element_below}
use Rattle.load_places.specs.Listed.{Listed as Looked, met_by}
use Rattle.load_pass.specs.Holding.{Holding, Past, Coming, Listed}
use Rattle.load_pass.proofs.Holding.{past_none, past_on, final_stored, holding_listed, holding_room, by_places, Listing, listing}

-- the locators of a range below an offset
unfoldable pub up_to : TransactionLocatorRange → ℕ → List TransactionLocator
up_to q i = map (locator q.block) (count_from q.start (i - q.start))

upto_none : (q : TransactionLocatorRange) (i : ℕ) → i ≤ q.start → up_to q i ≡ []
unfolding up_to count_from
upto_none q i h = let z : i - q.start ≡ 0 = omega arith in rw z

upto_next : (q : TransactionLocatorRange) (i : ℕ) → q.start ≤ i → up_to q i ++ locator q.block i ∷ [] ≡ up_to q (i + 1)
unfolding up_to count_from
upto_next q i h =
    let n : i + 1 - q.start ≡ (i - q.start) + 1 = omega arith in
    let at : q.start + (i - q.start) ≡ i = omega arith in
    sym (ap (λ (k : ℕ). map (locator q.block) (count_from q.start k)) n
    ∙ ap (map (locator q.block)) (count_from_add q.start (i - q.start) 1)
    ∙ map-append (locator q.block) (count_from q.start (i - q.start)) ((q.start + (i - q.start)) ∷ [])
    ∙ ap (λ (k : ℕ). map (locator q.block) (count_from q.start (i - q.start)) ++ locator q.block k ∷ []) at)

upto_all : (q : TransactionLocatorRange) (i : ℕ) → i ≡ q.end → up_to q i ≡ locators q
unfolding up_to locators offsets
upto_all q i e = ap (λ (k : ℕ). map (locator q.block) (count_from q.start (k - q.start))) e

-- what is below an offset, the locator there, and what is above it
upto_splits : (q : TransactionLocatorRange) (i : ℕ) → q.start ≤ i → i < q.end → locators q ≡ up_to q i ++ locator q.block i ∷ map (locator q.block)
    (count_from (i + 1) (q.end - i - 1))
unfolding up_to locators offsets count_from
upto_splits q i h k =
    let n : q.end - q.start ≡ (i - q.start) + suc (q.end - i - 1) = omega arith in
    let at : q.start + (i - q.start) ≡ i = omega arith in
    ap (λ (m : ℕ). map (locator q.block) (count_from q.start m)) n
    ∙ ap (map (locator q.block)) (count_from_add q.start (i - q.start) (suc (q.end - i - 1)))
    ∙ map-append (locator q.block) (count_from q.start (i - q.start)) (count_from (q.start + (i - q.start)) (suc (q.end - i - 1)))
    ∙ ap (λ (m : ℕ). map (locator q.block) (count_from q.start (i - q.start)) ++ map (locator q.block) (count_from m (suc (q.end - i - 1)))) at

module _ (s : Bytes) (q : TransactionLocatorRange) (ps₀ : List ℕ) (n : ℕ) where
  -- ---- the next locator

  module _ (g : Coming s q ps₀ n) (i : ℕ) (h : q.start ≤ i) (k : i < q.end) where
    abbrev at : TransactionLocator
    at = locator q.block i

    abbrev above : List TransactionLocator
    above = map (locator q.block) (count_from (i + 1) (q.end - i - 1)) ++ g.rest

    coming_splits : all_listed true g.reading g.committee (blocks_of s) ≡ (g.gone ++ up_to q i) ++ at ∷ above
    coming_splits =
        let ys : List TransactionLocator = map (locator q.block) (count_from (i + 1) (q.end - i - 1)) in
        g.splits
        ∙ ap (λ (ls : List TransactionLocator). g.gone ++ (ls ++ g.rest)) (upto_splits q i h k)
        ∙ ap (λ (ls : List TransactionLocator). g.gone ++ ls) (append_assoc (up_to q i) (at ∷ ys) g.rest)
        ∙ sym (append_assoc g.gone (up_to q i) (at ∷ (ys ++ g.rest)))

    -- its block's entry
    pub stored_entry : (e : Entry) × (lookup (entries (records_of s)) q.block ≡ some e) × (is_share_at e.block i ≡ true)
    unfolding locator
    stored_entry =
        found_entry g.committee s g.in_order at
        (final_stored g.reading g.committee s g.in_order g.gone ps₀ n g.holding at
        (subst (λ (ls : List TransactionLocator). at ∈ ls) (sym coming_splits) (in_right (g.gone ++ up_to q i) here)))

  -- ---- the record of its block

  module _ (g : Coming s q ps₀ n) (p : ℕ) (place : p ≡ position_of (lookup (entries (records_of s)) q.block)) where
    first_entry : (e : Entry) × (lookup (entries (records_of s)) q.block ≡ some e) × (is_share_at e.block q.start ≡ true)
    first_entry = stored_entry g q.start (omega arith) g.longer

    stands : p ≡ first_entry.0.position
    unfolding position_of
    stands = place ∙ ap (λ (o : Option Entry). position_of o) first_entry.1

    pub coming_entry : is_entry s p ≡ true
    coming_entry = rw stands (is_entry_lem s first_entry.0 (laid_out_lem s (order_laid g.committee s g.in_order)).tested
        (lookup_in (entries (records_of s)) q.block first_entry.0 first_entry.1).0)

    pub coming_formed : well_formed (record_at s p) ≡ true
    coming_formed = (entry_room s p coming_entry).formed

    coming_block : block_in (record_at s p) ≡ first_entry.0.block
    unfolding block_at
    coming_block =
        ap (λ (j : ℕ). block_at s j) stands
        ∙ block_of_entry s (laid_out_lem s (order_laid g.committee s g.in_order)).reads first_entry.0
        (lookup_in (entries (records_of s)) q.block first_entry.0 first_entry.1).0

    -- the statement of an offset of the range is a share
    pub coming_share : (i : ℕ) → q.start ≤ i → i < q.end → is_share_at (block_in (record_at s p)) i ≡ true
    coming_share i h k =
        let x = stored_entry g i h k in
        let same : first_entry.0 ≡ x.0 = some-injective _ _ (sym first_entry.1 ∙ x.1) in
        ap (λ (b : Block). is_share_at b i) (coming_block ∙ ap (λ (e : Entry). e.block) same) ∙ x.2

    pub coming_few : (i : ℕ) → q.start ≤ i → i < q.end → i < length (block_in (record_at s p)).statements
    unfolding is_share_at
    coming_few i h k =
        let x = holds_some is_share (get_elem? (block_in (record_at s p)).statements i) (coming_share i h k) in
        element_below (block_in (record_at s p)).statements i x.0 x.1

    -- so is every offset below its end
    pub coming_below : (i : ℕ) → i < q.end → i < length (block_in (record_at s p)).statements
    coming_below i k = let z = g.longer in omega (arith, coming_few (q.end - 1) (omega arith) (omega arith))

    pub coming_payload : (i : ℕ) (b : Bytes) → get_elem? (block_in (record_at s p)).statements i ≡ some (share b) → payload_in (blocks_of s)
        (locator q.block i) ≡ some b
    unfolding locator blocks_of
    coming_payload i b e =
        let l = lookup_in (entries (records_of s)) q.block first_entry.0 first_entry.1 in
        shared_payload_lem (in_order_stored g.committee s g.in_order)
        (record {
          block = first_entry.0.block;
          stored = entry_block (records_of s) first_entry.0 l.0;
          named = l.1;
          stands = ap (λ (d : Block). get_elem? d.statements i) (sym coming_block) ∙ e;
        })

  -- ---- statement by statement

  pub record Going (rec : Bytes) (ps : List ℕ) (cursor : StatementCursor) (found : ℕ) : Type 0 where
    pub there : cursor ≡ cursor_at rec cursor.index
    pub inside : cursor.index ≤ q.end
    pub holding : (g : Coming s q ps₀ n) → Holding g.reading g.committee s (g.gone ++ up_to q cursor.index) ps found
    pub past : Past ps₀ ps found
    pub onward : n ≤ found

  pub going_start : Coming s q ps₀ n → (rec : Bytes) (cursor : StatementCursor) → cursor ≡ cursor_at rec cursor.index → cursor.index ≤ q.start → Going rec
      ps₀ cursor n
  going_start g rec cursor e h =
      record {
        there = e;
        inside = let z = g.longer in omega arith;
        holding = λ x.
            subst (λ (ls : List TransactionLocator). Holding x.reading x.committee s ls ps₀ n)
            (sym (ap (λ (ls : List TransactionLocator). x.gone ++ ls) (upto_none q cursor.index h) ∙ append-nil x.gone)) x.holding;
        past = past_none ps₀ n;
        onward = omega arith;
      }

  module _ (rec : Bytes) (ps : List ℕ) (cursor : StatementCursor) (found : ℕ) (w : Going rec ps cursor found) where
    module _ (next : StatementCursor) (e : next ≡ cursor_at rec (cursor.index + 1)) (k : cursor.index < q.end) where
      index_next : next.index ≡ cursor.index + 1
      unfolding cursor_at
      index_next = ap (λ (x : StatementCursor). x.index) e

      moved : (qs : List ℕ) (m : ℕ) → ((g : Coming s q ps₀ n) → Holding g.reading g.committee s (g.gone ++ up_to q (cursor.index + 1)) qs m) → Past ps₀
          qs m → n ≤ m → Going rec qs next m
      moved qs m f past onward =
          record {
            there = e ∙ ap (cursor_at rec) (sym index_next);
            inside = omega (arith, index_next);
            holding = λ g. subst (λ (j : ℕ). Holding g.reading g.committee s (g.gone ++ up_to q j) qs m) (sym index_next) (f g);
            past = past;
            onward = onward;
          }

      pub going_before : cursor.index < q.start → Going rec ps next found
      going_before h =
          let same : up_to q cursor.index ≡ up_to q (cursor.index + 1) = upto_none q cursor.index (omega arith) ∙ sym
          (upto_none q (cursor.index + 1) (omega arith)) in
          moved ps found (λ g. subst (λ (ls : List TransactionLocator). Holding g.reading g.committee s (g.gone ++ ls) ps found) same (w.holding g))
          w.past w.onward

      module _ (h : q.start ≤ cursor.index) (g₀ : Coming s q ps₀ n) where
        pub going_looked : Looked s ps found
        going_looked = holding_listed g₀.reading g₀.committee s g₀.in_order (g₀.gone ++ up_to q cursor.index) ps found (w.holding g₀)

        pub going_room : 2 * found + 2 ≤ length ps
        going_room =
            holding_room g₀.reading g₀.committee s g₀.in_order (g₀.gone ++ up_to q cursor.index) ps found (w.holding g₀)
            (at g₀ cursor.index h k) (above g₀ cursor.index h k) (coming_splits g₀ cursor.index h k)

        module _ (p : ℕ) (place : p ≡ position_of (lookup (entries (records_of s)) q.block)) (b : Bytes)
            (payload : payload_in (blocks_of s) (locator q.block cursor.index) ≡ some b) where
          abbrev t : Bool
          t = met_by s found ps (locator q.block cursor.index) b

          place_there : p ≡ position_of (lookup (entries (records_of s)) (locator q.block cursor.index).block)
          unfolding locator
          place_there = place

          one_listed : (g : Coming s q ps₀ n)
              → Listing g.reading g.committee s g.in_order (g.gone ++ up_to q cursor.index) ps found (w.holding g)
              (locator q.block cursor.index) (above g cursor.index h k) (coming_splits g cursor.index h k) p place_there t
          one_listed g =
              listing g.reading g.committee s g.in_order (g.gone ++ up_to q cursor.index) ps found (w.holding g)
              (locator q.block cursor.index) (above g cursor.index h k) (coming_splits g cursor.index h k) p place_there t
              (by_places g.reading g.committee s g.in_order (g.gone ++ up_to q cursor.index) ps found (w.holding g)
              (locator q.block cursor.index) (above g cursor.index h k) (coming_splits g cursor.index h k) b payload)

          pub going_listed : (qs : List ℕ) (m : ℕ) → m ≡ pick t (found + 1) found → qs ≡ pick t (sets ps (2 * found) (p ∷ cursor.index ∷ [])) ps → Going rec
              qs next m
          unfolding locator
          going_listed qs m em eq =
              let qs' : List ℕ = pick t (sets ps (2 * found) (p ∷ cursor.index ∷ [])) ps in
              let m' : ℕ = pick t (found + 1) found in
              let l₀ = one_listed g₀ in
              subst (λ (x : ℕ). Going rec qs next x) (sym em)
              (subst (λ (x : List ℕ). Going rec x next m') (sym eq)
              (moved qs' m'
              (λ g.
              subst (λ (ls : List TransactionLocator). Holding g.reading g.committee s ls qs' m')
              (append_assoc g.gone (up_to q cursor.index) (locator q.block cursor.index ∷ []) ∙ ap
              (λ (ls : List TransactionLocator). g.gone ++ ls) (upto_next q cursor.index h))
              (one_listed g).holds_on)
              (past_on ps₀ ps qs' found m' l₀.onward w.past l₀.past)
              (let y = l₀.onward in let z = w.onward in omega arith)))

    pub going_end : q.end ≤ cursor.index → Listed s q ps₀ n ps found
    going_end h =
        record {
          holding = λ g.
              subst (λ (ls : List TransactionLocator). Holding g.reading g.committee s (g.gone ++ ls) ps found)
              (upto_all q cursor.index (omega (arith, w.inside))) (w.holding g);
          past = w.past;
          onward = w.onward;
        }
