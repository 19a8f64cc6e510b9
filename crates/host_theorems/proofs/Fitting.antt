-- The words of a table and of events that a feed leaves fit 8 bytes, and the store's are bytes. Assumes nothing.
use mathlib.Core.Path.{◌≡◌}
use mathlib.Core.Logic.{◌⊎◌, inl, inr}
use mathlib.Core.Bool.{Bool, true, false}
use mathlib.Core.List.{List, [], ◌∷◌, ◌++◌, map, flatten}
use mathlib.Core.Option.{Option, none, some}
use Prim.Native.Nat.{ℕ, zero, suc, ◌+◌, ◌-◌, ◌*◌, ◌^◌, ◌≤◌, ◌<◌}
use native.Mathlib.Nat.{lt_of_lt_of_le, pow-le-pow_right}
use native.Mathlib.Omega.{arith}
use lib.Dec.{ltb, eqb, lit<}
use lib.ListN.{length, take, drop, replicate, get_elem?, take-append-drop}
use borrow.Author.Tests.{eqb-true}
use Rattle.base.specs.Lists.{pick, all_of, ◌∈◌, here, there}
use Rattle.base.specs.Le.{Bytes, le_bytes}
use Rattle.base.proofs.Tests.{and_right}
use Rattle.base.proofs.Lists.{Every, none_of, and, every_in, every_map, every_append, every_keep, find_in, find_passes}
use Rattle.base.proofs.Le.{AllBytes, bytes_append, bytes_left, bytes_drop, bytes_le_bytes, le_number_lt}
use Rattle.committee.specs.Committee.{AuthorityIndex, Committee, broken, known, get_stake}
use Rattle.committee.proofs.Bounds.{total_most}
use Rattle.committee_set.specs.AuthoritySet.{member, inserted, members, stake_of}
use Rattle.committee_set.proofs.Words.{Small, small_nobody, small_inserted}
use Rattle.committee_set.proofs.Sums.{stake_most}
use Rattle.committee_aggregator.specs.StakeAggregator.{StakeAggregator, no_votes, counted, aggregator_in_order}
use Rattle.record_spec.specs.Reference.{TransactionLocatorRange, locator}
use Rattle.record_spec.specs.Block.{Statement, Block, author, is_share_at, voted_range, shared_ranges}
use Rattle.record_spec.proofs.Records.{BlockFits}
use Rattle.record_spec.proofs.Spans.{share_index}
use Rattle.store_spec.specs.Layout.{Record, Entry, blocks_at, entries, used_by, header_bytes, entry_bytes, body_bytes, layout, position_of, lookup}
use Rattle.store_spec.specs.Store.{store_holding}
use Rattle.store_spec.specs.Shares.{is_stored_share}
use Rattle.store_spec.proofs.Store.{entries_below}
use Rattle.store_spec.proofs.Lookups.{entry_block}
use Rattle.store_spec.proofs.Ends.{AcceptsLower, vote_end}
use Rattle.pending_spec.specs.Items.{Item, both_cuts, cut_at, item_within, voted_item, vote_over, after_leaving, first_vote, registered, register}
use Rattle.pending_spec.specs.Table.{item_words, table_of}
use Rattle.pending_spec.proofs.Items.{Piece, every_cut}
use Rattle.pending_spec.proofs.Order.{Pending}
use Rattle.feed_spec.specs.ProcessBlock.{Event, event_words, words_of, missed, Processing, vote, votes, registering, process_block}
use Rattle.feed_spec.proofs.Events.{Source}
use Rattle.words.specs.Words.{words_in}
use Rattle.words.proofs.Words.{Words, no_words, with_word}

-- ---- lists of words

pub words_append : (xs ys : List ℕ) → Words xs → Words ys → Words (xs ++ ys)
words_append [] ys no_words k = k
words_append (x ∷ xs) ys (with_word h hs) k = with_word h (words_append xs ys hs k)

pub words_drop : (n : ℕ) (xs : List ℕ) → Words xs → Words (drop n xs)
words_drop zero xs h = h
words_drop (suc n) [] h = h
words_drop (suc n) (x ∷ xs) (with_word h hs) = words_drop n xs hs

pub zero_words : (n : ℕ) → Words (replicate n 0)
zero_words zero = no_words
zero_words (suc n) = with_word (lit< tt) (zero_words n)

take_short : (n : ℕ) (s : Bytes) → length (take n s) ≤ n
take_short zero s = omega arith
take_short (suc n) [] = omega arith
take_short (suc n) (x ∷ s) = omega (arith, take_short n s)

-- the words of bytes
pub lent_words : (n : ℕ) (s : Bytes) → AllBytes s → Words (words_in n s)
unfolding words_in
lent_words zero s h = no_words
lent_words (suc n) s h =
    let front : AllBytes (take 8 s) = bytes_left (take 8 s) (drop 8 s) (rw (take-append-drop 8 s) h) in
    let most : 256 ^ length (take 8 s) ≤ 256 ^ 8 = pow-le-pow_right {n = 256} (lit< tt) {i = length (take 8 s)} {j = 8} (take_short 8 s) in
    with_word (lt_of_lt_of_le (le_number_lt (take 8 s) front) most) (lent_words n (drop 8 s) (bytes_drop 8 s h))

-- ---- the votes of items

-- both words of its vote set have 64 bits
abbrev pub VotesFit : Item → Type 0
VotesFit x = Small x.aggregator.votes

counted_small : (c : Committee) (g : StakeAggregator) (a : AuthorityIndex) → a < 128 → Small g.votes → Small (counted c g a).votes
unfolding counted
counted_small c g a l h = go (member g.votes a)
  where
    go : (t : Bool) → Small (pick t g (record { votes = inserted g.votes a; stake = g.stake + get_stake c a })).votes
    go true = h
    go false = small_inserted g.votes a l h

piece_fits : (x y : Item) → Piece x y → VotesFit x → VotesFit y
piece_fits x y s h = rw s.votes h

cuts_fit : (p s e : ℕ) (xs : List Item) → Every VotesFit xs → Every VotesFit (both_cuts p s e xs)
unfolding both_cuts
cuts_fit p s e xs h = go (ltb s e)
  where
    go : (t : Bool) → Every VotesFit (pick t (cut_at p e (cut_at p s xs)) xs)
    go true = every_cut piece_fits p e (cut_at p s xs) (every_cut piece_fits p s xs h)
    go false = h

module _ (c : Committee) (a : AuthorityIndex) (l : a < 128) where
  voted_fits : (p s e : ℕ) (x : Item) → VotesFit x → VotesFit (pick (item_within p s e x) (voted_item c a x) x)
  unfolding voted_item
  voted_fits p s e x h = go (item_within p s e x)
    where
      go : (t : Bool) → VotesFit (pick t (voted_item c a x) x)
      go true = counted_small c x.aggregator a l h
      go false = h

  over_fits : (p s e : ℕ) (xs : List Item) → Every VotesFit xs → Every VotesFit (vote_over c a p s e xs)
  unfolding vote_over
  over_fits p s e xs h = every_map (λ x. pick (item_within p s e x) (voted_item c a x) x) (voted_fits p s e) (both_cuts p s e xs) (cuts_fit p s e xs h)

  vote_fits : (es : List Entry) (i : ℕ) (r : Option TransactionLocatorRange) (z : Processing) → Every VotesFit z.items
      → Every VotesFit (vote c es a i r z).items
  unfolding vote after_leaving
  vote_fits es i none z h = h
  vote_fits es i (some r) z h = every_keep _ _ (over_fits (position_of (lookup es r.block)) r.start r.end z.items h)

  votes_fit : (es : List Entry) (i : ℕ) (ss : List Statement) (z : Processing) → Every VotesFit z.items → Every VotesFit (votes c es a i ss z).items
  unfolding votes
  votes_fit es i [] z h = h
  votes_fit es i (s ∷ ss) z h = votes_fit es (i + 1) ss (vote c es a i (voted_range s) z) (vote_fits es i (voted_range s) z h)

  first_fits : (p : ℕ) (runs : List TransactionLocatorRange) → Every VotesFit (map (registered c a p) runs)
  unfolding registered first_vote
  first_fits p [] = none_of
  first_fits p (r ∷ rs) = and (counted_small c no_votes a l small_nobody) (first_fits p rs)

  registered_fit : (p : ℕ) (runs : List TransactionLocatorRange) (xs : List Item) → Every VotesFit xs → Every VotesFit (register c a p runs xs)
  unfolding register
  registered_fit p runs xs h = every_append xs (map (registered c a p) runs) h (first_fits p runs)

-- a block that is counted leaves votes that fit
pub process_fits : (c : Committee) (es : List Entry) (b : Block) (xs : List Item) → author b < 128 → Every VotesFit xs
    → Every VotesFit (process_block c es b xs).items
unfolding process_block registering
process_fits c es b xs l h =
    votes_fit c (author b) l es 0 b.statements (registering c es b xs)
    (registered_fit c (author b) l (position_of (lookup es b.reference)) (shared_ranges b) xs h)

-- ---- the words of a table

module _ (c : Committee) (b : broken c ≡ false) (rs : List Record) (small : used_by rs ≤ 4294967295)
    (fit : (d : Block) → d ∈ map (λ r. r.block) rs → BlockFits d) where
  item_words_lem : (x : Item) → Pending c (entries rs) x → VotesFit x → Words (item_words x)
  unfolding item_words aggregator_in_order is_share_at
  item_words_lem x y v =
      let here-is : Entry → Bool = λ e. eqb e.position x.position in
      let m : y.entry ∈ entries rs = find_in here-is (entries rs) y.entry y.found in
      let at : y.entry.position ≡ x.position = eqb-true _ _ (find_passes here-is (entries rs) y.entry y.found) in
      let low : y.entry.position < used_by rs = every_in (entries rs) y.entry (entries_below rs) m in
      let last : x.end - 1 < length y.entry.block.statements =
      share_index y.entry.block.statements (x.end - 1) (y.shares (x.end - 1) (omega (arith, y.full)) (omega (arith, y.full))) in
      let few = (fit y.entry.block (entry_block rs y.entry m)).few_statements in
      let held =
      eqb-true x.aggregator.stake (stake_of c x.aggregator.votes) (and_right (all_of (known c) (members x.aggregator.votes)) _ y.votes) in
      with_word {w = x.position} (omega (arith, at, low, small))
      (with_word {w = x.start} (omega (arith, y.full, last, few))
      (with_word {w = x.end} (omega (arith, y.full, last, few))
      (with_word {w = x.aggregator.votes.low} (omega (arith, v.low))
      (with_word {w = x.aggregator.votes.high} (omega (arith, v.high))
      (with_word {w = x.aggregator.stake} (omega (arith, held, stake_most c x.aggregator.votes, total_most c b)) no_words)))))

  items_words : (xs : List Item) → Every (Pending c (entries rs)) xs → Every VotesFit xs → Words (flatten (map item_words xs))
  unfolding flatten
  items_words [] none_of none_of = no_words
  items_words (x ∷ xs) (and p ps) (and v vs) = words_append (item_words x) (flatten (map item_words xs)) (item_words_lem x p v) (items_words xs ps vs)

  pub table_words : (n : ℕ) (xs : List Item) → length xs < 18446744073709551616 → Every (Pending c (entries rs)) xs → Every VotesFit xs → Words (table_of n xs)
  unfolding table_of
  table_words n xs few p v =
      with_word few (words_append (flatten (map item_words xs)) (replicate (n - 1 - 6 * length xs) 0) (items_words xs p v) (zero_words (n - 1 - 6 * length xs)))

-- ---- the words of events

stands_in : {A : Type 0} (xs : List A) (i : ℕ) (x : A) → get_elem? xs i ≡ some x → (x ∈ xs) × (i < length xs)
stands_in [] i x e = let z : ◌≡◌ {A = ℕ} 0 1 = cc in absurd (omega arith)
stands_in (y ∷ ys) zero x e = let z : y ≡ x = cc in (rw z here, omega arith)
stands_in (y ∷ ys) (suc i) x e = let r = stands_in ys i x e in (there r.0, omega (arith, r.1))

module _ (es : List Entry) (b : Block) (f : BlockFits b) (lower : AcceptsLower b) where
  event_fits : (v : Event) → Source es 0 b.statements v → Words (event_words v)
  unfolding event_words missed
  event_fits v u =
      let at = stands_in b.statements u.index u.statement u.stands in
      with_word (kind u.missing)
      (with_word {w = v.statement} (omega (arith, u.told, at.1, f.few_statements))
      (with_word {w = v.offset} (omega (arith, u.within.1, vote_end b f lower u.statement at.0 u.range u.votes)) no_words))
    where
      small : (t : Bool) → v.kind ≡ pick t 2 3 → v.kind < 18446744073709551616
      small true e = omega (arith, e)
      small false e = omega (arith, e)

      kind : (v.kind ≡ 1) ⊎ (v.kind ≡ missed es u.range.block v.offset) → v.kind < 18446744073709551616
      kind (inl e) = omega (arith, e)
      kind (inr e) = small (is_stored_share (blocks_at es) (locator u.range.block v.offset)) e

  pub events_words : (vs : List Event) → ((v : Event) → v ∈ vs → Source es 0 b.statements v) → Words (words_of vs)
  unfolding words_of flatten
  events_words [] h = no_words
  events_words (v ∷ vs) h = words_append (event_words v) (words_of vs) (event_fits v (h v here)) (events_words vs (λ w m. h w (there m)))

-- ---- the bytes of a store

zero_bytes : (n : ℕ) → AllBytes (replicate n 0)
zero_bytes zero = tt
zero_bytes (suc n) = (lit< tt, zero_bytes n)

body_bytes_lem : (es : List Entry) (rs : List Record) → Every (λ r. AllBytes r.bytes) rs → AllBytes (body_bytes es (entries rs))
unfolding body_bytes entry_bytes entries
body_bytes_lem es [] none_of = tt
body_bytes_lem es (r ∷ rs) (and h hs) =
    bytes_append (body_bytes es (entries rs)) _ (body_bytes_lem es rs hs)
    (bytes_append (le_bytes 4 _) _ (bytes_le_bytes 4 _) (bytes_append (le_bytes 4 (length r.bytes)) r.bytes (bytes_le_bytes 4 _) h))

header_bytes_lem : (rs : List Record) → AllBytes (header_bytes rs)
unfolding header_bytes flatten
header_bytes_lem rs =
    bytes_append (le_bytes 4 _) _ (bytes_le_bytes 4 _)
    (bytes_append (le_bytes 4 (used_by rs)) _ (bytes_le_bytes 4 _)
    (bytes_append (le_bytes 2 (length rs)) _ (bytes_le_bytes 2 _) (bytes_append (replicate 6 0) [] (zero_bytes 6) tt)))

pub layout_bytes : (rs : List Record) → Every (λ r. AllBytes r.bytes) rs → AllBytes (layout rs)
unfolding layout
layout_bytes rs h = bytes_append (header_bytes rs) (body_bytes (entries rs) (entries rs)) (header_bytes_lem rs) (body_bytes_lem (entries rs) rs h)

pub holding_bytes : (rs : List Record) (s : Bytes) → Every (λ r. AllBytes r.bytes) rs → AllBytes s → AllBytes (store_holding rs s)
unfolding store_holding
holding_bytes rs s h k = bytes_append (layout rs) (drop (used_by rs) s) (layout_bytes rs h) (bytes_drop (used_by rs) s k)
