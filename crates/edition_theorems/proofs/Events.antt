-- Events do not show positions, so records of the same blocks give the same events. Assumes nothing.
use mathlib.Core.Path.{◌≡◌, refl, ap}
use mathlib.Core.List.{List, [], ◌∷◌, ◌++◌, map, flatten}
use mathlib.Core.Option.{Option, none, some}
use mathlib.Core.Bool.{Bool, true, false}
use Prim.Native.Nat.{ℕ, ◌+◌, ◌<◌}
use native.Mathlib.Omega.{arith}
use lib.Dec.{ltb, eqb}
use lib.ListN.{length}
use borrow.Author.Tests.{eq-eqb, ne_eqb}
use Rattle.base.specs.Lists.{pick, find, keep}
use Rattle.committee.specs.Committee.{AuthorityIndex, Committee, total_stake}
use Rattle.record_spec.specs.Reference.{BlockReference, TransactionLocatorRange, locator, same_reference, offsets}
use Rattle.record_spec.specs.Block.{Statement, Block, author, voted_range, shared_ranges}
use Rattle.store_spec.specs.Layout.{blocks, Record, used_by, Entry, blocks_at, reference_of, entries, position_of, lookup}
use Rattle.store_spec.specs.Shares.{is_stored_share}
use Rattle.pending_spec.specs.Items.{Item, item_holds, item_at, falls_inside, front_of, back_of, cut_item, cut_at, both_cuts, item_within, voted_item}
use Rattle.pending_spec.specs.Items.{vote_over, stays}
use Rattle.pending_spec.specs.Items.{after_leaving, first_vote, registered, register}
use Rattle.feed_spec.specs.ProcessBlock.{Event, missed, event_at, event_of, Processing, vote, votes, registering, process_block}

-- ---- what feeding counts, over records; records are listed THE LAST FIRST

-- the pending items and the events of the last record, where all are fed one after the other from a fresh engine
unfoldable pub counting : Committee → List Record → Processing
counting c [] = record { items = []; events = []; most = 0 }
counting c (r ∷ older) = process_block c (entries (r ∷ older)) r.block (counting c older).items

-- the events of each feed
unfoldable pub events_of_each : Committee → List Record → List (List Event)
events_of_each c [] = []
events_of_each c (r ∷ older) = (counting c (r ∷ older)).events ∷ events_of_each c older

-- ---- items that differ in their positions alone

record Twin (R : ℕ → ℕ → Type 0) (x y : Item) : Type 0 where
  at : R x.position y.position
  start : x.start ≡ y.start
  end : x.end ≡ y.end
  votes : x.aggregator ≡ y.aggregator

data Twins (R : ℕ → ℕ → Type 0) : List Item → List Item → Type 0 where
  no_items : Twins R [] []
  twins : {x y : Item} {xs ys : List Item} → Twin R x y → Twins R xs ys → Twins R (x ∷ xs) (y ∷ ys)

-- under a relation of positions in which different ones stay different
module _ (R : ℕ → ℕ → Type 0) (alike : (p q m n : ℕ) → R p q → R m n → eqb p m ≡ eqb q n) where
  twins_append : {xs ys us vs : List Item} → Twins R xs ys → Twins R us vs → Twins R (xs ++ us) (ys ++ vs)
  twins_append no_items k = k
  twins_append (twins t ts) k = twins t (twins_append ts k)

  twins_length : {xs ys : List Item} → Twins R xs ys → length xs ≡ length ys
  twins_length no_items = refl
  twins_length (twins t ts) = rw (twins_length ts)

  module _ {p q : ℕ} (h : R p q) where
    inside_same : (o : ℕ) {x y : Item} → Twin R x y → falls_inside p o x ≡ falls_inside q o y
    unfolding falls_inside
    inside_same o t = rw (alike _ _ _ _ t.at h, t.start, t.end)

    cut_item_lem : (o : ℕ) {x y : Item} → Twin R x y → Twins R (cut_item p o x) (cut_item q o y)
    unfolding cut_item
    cut_item_lem o {x} {y} t = rw (inside_same o t) (go (falls_inside q o y))
      where
        go : (b : Bool) → Twins R (pick b (front_of x o ∷ back_of x o ∷ []) (x ∷ [])) (pick b (front_of y o ∷ back_of y o ∷ []) (y ∷ []))
        go true = twins (record { at = t.at; start = t.start; end = refl; votes = t.votes })
            (twins (record { at = t.at; start = refl; end = t.end; votes = t.votes }) no_items)
        go false = twins t no_items

    cut_at_lem : (o : ℕ) {xs ys : List Item} → Twins R xs ys → Twins R (cut_at p o xs) (cut_at q o ys)
    unfolding cut_at flatten
    cut_at_lem o no_items = no_items
    cut_at_lem o (twins t ts) = twins_append (cut_item_lem o t) (cut_at_lem o ts)

    both_cuts_lem : (s e : ℕ) {xs ys : List Item} → Twins R xs ys → Twins R (both_cuts p s e xs) (both_cuts q s e ys)
    unfolding both_cuts
    both_cuts_lem s e {xs} {ys} ts = go (ltb s e)
      where
        go : (b : Bool) → Twins R (pick b (cut_at p e (cut_at p s xs)) xs) (pick b (cut_at q e (cut_at q s ys)) ys)
        go true = cut_at_lem e (cut_at_lem s ts)
        go false = ts

    within_same : (s e : ℕ) {x y : Item} → Twin R x y → item_within p s e x ≡ item_within q s e y
    unfolding item_within
    within_same s e t = rw (alike _ _ _ _ t.at h, t.start, t.end)

    voted_each : (c : Committee) (a : AuthorityIndex) (s e : ℕ) {xs ys : List Item} → Twins R xs ys
        → Twins R (map (λ x. pick (item_within p s e x) (voted_item c a x) x) xs) (map (λ y. pick (item_within q s e y) (voted_item c a y) y) ys)
    unfolding voted_item
    voted_each c a s e no_items = no_items
    voted_each c a s e (twins {x = x} {y = y} t ts) =
        let first : Twin R (pick (item_within p s e x) (voted_item c a x) x) (pick (item_within q s e y) (voted_item c a y) y) = rw (within_same s e t)
        (go (item_within q s e y)) in
        twins first (voted_each c a s e ts)
      where
        go : (b : Bool) → Twin R (pick b (voted_item c a x) x) (pick b (voted_item c a y) y)
        go true = record { at = t.at; start = t.start; end = t.end; votes = rw t.votes }
        go false = t

    vote_over_lem : (c : Committee) (a : AuthorityIndex) (s e : ℕ) {xs ys : List Item} → Twins R xs ys
        → Twins R (vote_over c a p s e xs) (vote_over c a q s e ys)
    unfolding vote_over
    vote_over_lem c a s e ts = voted_each c a s e (both_cuts_lem s e ts)

    stays_same : (n s e : ℕ) {x y : Item} → Twin R x y → stays n p s e x ≡ stays n q s e y
    unfolding stays
    stays_same n s e t = rw (within_same s e t, t.votes)

    leaving : (c : Committee) (s e : ℕ) {xs ys : List Item} → Twins R xs ys → Twins R (after_leaving c p s e xs) (after_leaving c q s e ys)
    unfolding after_leaving keep
    leaving c s e no_items = no_items
    leaving c s e (twins {x = x} {y = y} {xs = xs} {ys = ys} t ts) =
        rw (stays_same (total_stake c) s e t) (go (stays (total_stake c) q s e y) (leaving c s e ts))
      where
        go : (b : Bool) → Twins R (keep (stays (total_stake c) p s e) xs) (keep (stays (total_stake c) q s e) ys)
            → Twins R (pick b (x ∷ keep (stays (total_stake c) p s e) xs) (keep (stays (total_stake c) p s e) xs))
            (pick b (y ∷ keep (stays (total_stake c) q s e) ys) (keep (stays (total_stake c) q s e) ys))
        go true k = twins t k
        go false k = k

    holds_same : (o : ℕ) {x y : Item} → Twin R x y → item_holds p o x ≡ item_holds q o y
    unfolding item_holds
    holds_same o t = rw (alike _ _ _ _ t.at h, t.start, t.end)

    event_same : (c : Committee) (es fs : List Entry) (r : BlockReference) (i o : ℕ) → missed es r o ≡ missed fs r o → {xs ys : List Item} → Twins R xs ys
        → event_of c es r i o (item_at xs p o) ≡ event_of c fs r i o (item_at ys q o)
    unfolding event_of event_at item_at find
    event_same c es fs r i o m no_items = rw m
    event_same c es fs r i o m (twins {x = x} {y = y} {xs = xs} {ys = ys} t ts) = rw (holds_same o t) (go (item_holds q o y) (event_same c es fs r i o m ts))
      where
        go : (b : Bool) → event_of c es r i o (find (item_holds p o) xs) ≡ event_of c fs r i o (find (item_holds q o) ys)
            → event_of c es r i o (pick b (some x) (find (item_holds p o) xs)) ≡ event_of c fs r i o (pick b (some y) (find (item_holds q o) ys))
        go true k = rw t.votes
        go false k = k

    registered_twins : (c : Committee) (a : AuthorityIndex) (runs : List TransactionLocatorRange) {xs ys : List Item} → Twins R xs ys → Twins R
        (register c a p runs xs) (register c a q runs ys)
    unfolding register registered first_vote
    registered_twins c a runs ts = twins_append ts (each runs)
      where
        each : (runs : List TransactionLocatorRange) → Twins R (map (registered c a p) runs) (map (registered c a q) runs)
        each [] = no_items
        each (r ∷ rs) = twins (record { at = h; start = refl; end = refl; votes = refl }) (each rs)

  -- ---- a block's votes, over entries that stand at related positions

  record Alongside (z w : Processing) : Type 0 where
    items : Twins R z.items w.items
    events : z.events ≡ w.events
    most : z.most ≡ w.most

  module _ (c : Committee) (es fs : List Entry)
      (found : (r : BlockReference) → R (position_of (lookup es r)) (position_of (lookup fs r)))
      (missing : (r : BlockReference) (o : ℕ) → missed es r o ≡ missed fs r o) where
    events_each : (r : BlockReference) (i : ℕ) {p q : ℕ} → R p q → {xs ys : List Item} → Twins R xs ys → (os : List ℕ)
        → flatten (map (λ o. event_of c es r i o (item_at xs p o)) os) ≡ flatten (map (λ o. event_of c fs r i o (item_at ys q o)) os)
    unfolding flatten
    events_each r i h ts [] = refl
    events_each r i h ts (o ∷ os) = rw (event_same h c es fs r i o (missing r o) ts, events_each r i h ts os)

    vote_same : (a : AuthorityIndex) (i : ℕ) (r : Option TransactionLocatorRange) {z w : Processing} → Alongside z w → Alongside (vote c es a i r z)
        (vote c fs a i r w)
    unfolding vote
    vote_same a i none z = z
    vote_same a i (some r) g =
        let h : R (position_of (lookup es r.block)) (position_of (lookup fs r.block)) = found r.block in
        let voted = vote_over_lem h c a r.start r.end g.items in
        record {
          items = leaving h c r.start r.end voted;
          events = rw (g.events, events_each r.block i h voted (offsets r));
          most = rw (g.most, twins_length (both_cuts_lem h r.start r.end g.items));
        }

    votes_same : (a : AuthorityIndex) (i : ℕ) (ss : List Statement) {z w : Processing} → Alongside z w → Alongside (votes c es a i ss z) (votes c fs a i ss w)
    unfolding votes
    votes_same a i [] g = g
    votes_same a i (s ∷ ss) g = votes_same a (i + 1) ss (vote_same a i (voted_range s) g)

    process_same : (b : Block) {xs ys : List Item} → Twins R xs ys → Alongside (process_block c es b xs) (process_block c fs b ys)
    unfolding process_block registering
    process_same b ts =
        let more = registered_twins (found b.reference) c (author b) (shared_ranges b) ts in
        votes_same (author b) 0 b.statements (record { items = more; events = refl; most = twins_length more })

    process_alike : (b d : Block) {xs ys : List Item} → b ≡ d → Twins R xs ys → Alongside (process_block c es b xs) (process_block c fs d ys)
    process_alike b d e ts = rw (← e) (process_same b ts)

-- positions may be forgotten into a wider relation
twins_wider : {R S : ℕ → ℕ → Type 0} → ((p q : ℕ) → R p q → S p q) → {xs ys : List Item} → Twins R xs ys → Twins S xs ys
twins_wider f no_items = no_items
twins_wider f (twins {x = x} {y = y} t ts) = twins (record { at = f x.position y.position t.at; start = t.start; end = t.end; votes = t.votes })
    (twins_wider f ts)

-- ---- records of the same blocks

data Same : List Record → List Record → Type 0 where
  no_records : Same [] []
  record-more : {r q : Record} {rs qs : List Record} → r.block ≡ q.block → Same rs qs → Same (r ∷ rs) (q ∷ qs)

same_blocks : (rs qs : List Record) → blocks rs ≡ blocks qs → Same rs qs
same_blocks [] [] h = no_records
same_blocks [] (q ∷ qs) h = let z : ◌≡◌ {A = ℕ} 0 1 = cc in absurd (omega arith)
same_blocks (r ∷ rs) [] h = let z : ◌≡◌ {A = ℕ} 0 1 = cc in absurd (omega arith)
same_blocks (r ∷ rs) (q ∷ qs) h =
    let first : r.block ≡ q.block = cc in
    let others : map (λ x. x.block) rs ≡ map (λ x. x.block) qs = cc in
    record-more first (same_blocks rs qs others)

-- positions of records of the same age, or of none
data At : List Record → List Record → ℕ → ℕ → Type 0 where
  nowhere : {rs qs : List Record} → At rs qs 0 0
  newest : {r q : Record} {rs qs : List Record} → At (r ∷ rs) (q ∷ qs) (used_by rs) (used_by qs)
  older : {r q : Record} {rs qs : List Record} {m n : ℕ} → At rs qs m n → At (r ∷ rs) (q ∷ qs) m n

used_some : (rs : List Record) → 0 < used_by rs
unfolding used_by
used_some [] = omega arith
used_some (r ∷ rs) = omega arith

at_below : {rs qs : List Record} {m n : ℕ} → At rs qs m n → (m < used_by rs) × (n < used_by qs)
unfolding used_by
at_below {rs} {qs} nowhere = (used_some rs, used_some qs)
at_below newest = (omega arith, omega arith)
at_below (older a) = let k = at_below a in (omega arith, omega arith)

above_same : (p q m n : ℕ) → m < p → n < q → eqb p m ≡ eqb q n
above_same p q m n h k = rw (ne_eqb p m (λ (e : p ≡ m). omega arith), ne_eqb q n (λ (e : q ≡ n). omega arith))

below_same : (p q m n : ℕ) → p < m → q < n → eqb p m ≡ eqb q n
below_same p q m n h k = rw (ne_eqb p m (λ (e : p ≡ m). omega arith), ne_eqb q n (λ (e : q ≡ n). omega arith))

at_same : {rs qs : List Record} {p q m n : ℕ} → At rs qs p q → At rs qs m n → eqb p m ≡ eqb q n
at_same nowhere nowhere = refl
at_same nowhere (newest {rs = rs} {qs = qs}) = below_same 0 0 (used_by rs) (used_by qs) (used_some rs) (used_some qs)
at_same nowhere (older b) = at_same nowhere b
at_same (newest {rs = rs} {qs = qs}) nowhere = above_same (used_by rs) (used_by qs) 0 0 (used_some rs) (used_some qs)
at_same (newest {rs = rs} {qs = qs}) newest = rw (eq-eqb (used_by rs) (used_by rs) refl, eq-eqb (used_by qs) (used_by qs) refl)
at_same (newest {rs = rs} {qs = qs}) (older {m = m} {n = n} b) = let k = at_below b in above_same (used_by rs) (used_by qs) m n k.0 k.1
at_same (older a) nowhere = at_same a nowhere
at_same (older {m = m} {n = n} a) (newest {rs = rs} {qs = qs}) = let k = at_below a in below_same m n (used_by rs) (used_by qs) k.0 k.1
at_same (older a) (older b) = at_same a b

found_at : {rs qs : List Record} → Same rs qs → (r : BlockReference) → At rs qs (position_of (lookup (entries rs) r)) (position_of (lookup (entries qs) r))
unfolding lookup entries find position_of
found_at no_records r = nowhere
found_at (record-more {r = x} {q = y} {rs = rs} {qs = qs} e s) r =
    rw (ap (λ (b : Block). same_reference b.reference r) e) (go (same_reference y.block.reference r) (found_at s r))
  where
    go : (t : Bool) → At rs qs (position_of (find (λ d. same_reference (reference_of d) r) (entries rs)))
        (position_of (find (λ d. same_reference (reference_of d) r) (entries qs)))
        → At (x ∷ rs) (y ∷ qs)
        (position_of (pick t (some (record { position = used_by rs; bytes = x.bytes; block = x.block }))
        (find (λ d. same_reference (reference_of d) r) (entries rs))))
        (position_of (pick t (some (record { position = used_by qs; bytes = y.bytes; block = y.block }))
        (find (λ d. same_reference (reference_of d) r) (entries qs))))
    go true k = newest
    go false k = older k

blocks_same : {rs qs : List Record} → Same rs qs → blocks_at (entries rs) ≡ blocks_at (entries qs)
unfolding entries
blocks_same no_records = refl
blocks_same (record-more e s) = rw (e, blocks_same s)

missed_same : {rs qs : List Record} → Same rs qs → (r : BlockReference) (o : ℕ) → missed (entries rs) r o ≡ missed (entries qs) r o
unfolding missed
missed_same s r o = ap (λ (bs : List Block). pick (is_stored_share bs (locator r o)) 2 3) (blocks_same s)

counting_same : (c : Committee) {rs qs : List Record} → Same rs qs → Alongside (At rs qs) (λ p q m n a b. at_same a b) (counting c rs) (counting c qs)
unfolding counting
counting_same c no_records = record { items = no_items; events = refl; most = refl }
counting_same c (record-more {r = r} {q = q} {rs = rs} {qs = qs} e s) =
    process_alike (At (r ∷ rs) (q ∷ qs)) (λ p q m n a b. at_same a b) c (entries (r ∷ rs)) (entries (q ∷ qs)) (found_at (record-more e s))
    (missed_same (record-more e s))
    r.block q.block e (twins_wider (λ m n a. older a) (counting_same c s).items)

events_same : (c : Committee) {rs qs : List Record} → Same rs qs → events_of_each c rs ≡ events_of_each c qs
unfolding events_of_each
events_same c no_records = refl
events_same c (record-more {r = r} {q = q} e s) = rw ((counting_same c (record-more {r = r} {q = q} e s)).events, events_same c s)

pub events_ignore : (c : Committee) (rs qs : List Record) → blocks rs ≡ blocks qs → events_of_each c rs ≡ events_of_each c qs
events_ignore c rs qs h = events_same c (same_blocks rs qs h)
