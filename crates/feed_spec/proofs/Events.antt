-- Where an event processed comes from: a range of one of the block's statements, over a stored share. Assumes nothing.
use mathlib.Core.Path.{◌≡◌, refl, sym, ap, ◌∙◌, subst}
use mathlib.Core.Logic.{◌⊎◌, inl, inr}
use mathlib.Core.Bool.{Bool, true, false}
use mathlib.Core.List.{List, [], ◌∷◌, map, flatten}
use mathlib.Core.Option.{Option, none, some}
use Prim.Native.Nat.{ℕ, suc, ◌+◌, ◌-◌, ◌≤◌, ◌<◌}
use native.Mathlib.Omega.{arith}
use lib.Dec.{eqb}
use lib.ListN.{get_elem?}
use borrow.Author.Tests.{eqb-true}
use Rattle.base.specs.Lists.{pick, find, ◌∈◌}
use Rattle.base.specs.Checks.{passes}
use Rattle.base.proofs.Members.{in_empty, in_cases, in_append, flatten_in, map_in, count_from_in}
use Rattle.base.proofs.Lists.{Every, every_in, find_passes, find_every, find_in}
use Rattle.committee.specs.Committee.{AuthorityIndex, Committee, known}
use Rattle.committee_aggregator.specs.StakeAggregator.{has_quorum}
use Rattle.record_spec.specs.Reference.{BlockReference, locator, TransactionLocatorRange, same_reference, offsets}
use Rattle.record_spec.specs.Block.{Statement, author, is_share_at, voted_range}
use Rattle.record_spec.proofs.References.{reference_same}
use Rattle.store_spec.specs.Layout.{Record, Entry, blocks_at, reference_of, entries, position_of, lookup}
use Rattle.store_spec.specs.Shares.{is_stored_share}
use Rattle.store_spec.specs.Store.{records_of}
use Rattle.store_spec.proofs.Visit.{one_position}
use Rattle.store_spec.proofs.Accepted.{known_author}
use Rattle.store_spec.proofs.Store.{entries_within}
use Rattle.pending_spec.specs.Items.{Item, item_holds, item_at, vote_over}
use Rattle.pending_spec.specs.Table.{items_of}
use Rattle.pending_spec.proofs.Items.{holds_facts}
use Rattle.pending_spec.proofs.Order.{Pending, pending_vote_over}
use Rattle.feed_spec.specs.ProcessBlock.{Event, missed, event_at, event_of, Processing, vote, votes, registering, process_block}
use Rattle.feed_spec.specs.Feed.{Lent, processed, feed_checks}
use Rattle.feed_spec.proofs.Keeping.{passed, sound_registering, lent_state}
use Rattle.feed_spec.proofs.ProcessBlock.{Sound, sound_vote}

-- a stored block of that reference has a share at that offset
pub record Shared (es : List Entry) (r : BlockReference) (o : ℕ) : Type 0 where
  pub entry : Entry
  pub stands : entry ∈ es
  pub same : reference_of entry ≡ r
  pub share : is_share_at entry.block o ≡ true

-- what an item in order holds, at the position of a reference, is a share of the block of that reference
pub item_shared : (c : Committee) (rs : List Record) (xs : List Item) → Every (Pending c (entries rs)) xs → (r : BlockReference) (o : ℕ) (x : Item)
    → item_at xs (position_of (lookup (entries rs) r)) o ≡ some x → Shared (entries rs) r o
unfolding item_at position_of lookup
item_shared c rs xs h r o x f = go (lookup (entries rs) r) refl f
  where
    go : (d : Option Entry) → lookup (entries rs) r ≡ d → find (item_holds (position_of d) o) xs ≡ some x → Shared (entries rs) r o
    go none k g =
        let p : Pending c (entries rs) x = find_every (item_holds 0 o) xs x g h in
        let w = holds_facts 0 o x (find_passes (item_holds 0 o) xs x g) in
        let here-is : Entry → Bool = λ e. eqb e.position x.position in
        let e : p.entry.position ≡ x.position = eqb-true _ _ (find_passes here-is (entries rs) p.entry p.found) in
        absurd (omega (arith, e, w.0, (every_in (entries rs) p.entry (entries_within rs) (find_in here-is (entries rs) p.entry p.found)).from))
    go (some d) k g =
        let p : Pending c (entries rs) x = find_every (item_holds d.position o) xs x g h in
        let w = holds_facts d.position o x (find_passes (item_holds d.position o) xs x g) in
        let here-is : Entry → Bool = λ e. eqb e.position x.position in
        let e : p.entry.position ≡ x.position = eqb-true _ _ (find_passes here-is (entries rs) p.entry p.found) in
        let q : p.entry ≡ d = one_position rs p.entry d (find_in here-is (entries rs) p.entry p.found) (looked d k) (e ∙ w.0) in
        record {
          entry = p.entry;
          stands = find_in here-is (entries rs) p.entry p.found;
          same = ap (λ (z : Entry). reference_of z) q ∙ reference_same (reference_of d) r (called d k);
          share = p.shares o w.1 w.2;
        }
      where
        looked : (z : Entry) → lookup (entries rs) r ≡ some z → z ∈ entries rs
        looked z t = find_in (λ y. same_reference (reference_of y) r) (entries rs) z t

        called : (z : Entry) → lookup (entries rs) r ≡ some z → same_reference (reference_of z) r ≡ true
        called z t = find_passes (λ y. same_reference (reference_of y) r) (entries rs) z t

-- an offset of a range lies within it
offsets_in : (q : TransactionLocatorRange) (o : ℕ) → o ∈ offsets q → (q.start ≤ o) × (o < q.end)
unfolding offsets
offsets_in q o m = let i = count_from_in q.start (q.end - q.start) m in (i.0, omega (arith, i.0, i.1))

-- a statement, from index i on, by which the event came
pub record Source (es : List Entry) (i : ℕ) (ss : List Statement) (v : Event) : Type 0 where
  pub index : ℕ
  pub told : v.statement ≡ i + index
  pub statement : Statement
  pub stands : get_elem? ss index ≡ some statement
  pub range : TransactionLocatorRange
  pub votes : voted_range statement ≡ some range
  pub within : (range.start ≤ v.offset) × (v.offset < range.end)
  pub processed : v.kind ≡ 1 → Shared es range.block v.offset
  -- without an item it is late or unknown
  pub missing : (v.kind ≡ 1) ⊎ (v.kind ≡ missed es range.block v.offset)

later : (es : List Entry) (i : ℕ) (s : Statement) (ss : List Statement) (v : Event) → Source es (i + 1) ss v → Source es i (s ∷ ss) v
later es i s ss v u =
    record {
      index = suc u.index;
      told = omega (arith, u.told);
      statement = u.statement;
      stands = u.stands;
      range = u.range;
      votes = u.votes;
      within =
          u.within;
      processed = u.processed;
      missing = u.missing;
    }

-- the event of one offset
record Told (c : Committee) (es : List Entry) (r : BlockReference) (i o : ℕ) (x : Option Item) (v : Event) : Type 0 where
  by : v.statement ≡ i
  at : v.offset ≡ o
  item : v.kind ≡ 1 → (y : Item) × (x ≡ some y)
  kind : (v.kind ≡ 1) ⊎ (v.kind ≡ missed es r o)

told_of : (c : Committee) (es : List Entry) (r : BlockReference) (i o : ℕ) (x : Option Item) (v : Event) → v ∈ event_of c es r i o x → Told c es r i o x v
unfolding event_at event_of missed
told_of c es r i o none v m = go (in_cases m)
  where
    not_one : (t : Bool) → ◌≡◌ {A = ℕ} (pick t 2 3) 1 → ⊥
    not_one true e = omega arith
    not_one false e = omega arith

    go : (v ≡ record { kind = missed es r o; statement = i; offset = o }) ⊎ (v ∈ []) → Told c es r i o none v
    go (inl e) = record {
      by = ap (λ (w : Event). w.statement) e;
      at = ap (λ (w : Event). w.offset) e;
      item = λ k. absurd
          (not_one (is_stored_share (blocks_at es) (locator r o)) (sym (ap (λ (w : Event). w.kind) e) ∙ k));
      kind = inr (ap (λ (w : Event). w.kind) e);
    }
    go (inr k) = absurd (in_empty k)
told_of c es r i o (some y) v m = split (has_quorum c y.aggregator) m
  where
    go : (v ≡ record { kind = 1; statement = i; offset = o }) ⊎ (v ∈ []) → Told c es r i o (some y) v
    go (inl e) = record {
      by = ap (λ (w : Event). w.statement) e;
      at = ap (λ (w : Event). w.offset) e;
      item = λ k. (y, refl);
      kind = inl
          (ap (λ (w : Event). w.kind) e);
    }
    go (inr k) = absurd (in_empty k)

    split : (t : Bool) → v ∈ pick t (record { kind = 1; statement = i; offset = o } ∷ []) [] → Told c es r i o (some y) v
    split true k = go (in_cases k)
    split false k = absurd (in_empty k)

module _ (c : Committee) (rs : List Record) (a : AuthorityIndex) (k : known c a ≡ true) where
  vote_source : (i : ℕ) (s : Statement) (ss : List Statement) (r : Option TransactionLocatorRange) → voted_range s ≡ r → (z : Processing) → Sound c
      (entries rs) z → (v : Event)
      → v ∈ (vote c (entries rs) a i r z).events → (v ∈ z.events) ⊎ Source (entries rs) i (s ∷ ss) v
  unfolding vote
  vote_source i s ss none e z h v m = inl m
  vote_source i s ss (some q) e z h v m = go (in_append z.events m)
    where
      p : ℕ
      p = position_of (lookup (entries rs) q.block)

      after : List Item
      after = vote_over c a p q.start q.end z.items

      event : ℕ → List Event
      event o = event_of c (entries rs) q.block i o (item_at after p o)

      go : (v ∈ z.events) ⊎ (v ∈ flatten (map event (offsets q))) → (v ∈ z.events) ⊎ Source (entries rs) i (s ∷ ss) v
      go (inl n) = inl n
      go (inr n) =
          let x = flatten_in (map event (offsets q)) n in
          let o = map_in event (offsets q) x.2 in
          let t = told_of c (entries rs) q.block i o.0 (item_at after p o.0) v (subst (λ (l : List Event). v ∈ l) (sym o.2) x.1) in
          inr (record {
            index = 0;
            told = omega (arith, t.by);
            statement = s;
            stands = refl;
            range = q;
            votes = e;
            within =
                let i = offsets_in q o.0 o.1 in
                (omega (arith, t.at, i.0), omega (arith, t.at, i.1));
            missing = subst (λ (n : ℕ). (v.kind ≡ 1) ⊎ (v.kind ≡ missed (entries rs) q.block n)) (sym t.at) t.kind;
            processed = λ w.
                let y = t.item w in
                subst (λ (n : ℕ). Shared (entries rs) q.block n) (sym t.at)
                (item_shared c rs after (pending_vote_over c (entries rs) a k p q.start q.end z.items h.pending) q.block o.0 y.0 y.1);
          })

  pub votes_source : (i : ℕ) (ss : List Statement) (z : Processing) → Sound c (entries rs) z → (v : Event) → v ∈ (votes c (entries rs) a i ss z).events
      → (v ∈ z.events) ⊎ Source (entries rs) i ss v
  unfolding votes
  votes_source i [] z h v m = inl m
  votes_source i (s ∷ ss) z h v m = go (votes_source (i + 1) ss (vote c (entries rs) a i (voted_range s) z)
      (sound_vote c (entries rs) a k i (voted_range s) z h) v m)
    where
      go : (v ∈ (vote c (entries rs) a i (voted_range s) z).events) ⊎ Source (entries rs) (i + 1) ss v → (v ∈ z.events) ⊎ Source (entries rs) i (s ∷ ss) v
      go (inl n) = vote_source i s ss (voted_range s) refl z h v n
      go (inr u) = inr (later (entries rs) i s ss v u)

-- every event of an accepted feed has its source among the block's statements
pub processed_source : (c : Committee) (m : Lent) (r : Record) → passes (feed_checks c m (some r)) ≡ true → (v : Event) → v ∈ (processed c m r).events
    → Source (entries (r ∷ records_of m.store)) 0 r.block.statements v
unfolding processed process_block registering
processed_source c m r p v n =
    go (votes_source c (r ∷ records_of m.store) (author r.block) (known_author c (records_of m.store) r.block (passed c m r p).block) 0
    r.block.statements
    (registering c (entries (r ∷ records_of m.store)) r.block (items_of m.table)) (sound_registering c m r (lent_state c m r p) (passed c m r p)) v n)
  where
    go : (v ∈ []) ⊎ Source (entries (r ∷ records_of m.store)) 0 r.block.statements v → Source (entries (r ∷ records_of m.store)) 0
        r.block.statements v
    go (inl k) = absurd (in_empty k)
    go (inr u) = u
