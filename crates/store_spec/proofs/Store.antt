-- The store: what its layout writes is read back, and accepting a record keeps it in order. Assumes nothing.
use mathlib.Core.Path.{◌≡◌, refl, sym, ap, ◌∙◌}
use mathlib.Core.List.{List, [], ◌∷◌, ◌++◌, append_assoc, flatten}
use mathlib.Core.Option.{Option, none, some, map, some-injective, none-ne-some}
use mathlib.Core.Bool.{Bool, true, false}
use Prim.Native.Nat.{ℕ, zero, suc, ◌+◌, ◌^◌, ◌≤◌, ◌<◌}
use native.Mathlib.Omega.{arith}
use lib.Dec.{leb, ltb}
use lib.ListN.{length, take, drop, replicate, length-append, length-drop, length-take, take-append-drop}
use lib.Seq.{take_at, drop_at, drop-drop, drop-append-add}
use borrow.Author.Tests.{le-leb, leb-true, leb-false, ltb-false}
use Rattle.base.specs.Lists.{same}
use Rattle.base.specs.Le.{Bytes, le_bytes, le_at}
use Rattle.base.specs.Checks.{passes}
use Rattle.base.specs.Read.{Part, give, fail, onward, ◌>>=◌, items, number}
use Rattle.base.proofs.Tests.{and_left, and_right, neither_left, neither_right}
use Rattle.base.proofs.Orders.{same_true, same_refl}
use Rattle.base.proofs.Lists.{Every, none_of, and, every}
use Rattle.base.proofs.Le.{AllBytes, bytes_drop, length_le_bytes, le_number_le_bytes}
use Rattle.base.proofs.Read.{part, items_reads, number_of, number_reads, bind_some, Back, give_back, fail_back, bind_back, map_back, Items, items_back, Number}
use Rattle.base.proofs.Read.{number_back}
use Rattle.committee.specs.Committee.{Committee}
use Rattle.record_spec.specs.Block.{Block}
use Rattle.record_spec.specs.Record.{block_of}
use Rattle.store_spec.specs.Layout.{Record, read_record, used_by, Entry, entries, first_position, next_position, entry_bytes, body_bytes, header_bytes, layout}
use Rattle.store_spec.specs.Accept.{block_checks, all_accepted}
use Rattle.store_spec.specs.Store.{used_length, block_count, give_record, read_entry, read_entries, records_read, records_of, allowed_length, store_in_order}
use Rattle.store_spec.specs.Store.{store_full, store_holding}

-- a record whose bytes are read as its block
abbrev pub Right : Record → Type 0
Right r = read_record r.bytes ≡ some r

-- ---- lengths

pub length_entry : (es : List Entry) (e : Entry) → length (entry_bytes es e) ≡ 8 + length e.bytes
unfolding entry_bytes
length_entry es e =
    simp (length-append, length_le_bytes) (omega arith)

pub length_body : (es : List Entry) (rs : List Record) → 16 + length (body_bytes es (entries rs)) ≡ used_by rs
unfolding body_bytes entries used_by
length_body es [] = refl
length_body es (r ∷ rs) =
    let e : Entry = record { position = used_by rs; bytes = r.bytes; block = r.block } in
    omega (arith, length-append (body_bytes es (entries rs)) (entry_bytes es e), length_entry es e, length_body es rs)

pub length_header : (rs : List Record) → length (header_bytes rs) ≡ 16
unfolding header_bytes flatten
length_header rs = simp (length-append, length_le_bytes)

pub length_layout : (rs : List Record) → length (layout rs) ≡ used_by rs
unfolding layout
length_layout rs = simp (length-append, length_header) (length_body (entries rs) rs)

-- ---- the header, read

-- a store that begins with the layout of rs, field by field
pub laid : (rs : List Record) (t : List ℕ) → layout rs ++ t
    ≡ le_bytes 4 (first_position (entries rs)) ++ (le_bytes 4 (used_by rs) ++
    (le_bytes 2 (length rs) ++ (replicate 6 0 ++ (body_bytes (entries rs) (entries rs) ++ t))))
unfolding layout header_bytes flatten
laid rs t = simp append_assoc

pub used_length_laid : (rs : List Record) (t : List ℕ) → used_by rs < 256 ^ 4 → used_length (layout rs ++ t) ≡ used_by rs
unfolding used_length le_at
used_length_laid rs t h =
    rw (
      laid rs t,
      drop_at (le_bytes 4 (first_position (entries rs))) (le_bytes 4 (used_by rs) ++
          (le_bytes 2 (length rs) ++ (replicate 6 0 ++ (body_bytes (entries rs) (entries rs) ++ t)))) 4 (length_le_bytes 4 _),
      take_at (le_bytes 4 (used_by rs)) (le_bytes 2 (length rs) ++ (replicate 6 0 ++ (body_bytes (entries rs) (entries rs) ++ t))) 4 (length_le_bytes 4 _),
    )
    (le_number_le_bytes 4 (used_by rs) h)

pub block_count_laid : (rs : List Record) (t : List ℕ) → length rs < 256 ^ 2 → block_count (layout rs ++ t) ≡ length rs
unfolding block_count le_at
block_count_laid rs t h =
    rw (
      laid rs t,
      ← drop-drop 4 4 (le_bytes 4 (first_position (entries rs)) ++ (le_bytes 4 (used_by rs) ++
          (le_bytes 2 (length rs) ++ (replicate 6 0 ++ (body_bytes (entries rs) (entries rs) ++ t))))),
      drop_at (le_bytes 4 (first_position (entries rs))) (le_bytes 4 (used_by rs) ++
          (le_bytes 2 (length rs) ++ (replicate 6 0 ++ (body_bytes (entries rs) (entries rs) ++ t)))) 4 (length_le_bytes 4 _),
      drop_at (le_bytes 4 (used_by rs)) (le_bytes 2 (length rs) ++ (replicate 6 0 ++ (body_bytes (entries rs) (entries rs) ++ t))) 4 (length_le_bytes 4 _),
      take_at (le_bytes 2 (length rs)) (replicate 6 0 ++ (body_bytes (entries rs) (entries rs) ++ t)) 2 (length_le_bytes 2 _),
    )
    (le_number_le_bytes 2 (length rs) h)

-- ---- the entries, read

entry_reads : (es : List Entry) (p : ℕ) (r : Record) (t : List ℕ) → Right r → length r.bytes < 256 ^ 4
    → read_entry (entry_bytes es (record { position = p; bytes = r.bytes; block = r.block }) ++ t) ≡ some (part r t)
unfolding read_entry entry_bytes ◌>>=◌ onward give_record give
entry_reads es p r t h k =
    let e : Entry = record { position = p; bytes = r.bytes; block = r.block } in
    rw (
      append_assoc (le_bytes 4 (next_position es e)) (le_bytes 4 (length r.bytes) ++ r.bytes) t,
      number_of 4 (le_bytes 4 (next_position es e)) (le_bytes 4 (length r.bytes) ++ r.bytes ++ t) (length_le_bytes 4 _),
      append_assoc (le_bytes 4 (length r.bytes)) r.bytes t,
      number_reads 4 (length r.bytes) (r.bytes ++ t) k,
      items_reads (length r.bytes) r.bytes t refl,
      h,
    )

pub entries_reads : (es : List Entry) (rs : List Record) (t : List ℕ) → Every Right rs → used_by rs < 256 ^ 4
    → read_entries (length rs) (body_bytes es (entries rs) ++ t) ≡ some (part rs t)
unfolding read_entries entries body_bytes used_by ◌>>=◌ onward give
entries_reads es [] t none_of k = refl
entries_reads es (r ∷ rs) t (and h hs) k =
    let e : Entry = record { position = used_by rs; bytes = r.bytes; block = r.block } in
    rw (
      append_assoc (body_bytes es (entries rs)) (entry_bytes es e) t,
      entries_reads es rs (entry_bytes es e ++ t) hs (omega arith),
      entry_reads es (used_by rs) r t h (omega arith),
    )

pub body_laid : (rs : List Record) (t : List ℕ) → drop 16 (layout rs ++ t) ≡ body_bytes (entries rs) (entries rs) ++ t
unfolding layout
body_laid rs t =
    let b : List ℕ = body_bytes (entries rs) (entries rs) in
    rw (append_assoc (header_bytes rs) b t) (drop_at (header_bytes rs) (b ++ t) 16 (length_header rs))

-- what the layout of records wrote is read back
pub records_of_laid : (rs : List Record) (t : List ℕ) → Every Right rs → length rs < 256 ^ 2 → used_by rs < 256 ^ 4 → records_of (layout rs ++ t) ≡ rs
unfolding records_of records_read
records_of_laid rs t h m k = rw (block_count_laid rs t m, body_laid rs t, entries_reads (entries rs) rs t h k)

-- ---- the records of a store are right, whatever its bytes

pub give_record_some : (o : Option Record) (t : List ℕ) (p : Part Record) → give_record o t ≡ some p → o ≡ some p.value
unfolding give_record give fail
give_record_some none t p h = absurd (none-ne-some p h)
give_record_some (some r) t p h = ap {B = Option Record} (λ (q : Part Record). some q.value) (some-injective _ _ h)

-- a record that was read says what its bytes say
pub read_record_some : (b : Bytes) (r : Record) → read_record b ≡ some r → Right r
unfolding read_record
read_record_some b r h = go (block_of b) refl h
  where
    go : (o : Option Block) → block_of b ≡ o → map (λ x. record { bytes = b; block = x }) o ≡ some r → read_record r.bytes ≡ some r
    go none e k = absurd (none-ne-some r k)
    go (some x) e k = rw (← some-injective _ _ k) (rw e)

pub right_block : (r : Record) → Right r → block_of r.bytes ≡ some r.block
unfolding read_record
right_block r h = go (block_of r.bytes) h
  where
    go : (o : Option Block) → map (λ x. record { bytes = r.bytes; block = x }) o ≡ some r → o ≡ some r.block
    go none k = absurd (none-ne-some r k)
    go (some x) k = ap {B = Option Block} (λ (q : Record). some q.block) (some-injective _ _ k)

pub read_record_bytes : (b : Bytes) (r : Record) → read_record b ≡ some r → r.bytes ≡ b
unfolding read_record
read_record_bytes b r h = go (block_of b) h
  where
    go : (o : Option Block) → map (λ x. record { bytes = b; block = x }) o ≡ some r → r.bytes ≡ b
    go none k = absurd (none-ne-some r k)
    go (some x) k = sym (ap (λ (q : Record). q.bytes) (some-injective _ _ k))

entry_right : (s : List ℕ) (p : Part Record) → read_entry s ≡ some p → Right p.value
unfolding read_entry
entry_right s p h =
    let a = bind_some (number 4) _ s p h in
    let b = bind_some (number 4) _ a.0.rest p a.2 in
    let c = bind_some (items b.0.value) _ b.0.rest p b.2 in
    read_record_some c.0.value p.value (give_record_some (read_record c.0.value) c.0.rest p c.2)

entries_right : (n : ℕ) (s : List ℕ) (p : Part (List Record)) → read_entries n s ≡ some p → Every Right p.value
unfolding read_entries give
entries_right zero s p h = rw (← some-injective _ _ h) none_of
entries_right (suc n) s p h =
    let a = bind_some (read_entries n) _ s p h in
    let b = bind_some read_entry _ a.0.rest p a.2 in
    rw (← some-injective _ _ b.2) (and (entry_right a.0.rest b.0 b.1) (entries_right n s a.0 a.1))

pub records_of_right : (s : Bytes) → Every Right (records_of s)
unfolding records_of records_read
records_of_right s = go (read_entries (block_count s) (drop 16 s)) refl
  where
    go : (o : Option (Part (List Record))) → read_entries (block_count s) (drop 16 s) ≡ o → Every Right (records_read o)
    go none e = none_of
    go (some p) e = entries_right (block_count s) (drop 16 s) p e

-- the records of a store of bytes are bytes

Kept : List ℕ → Record → Type 0
Kept x r = AllBytes r.bytes

record-back : (b : Bytes) → AllBytes b → Back (give_record (read_record b)) Kept
unfolding give_record Kept
record-back b h = go (read_record b) refl
  where
    go : (o : Option Record) → read_record b ≡ o → Back (give_record o) Kept
    go none e = fail_back Kept
    go (some r) e = give_back Kept r (rw (read_record_bytes b r e) h)

entry_back : Back read_entry Kept
unfolding read_entry Kept
entry_back =
    bind_back _ _ (Number 4) Kept (number_back 4) λ p x a.
    bind_back _ _ (Number 4) _ (number_back 4) λ n y b.
    bind_back _ _ (Items n) _ (items_back n) λ v z i.
    record-back v i.bytes

entries_back : (n : ℕ) → Back (read_entries n) (λ x rs. Every (λ r. AllBytes r.bytes) rs)
unfolding read_entries Kept
entries_back zero = give_back _ [] none_of
entries_back (suc n) =
    bind_back _ _ (λ x rs. Every (λ r. AllBytes r.bytes) rs) _ (entries_back n) λ rs x h.
    map_back _ (λ r. r ∷ rs) Kept _ entry_back λ r y k. and k h

pub records_of_bytes : (s : Bytes) → AllBytes s → Every (λ r. AllBytes r.bytes) (records_of s)
unfolding records_of records_read
records_of_bytes s h = go (read_entries (block_count s) (drop 16 s)) refl
  where
    go : (o : Option (Part (List Record))) → read_entries (block_count s) (drop 16 s) ≡ o → Every (λ r. AllBytes r.bytes) (records_read o)
    go none e = none_of
    go (some p) e = (entries_back (block_count s) (drop 16 s) p (bytes_drop 16 s h) e).says

-- ---- in order

-- what "in order" says of a store
pub record InOrder (c : Committee) (s : Bytes) : Type 0 where
  pub allowed : allowed_length s ≡ true
  pub used : take (used_length s) s ≡ layout (records_of s)
  pub few : length (records_of s) ≤ 1024
  pub accepted : all_accepted c (records_of s) ≡ true

pub in_order_lem : (c : Committee) (s : Bytes) → store_in_order c s ≡ true → InOrder c s
unfolding store_in_order
in_order_lem c s h =
    let rs : List Record = records_of s in
    let h₁ = and_right (allowed_length s) _ h in
    let h₂ = and_right (same (take (used_length s) s) (layout rs)) _ h₁ in
    record {
      allowed = and_left (allowed_length s) _ h;
      used = same_true _ _ (and_left (same (take (used_length s) s) (layout rs)) _ h₁);
      few = leb-true (length rs) 1024 (and_left (leb (length rs) 1024) _ h₂);
      accepted = and_right (leb (length rs) 1024) _ h₂;
    }

pub to_order : (c : Committee) (s : Bytes) → InOrder c s → store_in_order c s ≡ true
unfolding store_in_order
to_order c s h = rw (h.allowed, h.used, same_refl (layout (records_of s)), le-leb (length (records_of s)) 1024 h.few) h.accepted

pub longest : (s : Bytes) → allowed_length s ≡ true → length s ≤ 4294967295
unfolding allowed_length
longest s h = leb-true (length s) 4294967295 (and_right (leb 16 (length s)) _ h)

-- the used part of a store in order lies in it
pub used_within : (c : Committee) (s : Bytes) → InOrder c s → used_by (records_of s) ≤ length s
used_within c s h =
    let e : length (take (used_length s) s) ≡ used_by (records_of s) = rw h.used (length_layout (records_of s)) in
    omega (arith, length-take (used_length s) s)

-- the used length that its header says is the length of the used part
pub used_is : (c : Committee) (s : Bytes) → InOrder c s → used_length s ≡ used_by (records_of s)
used_is c s h =
    let u : ℕ = used_length s in
    ap used_length (sym (take-append-drop u s)) ∙ ap (λ (l : Bytes). used_length (l ++ drop u s)) h.used
    ∙ used_length_laid (records_of s) (drop u s) (omega (arith, used_within c s h, longest s h.allowed))

-- a store that was made to hold accepted records
pub record Holding (c : Committee) (rs : List Record) (s : Bytes) : Type 0 where
  pub order : store_in_order c (store_holding rs s) ≡ true
  pub records : records_of (store_holding rs s) ≡ rs
  pub size : length (store_holding rs s) ≡ length s

-- it is in order, holds them, and is as long as before
pub holding : (c : Committee) (rs : List Record) (s : Bytes) → allowed_length s ≡ true → Every Right rs → length rs ≤ 1024 → used_by rs ≤ length s
    → all_accepted
    c rs ≡ true → Holding c rs s
unfolding store_holding allowed_length
holding c rs s a h few fits acc =
    record {
      order = to_order c (layout rs ++ drop (used_by rs) s) (record {
        allowed = rw size a;
        used = rw (used_length_laid rs (drop (used_by rs) s) small, records)
            (take_at (layout rs) (drop (used_by rs) s) (used_by rs) (length_layout rs));
        few = rw records few;
        accepted = rw records acc;
      });
      records = records;
      size = size;
    }
  where
    small : used_by rs < 256 ^ 4
    small = omega (arith, longest s a)

    records : records_of (layout rs ++ drop (used_by rs) s) ≡ rs
    records = records_of_laid rs (drop (used_by rs) s) h (omega arith) small

    size : length (layout rs ++ drop (used_by rs) s) ≡ length s
    size = simp (length-append, length-drop, length_layout) (omega arith)

-- accepting a record keeps a store in order: it holds that record and the others, and is as long as before
pub accepting : (c : Committee) (s : Bytes) (r : Record) → store_in_order c s ≡ true → Right r
    → passes (block_checks c (records_of s) r.block) ≡ true → store_full s r ≡ false → Holding c (r ∷ records_of s) s
unfolding all_accepted store_full
accepting c s r o h p f =
    let i : InOrder c s = in_order_lem c s o in
    let tooLong : Bool = ltb (length s) (used_by (r ∷ records_of s)) in
    holding c (r ∷ records_of s) s i.allowed (and h (records_of_right s))
    (leb-false 1024 (length (records_of s)) (neither_right tooLong _ f)) (ltb-false (length s) (used_by (r ∷ records_of s)) (neither_left tooLong _ f))
    (rw p i.accepted)

-- a fresh store is in order
pub fresh_held : (c : Committee) (s : Bytes) → allowed_length s ≡ true → Holding c [] s
unfolding all_accepted allowed_length used_by
fresh_held c s a = holding c [] s a none_of (omega arith) (leb-true 16 (length s) (and_left (leb 16 (length s)) _ a)) refl

-- holding one record more is the same from a store that held the others
pub holding_again : (r : Record) (rs : List Record) (s : Bytes) → store_holding (r ∷ rs) (store_holding rs s) ≡ store_holding (r ∷ rs) s
unfolding store_holding used_by
holding_again r rs s =
    let n : ℕ = 8 + length r.bytes in
    let e : drop (used_by rs + n) (layout rs ++ drop (used_by rs) s) ≡ drop (used_by rs + n) s =
    rw (← length_layout rs) (drop-append-add (layout rs) (drop (length (layout rs)) s) n ∙ drop-drop n (length (layout rs)) s) in
    ap (λ (l : Bytes). layout (r ∷ rs) ++ l) e

-- ---- positions

-- every entry stands below the end of the used part
pub entries_below : (rs : List Record) → Every (λ e. e.position < used_by rs) (entries rs)
unfolding entries used_by
entries_below [] = none_of
entries_below (r ∷ rs) =
    let own : used_by rs < used_by rs + (8 + length r.bytes) = omega arith in
    and own (every (λ e (h : e.position < used_by rs). omega arith) (entries rs) (entries_below rs))

-- every entry stands in the used part, after the header
pub record Within (n : ℕ) (e : Entry) : Type 0 where
  pub from : 16 ≤ e.position
  pub upto : e.position + 8 ≤ n

pub entries_within : (rs : List Record) → Every (Within (used_by rs)) (entries rs)
unfolding entries used_by
entries_within [] = none_of
entries_within (r ∷ rs) =
    let e : Entry = record { position = used_by rs; bytes = r.bytes; block = r.block } in
    and {x = e} (record { from = omega (arith, length_body [] rs); upto = omega arith })
    (every (λ d h. record { from = h.from; upto = omega (arith, h.upto) }) (entries rs) (entries_within rs))
