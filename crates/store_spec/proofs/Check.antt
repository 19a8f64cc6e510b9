-- "In order" by the steps of the check: the header, the entries, the chain, and every record accepted after those before it. Assumes nothing.
use mathlib.Core.Path.{◌≡◌, refl, sym, ap, ◌∙◌}
use mathlib.Core.List.{List, [], ◌∷◌, ◌++◌, append_assoc, flatten, append-nil}
use mathlib.Core.Option.{Option, none, some}
use mathlib.Core.Bool.{Bool, true, false, not, ◌&&◌}
use Prim.Native.Nat.{ℕ, ◌+◌, ◌*◌, ◌^◌, ◌≤◌, ◌<◌}
use native.Mathlib.Omega.{arith}
use lib.Dec.{leb, eqb}
use lib.ListN.{length, take, drop, replicate, length-drop, take-append-drop}
use lib.Seq.{take-add, drop-drop, length-take-le}
use borrow.Author.Tests.{le-leb, leb-true, eq-eqb, eqb-true, not-true}
use Rattle.base.specs.Lists.{pick, all_of, ◌∈◌, here, there}
use Rattle.base.specs.Le.{Bytes, le_bytes, le_at, le_number}
use Rattle.base.specs.Read.{Part}
use Rattle.base.proofs.Tests.{and_left, and_right, same_test, fails}
use Rattle.base.proofs.Lists.{Every, none_of, and, every, every_keep, all_every, every_all, Pairs, no_pairs, with_later, pairwise_pairs, pairs_pairwise}
use Rattle.base.proofs.Le.{AllBytes, bytes_left, length_le_bytes, le_bytes_le_number, le_number_le_bytes, le_at_add, bytes_drop}
use Rattle.base.proofs.Read.{part}
use Rattle.base.proofs.Parts.{PartOf, part_taken, part_complete, part_left, part_right, part_part, part_at_lem, part_same}
use Rattle.committee.specs.Committee.{Committee}
use Rattle.record_spec.specs.Reference.{same_reference, reference_before}
use Rattle.store_spec.specs.Layout.{Record, used_by, Entry, reference_of, entries, lesser, least, position_of, first_position, next_position, entry_bytes}
use Rattle.store_spec.specs.Layout.{body_bytes, header_bytes, layout}
use Rattle.store_spec.specs.Accept.{all_accepted}
use Rattle.store_spec.specs.Store.{used_length, block_count, read_entries, records_read, records_of, allowed_length, store_in_order}
use Rattle.store_spec.specs.Entry.{header_right, ends_at, readable, chained, laid_out}
use Rattle.store_spec.proofs.Store.{InOrder, in_order_lem, to_order, longest, used_within, used_is, block_count_laid, laid, body_laid, entries_reads}
use Rattle.store_spec.proofs.Store.{records_of_right, length_body, length_header, entries_below}
use Rattle.store_spec.proofs.Walk.{Stands, Walked, begun, then, walked_reads, Reached, reads_walked}
use Rattle.store_spec.proofs.Chain.{Distinct, distinct}
use Rattle.store_spec.proofs.Payloads.{body_part}

-- ---- bytes by their numbers

bytes_take : (n : ℕ) (s : List ℕ) → AllBytes s → AllBytes (take n s)
bytes_take n s h = bytes_left (take n s) (drop n s) (rw (take-append-drop n s) h)

-- the n bytes from p on are those of their number
pub bytes_at : (n : ℕ) (s : Bytes) (p : ℕ) → AllBytes s → p + n ≤ length s → take n (drop p s) ≡ le_bytes n (le_at n s p)
unfolding le_at
bytes_at n s p b h =
    let t : Bytes = take n (drop p s) in
    sym (le_bytes_le_number t (bytes_take n (drop p s) (bytes_drop p s b)))
    ∙ ap (λ (k : ℕ). le_bytes k (le_number t)) (length-take-le n (drop p s) (omega (arith, length-drop p s)))

-- a number that was written is read
number_part : (n v : ℕ) (s : Bytes) (p : ℕ) → v < 256 ^ n → PartOf s (le_bytes n v) p → le_at n s p ≡ v
unfolding le_at
number_part n v s p h q =
    ap (λ (k : ℕ). le_number (take k (drop p s))) (sym (length_le_bytes n v)) ∙ ap le_number (part_taken s (le_bytes n v) p q) ∙ le_number_le_bytes n v h

-- ---- from the parts to the layout

header_bytes_lem : (s : Bytes) (rs : List Record) → AllBytes s → 16 ≤ length s → le_at 4 s 0 ≡ first_position (entries rs) → le_at 4 s 4 ≡ used_by rs
    → le_at 2 s 8 ≡
    length rs → le_at 6 s 10 ≡ 0
    → take 16 s ≡ header_bytes rs
unfolding header_bytes flatten le_bytes
header_bytes_lem s rs b l e₁ e₂ e₃ e₄ =
    rw (
      take-add 4 12 s,
      take-add 4 8 (drop 4 s),
      drop-drop 4 4 s,
      take-add 2 6 (drop 8 s),
      drop-drop 2 8 s,
      bytes_at 4 s 0 b (omega arith),
      bytes_at 4 s 4 b (omega arith),
      bytes_at 2 s 8 b (omega arith),
      bytes_at 6 s 10 b (omega arith),
      e₁,
      e₂,
      e₃,
      e₄,
    )

entry_bytes_lem : (s : Bytes) (es : List Entry) (p : ℕ) (r : Record) → AllBytes s → Stands s p r → le_at 4 s p ≡ next_position es
    (record { position = p; bytes = r.bytes; block = r.block })
    → take (8 + length r.bytes) (drop p s) ≡ entry_bytes es (record { position = p; bytes = r.bytes; block = r.block })
unfolding entry_bytes
entry_bytes_lem s es p r b h e =
    let i = h.inside in
    rw (
      take-add 8 (length r.bytes) (drop p s),
      take-add 4 4 (drop p s),
      drop-drop 4 p s,
      drop-drop 8 p s,
      bytes_at 4 s p b (omega arith),
      bytes_at 4 s (p + 4) b (omega arith),
      e,
      h.size,
      h.bytes,
    )
    (append_assoc (le_bytes 4 _) (le_bytes 4 (length r.bytes)) r.bytes)

walked_bytes : (s : Bytes) (es : List Entry) (rs : List Record) → AllBytes s → Walked s rs → Every (λ e. le_at 4 s e.position ≡ next_position es e)
    (entries rs)
    → take (used_by rs) s ≡ take 16 s ++ body_bytes es (entries rs)
unfolding used_by entries body_bytes
walked_bytes s es [] b begun none_of = sym (append-nil (take 16 s))
walked_bytes s es (r ∷ rs) b (then w h) (and e es') =
    take-add (used_by rs) (8 + length r.bytes) s
    ∙ rw (walked_bytes s es rs b w es', entry_bytes_lem s es (used_by rs) r b h e) (append_assoc (take 16 s) (body_bytes es (entries rs)) _)

pairs_same : {A : Type 0} {R S : A → A → Type 0} → ((x y : A) → R x y → S x y) → {xs : List A} → Pairs R xs → Pairs S xs
pairs_same f no_pairs = no_pairs
pairs_same {S = S} f (with_later {x = x} {xs = xs} h hs) = with_later (every (λ y k. f x y k) xs h) (pairs_same f hs)

pub in_every : {A : Type 0} {P : A → Type 0} (xs : List A) → ((x : A) → x ∈ xs → P x) → Every P xs
in_every [] f = none_of
in_every (x ∷ xs) f = and (f x here) (in_every xs (λ y m. f y (there m)))

-- what the steps of the check say
pub record HeaderRight (s : Bytes) : Type 0 where
  pub long : 16 ≤ length s
  pub short : length s ≤ 4294967295
  pub within : used_length s ≤ length s
  pub few : block_count s ≤ 1024
  pub zeros : le_at 4 s 10 ≡ 0
  pub zeros₂ : le_at 2 s 14 ≡ 0

six : (s : Bytes) → 16 ≤ length s → le_at 6 s 10 ≡ le_at 4 s 10 + 4294967296 * le_at 2 s 14
six s h = le_at_add 4 2 s 10 (omega arith)

pub header_right_lem : (s : Bytes) → header_right s ≡ true → HeaderRight s
unfolding header_right allowed_length
header_right_lem s h =
    let h₀ = and_left (allowed_length s) _ h in
    let h₁ = and_right (allowed_length s) _ h in
    let h₂ = and_right (leb (used_length s) (length s)) _ h₁ in
    let long : 16 ≤ length s = leb-true 16 (length s) (and_left (leb 16 (length s)) _ h₀) in
    let zero : le_at 6 s 10 ≡ 0 = eqb-true (le_at 6 s 10) 0 (and_right (leb (block_count s) 1024) _ h₂) in
    record {
      long = long;
      short = leb-true (length s) 4294967295 (and_right (leb 16 (length s)) _ h₀);
      within = leb-true (used_length s) (length s) (and_left _ _ h₁);
      few = leb-true (block_count s) 1024 (and_left _ _ h₂);
      zeros = omega (arith, six s long, zero);
      zeros₂ = omega (arith, six s long, zero);
    }

pub right_header : (s : Bytes) → HeaderRight s → header_right s ≡ true
unfolding header_right allowed_length
right_header s h =
    rw (
      le-leb 16 (length s) h.long,
      le-leb (length s) 4294967295 h.short,
      le-leb (used_length s) (length s) h.within,
      le-leb (block_count s) 1024 h.few,
      eq-eqb (le_at 6 s 10) 0 (omega (arith, six s h.long, h.zeros, h.zeros₂)),
    )

pub header_wrong : (s : Bytes) → (HeaderRight s → ⊥) → header_right s ≡ false
header_wrong s f = fails (header_right s) (λ h. f (header_right_lem s h))

pub record Readable (s : Bytes) : Type 0 where
  pub header : HeaderRight s
  pub walked : Walked s (records_of s)
  pub many : length (records_of s) ≡ block_count s
  pub used : used_by (records_of s) ≡ used_length s

pub is_readable : (s : Bytes) → readable s ≡ true → Readable s
unfolding readable ends_at records_of records_read
is_readable s h = go (read_entries (block_count s) (drop 16 s)) refl (and_right (header_right s) _ h)
  where
    go : (o : Option (Part (List Record))) → read_entries (block_count s) (drop 16 s) ≡ o → ends_at (used_length s) o ≡ true → Readable s
    go none e k = absurd (let z : false ≡ true = k in let y : ◌≡◌ {A = ℕ} 0 1 = cc in omega arith)
    go (some q) e k =
        let r : Reached s (block_count s) q = reads_walked s (block_count s) q e in
        record {
          header = header_right_lem s (and_left (header_right s) _ h);
          walked = rw e r.walked;
          many = rw e r.many;
          used = rw e
              (eqb-true (used_by q.value) (used_length s) k);
        }

pub readable_is : (s : Bytes) (rs : List Record) → header_right s ≡ true → Walked s rs → length rs ≡ block_count s → used_by rs ≡ used_length s → readable s
    ≡ true
unfolding readable ends_at
readable_is s rs h w m u = rw (h, ← m, walked_reads s rs w) (eq-eqb (used_by rs) (used_length s) u)

pub record Chained (s : Bytes) (es : List Entry) : Type 0 where
  pub first : le_at 4 s 0 ≡ first_position es
  pub next : Every (λ e. le_at 4 s e.position ≡ next_position es e) es
  pub distinct : Distinct es

pub is_chained : (s : Bytes) → chained s ≡ true → Chained s (entries (records_of s))
unfolding chained
is_chained s h =
    let es : List Entry = entries (records_of s) in
    let h₁ = and_right (eqb (le_at 4 s 0) (first_position es)) _ h in
    let nexts : Entry → Bool = λ e. eqb (le_at 4 s e.position) (next_position es e) in
    let others : Entry → Entry → Bool = λ e d. not (same_reference (reference_of e) (reference_of d)) in
    record {
      first = eqb-true (le_at 4 s 0) (first_position es) (and_left _ _ h);
      next = every (λ e k. eqb-true (le_at 4 s e.position) (next_position es e) k) es (all_every nexts es (and_left (all_of nexts es) _ h₁));
      distinct = pairs_same (λ e d k. not-true (same_reference (reference_of e) (reference_of d)) k)
          (pairwise_pairs others es (and_right (all_of nexts es) _ h₁));
    }

pub chained_is : (s : Bytes) → Chained s (entries (records_of s)) → chained s ≡ true
unfolding chained
chained_is s h =
    let es : List Entry = entries (records_of s) in
    let nexts : Entry → Bool = λ e. eqb (le_at 4 s e.position) (next_position es e) in
    let others : Entry → Entry → Bool = λ e d. not (same_reference (reference_of e) (reference_of d)) in
    rw (
      eq-eqb (le_at 4 s 0) (first_position es) h.first,
      every_all nexts es (every (λ e k. eq-eqb (le_at 4 s e.position) (next_position es e) k) es h.next),
    )
    (pairs_pairwise others es (pairs_same (λ e d k. rw k) h.distinct))

-- ---- from the layout to the parts

least_below : (n : ℕ) → 0 < n → (es : List Entry) → Every (λ e. e.position < n) es → position_of (least es) < n
unfolding position_of least lesser
least_below n h [] none_of = h
least_below n h (e ∷ es) (and k ks) = go (least es) (least_below n h es ks)
  where
    other : (d : Entry) → d.position < n → (t : Bool) → position_of (pick t (some e) (some d)) < n
    other d l true = k
    other d l false = l

    go : (o : Option Entry) → position_of o < n → position_of (lesser e o) < n
    go none l = k
    go (some d) l = other d l (reference_before (reference_of e) (reference_of d))

module _ (s : Bytes) (rs : List Record) (t : Bytes) (split : s ≡ layout rs ++ t) (short : used_by rs < 256 ^ 4) where
  zeros_laid : le_at 6 s 10 ≡ 0
  unfolding le_bytes
  zeros_laid =
      let f : Bytes = le_bytes 4 (first_position (entries rs)) in
      let u : Bytes = le_bytes 4 (used_by rs) in
      let n : Bytes = le_bytes 2 (length rs) in
      let z : Bytes = replicate 6 0 in
      number_part 6 0 s 10 (omega arith)
      (part_at_lem s z (length f + (length u + (length n + 0))) 10 (omega
      (arith, length_le_bytes 4 (first_position (entries rs)), length_le_bytes 4 (used_by rs), length_le_bytes 2 (length rs)))
      (part_same s _ z _ (split ∙ laid rs t) (part_right f _ z _ (part_right u _ z _ (part_right n _ z 0 (part_left z z _ 0 (part_complete z)))))))

  first_laid : le_at 4 s 0 ≡ first_position (entries rs)
  unfolding first_position
  first_laid =
      let f : Bytes = le_bytes 4 (first_position (entries rs)) in
      number_part 4 (first_position (entries rs)) s 0 (omega
      (arith, least_below (used_by rs) (omega (arith, length_body [] rs)) (entries rs) (entries_below rs)))
      (part_same s _ f 0 (split ∙ laid rs t) (part_left f f _ 0 (part_complete f)))

  next_laid : Every (λ e. le_at 4 s e.position ≡ next_position (entries rs) e) (entries rs)
  unfolding layout entry_bytes next_position
  next_laid = in_every (entries rs) one
    where
      one : (e : Entry) → e ∈ entries rs → le_at 4 s e.position ≡ next_position (entries rs) e
      one e m =
          let es : List Entry = entries rs in
          let v : ℕ = next_position es e in
          let h : Bytes = header_bytes rs in
          let own : Bytes = le_bytes 4 v in
          let p = body_part es rs e m in
          number_part 4 v s e.position (omega (
            arith,
            least_below (used_by rs) (omega (arith, length_body [] rs)) _
                (every_keep (λ d. reference_before (reference_of e) (reference_of d)) es (entries_below rs)),
          ))
          (part_at_lem s own (length h + (p.0 + 0)) e.position (omega (arith, length_header rs, p.2))
          (part_same s (layout rs ++ t) own _ split
          (part_left (layout rs) own t _
          (part_right h (body_bytes es es) own _ (part_part (body_bytes es es) (entry_bytes es e) own p.0 0 p.1
          (part_left own own _ 0 (part_complete own)))))))

-- what a store in order has: its entries read, its chain right
module _ (c : Committee) (s : Bytes) (o : InOrder c s) where
  abbrev whole : List Record
  whole = records_of s

  order_split : s ≡ layout whole ++ drop (used_length s) s
  order_split = sym (take-append-drop (used_length s) s) ∙ ap (λ (k : Bytes). k ++ drop (used_length s) s) o.used

  order_short : used_by whole < 256 ^ 4
  order_short = omega (arith, used_within c s o, longest s o.allowed)

  order_count : block_count s ≡ length whole
  order_count = ap block_count order_split ∙ block_count_laid whole (drop (used_length s) s) (omega (arith, o.few))

  order_header : header_right s ≡ true
  unfolding allowed_length
  order_header =
      let long : 16 ≤ length s = leb-true 16 (length s) (and_left (leb 16 (length s)) _ o.allowed) in
      let zero : le_at 6 s 10 ≡ 0 = zeros_laid s whole (drop (used_length s) s) order_split order_short in
      right_header s
      (record {
        long = long;
        short = longest s o.allowed;
        within = omega (arith, used_is c s o, used_within c s o);
        few = omega (arith, order_count, o.few);
        zeros = omega (arith, six s long, zero);
        zeros₂ = omega (arith, six s long, zero);
      })

  order_reads : read_entries (length whole) (drop 16 s) ≡ some (part whole (drop (used_length s) s))
  order_reads =
      let t : Bytes = drop (used_length s) s in
      ap (λ (k : Bytes). read_entries (length whole) (drop 16 k)) order_split
      ∙ ap (λ (k : Bytes). read_entries (length whole) k) (body_laid whole t)
      ∙ entries_reads (entries whole) whole t (records_of_right s) order_short

  order_readable : readable s ≡ true
  order_readable =
      let r : Reached s (length whole) (part whole (drop (used_length s) s)) = reads_walked s (length whole) _ order_reads in
      readable_is s whole order_header r.walked (sym order_count) (sym (used_is c s o))

  order_chained : chained s ≡ true
  order_chained =
      let t : Bytes = drop (used_length s) s in
      chained_is s
      (record {
        first = first_laid s whole t order_split order_short;
        next = next_laid s whole t order_split order_short;
        distinct = distinct c whole o.accepted;
      })

-- the used part of a store that is laid out is the layout of its records
pub laid_used : (s : Bytes) → AllBytes s → Readable s → Chained s (entries (records_of s)) → take (used_by (records_of s)) s ≡ layout (records_of s)
unfolding layout used_length block_count
laid_used s b r d =
    let rs : List Record = records_of s in
    let k : HeaderRight s = r.header in
    walked_bytes s (entries rs) rs b r.walked d.next
    ∙ ap (λ (x : Bytes). x ++ body_bytes (entries rs) (entries rs))
    (header_bytes_lem s rs b k.long d.first (sym r.used) (sym r.many) (omega (arith, six s k.long, k.zeros, k.zeros₂)))

-- the steps of the check decide it
pub order_checked : (c : Committee) (s : Bytes) → AllBytes s → store_in_order c s ≡ readable s && (chained s && all_accepted c (records_of s))
unfolding allowed_length
order_checked c s b = same_test _ _ there back
  where
    there : store_in_order c s ≡ true → readable s && (chained s && all_accepted c (records_of s)) ≡ true
    there h =
        let o : InOrder c s = in_order_lem c s h in
        rw (order_readable c s o, order_chained c s o) o.accepted

    back : readable s && (chained s && all_accepted c (records_of s)) ≡ true → store_in_order c s ≡ true
    back h =
        let rs : List Record = records_of s in
        let h₂ = and_right (readable s) _ h in
        let r : Readable s = is_readable s (and_left (readable s) _ h) in
        let k : HeaderRight s = r.header in
        let d : Chained s (entries rs) = is_chained s (and_left (chained s) _ h₂) in
        to_order c s
        (record {
          allowed = rw (le-leb 16 (length s) k.long) (le-leb (length s) 4294967295 k.short);
          used = rw (← r.used) (laid_used s b r d);
          few = omega (arith, r.many, k.few);
          accepted = and_right (chained s) _ h₂;
        })

-- one after the other
module _ (c : Committee) (s : Bytes) (b : AllBytes s) where
  pub order_no_header : header_right s ≡ false → store_in_order c s ≡ false
  unfolding readable
  order_no_header h = order_checked c s b ∙ rw h

  pub order_no_entries : readable s ≡ false → store_in_order c s ≡ false
  order_no_entries h = order_checked c s b ∙ rw h

  pub order_no_chain : readable s ≡ true → chained s ≡ false → store_in_order c s ≡ false
  order_no_chain h k = order_checked c s b ∙ rw (h, k)

  pub order_accepted : readable s ≡ true → chained s ≡ true → store_in_order c s ≡ all_accepted c (records_of s)
  order_accepted h k = order_checked c s b ∙ rw (h, k)

-- a store in order is laid out
pub order_laid : (c : Committee) (s : Bytes) → store_in_order c s ≡ true → laid_out s ≡ true
unfolding laid_out
order_laid c s h = let o : InOrder c s = in_order_lem c s h in rw (order_readable c s o) (order_chained c s o)
