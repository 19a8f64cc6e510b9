-- Walking the entries of a store by positions: what the reader reads, where it stands. Assumes nothing.
use mathlib.Core.Path.{◌≡◌, refl, sym, ap, subst, ◌∙◌}
use mathlib.Core.List.{List, [], ◌∷◌}
use mathlib.Core.Option.{Option, none, some, some-injective, none-ne-some}
use mathlib.Core.Bool.{Bool, true, false}
use Prim.Native.Nat.{ℕ, zero, suc, ◌+◌, ◌≤◌, ◌<◌}
use native.Mathlib.Omega.{arith}
use native.Mathlib.Decide.{dec_lt}
use native.Mathlib.Nat.{add_assoc}
use lib.Dec.{leb}
use lib.ListN.{length, take, drop, length-drop}
use lib.Seq.{length-take-le}
use borrow.Author.Tests.{leb-true}
use Rattle.base.specs.Lists.{pick}
use Rattle.base.specs.Le.{Bytes, le_at}
use Rattle.base.specs.Read.{Part, give, fail, onward, ◌>>=◌, items, number}
use Rattle.base.proofs.Lists.{Every, none_of, and}
use Rattle.base.proofs.Read.{part, bind_some}
use Rattle.base.proofs.Fixed.{items_at, number_at}
use Rattle.record_spec.specs.Record.{block_of}
use Rattle.store_spec.specs.Layout.{Record, read_record, used_by, entries}
use Rattle.store_spec.specs.Store.{give_record, read_entry, read_entries}
use Rattle.store_spec.proofs.Store.{right_block, read_record_some, read_record_bytes, give_record_some}

-- ---- reading at a position

items_long : (n : ℕ) (s : List ℕ) (q : Part (List ℕ)) → items n s ≡ some q → n ≤ length s
unfolding items
items_long n s q h = go (leb n (length s)) refl h
  where
    go : (t : Bool) → leb n (length s) ≡ t → pick t (some (part (take n s) (drop n s))) none ≡ some q → n ≤ length s
    go true e k = leb-true n (length s) e
    go false e k = absurd (none-ne-some q k)

-- ---- one entry

-- a record stands in the entry at a position
pub record Stands (s : Bytes) (p : ℕ) (r : Record) : Type 0 where
  pub inside : p + (8 + length r.bytes) ≤ length s
  pub size : le_at 4 s (p + 4) ≡ length r.bytes
  pub bytes : take (length r.bytes) (drop (p + 8) s) ≡ r.bytes
  pub block : block_of r.bytes ≡ some r.block

-- what follows the two numbers of an entry
entry_on : (s : Bytes) (p : ℕ) → p + 8 ≤ length s → read_entry (drop p s) ≡ (items (le_at 4 s (p + 4)) >>= (λ b. give_record (read_record b))) (drop (p + 8) s)
unfolding read_entry ◌>>=◌ onward
entry_on s p h = rw (number_at 4 s p (omega arith), number_at 4 s (p + 4) (omega arith), add_assoc p 4 4)

pub stands_reads : (s : Bytes) (p : ℕ) (r : Record) → Stands s p r → read_entry (drop p s) ≡ some (part r (drop (p + (8 + length r.bytes)) s))
unfolding ◌>>=◌ onward give_record give read_record
stands_reads s p r h =
    let i = h.inside in
    entry_on s p (omega arith)
    ∙ rw (h.size, items_at (length r.bytes) s (p + 8) (omega arith), h.bytes, h.block, add_assoc p 8 (length r.bytes))

given_rest : (o : Option Record) (t : List ℕ) (p : Part Record) → give_record o t ≡ some p → p.rest ≡ t
unfolding give_record give fail
given_rest none t p h = absurd (none-ne-some p h)
given_rest (some r) t p h = sym (ap (λ (q : Part Record). q.rest) (some-injective _ _ h))

-- what was read stands there
pub record Found (s : Bytes) (p : ℕ) (q : Part Record) : Type 0 where
  pub stands : Stands s p q.value
  pub rest : q.rest ≡ drop (p + (8 + length q.value.bytes)) s

number_long : (n : ℕ) (s : List ℕ) (q : Part ℕ) → number n s ≡ some q → n ≤ length s
unfolding number
number_long n s q h = let a = bind_some (items n) _ s q h in items_long n s a.0 a.1

pub reads_stands : (s : Bytes) (p : ℕ) (q : Part Record) → read_entry (drop p s) ≡ some q → Found s p q
unfolding read_entry
reads_stands s p q h =
    let a = bind_some (number 4) _ (drop p s) q h in
    let l₁ : p + 4 ≤ length s = omega (arith, number_long 4 (drop p s) a.0 a.1, length-drop p s) in
    let e₁ : a.0.rest ≡ drop (p + 4) s = ap (λ (x : Part ℕ). x.rest) (some-injective _ _ (sym a.1 ∙ number_at 4 s p l₁)) in
    let b = bind_some (number 4) _ a.0.rest q a.2 in
    let l₂ : p + 8 ≤ length s = omega (arith, number_long 4 a.0.rest b.0 b.1, ap length e₁, length-drop (p + 4) s) in
    let n : ℕ = le_at 4 s (p + 4) in
    let c = bind_some (items n) (λ x. give_record (read_record x)) (drop (p + 8) s) q (sym (entry_on s p l₂) ∙ h) in
    let l₃ : p + 8 + n ≤ length s = omega (arith, items_long n (drop (p + 8) s) c.0 c.1, length-drop (p + 8) s) in
    let e₃ : c.0 ≡ part (take n (drop (p + 8) s)) (drop (p + 8 + n) s) = some-injective _ _ (sym c.1 ∙ items_at n s (p + 8) l₃) in
    let g : read_record c.0.value ≡ some q.value = give_record_some (read_record c.0.value) c.0.rest q c.2 in
    let v : q.value.bytes ≡ take n (drop (p + 8) s) = read_record_bytes c.0.value q.value g ∙ ap (λ (x : Part (List ℕ)). x.value) e₃ in
    let m : length q.value.bytes ≡ n = ap length v ∙ length-take-le n (drop (p + 8) s) (omega (arith, length-drop (p + 8) s)) in
    let end : p + 8 + n ≡ p + (8 + length q.value.bytes) = omega arith in
    record {
      stands = record { inside = omega arith; size = sym m; bytes = rw m (sym v); block = right_block q.value (read_record_some c.0.value q.value g) };
      rest = given_rest (read_record c.0.value) c.0.rest q c.2 ∙ ap (λ (x : Part (List ℕ)). x.rest) e₃ ∙ ap (λ (k : ℕ). drop k s) end;
    }

-- ---- all entries

-- the records that stand one after the other from byte 16 on, the newest first
pub data Walked (s : Bytes) : List Record → Type 0 where
  begun : Walked s []
  then : {r : Record} {rs : List Record} → Walked s rs → Stands s (used_by rs) r → Walked s (r ∷ rs)

pub walked_reads : (s : Bytes) (rs : List Record) → Walked s rs → read_entries (length rs) (drop 16 s) ≡ some (part rs (drop (used_by rs) s))
unfolding read_entries used_by ◌>>=◌ onward give
walked_reads s [] begun = refl
walked_reads s (r ∷ rs) (then w h) = rw (walked_reads s rs w, stands_reads s (used_by rs) r h)

pub record Reached (s : Bytes) (n : ℕ) (q : Part (List Record)) : Type 0 where
  pub walked : Walked s q.value
  pub many : length q.value ≡ n
  pub rest : q.rest ≡ drop (used_by q.value) s

pub reads_walked : (s : Bytes) (n : ℕ) (q : Part (List Record)) → read_entries n (drop 16 s) ≡ some q → Reached s n q
unfolding read_entries give used_by
reads_walked s zero q h =
    subst (λ (x : Part (List Record)). Reached s 0 x) (some-injective _ _ h) (record { walked = begun; many = refl; rest = refl })
reads_walked s (suc n) q h =
    let a = bind_some (read_entries n) _ (drop 16 s) q h in
    let i : Reached s n a.0 = reads_walked s n a.0 a.1 in
    let b = bind_some read_entry _ a.0.rest q a.2 in
    let f : Found s (used_by a.0.value) b.0 = reads_stands s (used_by a.0.value) b.0 (sym (ap read_entry i.rest) ∙ b.1) in
    subst (λ (x : Part (List Record)). Reached s (suc n) x) (some-injective _ _ b.2)
    (record { walked = then i.walked f.stands; many = ap suc i.many; rest = f.rest })

-- the walk goes one way
pub walked_same : (s : Bytes) (rs qs : List Record) → Walked s rs → Walked s qs → length rs ≡ length qs → rs ≡ qs
walked_same s rs qs w v e =
    ap (λ (x : Part (List Record)). x.value) (some-injective _ _
    (sym (walked_reads s rs w) ∙ ap (λ (n : ℕ). read_entries n (drop 16 s)) e ∙ walked_reads s qs v))

pub walked_drop : (s : Bytes) (j : ℕ) (rs : List Record) → Walked s rs → Walked s (drop j rs)
walked_drop s zero rs w = w
walked_drop s (suc j) [] begun = begun
walked_drop s (suc j) (r ∷ rs) (then w h) = walked_drop s j rs w

-- a walk that does not go to the end goes on
pub walked_on : (s : Bytes) (rs qs : List Record) → Walked s rs → Walked s qs → length rs < length qs → (r : Record) × Stands s (used_by rs) r
walked_on s rs [] w v h = absurd (omega arith)
walked_on s rs (q ∷ qs) w (then v k) h = go (dec_lt (length rs) (length qs)) (walked_on s rs qs w v)
  where
    go : Dec (length rs < length qs) → (length rs < length qs → (r : Record) × Stands s (used_by rs) r) → (r : Record) × Stands s (used_by rs) r
    go (yes l) ih = ih l
    go (no l) ih = (q, rw (walked_same s rs qs w v (omega arith)) k)

-- the entries walked over lie in the store
pub walked_inside : (s : Bytes) (rs : List Record) → 16 ≤ length s → Walked s rs → used_by rs ≤ length s
unfolding used_by
walked_inside s [] l begun = l
walked_inside s (r ∷ rs) l (then w h) = h.inside

-- every entry of a walk holds the record that stands there
pub entries_stand : (s : Bytes) (rs : List Record) → Walked s rs → Every (λ e. Stands s e.position (record { bytes = e.bytes; block = e.block }))
    (entries rs)
unfolding entries
entries_stand s [] begun = none_of
entries_stand s (r ∷ rs) (then w h) = and h (entries_stand s rs w)
