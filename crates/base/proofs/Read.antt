-- Laws of reading: what was written is read (forward), and what was read had been written so (back). Assumes nothing.
use mathlib.Core.Path.{◌≡◌, refl, sym, ap, ◌∙◌}
use mathlib.Core.List.{List, [], ◌∷◌, ◌++◌, map, append_assoc, flatten, append-nil}
use mathlib.Core.Option.{Option, none, some, some-injective, none-ne-some}
use mathlib.Core.Bool.{Bool, true, false}
use Prim.Native.Nat.{ℕ, zero, suc, ◌^◌, ◌<◌}
use native.Mathlib.Omega.{arith}
use lib.Dec.{leb}
use lib.ListN.{length, take, drop, length-append, take-append-drop}
use lib.Seq.{take_at, drop_at, length-take-le}
use borrow.Author.Tests.{le-leb, leb-true}
use Rattle.base.specs.Lists.{pick, is_empty}
use Rattle.base.specs.Le.{le_number, le_bytes}
use Rattle.base.specs.Read.{Part, Read, give, fail, onward, ◌>>=◌, items, number, given, repeated, complete}
use Rattle.base.proofs.Lists.{is_empty_true, Every, none_of, and}
use Rattle.base.proofs.Le.{AllBytes, bytes_left, bytes_right, length_le_bytes, le_number_le_bytes, le_bytes_le_number, le_number_lt}

abbrev pub part : {A : Type 0} → A → List ℕ → Part A
part a t = record { value = a; rest = t }

-- ---- forward

module _ {A B : Type 0} where
  -- after a part that is read, the rest of the reading
  pub bind_reads : (m : Read A) (f : A → Read B) (s : List ℕ) (p : Part A) → m s ≡ some p → (m >>= f) s ≡ f p.value p.rest
  unfolding ◌>>=◌ onward
  bind_reads m f s p h = rw h

pub items_reads : (n : ℕ) (v t : List ℕ) → length v ≡ n → items n (v ++ t) ≡ some (part v t)
unfolding items
items_reads n v t h =
    rw (le-leb n (length (v ++ t)) (omega (arith, length-append v t)), take_at v t n h, drop_at v t n h)

-- any n bytes are read as their number
pub number_of : (n : ℕ) (v t : List ℕ) → length v ≡ n → number n (v ++ t) ≡ some (part (le_number v) t)
unfolding number give
number_of n v t h = bind_reads (items n) (λ bs. give (le_number bs)) (v ++ t) (part v t) (items_reads n v t h)

pub number_reads : (n v : ℕ) (t : List ℕ) → v < 256 ^ n → number n (le_bytes n v ++ t) ≡ some (part v t)
number_reads n v t h = rw (le_number_le_bytes n v h) at (number_of n (le_bytes n v) t (length_le_bytes n v))

module _ {A : Type 0} (m : Read A) (w : A → List ℕ) where
  -- a reader gets back what the writer wrote
  abbrev pub ReadsBack : A → Type 0
  ReadsBack a = (t : List ℕ) → m (w a ++ t) ≡ some (part a t)

  pub repeated_reads : (xs : List A) → Every ReadsBack xs → (t : List ℕ) → repeated (length xs) m (flatten (map w xs) ++ t) ≡ some (part xs t)
  unfolding repeated flatten give ◌>>=◌ onward
  repeated_reads [] none_of t = refl
  repeated_reads (x ∷ xs) (and h hs) t = rw (append_assoc (w x) (flatten (map w xs)) t, h (flatten (map w xs) ++ t), repeated_reads xs hs t)

pub complete_reads : {A : Type 0} (m : Read A) (s : List ℕ) (a : A) → m s ≡ some (part a []) → complete (m s) ≡ some a
unfolding complete is_empty
complete_reads m s a h = rw h

-- ---- back

module _ {A B : Type 0} where
  -- what was read in two steps
  pub bind_some : (m : Read A) (f : A → Read B) (s : List ℕ) (p : Part B) → (m >>= f) s ≡ some p
      → (q : Part A) × (m s ≡ some q) × (f q.value q.rest ≡ some p)
  unfolding ◌>>=◌ onward
  bind_some m f s p h = go (m s) refl h
    where
      go : (o : Option (Part A)) → m s ≡ o → onward o f ≡ some p → (q : Part A) × (m s ≡ some q) × (f q.value q.rest ≡ some p)
      go none e k = absurd (none-ne-some p k)
      go (some q) e k = (q, e, k)

-- what was consumed and what it says
pub record Consumed {A : Type 0} (R : List ℕ → A → Type 0) (s : List ℕ) (p : Part A) : Type 0 where
  pub front : List ℕ
  pub splits : s ≡ front ++ p.rest
  pub says : R front p.value

-- whatever is read from bytes: the bytes consumed and the value stand in the relation R
abbrev pub Back : {A : Type 0} → Read A → (List ℕ → A → Type 0) → Type 0
Back {A} m R = (s : List ℕ) (p : Part A) → AllBytes s → m s ≡ some p → Consumed R s p

module _ {A : Type 0} where
  pub give_back : (R : List ℕ → A → Type 0) (a : A) → R [] a → Back (give a) R
  unfolding give
  give_back R a r s p b h =
      let e : part a s ≡ p = some-injective _ _ h in
      record { front = []; splits = ap (λ (q : Part A). q.rest) e; says = rw (← e) r }

  pub fail_back : (R : List ℕ → A → Type 0) → Back fail R
  unfolding fail
  fail_back R s p b h = absurd (none-ne-some p h)

  pub given_back : (t : Bool) (m : Read A) (R : List ℕ → A → Type 0) → (t ≡ true → Back m R) → Back (given t m) R
  unfolding given
  given_back true m R h = h refl
  given_back false m R h = fail_back R

module _ {A B : Type 0} where
  -- two parts, one after the other
  both_consumed : (R : List ℕ → A → Type 0) (S : List ℕ → B → Type 0) (s : List ℕ) (q : Part A) (p : Part B)
      → (c : Consumed R s q) → Consumed (λ y v. S (c.front ++ y) v) q.rest p → Consumed S s p
  both_consumed R S s q p c d =
      record {
        front = c.front ++ d.front;
        splits = c.splits ∙ ap (λ (r : List ℕ). c.front ++ r) d.splits ∙ sym (append_assoc c.front d.front p.rest);
        says = d.says;
      }

  pub bind_back : (m : Read A) (f : A → Read B) (R : List ℕ → A → Type 0) (S : List ℕ → B → Type 0)
      → Back m R → ((a : A) (x : List ℕ) → R x a → Back (f a) (λ y b. S (x ++ y) b)) → Back (m >>= f) S
  unfolding ◌>>=◌ onward
  bind_back m f R S hm hf s p b h = go (m s) refl h
    where
      go : (o : Option (Part A)) → m s ≡ o → onward o f ≡ some p → Consumed S s p
      go none e k = absurd (none-ne-some p k)
      go (some q) e k =
          let c : Consumed R s q = hm s q b e in
          both_consumed R S s q p c (hf q.value c.front c.says q.rest p (bytes_right c.front q.rest (rw c.splits at b)) k)

  -- where what is read in the end is one value, made from the first part
  pub map_back : (m : Read A) (f : A → B) (R : List ℕ → A → Type 0) (S : List ℕ → B → Type 0)
      → Back m R → ((a : A) (x : List ℕ) → R x a → S x (f a)) → Back (m >>= (λ a. give (f a))) S
  map_back m f R S hm hf =
      bind_back m (λ a. give (f a)) R S hm (λ a x r. give_back (λ y b. S (x ++ y) b) (f a) (rw (append-nil x) (hf a x r)))

-- n items are what was consumed
pub record Items (n : ℕ) (x v : List ℕ) : Type 0 where
  pub are : x ≡ v
  pub many : length v ≡ n
  pub bytes : AllBytes v

pub items_back : (n : ℕ) → Back (items n) (Items n)
unfolding items
items_back n s p b h = go (leb n (length s)) refl h
  where
    go : (t : Bool) → leb n (length s) ≡ t → pick t (some (part (take n s) (drop n s))) none ≡ some p → Consumed (Items n) s p
    go false e k = absurd (none-ne-some p k)
    go true e k =
        let q : part (take n s) (drop n s) ≡ p = some-injective _ _ k in
        rw (← q) (record {
          front = take n s;
          splits = sym (take-append-drop n s);
          says = record
              { are = refl; many = length-take-le n s (leb-true n (length s) e); bytes = bytes_left (take n s) (drop n s) (rw (take-append-drop n s) b) };
        })

-- a number is the little-endian number of the n bytes that were consumed
pub record Number (n : ℕ) (x : List ℕ) (v : ℕ) : Type 0 where
  pub are : x ≡ le_bytes n v
  pub fits : v < 256 ^ n

pub number_back : (n : ℕ) → Back (number n) (Number n)
unfolding number
number_back n = map_back (items n) le_number (Items n) (Number n) (items_back n) says
  where
    says : (v x : List ℕ) → Items n x v → Number n x (le_number v)
    says v x r = record {
      are = r.are ∙ sym (le_bytes_le_number v r.bytes) ∙ ap (λ (k : ℕ). le_bytes k (le_number v)) r.many;
      fits = rw r.many at
          (le_number_lt v r.bytes);
    }

module _ {A : Type 0} (w : A → List ℕ) (P : A → Type 0) where
  -- one thing was written by w, and P holds of it
  pub record One (x : List ℕ) (a : A) : Type 0 where
    pub are : x ≡ w a
    pub right : P a

  -- n things were written by w one after the other, and P holds of each
  pub record Many (n : ℕ) (x : List ℕ) (as' : List A) : Type 0 where
    pub are : x ≡ flatten (map w as')
    pub many : length as' ≡ n
    pub right : Every P as'

  pub repeated_back : (m : Read A) (n : ℕ) → Back m One → Back (repeated n m) (Many n)
  unfolding repeated flatten
  repeated_back m zero h = give_back (Many 0) [] (record { are = refl; many = refl; right = none_of })
  repeated_back m (suc n) h =
      bind_back m (λ a. repeated n m >>= (λ rest. give (a ∷ rest))) One (Many (suc n)) h
      (λ a x r. map_back (repeated n m) (λ rest. a ∷ rest) (Many n) (λ y as'. Many (suc n) (x ++ y) as') (repeated_back m n h)
      (λ as' y q. record { are = rw (r.are, q.are); many = ap suc q.many; right = and r.right q.right }))

-- the whole is what was consumed
pub complete_back : {A : Type 0} (m : Read A) (R : List ℕ → A → Type 0) → Back m R → (s : List ℕ) (a : A) → AllBytes s → complete (m s) ≡ some a → R s a
unfolding complete
complete_back {A} m R h s a b k = go (m s) refl k
  where
    ends : (p : Part A) (t : Bool) → is_empty p.rest ≡ t → m s ≡ some p → pick t (some p.value) none ≡ some a → R s a
    ends p false e f g = absurd (none-ne-some a g)
    ends p true e f g =
        let c : Consumed R s p = h s p b f in
        let all_of : s ≡ c.front = c.splits ∙ ap (λ (r : List ℕ). c.front ++ r) (is_empty_true p.rest e) ∙ append-nil c.front in
        rw (← some-injective _ _ g) (rw (← all_of) at c.says)

    go : (o : Option (Part A)) → m s ≡ o → complete o ≡ some a → R s a
    go none e g = absurd (none-ne-some a g)
    go (some p) e g = ends p (is_empty p.rest) refl e g
