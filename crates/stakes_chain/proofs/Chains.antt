-- The chain, worked out by steps, is the chain of the relation. Assumes nothing.
use mathlib.Core.Path.{◌≡◌, refl, sym, ap, subst}
use mathlib.Core.Bool.{Bool, true, false}
use mathlib.Core.List.{List, [], ◌∷◌}
use mathlib.Core.Option.{Option, none, some, some-injective, none-ne-some}
use Prim.Native.Nat.{ℕ, zero, suc, ◌+◌, ◌-◌, ◌/◌, ◌≤◌, ◌<◌}
use native.Mathlib.Omega.{arith}
use native.Mathlib.Decide.{ℕ_discrete, dec_le}
use lib.Dec.{ltb, leb}
use lib.ListN.{length, take, drop, get_or}
use lib.Seq.{drop-drop}
use borrow.Author.Tests.{eq-eqb, ne_eqb, ltb-true, leb-true}
use Rattle.base.specs.Lists.{pick, count_from, ◌∈◌, here, there, Once, empty, also}
use Rattle.base.specs.Le.{Bytes, le_at, le_number}
use Rattle.base.proofs.Tests.{and_left, and_right}
use Rattle.base.proofs.Members.{in_count_from}
use Rattle.base.proofs.Lists.{length_count_from}
use Rattle.base.proofs.Covered.{covered}
use Rattle.base.proofs.Places.{in_place}
use Rattle.base.proofs.Parts.{part_of_front}
use Rattle.stakes_chain.specs.Layout.{well_sized, record_count, place, first_index, next_index, in_file}
use Rattle.stakes_chain.specs.Chain.{Chain, ends, links, Chained, linked, chain_from, chain_of, Inside}
use Rattle.stakes_chain.specs.Claims.{SameOnChain}

-- elements that differ are no more than those of a list that has them all
no_more : (xs ys : List ℕ) → Once xs → ((a : ℕ) → a ∈ xs → a ∈ ys) → length xs ≤ length ys
no_more [] ys o f = omega arith
no_more (x ∷ xs) ys (also n o) f = go (dec_le (suc (length xs)) (length ys))
  where
    go : Dec (suc (length xs) ≤ length ys) → suc (length xs) ≤ length ys
    go (yes h) = h
    go (no h) = absurd (n (covered xs ys o (λ a m. f a (there m)) (omega arith) x (f x here)))

module _ (f : Bytes) where
  pub in_file_lem : (i : ℕ) → in_file f i ≡ true → (0 < i) × (i ≤ record_count f)
  unfolding in_file
  in_file_lem i h = (ltb-true 0 i (and_left (ltb 0 i) _ h), leb-true i (record_count f) (and_right (ltb 0 i) _ h))

  pub chain_inside : {i : ℕ} {is : List ℕ} → Chain f i is → (j : ℕ) → j ∈ is → in_file f j ≡ true
  chain_inside ends j x4 = elim x4 [ ]
  chain_inside (links h k) j here = h
  chain_inside (links h k) j (there m) = chain_inside k j m

  -- one chain from an index on
  pub chain_only : {i : ℕ} {is js : List ℕ} → Chain f i is → Chain f i js → is ≡ js
  chain_only ends ends = refl
  chain_only ends (links h k) = absurd (let l = (in_file_lem 0 h).0 in omega arith)
  chain_only (links h k) ends = absurd (let l = (in_file_lem 0 h).0 in omega arith)
  chain_only (links {i} h k) (links g l) = ap {B = List ℕ} (λ m. i ∷ m) (chain_only k l)

  -- from an index of the chain on there is a chain that is no longer
  chain_on : {i : ℕ} {is : List ℕ} → Chain f i is → (j : ℕ) → j ∈ is → (js : List ℕ) × Chain f j js × (length js ≤ length is)
  chain_on ends j x4 = elim x4 [ ]
  chain_on (links {i} {later} h k) j here = (i ∷ later, links h k, omega arith)
  chain_on (links {i} {later} h k) j (there m) = let r = chain_on k j m in let l = r.2 in (r.0, r.1, omega arith)

  -- so a chain that ends comes to no index a second time
  pub chain_once : {i : ℕ} {is : List ℕ} → Chain f i is → Once is
  chain_once ends = empty
  chain_once (links {i} {later} h k) =
      also (λ m. let r = chain_on k i m in let l = r.2 in let e = ap length (chain_only r.1 (links h k)) in omega arith) (chain_once k)

  pub chain_short : {i : ℕ} {is : List ℕ} → Chain f i is → length is ≤ record_count f
  chain_short {is} k =
      omega (
        arith,
        length_count_from 1 (record_count f),
        no_more is (count_from 1 (record_count f)) (chain_once k)
            (λ a m. let l = in_file_lem a (chain_inside k a m) in let p = l.0 in let q = l.1 in in_count_from 1 (record_count f) a p (omega arith)),
      )

  -- ---- the steps

  linked_some : (i : ℕ) (o : Option (List ℕ)) (is : List ℕ) → linked i o ≡ some is → (later : List ℕ) × (o ≡ some later) × (is ≡ i ∷ later)
  unfolding linked
  linked_some i none is h = absurd (none-ne-some is h)
  linked_some i (some later) is h = (later, refl, sym (some-injective _ _ h))

  at_end : (i : ℕ) (is : List ℕ) → i ≡ 0 → some [] ≡ some is → Chain f i is
  at_end i is e h = rw (e, ← some-injective _ _ h) ends

  pub from_chain : (n i : ℕ) (is : List ℕ) → chain_from n f i ≡ some is → Chain f i is
  unfolding chain_from
  from_chain zero i is h = go (ℕ_discrete i 0)
    where
      go : Dec (i ≡ 0) → Chain f i is
      go (yes e) = at_end i is e (rw (eq-eqb i 0 e) at h)
      go (no e) = absurd (none-ne-some is (rw (ne_eqb i 0 e) at h))
  from_chain (suc n) i is h = go (ℕ_discrete i 0) (in_file f i) refl (λ later k. from_chain n (next_index f i) later k)
    where
      go : Dec (i ≡ 0) → (t : Bool) → in_file f i ≡ t → ((later : List ℕ) → chain_from n f (next_index f i) ≡ some later → Chain f (next_index f i) later)
          → Chain
          f i is
      go (yes e) t k ih = at_end i is e (rw (eq-eqb i 0 e) at h)
      go (no e) false k ih = absurd (none-ne-some is (rw (ne_eqb i 0 e, k) at h))
      go (no e) true k ih =
          let r = linked_some i (chain_from n f (next_index f i)) is (rw (ne_eqb i 0 e, k) at h) in
          rw r.2 (links k (ih r.0 r.1))

  pub chain_from_lem : (n : ℕ) {i : ℕ} {is : List ℕ} → Chain f i is → length is ≤ n → chain_from n f i ≡ some is
  unfolding chain_from linked
  chain_from_lem zero ends l = refl
  chain_from_lem (suc n) ends l = refl
  chain_from_lem zero (links h k) l = absurd (omega arith)
  chain_from_lem (suc n) (links {i} {later} h k) l = rw (ne_eqb i 0 (λ e. let q = (in_file_lem i h).0 in omega arith), h, chain_from_lem n k (omega arith))

  pub chain_found : (is : List ℕ) → chain_of f ≡ some is → Chained f is
  unfolding chain_of
  chain_found is h = go (well_sized f) refl h
    where
      go : (t : Bool) → well_sized f ≡ t → pick t (chain_from (record_count f) f (first_index f)) none ≡ some is → Chained f is
      go true e k = let r = from_chain (record_count f) (first_index f) is k in record { sized = e; chain = r; once = chain_once r }
      go false e k = absurd (none-ne-some is k)

  pub found_chain : (is : List ℕ) → Chained f is → chain_of f ≡ some is
  unfolding chain_of
  found_chain is k = rw k.sized (chain_from_lem (record_count f) k.chain (chain_short k.chain))

-- ---- records of the file

pub long_enough : (f : Bytes) → well_sized f ≡ true → (2 ≤ length f) × (length f ≤ 65536)
unfolding well_sized
long_enough f h = (
  leb-true 2 (length f) (and_left (leb 2 (length f)) _ (and_right (leb (length f) 65536) _ h)),
  leb-true (length f) 65536
      (and_left (leb (length f) 65536) _ h),
)

pub record-inside : (f : Bytes) (i : ℕ) → well_sized f ≡ true → in_file f i ≡ true → place i + 26 ≤ length f
unfolding place record_count
record-inside f i h k =
    let l = in_file_lem f i k in
    let low : 0 < i = l.0 in
    let high : i ≤ (length f - 2) / 26 = l.1 in
    omega (arith, (long_enough f h).0)

pub chained_inside : (f : Bytes) (is : List ℕ) → Chained f is → Inside f is
chained_inside f is c =
    record {
      above = λ k h. (in_file_lem f (get_or is k 0) (chain_inside f c.chain _ (in_place 0 is k h))).0;
      below = λ k h. record-inside f (get_or is k 0) c.sized (chain_inside f c.chain _ (in_place 0 is k h));
    }

-- a part of a record, from the record's bytes
pub part_same : (f g : Bytes) (n m p : ℕ) → m + n ≤ 26 → take 26 (drop p f) ≡ take 26 (drop p g) → take n (drop (p + m) f) ≡ take n (drop (p + m) g)
part_same f g n m p h e =
    rw (← drop-drop m p f, ← drop-drop m p g, ← part_of_front n m 26 (drop p f) h, ← part_of_front n m 26 (drop p g) h, e)

-- records off the chain do not change it
pub off_chain_lem : (f g : Bytes) (is : List ℕ) → Chained f is → SameOnChain f g is → Chained g is
off_chain_lem f g is k a = record { sized = a.sized; chain = subst (λ (n : ℕ). Chain g n is) a.first (along k.chain (λ j m. m)); once = k.once }
  where
    next : (i : ℕ) → i ∈ is → next_index f i ≡ next_index g i
    next i m = unfold next_index le_at in let z : place i + 0 ≡ place i = omega arith in ap le_number
        (rw z at (part_same f g 2 0 (place i) (omega arith) (a.records i m)))

    along : {i : ℕ} {js : List ℕ} → Chain f i js → ((j : ℕ) → j ∈ js → j ∈ is) → Chain g i js
    along ends h = ends
    along (links {i} {later} l c) h = links (a.inside i (h i here)) (subst (λ (n : ℕ). Chain g n later) (next i (h i here)) (along c (λ j m. h j (there m))))
