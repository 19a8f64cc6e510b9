-- The order of references is that of their words. Assumes nothing.
use mathlib.Core.Path.{◌≡◌, refl, sym, ap, ◌∙◌}
use mathlib.Core.Bool.{Bool, true, false, ◌&&◌, ◌||◌}
use mathlib.Core.List.{List, [], ◌∷◌, ◌++◌, reverse_aux, reverse_aux-eq}
use Prim.Native.Nat.{ℕ, zero, suc, ◌*◌, ◌/◌, ◌%◌, ◌^◌, ◌<◌}
use native.Mathlib.Nat.{pow-suc}
use native.Mathlib.Omega.{arith}
use native.Mathlib.Decide.{dec_lt, ℕ_discrete}
use lib.Dec.{eqb, ltb}
use borrow.Author.Tests.{eq-eqb, ne_eqb, lt-ltb, le-ltb}
use Rattle.base.specs.Lists.{pick, same, before}
use Rattle.base.specs.Le.{le_bytes}
use Rattle.record_spec.specs.Reference.{BlockReference, TransactionLocator, reference_key, same_reference, reference_before, same_locator, locator_before}
use Rattle.types.specs.Values.{be_bytes, digest_bytes, as_reference, order_of, word_order, key_order, reference_order, locator_order}
use mir.Syntax.{w64}
use mir.Val.{Fits}
use Rattle.base.proofs.Tests.{fails}
use Rattle.record_spec.proofs.References.{reference_same, reference_irrefl, reference_other}
use Rattle.types.specs.declared.BlockDigest as digest
use Rattle.types.specs.declared.BlockReference as declared
use Rattle.std.specs.declared.cmp.Ordering.{Ordering}
use Rattle.std.specs.declared.cmp.Ordering.TheVariants.{Less, Equal, Greater}

pub word_same : (v w : ℕ) → v ≡ w → word_order v w ≡ Equal
unfolding word_order order_of
word_same v w h = rw (eq-eqb v w h)

pub word_less : (v w : ℕ) → v < w → word_order v w ≡ Less
unfolding word_order order_of
word_less v w h = rw (ne_eqb v w (λ e. omega arith), lt-ltb v w h)

pub word_greater : (v w : ℕ) → w < v → word_order v w ≡ Greater
unfolding word_order order_of
word_greater v w h = rw (ne_eqb v w (λ e. omega arith), le-ltb v w (omega arith))

-- the first number decides unless it is the same
pub key_step : (x y : ℕ) (xs ys : List ℕ) → key_order (x ∷ xs) (y ∷ ys) ≡ pick (eqb x y) (key_order xs ys) (word_order x y)
unfolding key_order word_order order_of same before
key_step x y xs ys = go (ℕ_discrete x y)
  where
    none_of : (t : Bool) → pick (false && same xs ys) Equal (pick (t || (false && before xs ys)) Less Greater) ≡ pick t Less Greater
    none_of true = refl
    none_of false = refl

    go : Dec (x ≡ y) → pick (eqb x y && same xs ys) Equal (pick (ltb x y || (eqb x y && before xs ys)) Less Greater) ≡ pick (eqb x y)
        (pick (same xs ys) Equal (pick (before xs ys) Less Greater)) (pick (eqb x y) Equal (pick (ltb x y) Less Greater))
    go (yes e) = rw (eq-eqb x y e, le-ltb x y (omega arith))
    go (no e) = rw (ne_eqb x y e) (none_of (ltb x y))

-- the bytes of a number, the highest first, decide as the number does
bytes_step : (n v w : ℕ) (xs ys : List ℕ) → v < 256 ^ n → w < 256 ^ n
    → key_order (reverse_aux (le_bytes n v) xs) (reverse_aux (le_bytes n w) ys) ≡ pick (eqb v w) (key_order xs ys) (word_order v w)
unfolding le_bytes
bytes_step zero v w xs ys h k = rw (eq-eqb v w (omega arith))
bytes_step (suc n) v w xs ys h k =
    let h' : v < 256 ^ n * 256 = rw (pow-suc 256 n) at h in
    let k' : w < 256 ^ n * 256 = rw (pow-suc 256 n) at k in
    bytes_step n (v / 256) (w / 256) (v % 256 ∷ xs) (w % 256 ∷ ys) (omega arith) (omega arith)
    ∙ rw (key_step (v % 256) (w % 256) xs ys) (go (ℕ_discrete (v / 256) (w / 256)) (ℕ_discrete (v % 256) (w % 256)) (dec_lt v w))
  where
    go : Dec (v / 256 ≡ w / 256) → Dec (v % 256 ≡ w % 256) → Dec (v < w)
        → pick (eqb (v / 256) (w / 256)) (pick (eqb (v % 256) (w % 256)) (key_order xs ys) (word_order (v % 256) (w % 256))) (word_order (v / 256) (w / 256))
        ≡ pick (eqb v w) (key_order xs ys) (word_order v w)
    go (yes a) (yes b) c = rw (eq-eqb (v / 256) (w / 256) a, eq-eqb (v % 256) (w % 256) b, eq-eqb v w (omega arith))
    go (yes a) (no b) (yes c) = rw (eq-eqb (v / 256) (w / 256) a, ne_eqb (v % 256) (w % 256) b, ne_eqb v w (λ e. omega arith), word_less v w c)
        (word_less (v % 256) (w % 256) (omega arith))
    go (yes a) (no b) (no c) = rw (
      eq-eqb (v / 256) (w / 256) a,
      ne_eqb (v % 256) (w % 256) b,
      ne_eqb v w (λ (e : v ≡ w). b (ap (λ x. x % 256) e)),
      word_greater v w (omega arith),
    ) (word_greater (v % 256) (w % 256) (omega arith))
    go (no a) b (yes c) = rw (ne_eqb (v / 256) (w / 256) a, ne_eqb v w (λ e. omega arith), word_less v w c) (word_less (v / 256) (w / 256) (omega arith))
    go (no a) b (no c) = rw (ne_eqb (v / 256) (w / 256) a, ne_eqb v w (λ (e : v ≡ w). a (ap (λ x. x / 256) e)), word_greater v w (omega arith))
        (word_greater (v / 256) (w / 256) (omega arith))

pub word_step : (n v w : ℕ) (xs ys : List ℕ) → v < 256 ^ n → w < 256 ^ n → key_order (be_bytes n v ++ xs) (be_bytes n w ++ ys)
    ≡ pick (eqb v w) (key_order xs ys)
    (word_order v w)
unfolding be_bytes
word_step n v w xs ys h k = rw (← reverse_aux-eq (le_bytes n v) xs, ← reverse_aux-eq (le_bytes n w) ys) (bytes_step n v w xs ys h k)

-- one word alone
pub word_last : (n v w : ℕ) → v < 256 ^ n → w < 256 ^ n → key_order (be_bytes n v) (be_bytes n w) ≡ word_order v w
unfolding be_bytes key_order same before order_of
word_last n v w h k = bytes_step n v w [] [] h k ∙ go (ℕ_discrete v w)
  where
    go : Dec (v ≡ w) → pick (eqb v w) Equal (word_order v w) ≡ word_order v w
    go (yes e) = rw (eq-eqb v w e) (sym (word_same v w e))
    go (no e) = rw (ne_eqb v w e)

-- what the code knows of a digest's words
abbrev pub Words : digest.BlockDigest → Type 0
Words d = Fits w64 d.0 × (Fits w64 d.1 × (Fits w64 d.2 × (Fits w64 d.3 × Unit {0})))

module _ (a b : digest.BlockDigest) where
  -- a digest's bytes are ordered as its words
  pub digest_order : Words a → Words b
      → key_order (digest_bytes a) (digest_bytes b)
      ≡ pick (eqb a.0 b.0)
      (pick (eqb a.1 b.1) (pick (eqb a.2 b.2) (word_order a.3 b.3) (word_order a.2 b.2)) (word_order a.1 b.1))
      (word_order a.0 b.0)
  unfolding digest_bytes
  digest_order h k =
      rw (
        word_step 8 a.0 b.0 (be_bytes 8 a.1 ++ (be_bytes 8 a.2 ++ be_bytes 8 a.3)) (be_bytes 8 b.1 ++ (be_bytes 8 b.2 ++ be_bytes 8 b.3))
            (omega (arith, h.0)) (omega (arith, k.0)),
        word_step 8 a.1 b.1 (be_bytes 8 a.2 ++ be_bytes 8 a.3) (be_bytes 8 b.2 ++ be_bytes 8 b.3) (omega (arith, h.1.0))
            (omega (arith, k.1.0)),
        word_step 8 a.2 b.2 (be_bytes 8 a.3) (be_bytes 8 b.3) (omega (arith, h.1.1.0)) (omega (arith, k.1.1.0)),
        word_last 8 a.3 b.3 (omega (arith, h.1.1.1.0)) (omega (arith, k.1.1.1.0)),
      )

module _ (a b : declared.BlockReference) where
  pub reference_order_lem : reference_order (as_reference a) (as_reference b)
      ≡ pick (eqb a.round.0 b.round.0)
      (pick (eqb a.authority.0 b.authority.0) (key_order (digest_bytes a.digest) (digest_bytes b.digest))
      (word_order a.authority.0 b.authority.0))
      (word_order a.round.0 b.round.0)
  unfolding reference_order same_reference reference_before reference_key as_reference key_order
  reference_order_lem = by_round ∙ ap (λ (o : Ordering). pick (eqb a.round.0 b.round.0) o (word_order a.round.0 b.round.0)) by_author
    where
      by_round : key_order (a.round.0 ∷ a.authority.0 ∷ digest_bytes a.digest) (b.round.0 ∷ b.authority.0 ∷ digest_bytes b.digest)
          ≡ pick (eqb a.round.0 b.round.0) (key_order (a.authority.0 ∷ digest_bytes a.digest) (b.authority.0 ∷ digest_bytes b.digest))
          (word_order a.round.0 b.round.0)
      by_round = key_step a.round.0 b.round.0 (a.authority.0 ∷ digest_bytes a.digest) (b.authority.0 ∷ digest_bytes b.digest)

      by_author : key_order (a.authority.0 ∷ digest_bytes a.digest) (b.authority.0 ∷ digest_bytes b.digest)
          ≡ pick (eqb a.authority.0 b.authority.0) (key_order (digest_bytes a.digest) (digest_bytes b.digest))
          (word_order a.authority.0 b.authority.0)
      by_author = key_step a.authority.0 b.authority.0 (digest_bytes a.digest) (digest_bytes b.digest)

-- ---- what an order says of the tests that it was told from, and locators

pub order_equal : (s t : Bool) → order_of s t ≡ Equal → s ≡ true
unfolding order_of
order_equal true t h = refl
order_equal false true h = absurd (let z : ◌≡◌ {A = ℕ} 0 1 = cc in omega arith)
order_equal false false h = absurd (let z : ◌≡◌ {A = ℕ} 0 1 = cc in omega arith)

pub order_less : (s t : Bool) → order_of s t ≡ Less → (s ≡ false) × (t ≡ true)
unfolding order_of
order_less true t h = absurd (let z : ◌≡◌ {A = ℕ} 0 1 = cc in omega arith)
order_less false true h = (refl, refl)
order_less false false h = absurd (let z : ◌≡◌ {A = ℕ} 0 1 = cc in omega arith)

pub order_greater : (s t : Bool) → order_of s t ≡ Greater → (s ≡ false) × (t ≡ false)
unfolding order_of
order_greater true t h = absurd (let z : ◌≡◌ {A = ℕ} 0 1 = cc in omega arith)
order_greater false true h = absurd (let z : ◌≡◌ {A = ℕ} 0 1 = cc in omega arith)
order_greater false false h = (refl, refl)

-- what an answer of `compare` says
module _ (r q : BlockReference) where
  pub compared_equal : reference_order r q ≡ Equal → same_reference r q ≡ true
  unfolding reference_order
  compared_equal h = order_equal (same_reference r q) (reference_before r q) h

  pub compared_less : reference_order r q ≡ Less → (same_reference r q ≡ false) × (reference_before r q ≡ true)
  unfolding reference_order
  compared_less h = order_less (same_reference r q) (reference_before r q) h

  pub compared_greater : reference_order r q ≡ Greater → (same_reference r q ≡ false) × (reference_before q r ≡ true)
  unfolding reference_order
  compared_greater h =
      let p = order_greater (same_reference r q) (reference_before r q) h in
      (p.0, reference_other r q p.0 p.1)

module _ (l m : TransactionLocator) where
  pub locator_equal : reference_order l.block m.block ≡ Equal → locator_order l m ≡ word_order l.offset m.offset
  unfolding reference_order locator_order word_order same_locator locator_before
  locator_equal h =
      let e : same_reference l.block m.block ≡ true = compared_equal l.block m.block h in
      let f : reference_before l.block m.block ≡ false = fails _ (λ k. reference_irrefl m.block (rw (reference_same l.block m.block e) at k)) in
      rw (e, f)

  pub locator_less : reference_order l.block m.block ≡ Less → locator_order l m ≡ Less
  unfolding reference_order locator_order order_of same_locator locator_before
  locator_less h = go (same_reference l.block m.block) (reference_before l.block m.block) h
    where
      go : (s t : Bool) → order_of s t ≡ Less → order_of (s && eqb l.offset m.offset) (t || (s && ltb l.offset m.offset)) ≡ Less
      go true t k = absurd (let z : ◌≡◌ {A = ℕ} 0 1 = cc in omega arith)
      go false true k = refl
      go false false k = k

  pub locator_greater : reference_order l.block m.block ≡ Greater → locator_order l m ≡ Greater
  unfolding reference_order locator_order order_of same_locator locator_before
  locator_greater h = go (same_reference l.block m.block) (reference_before l.block m.block) h
    where
      go : (s t : Bool) → order_of s t ≡ Greater → order_of (s && eqb l.offset m.offset) (t || (s && ltb l.offset m.offset)) ≡ Greater
      go true t k = absurd (let z : ◌≡◌ {A = ℕ} 0 1 = cc in omega arith)
      go false true k = absurd (let z : ◌≡◌ {A = ℕ} 0 1 = cc in omega arith)
      go false false k = refl
