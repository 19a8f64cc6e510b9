-- The slice as it fills, stretch by stretch. Assumes nothing.
use mathlib.Core.Path.{◌≡◌, refl, sym, ap, ◌∙◌}
use mathlib.Core.Bool.{true, false}
use mathlib.Core.List.{List, [], ◌∷◌, ◌++◌, map, flatten, append_assoc, map-append, append-nil}
use mathlib.Core.Option.{Option, none, some}
use Prim.Native.Nat.{ℕ, zero, suc, ◌+◌, ◌-◌, ◌*◌, ◌≤◌, ◌<◌}
use native.Mathlib.Omega.{arith}
use native.Mathlib.Numerals.{add-one, sub-one}
use lib.ListN.{length, drop, length-append}
use lib.Seq.{sets, length-sets}
use Rattle.base.specs.Lists.{keep, is_none}
use Rattle.committee.specs.Committee.{Committee, Stake}
use Rattle.committee_set.specs.AuthoritySet.{set_of, stake_of}
use Rattle.record_spec.specs.Reference.{TransactionLocator}
use Rattle.record_spec.specs.Block.{Block, author}
use Rattle.final_certifying.proofs.Finding.{written_more}
use Rattle.list_stretches_spec.specs.Stretches.{Listing, FinalStretch, last_locator, stretch_end, stretch_at, from_found, stretches, reached, more_follow}
use Rattle.list_stretches_spec.specs.Bulk.{stretch_bytes, given_after, bytes_after}
use Rattle.list_stretch_bytes.specs.Step.{final_stretch, Filled}
use Rattle.list_stretch_bytes.proofs.Stretch.{eighty}

-- ---- one stretch more, or none

module _ (c : Committee) (bs : List Block) (k : Listing) where
  pub stretches_none : (n : ℕ) (after : Option TransactionLocator) → k.next after ≡ none → stretches c bs k n after ≡ []
  unfolding stretches from_found
  stretches_none zero after e = refl
  stretches_none (suc n) after e = rw e

  pub stretches_some : (n : ℕ) (after : Option TransactionLocator) (l : TransactionLocator) → 0 < n → k.next after ≡ some l
      → stretches c bs k n after ≡ stretch_at c bs k l ∷ stretches c bs k (n - 1) (some (last_locator (stretch_at c bs k l)))
  unfolding stretches from_found
  stretches_some zero after l h e = absurd (omega arith)
  stretches_some (suc n) after l h e = rw (e, sub-one (suc n))

  pub stretches_full : (n : ℕ) (after : Option TransactionLocator) → n ≡ 0 → stretches c bs k n after ≡ []
  unfolding stretches
  stretches_full n after e = rw e

  more_no : (after : Option TransactionLocator) → k.next after ≡ none → more_follow k after ≡ false
  unfolding more_follow is_none
  more_no after e = rw e

  more_yes : (after : Option TransactionLocator) (l : TransactionLocator) → k.next after ≡ some l → more_follow k after ≡ true
  unfolding more_follow is_none
  more_yes after l e = rw e

reached_append : (after : Option TransactionLocator) (ts : List FinalStretch) (t : FinalStretch) → reached after (ts ++ (t ∷ [])) ≡ some (last_locator t)
unfolding reached
reached_append after [] t = refl
reached_append after (x ∷ ts) t = reached_append (some (last_locator x)) ts t

-- ---- the bytes

pub stretch_parts : (c : Committee) (bs : List Block) (k : Listing) (l : TransactionLocator) (end blocks : ℕ) (stake : Stake) → end ≡ stretch_end bs k l →
    blocks ≡ length (keep (k.certifies l) bs)
    → stake ≡ stake_of c (set_of (map author (keep (k.certifies l) bs))) → final_stretch l end blocks stake ≡ stretch_at c bs k l
unfolding final_stretch stretch_at
stretch_parts c bs k l end blocks stake e f g = rw (e, f, g)

flatten_append : (xs ys : List (List ℕ)) → flatten (xs ++ ys) ≡ flatten xs ++ flatten ys
unfolding flatten
flatten_append [] ys = refl
flatten_append (x ∷ xs) ys = ap (λ (l : List ℕ). x ++ l) (flatten_append xs ys) ∙ sym (append_assoc x (flatten xs) (flatten ys))

bytes_length : (ts : List FinalStretch) → length (flatten (map stretch_bytes ts)) ≡ 80 * length ts
unfolding flatten
bytes_length [] = refl
bytes_length (t ∷ ts) = omega (arith, length-append (stretch_bytes t) (flatten (map stretch_bytes ts)), eighty t, bytes_length ts)

bytes_more : (ts : List FinalStretch) (t : FinalStretch) → flatten (map stretch_bytes (ts ++ (t ∷ []))) ≡ flatten (map stretch_bytes ts) ++ stretch_bytes t
unfolding flatten
bytes_more ts t =
    ap flatten (map-append stretch_bytes ts (t ∷ []))
    ∙ flatten_append (map stretch_bytes ts) (stretch_bytes t ∷ [])
    ∙ ap (λ (l : List ℕ). flatten (map stretch_bytes ts) ++ l) (append-nil (stretch_bytes t))

-- a list written over a slice after another one
written_all : (f v q : List ℕ) → length f + length v ≤ length q → sets (f ++ drop (length f) q) (length f) v ≡ (f ++ v) ++ drop (length (f ++ v)) q
written_all f [] q h = rw (append-nil f)
written_all f (x ∷ v) q h =
    let e : length (f ++ (x ∷ [])) ≡ suc (length f) = length-append f (x ∷ []) ∙ add-one (length f) in
    ap (λ (l : List ℕ). sets l (suc (length f)) v) (written_more f q x (omega arith))
    ∙ ap (λ (n : ℕ). sets ((f ++ (x ∷ [])) ++ drop (length (f ++ (x ∷ []))) q) n v) (sym e)
    ∙ written_all (f ++ (x ∷ [])) v q (omega arith)
    ∙ ap (λ (l : List ℕ). l ++ drop (length l) q) (append_assoc f (x ∷ []) v)

-- ---- filling

module _ (c : Committee) (bs : List Block) (k : Listing) (room : ℕ) (after : Option TransactionLocator) (out₀ : List ℕ) where
  pub fill_start : Filled c bs k room after out₀ out₀ after 0
  unfolding reached flatten
  fill_start =
      let z : room - 0 ≡ room = omega arith in
      record { inside = omega arith; written = []; many = refl; splits = rw z; reaches = refl; bytes = refl; long = refl }

  pub fill_more : (out : List ℕ) (last : Option TransactionLocator) (n : ℕ) → Filled c bs k room after out₀ out last n → n < room → 80 * room ≤ length out₀
      → (l : TransactionLocator) → k.next last ≡ some l
      → Filled c bs k room after out₀ (sets out (80 * n) (stretch_bytes (stretch_at c bs k l))) (some (last_locator (stretch_at c bs k l))) (n + 1)
  fill_more out last n f h g l e =
      let t : FinalStretch = stretch_at c bs k l in
      let ts : List FinalStretch = f.written in
      let w : List ℕ = flatten (map stretch_bytes ts) in
      let one_less : room - n - 1 ≡ room - (n + 1) = omega arith in
      let m : length w ≡ 80 * n = bytes_length ts ∙ ap (λ (i : ℕ). 80 * i) f.many in
      let o : length (w ++ stretch_bytes t) ≡ 80 * (n + 1) = omega (arith, length-append w (stretch_bytes t), eighty t) in
      record {
        inside = omega arith;
        written = ts ++ (t ∷ []);
        many = length-append ts (t ∷ []) ∙ ap (λ (i : ℕ). i + 1) f.many;
        splits =
            f.splits
            ∙ ap (λ (x : List FinalStretch). ts ++ x) (stretches_some c bs k (room - n) last l (omega arith) e ∙ ap
            (λ (i : ℕ). t ∷ stretches c bs k i (some (last_locator t))) one_less)
            ∙ sym (append_assoc ts (t ∷ []) (stretches c bs k (room - (n + 1)) (some (last_locator t))));
        reaches = reached_append after ts t;
        bytes =
            ap (λ (x : List ℕ). sets x (80 * n) (stretch_bytes t)) f.bytes
            ∙ ap (λ (i : ℕ). sets (w ++ drop i out₀) i (stretch_bytes t)) (sym m)
            ∙ written_all w (stretch_bytes t) out₀ (omega (arith, eighty t))
            ∙ ap (λ (i : ℕ). (w ++ stretch_bytes t) ++ drop i out₀) o
            ∙ ap (λ (x : List ℕ). x ++ drop (80 * (n + 1)) out₀) (sym (bytes_more ts t));
        long = length-sets out (80 * n) (stretch_bytes t) ∙ f.long;
      }

  module _ (out : List ℕ) (last : Option TransactionLocator) (n : ℕ) (f : Filled c bs k room after out₀ out last n)
      (none_left : stretches c bs k (room - n) last ≡ []) where
    all_written : f.written ≡ stretches c bs k room after
    all_written = sym (f.splits ∙ ap (λ (x : List FinalStretch). f.written ++ x) none_left ∙ append-nil f.written)

    pub fill_bytes : out ≡ bytes_after (stretches c bs k room after) out₀
    unfolding bytes_after
    fill_bytes = f.bytes ∙ ap (λ (i : ℕ). flatten (map stretch_bytes f.written) ++ drop (80 * i) out₀) (sym f.many) ∙ ap
        (λ (ts : List FinalStretch). flatten (map stretch_bytes ts) ++ drop (80 * length ts) out₀) all_written

    given : record { stretches = n; more = more_follow k last } ≡ given_after k after (stretches c bs k room after)
    unfolding given_after
    given =
        ap (λ (i : ℕ). record { stretches = i; more = more_follow k last }) (sym f.many)
        ∙ ap (λ (o : Option TransactionLocator). record { stretches = length f.written; more = more_follow k o }) (sym f.reaches)
        ∙ ap (λ (ts : List FinalStretch). record { stretches = length ts; more = more_follow k (reached after ts) }) all_written

    pub given_last : k.next last ≡ none → record { stretches = n; more = false } ≡ given_after k after (stretches c bs k room after)
    given_last e = rw (more_no c bs k last e) at given

    pub given_more : (l : TransactionLocator) → k.next last ≡ some l → record { stretches = n; more = true } ≡ given_after k after (stretches c bs k room after)
    given_more l e = rw (more_yes c bs k last l e) at given
