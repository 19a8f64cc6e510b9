-- The offsets of the items, summed one by one in a word. Assumes nothing.
use Rattle.std.proofs.Common.{◌≡◌, ℕ, zero, suc, ◌+◌, ◌%◌, ◌^◌, ◌<◌, ◌≤◌, List, [], ◌∷◌, map, length, get_or, drop, sym, refl, ap, ◌∙◌, mod-eq_of_lt, arith}
use native.Mathlib.Nat.{mod-add-mod}
use Rattle.base.specs.Lists.{sum_of}
use Rattle.base.proofs.Loops.{sum_on, sum_end}
use Rattle.pending_spec.specs.Items.{Item, no_item}
use Rattle.listing_counts.specs.Pending.{item_offsets, pending_offsets}

-- what is summed of the first k items, with the rest, makes all
abbrev pub Summed : List Item → ℕ → ℕ → Type 0
Summed xs k sum = (sum + sum_of (drop k (map item_offsets xs))) % 2 ^ 64 ≡ pending_offsets xs % 2 ^ 64

pub summed_start : (xs : List Item) → Summed xs 0 0
unfolding pending_offsets
summed_start xs =
    let none : 0 + sum_of (map item_offsets xs) ≡ sum_of (map item_offsets xs) = omega arith in
    ap (λ (n : ℕ). n % 2 ^ 64) none

length_offsets : (xs : List Item) → length (map item_offsets xs) ≡ length xs
length_offsets [] = refl
length_offsets (x ∷ xs) = ap suc (length_offsets xs)

offsets_at : (xs : List Item) (k : ℕ) → k < length xs → get_or (map item_offsets xs) k 0 ≡ item_offsets (get_or xs k no_item)
offsets_at [] k h = absurd (omega arith)
offsets_at (x ∷ xs) zero h = refl
offsets_at (x ∷ xs) (suc k) h = offsets_at xs k (omega arith)

pub summed_on : (xs : List Item) (k sum d : ℕ) → Summed xs k sum → k < length xs → d ≡ item_offsets (get_or xs k no_item)
    → Summed xs (k + 1) ((sum + d) % 2 ^ 64)
summed_on xs k sum d a h e =
    let l : List ℕ = map item_offsets xs in
    let rest : ℕ = sum_of (drop (k + 1) l) in
    let next : sum_of (drop k l) ≡ d + rest = sum_on l k (omega (arith, length_offsets xs)) ∙ ap (λ (n : ℕ). n + rest) (offsets_at xs k h ∙ sym e) in
    let same : sum + d + rest ≡ sum + sum_of (drop k l) = omega arith in
    mod-add-mod (sum + d) (2 ^ 64) rest ∙ ap (λ (n : ℕ). n % 2 ^ 64) same ∙ a

pub summed_end : (xs : List Item) (k sum : ℕ) → Summed xs k sum → length xs ≤ k → sum < 2 ^ 64 → sum ≡ pending_offsets xs % 2 ^ 64
summed_end xs k sum a h f =
    let none : sum + sum_of (drop k (map item_offsets xs)) ≡ sum = omega (arith, sum_end (map item_offsets xs) k (omega (arith, length_offsets xs))) in
    sym (mod-eq_of_lt f) ∙ ap (λ (n : ℕ). n % 2 ^ 64) (sym none) ∙ a
