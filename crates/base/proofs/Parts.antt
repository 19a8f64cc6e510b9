-- Where a part of a list stands. Assumes nothing.
use mathlib.Core.Path.{◌≡◌, refl, sym, ap, ◌∙◌}
use mathlib.Core.List.{List, [], ◌∷◌, ◌++◌, append_assoc, append-nil}
use Prim.Native.Nat.{ℕ, zero, suc, ◌+◌, ◌≤◌}
use native.Mathlib.Omega.{arith}
use lib.ListN.{length, take, drop, length-append}
use lib.Seq.{take_at, drop_at, take-take}

-- v stands in l, after n elements
pub record PartOf (l v : List ℕ) (n : ℕ) : Type 0 where
  pub before : List ℕ
  pub after : List ℕ
  pub are : l ≡ before ++ (v ++ after)
  pub many : length before ≡ n

-- it is what take and drop give
pub part_taken : (l v : List ℕ) (n : ℕ) → PartOf l v n → take (length v) (drop n l) ≡ v
part_taken l v n p = rw (p.are, drop_at p.before (v ++ p.after) n p.many) (take_at v p.after (length v) refl)

pub part_complete : (l : List ℕ) → PartOf l l 0
part_complete l = record { before = []; after = []; are = sym (append-nil l); many = refl }

-- with more after it, or before it
pub part_left : (l v t : List ℕ) (n : ℕ) → PartOf l v n → PartOf (l ++ t) v n
part_left l v t n p =
    record {
      before = p.before;
      after = p.after ++ t;
      are = ap (λ (k : List ℕ). k ++ t) p.are ∙ append_assoc p.before (v ++ p.after) t ∙ ap (λ (k : List ℕ). p.before ++ k)
          (append_assoc v p.after t);
      many = p.many;
    }

pub part_right : (s l v : List ℕ) (n : ℕ) → PartOf l v n → PartOf (s ++ l) v (length s + n)
part_right s l v n p =
    record {
      before = s ++ p.before;
      after = p.after;
      are = ap (λ (k : List ℕ). s ++ k) p.are ∙ sym (append_assoc s p.before (v ++ p.after));
      many = omega (arith, length-append s p.before, p.many);
    }

-- a part of a part
pub part_part : (l v w : List ℕ) (n m : ℕ) → PartOf l v n → PartOf v w m → PartOf l w (n + m)
part_part l v w n m p q =
    let inner : PartOf (p.before ++ (v ++ p.after)) w (length p.before + m) = part_right p.before (v ++ p.after) w m (part_left v w p.after m q) in
    rw (p.are, ← p.many) inner

pub part_at_lem : (l v : List ℕ) (n m : ℕ) → n ≡ m → PartOf l v n → PartOf l v m
part_at_lem l v n m e p = record { before = p.before; after = p.after; are = p.are; many = p.many ∙ e }

pub part_same : (k l v : List ℕ) (n : ℕ) → k ≡ l → PartOf l v n → PartOf k v n
part_same k l v n e p = record { before = p.before; after = p.after; are = e ∙ p.are; many = p.many }

-- a part of the first k elements is that part of the whole
pub part_of_front : (n m k : ℕ) (l : List ℕ) → m + n ≤ k → take n (drop m (take k l)) ≡ take n (drop m l)
part_of_front n zero k l h = take-take n k l (omega arith)
part_of_front n (suc m) zero l h = absurd (omega arith)
part_of_front n (suc m) (suc k) [] h = refl
part_of_front n (suc m) (suc k) (x ∷ l) h = part_of_front n m k l (omega arith)
