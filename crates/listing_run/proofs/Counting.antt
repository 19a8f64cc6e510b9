-- What is counted of the list while it is written. Assumes nothing.
use Rattle.std.proofs.Common.{◌≡◌, ℕ, ◌+◌, ◌*◌, ◌%◌, ◌^◌, ◌<◌, true, false, [], sym, refl, ap, ◌∙◌, subst, add-one, arith}
use mathlib.Core.Option.{Option, none}
use Rattle.base.specs.Le.{Bytes}
use Rattle.committee.specs.Committee.{Committee}
use Rattle.record_spec.specs.Reference.{TransactionLocator}
use Rattle.list_stretches_spec.specs.Bulk.{Given}
use Rattle.listing_final_lines.specs.declared.Stretch.{Stretch}
use Rattle.listing_stretches.specs.Stretches.{ReadStretch, last_of}
use Rattle.listing_final_steps.specs.declared.Asked.{Asked}
use Rattle.listing_final_steps.specs.Steps.{given_in}
use Rattle.listing_theorems.specs.Whole.{Parts, done, part, Stretches, all_put, put, asked, given, Listed, last, onward, CountedStretches, CountedList}

-- ---- the stretches of a slice before index i

pub record Counting (b : Bytes) (n i finals : ℕ) : Type 0 where
  pub many : ℕ
  pub sum : finals ≡ many % 2 ^ 64
  pub front : {others : Bytes} {k : ℕ} → Stretches b n i others k → (lines : Bytes) × Stretches b n 0 lines (many + k)

none_yet : (k : ℕ) → k ≡ 0 + k
none_yet k = omega arith

pub counting_start : (b : Bytes) (n : ℕ) → Counting b n 0 0
counting_start b n = record { many = 0; sum = refl; front = λ {others} {k} on. (others, subst (λ (j : ℕ). Stretches b n 0 others j) (none_yet k) on) }

-- all lines of a stretch in one part
at_once : (t : Stretch) → (lines : Bytes) × Parts t 0 lines
at_once t = (_, part {d = 0} {e = t.lines} (omega arith) done)

pub counting_on : (b : Bytes) (n i finals : ℕ) (t : Stretch) → Counting b n i finals → i < n → ReadStretch b (80 * i) t
    → Counting b n (i + 1) ((finals + t.lines) % 2 ^ 64)
counting_on b n i finals t a h r =
    record {
      many = a.many + t.lines;
      sum = omega (arith, a.sum);
      front = λ {others} {k} on. later k (a.front (put t h r (at_once t).1 (subst (λ (j : ℕ). Stretches b n j others k) (add-one i) on)));
    }
  where
    later : (k : ℕ) → ((lines : Bytes) × Stretches b n 0 lines (a.many + (t.lines + k))) → (lines : Bytes) × Stretches b n 0 lines (a.many + t.lines + k)
    later k x = let same : a.many + (t.lines + k) ≡ a.many + t.lines + k = omega arith in (x.0, subst (λ (j : ℕ). Stretches b n 0 x.0 j) same x.1)

pub counting_end : (b : Bytes) (n i finals : ℕ) → Counting b n i finals → i ≡ n → CountedStretches b n finals
counting_end b n i finals a e =
    let x = a.front (subst (λ (j : ℕ). Stretches b n j [] 0) (sym e) all_put) in
    let same : a.many + 0 ≡ a.many = omega arith in
    record { lines = x.0; many = a.many; put = subst (λ (j : ℕ). Stretches b n 0 x.0 j) same x.1; sum = a.sum }

-- ---- the list before it is asked on

pub record Going (c : Committee) (s : Bytes) (after : Option TransactionLocator) (finals : ℕ) : Type 0 where
  pub many : ℕ
  pub sum : finals ≡ many % 2 ^ 64
  pub front : {others : Bytes} {k : ℕ} → Listed c s after others k → (lines : Bytes) × Listed c s none lines (many + k)

pub going_start : (c : Committee) (s : Bytes) → Going c s none 0
going_start c s = record { many = 0; sum = refl; front = λ {others} {k} on. (others, subst (λ (j : ℕ). Listed c s none others j) (none_yet k) on) }

module _ (c : Committee) (s out b : Bytes) (after : Option TransactionLocator) (r : Asked) (finals f : ℕ)
    (e : given_in r ≡ given c s out after) (w : b ≡ (asked c s out after).out)
    (a : Going c s after finals) (x : CountedStretches b r.count f) where
  many_given : r.count ≡ (given c s out after).stretches
  unfolding given_in
  many_given = ap (λ (g : Given). g.stretches) e

  more_given : r.more ≡ (given c s out after).more
  unfolding given_in
  more_given = ap (λ (g : Given). g.more) e

  put_given : Stretches (asked c s out after).out (given c s out after).stretches 0 x.lines x.many
  put_given =
      subst (λ (n : ℕ). Stretches (asked c s out after).out n 0 x.lines x.many) many_given
      (subst (λ (l : Bytes). Stretches l r.count 0 x.lines x.many) w x.put)

  pub going_end : r.more ≡ false → CountedList c s ((finals + f) % 2 ^ 64)
  going_end m =
      let y = a.front (last out (sym more_given ∙ m) put_given) in
      record { lines = y.0; many = a.many + x.many; listed = y.1; sum = omega (arith, a.sum, x.sum) }

  pub going_on : r.more ≡ true → Going c s (last_of b r.count after) ((finals + f) % 2 ^ 64)
  going_on m =
      record {
        many = a.many + x.many;
        sum = omega (arith, a.sum, x.sum);
        front = λ {others} {k} on. later k (a.front (onward out (sym more_given ∙ m) put_given (asked_on others k on)));
      }
    where
      asked_on : (others : Bytes) (k : ℕ) → Listed c s (last_of b r.count after) others k
          → Listed c s (last_of (asked c s out after).out (given c s out after).stretches after) others k
      asked_on others k on =
          subst (λ (n : ℕ). Listed c s (last_of (asked c s out after).out n after) others k) many_given
          (subst (λ (l : Bytes). Listed c s (last_of l r.count after) others k) w on)

      later : (k : ℕ) → ((lines : Bytes) × Listed c s none lines (a.many + (x.many + k))) → (lines : Bytes) × Listed c s none lines (a.many + x.many + k)
      later k y = let same : a.many + (x.many + k) ≡ a.many + x.many + k = omega arith in (y.0, subst (λ (j : ℕ). Listed c s none y.0 j) same y.1)
