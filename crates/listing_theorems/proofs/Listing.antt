-- The list asked on is that of the definition. Assumes nothing.
use mathlib.Core.Path.{◌≡◌, refl, sym, ap, subst, ◌∙◌}
use mathlib.Core.Bool.{true, false}
use mathlib.Core.List.{List, [], ◌∷◌, ◌++◌, map, flatten, map-append, append-nil, append_assoc}
use mathlib.Core.Option.{Option}
use Prim.Native.Nat.{ℕ, zero, suc, ◌+◌, ◌-◌, ◌*◌, ◌≤◌, ◌<◌}
use native.Mathlib.Omega.{arith}
use lib.ListN.{length, drop, length-append, length-map}
use Rattle.base.specs.Lists.{all_of, count_from, ◌∈◌, here, there}
use Rattle.base.specs.Le.{Bytes}
use Rattle.base.specs.Checks.{refusal, passes, checked}
use Rattle.base.proofs.Le.{AllBytes}
use Rattle.base.proofs.Lists.{length_count_from, flatten_append}
use Rattle.committee.specs.Committee.{Committee, broken}
use Rattle.record_spec.specs.Reference.{BlockReference, TransactionLocator, locator, new_range, offsets, locators}
use Rattle.store_spec.specs.Store.{store_in_order}
use Rattle.final_spec.specs.Finality.{blocks_of}
use Rattle.final_spec.specs.NextFinal.{next_final_checks}
use Rattle.list_stretches_spec.specs.Stretches.{FinalStretch, stretch_locators, reached, more_follow}
use Rattle.list_stretches_spec.specs.Bulk.{Given, stretch_bytes, stretch_room, given_after, bytes_after, list_stretches}
use Rattle.list_stretches_spec.specs.Claims.{Gives, Spread}
use Rattle.list_stretches_spec.proofs.Spreading.{spread}
use Rattle.final_readings_spec.specs.Readings.{old}
use Rattle.list_readings_spec.proofs.Least.{lists_lawful}
use Rattle.load_along.specs.Along.{share_list, ahead}
use Rattle.listing_lines.specs.Lines.{head_of, final_line}
use Rattle.listing_final_lines.specs.declared.Stretch.{Stretch}
use Rattle.listing_final_lines.specs.Lines.{line_of, lines_of}
use Rattle.listing_stretches.specs.Stretches.{ReadStretch, last_of}
use Rattle.listing_final_steps.specs.Steps.{given_by}
use Rattle.listing_spec.specs.Output.{final_line_of}
use Rattle.listing_theorems.specs.Whole.{Stretches, all_put, put, asked, given, Listed, last, onward}
use Rattle.listing_theorems.proofs.Parts.{parts}
use Rattle.listing_theorems.proofs.Reading.{Sound, sound, read_block, read_first, read_end, read_blocks, read_stake, after_one, last_read}

-- the lines of some locators
abbrev lines_for : Committee → Bytes → List TransactionLocator → Bytes
lines_for c s ls = flatten (map (final_line_of c (blocks_of s)) ls)

lines_append : (c : Committee) (s : Bytes) (ls ms : List TransactionLocator) → lines_for c s (ls ++ ms) ≡ lines_for c s ls ++ lines_for c s ms
lines_append c s ls ms =
    ap flatten (map-append (final_line_of c (blocks_of s)) ls ms)
    ∙ flatten_append (map (final_line_of c (blocks_of s)) ls) (map (final_line_of c (blocks_of s)) ms)

-- ---- the lines of a stretch

-- where each locator of a stretch has its line
lines_are : (c : Committee) (s : Bytes) (t : Stretch) (r : BlockReference) (d n : ℕ)
    → ((o : ℕ) → t.first + d ≤ o → o < t.first + d + n
    → final_line_of c (blocks_of s) (locator r o) ≡ final_line t.round t.author t.head o t.blocks t.stake)
    → lines_of t d n ≡ lines_for c s (map (locator r) (count_from (t.first + d) n))
unfolding lines_of line_of count_from flatten
lines_are c s t r d zero f = refl
lines_are c s t r d (suc n) f =
    let further : t.first + (d + 1) ≡ t.first + d + 1 = omega arith in
    let line = f (t.first + d) (omega arith) (omega arith) in
    let others = lines_are c s t r (d + 1) n (λ o h k. f o (omega arith) (omega arith))
    ∙ ap (λ (i : ℕ). lines_for c s (map (locator r) (count_from i n))) further in
    ap (λ (l : Bytes). line_of t d ++ l) others
    ∙ ap (λ (l : Bytes). l ++ lines_for c s (map (locator r) (count_from (t.first + d + 1) n))) (sym line)

module _ {c : Committee} {s : Bytes} (b : Bytes) (p : ℕ) (x : FinalStretch) (rest : Bytes) (e : drop p b ≡ stretch_bytes x ++ rest) (k : Sound c s x)
    (t : Stretch)
    (r : ReadStretch b p t) where
  first : t.first ≡ x.first
  first = r.first ∙ read_first b p x rest e k

  many : t.lines ≡ x.end - x.first
  many = let f = read_first b p x rest e k in let g = read_end b p x rest e k in omega (arith, r.lines, f, g)

  line : (o : ℕ) → t.first + 0 ≤ o → o < t.first + 0 + t.lines
      → final_line_of c (blocks_of s) (locator x.block o) ≡ final_line t.round t.author t.head o t.blocks t.stake
  line o from below =
      let block = read_block b p x rest e k in
      let round : t.round ≡ x.block.round = r.round ∙ ap (λ (q : BlockReference). q.round) block in
      let author : t.author ≡ x.block.authority = r.author ∙ ap (λ (q : BlockReference). q.authority) block in
      let head : t.head ≡ head_of x.block.digest = r.head ∙ ap (λ (q : BlockReference). head_of q.digest) block in
      let blocks : t.blocks ≡ x.blocks = r.blocks ∙ read_blocks b p x rest e k in
      let stake : t.stake ≡ x.stake = r.stake ∙ read_stake b p x rest e k in
      rw (round, author, head, blocks, stake) (k.line o (omega (arith, first)) (omega (arith, first, many, k.longer)))

  pub stretch_lines : lines_of t 0 t.lines ≡ lines_for c s (stretch_locators x)
  unfolding stretch_locators locators offsets new_range
  stretch_lines =
      let from : t.first + 0 ≡ x.first = omega (arith, first) in
      lines_are c s t x.block 0 t.lines line
      ∙ ap (λ (i : ℕ). lines_for c s (map (locator x.block) (count_from i t.lines))) from
      ∙ ap (λ (n : ℕ). lines_for c s (map (locator x.block) (count_from x.first n))) many

  pub stretch_many : t.lines ≡ length (stretch_locators x)
  unfolding stretch_locators locators offsets new_range
  stretch_many = many ∙ sym (length-map (count_from x.first (x.end - x.first)) (locator x.block) ∙ length_count_from x.first (x.end - x.first))

-- ---- the lines of stretches

abbrev spread_out : List FinalStretch → List TransactionLocator
spread_out us = flatten (map stretch_locators us)

put_lines : {c : Committee} {s : Bytes} (b : Bytes) (n : ℕ) (us : List FinalStretch) (i : ℕ) (rest : Bytes) → ((x : FinalStretch) → x ∈ us → Sound c s x)
    → drop (80 * i) b ≡ flatten (map stretch_bytes us) ++ rest → i + length us ≡ n → {lines : Bytes} {m : ℕ} → Stretches b n i lines m
    → (lines ≡ lines_for c s (spread_out us)) × (m ≡ length (spread_out us))
unfolding flatten
put_lines b n [] i rest f e q all_put = (refl, refl)
put_lines b n [] i rest f e q (put t h r on others) = absurd (omega arith)
put_lines b n (x ∷ us) i rest f e q all_put = absurd (omega arith)
put_lines {c} {s} b n (x ∷ us) i rest f e q (put {lines} {others} t h r on next) =
    let more = flatten (map stretch_bytes us) ++ rest in
    let first : drop (80 * i) b ≡ stretch_bytes x ++ more = e ∙ append_assoc (stretch_bytes x) (flatten (map stretch_bytes us)) rest in
    let later = put_lines b n us (suc i) rest (λ y m. f y (there m)) (after_one b i x more first) (omega arith) next in
    let one : lines ≡ lines_for c s (stretch_locators x) = parts t lines on ∙ stretch_lines b (80 * i) x more first (f x here) t r in (
      ap (λ (l : Bytes). l ++ others) one
          ∙ ap (λ (l : Bytes). lines_for c s (stretch_locators x) ++ l) later.0
          ∙ sym (lines_append c s (stretch_locators x) (spread_out us)),
      omega (arith, later.1, stretch_many b (80 * i) x more first (f x here) t r, length-append (stretch_locators x) (spread_out us)),
    )

-- ---- the list

module _ (c : Committee) (s : Bytes) (b : broken c ≡ false) (h : store_in_order c s ≡ true) (bytes : AllBytes s) where
  -- the stretches that a slice holds
  abbrev held : Bytes → Option TransactionLocator → List FinalStretch
  held out after = ahead old c s (stretch_room out) after

  given_held : (out : Bytes) (after : Option TransactionLocator) → given c s out after ≡ given_after (share_list old c s) after (held out after)
  unfolding list_stretches next_final_checks checked passes refusal all_of given_by
  given_held out after = rw (b, h)

  out_held : (out : Bytes) (after : Option TransactionLocator) → (asked c s out after).out ≡ bytes_after (held out after) out
  unfolding list_stretches next_final_checks passes all_of
  out_held out after = rw (b, h)

  many_held : (out : Bytes) (after : Option TransactionLocator) → (given c s out after).stretches ≡ length (held out after)
  unfolding given_after
  many_held out after = ap (λ (g : Given). g.stretches) (given_held out after)

  more_held : (out : Bytes) (after : Option TransactionLocator) → (given c s out after).more ≡ more_follow (share_list old c s) (reached after (held out after))
  unfolding given_after
  more_held out after = ap (λ (g : Given). g.more) (given_held out after)

  stands : (out : Bytes) (after : Option TransactionLocator)
      → drop (80 * 0) (asked c s out after).out ≡ flatten (map stretch_bytes (held out after)) ++ drop (80 * length (held out after)) out
  unfolding bytes_after
  stands out after = out_held out after

  sounds : (out : Bytes) (after : Option TransactionLocator) (x : FinalStretch) → x ∈ held out after → Sound c s x
  sounds out after x m = sound c s b h bytes (stretch_room out) after x m

  put_held : (out : Bytes) (after : Option TransactionLocator) {lines : Bytes} {m : ℕ}
      → Stretches (asked c s out after).out (given c s out after).stretches 0 lines m
      → (lines ≡ lines_for c s (spread_out (held out after))) × (m ≡ length (spread_out (held out after)))
  put_held out after on =
      put_lines (asked c s out after).out (given c s out after).stretches (held out after) 0 (drop (80 * length (held out after)) out)
      (sounds out after) (stands out after) (omega (arith, many_held out after)) on

  last_held : (out : Bytes) (after : Option TransactionLocator)
      → last_of (asked c s out after).out (given c s out after).stretches after ≡ reached after (held out after)
  unfolding last_of
  last_held out after =
      let same : (given c s out after).stretches ≡ 0 + length (held out after) = omega (arith, many_held out after) in
      ap (λ (n : ℕ). last_of (asked c s out after).out n after) same
      ∙ last_read (asked c s out after).out after (held out after) 0 (drop (80 * length (held out after)) out) (sounds out after) (stands out after)

  through : (out : Bytes) (after : Option TransactionLocator) (ls : List TransactionLocator) → Gives (share_list old c s) after ls
      → Spread (share_list old c s) (stretch_room out) after ls (held out after)
  through out after ls g = spread c (blocks_of s) (share_list old c s) (lists_lawful true old c (blocks_of s)) (stretch_room out) after ls g

  pub listed : {after : Option TransactionLocator} {lines : Bytes} {m : ℕ} → Listed c s after lines m → (ls : List TransactionLocator)
      → Gives (share_list old c s) after ls
      → (lines ≡ lines_for c s ls) × (m ≡ length ls)
  listed {after} (last out e on) ls g =
      let a = through out after ls g in
      let none_left : a.rest ≡ [] = a.none_left.0 (sym (more_held out after) ∙ e) in
      let all : spread_out (held out after) ≡ ls =
      sym (a.splits ∙ ap (λ (r : List TransactionLocator). spread_out (held out after) ++ r) none_left ∙ append-nil (spread_out (held out after))) in
      let x = put_held out after on in
      (x.0 ∙ ap (lines_for c s) all, x.1 ∙ ap length all)
  listed {after} (onward {others} {k} out e on next) ls g =
      let a = through out after ls g in
      let x = put_held out after on in
      let y = listed next a.rest (subst (λ (o : Option TransactionLocator). Gives (share_list old c s) o a.rest) (sym (last_held out after)) a.onward)
      in (
        ap (λ (l : Bytes). l ++ others) x.0
            ∙ ap (λ (l : Bytes). lines_for c s (spread_out (held out after)) ++ l) y.0
            ∙ sym (lines_append c s (spread_out (held out after)) a.rest)
            ∙ ap (lines_for c s) (sym a.splits),
        omega (arith, x.1, y.1, length-append (spread_out (held out after)) a.rest, ap length a.splits),
      )
