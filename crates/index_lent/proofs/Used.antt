-- The used words of an index as it is lent: the check over them is the check over the whole. Assumes nothing.
use mathlib.Core.Path.{◌≡◌, sym, ap, subst, ◌∙◌}
use mathlib.Core.Bool.{true, false}
use mathlib.Core.List.{List}
use Prim.Native.Nat.{ℕ, ◌≤◌, ◌<◌}
use native.Mathlib.Omega.{arith}
use native.Mathlib.Decide.{dec_lt}
use lib.ListN.{length, get_or, take}
use lib.Seq.{take_all, take-take, get_or-take, length-take-le}
use borrow.Author.Tests.{lt-ltb, le-ltb}
use Rattle.base.specs.Lists.{same}
use Rattle.base.specs.Le.{Bytes}
use Rattle.base.proofs.Orders.{same_true}
use Rattle.base.proofs.Tests.{fails}
use Rattle.record_spec.specs.Block.{Block}
use Rattle.index_spec.specs.Index.{indexed, used_words, index_words, used_part, index_agrees}
use Rattle.index_spec.proofs.Grown.{used_length, agrees_used}
use Rattle.index_check.specs.Known.{Known}
use Rattle.index_check.proofs.Agreeing.{no_index}
use Rattle.index_lent.specs.Lent.{used_in}

pub used_over : (ix : List ℕ) → length ix < get_or ix 0 0 → used_in ix ≡ 0
unfolding used_in
used_over ix h = rw (lt-ltb (length ix) (get_or ix 0 0) h)

pub used_all : (ix : List ℕ) → get_or ix 0 0 ≤ length ix → used_in ix ≡ get_or ix 0 0
unfolding used_in
used_all ix h = rw (le-ltb (length ix) (get_or ix 0 0) h)

pub used_inside : (ix : List ℕ) → used_in ix ≤ length ix
used_inside ix = go (dec_lt (length ix) (get_or ix 0 0))
  where
    go : Dec (length ix < get_or ix 0 0) → used_in ix ≤ length ix
    go (yes h) = omega (arith, used_over ix h)
    go (no h) = omega (arith, used_all ix (omega arith))

-- an index that agrees has the words that it says it uses
pub agrees_inside : (bs : List Block) (ix : List ℕ) → index_agrees bs ix ≡ true → get_or ix 0 0 ≤ length ix
unfolding index_agrees used_part
agrees_inside bs ix h = go (dec_lt (length ix) (get_or ix 0 0))
  where
    whole : take (get_or ix 0 0) ix ≡ index_words bs
    whole = same_true (take (get_or ix 0 0) ix) (index_words bs) h

    go : Dec (length ix < get_or ix 0 0) → get_or ix 0 0 ≤ length ix
    go (no k) = omega arith
    go (yes k) = absurd (omega (arith, ap length (sym (take_all (get_or ix 0 0) ix (omega arith)) ∙ whole), used_length bs, agrees_used bs ix h))

pub agrees_some : (bs : List Block) (ix : List ℕ) → index_agrees bs ix ≡ true → 0 < get_or ix 0 0
agrees_some bs ix h = let u : 0 < used_words (indexed bs) = unfold used_words in omega arith in omega (arith, agrees_used bs ix h)

pub used_part_lem : (bs : List Block) (ix : List ℕ) → index_agrees bs ix ≡ true → take (used_in ix) ix ≡ used_part ix
unfolding used_part
used_part_lem bs ix h = ap (λ (n : ℕ). take n ix) (used_all ix (agrees_inside bs ix h))

pub used_agrees : (bs : List Block) (ix : List ℕ) → index_agrees bs (take (used_in ix) ix) ≡ index_agrees bs ix
used_agrees bs ix = go (dec_lt (length ix) (get_or ix 0 0)) (dec_lt 0 (get_or ix 0 0))
  where
    none : (n : ℕ) → n ≤ 0 → index_agrees bs (take n ix) ≡ false
    none n h = no_index bs (take n ix) (omega (arith, length-take-le n ix (omega arith)))

    kept : 0 < get_or ix 0 0 → used_part (take (get_or ix 0 0) ix) ≡ used_part ix
    kept h =
        unfold used_part in
        (ap (λ (n : ℕ). take n (take (get_or ix 0 0) ix)) (get_or-take (get_or ix 0 0) ix 0 0 h) ∙ take-take (get_or ix 0 0) (get_or ix 0 0) ix (omega arith))

    go : Dec (length ix < get_or ix 0 0) → Dec (0 < get_or ix 0 0) → index_agrees bs (take (used_in ix) ix) ≡ index_agrees bs ix
    go (yes h) k = none (used_in ix) (omega (arith, used_over ix h)) ∙ sym (fails (index_agrees bs ix) (λ t. omega (arith, agrees_inside bs ix t)))
    go (no h) (yes k) = ap (λ (n : ℕ). index_agrees bs (take n ix)) (used_all ix (omega arith)) ∙
        (unfold index_agrees in ap (λ (ws : List ℕ). same ws (index_words bs)) (kept k))
    go (no h) (no k) = none (used_in ix) (omega (arith, used_all ix (omega arith))) ∙ sym (fails (index_agrees bs ix) (λ t. omega (arith, agrees_some bs ix t)))

-- so that the parts stand among them
pub known_used : {s : Bytes} {order starts : List ℕ} (bs : List Block) (ix : List ℕ) → index_agrees bs ix ≡ true → Known s order (take (used_in ix) ix) starts
    bs → Known s order (used_part ix) starts bs
known_used {s} {order} {starts} bs ix h k = subst (λ (ws : List ℕ). Known s order ws starts bs) (used_part_lem bs ix h) k
