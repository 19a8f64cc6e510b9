-- The lines of events, one more at a time. Assumes nothing.
use mathlib.Core.Path.{◌≡◌, refl, sym, ap, ◌∙◌}
use mathlib.Core.Bool.{Bool, true, false}
use mathlib.Core.List.{List, [], ◌∷◌, ◌++◌, append_assoc, append-nil}
use Prim.Native.Nat.{ℕ, zero, suc, ◌+◌, ◌*◌, ◌≤◌}
use native.Mathlib.Numerals.{add-one}
use native.Mathlib.Omega.{arith}
use lib.Dec.{eqb}
use lib.ListN.{length, get_or, drop, length-append}
use lib.Seq.{get_or-drop}
use Rattle.base.specs.Lists.{pick}
use Rattle.base.specs.Le.{Bytes}
use Rattle.listing_text.specs.Text.{line, numbers, number_line, Wrote}
use Rattle.listing_text.proofs.Text.{wrote_none, wrote_on, wrote_same, length_wrote, length_number_line}
use Rattle.listing_lines.specs.Lines.{event_name, event_line}
use Rattle.listing_events.specs.Events.{event_lines, processed_in}

-- the event in the three words from i on
abbrev pub line_at : ℕ → List ℕ → ℕ → Bytes
line_at k w i = event_line (get_or w i 0) k (get_or w (i + 1) 0) (get_or w (i + 2) 0)

further : (w : List ℕ) (n j : ℕ) → get_or (drop 3 w) (3 * n + j) 0 ≡ get_or w (3 * suc n + j) 0
further w n j = let same : 3 + (3 * n + j) ≡ 3 * suc n + j = omega arith in get_or-drop 3 w (3 * n + j) 0 ∙ ap (λ (i : ℕ). get_or w i 0) same

further_0 : (w : List ℕ) (n : ℕ) → get_or (drop 3 w) (3 * n) 0 ≡ get_or w (3 * suc n) 0
further_0 w n = let same : 3 + 3 * n ≡ 3 * suc n = omega arith in get_or-drop 3 w (3 * n) 0 ∙ ap (λ (i : ℕ). get_or w i 0) same

line_further : (k : ℕ) (w : List ℕ) (n : ℕ) → line_at k (drop 3 w) (3 * n) ≡ line_at k w (3 * suc n)
line_further k w n = λ i. event_line (further_0 w n i) k (further w n 1 i) (further w n 2 i)

-- one event more
lines_next : (k n : ℕ) (w : List ℕ) → event_lines k (suc n) w ≡ event_lines k n w ++ line_at k w (3 * n)
unfolding event_lines
lines_next k zero w = append-nil (line_at k w 0)
lines_next k (suc n) w =
    ap (λ (l : Bytes). line_at k w 0 ++ l) (lines_next k n (drop 3 w) ∙ ap (λ (l : Bytes). event_lines k n (drop 3 w) ++ l) (line_further k w n))
    ∙ sym (append_assoc (line_at k w 0) (event_lines k n (drop 3 w)) (line_at k w (3 * suc n)))

name_short : (kind : ℕ) → length (event_name kind) ≤ 9
unfolding event_name
name_short kind = go (eqb kind 1) (eqb kind 2)
  where
    go : (a b : Bool)
        → length {A = ℕ} (pick a (112 ∷ 114 ∷ 111 ∷ 99 ∷ 101 ∷ 115 ∷ 115 ∷ 101 ∷ 100 ∷ [])
        (pick b (108 ∷ 97 ∷ 116 ∷ 101 ∷ []) (117 ∷ 110 ∷ 107 ∷ 110 ∷ 111 ∷ 119 ∷ 110 ∷ []))) ≤ 9
    go true b = omega arith
    go false true = omega arith
    go false false = omega arith

line_short : (kind k s o : ℕ) → length (event_line kind k s o) ≤ 128
unfolding event_line line number_line numbers
line_short kind k s o = omega (arith, length_number_line (event_name kind) (k ∷ s ∷ o ∷ []) 10, name_short kind)

-- the room that they take
lines_short : (k n : ℕ) (w : List ℕ) → length (event_lines k n w) ≤ 128 * n
unfolding event_lines
lines_short k zero w = omega arith
lines_short k (suc n) w =
    rw (length-append (line_at k w 0) (event_lines k n (drop 3 w)))
    (omega (arith, lines_short k n (drop 3 w), line_short (get_or w 0 0) k (get_or w 1 0) (get_or w 2 0)))

-- ---- those that are processed ones

abbrev one : Bool → ℕ
one t = pick t 1 0

one_few : (t : Bool) → one t ≤ 1
one_few true = omega arith
one_few false = omega arith

processed_next : (n : ℕ) (w : List ℕ) → processed_in (suc n) w ≡ processed_in n w + pick (eqb (get_or w (3 * n) 0) 1) 1 0
unfolding processed_in
processed_next zero w = omega arith
processed_next (suc n) w =
    let more : processed_in (suc n) (drop 3 w) ≡ processed_in n (drop 3 w) + one (eqb (get_or w (3 * suc n) 0) 1) =
    processed_next n (drop 3 w) ∙ ap (λ (v : ℕ). processed_in n (drop 3 w) + one (eqb v 1)) (further_0 w n) in
    omega (arith, more)

pub processed_few : (n : ℕ) (w : List ℕ) → processed_in n w ≤ n
unfolding processed_in
processed_few zero w = omega arith
processed_few (suc n) w = omega (arith, processed_few n (drop 3 w), one_few (eqb (get_or w 0 0) 1))

-- ---- as the loop goes

-- what stands in the buffer, and what is counted, once j events are put
pub record Put (k : ℕ) (w : List ℕ) (before after : Bytes) (at processed j : ℕ) : Type 0 where
  pub lines : Wrote before after 0 at (event_lines k j w)
  pub counted : processed ≡ processed_in j w
  pub room : at ≤ 128 * j
  pub few : processed ≤ j
  pub long : length after ≡ length before

put_of : {k : ℕ} {w : List ℕ} {before after : Bytes} {at processed j : ℕ} → Wrote before after 0 at (event_lines k j w) → processed ≡ processed_in j w → Put k w
    before after at processed j
put_of {k} {w} {j = j} v e =
    record { lines = v; counted = e; room = omega (arith, v.end, lines_short k j w); few = omega (arith, processed_few j w); long = length_wrote v }

pub put_start : (k : ℕ) (w : List ℕ) (l : Bytes) → Put k w l l 0 0 0
unfolding event_lines processed_in
put_start k w l = put_of (wrote_none l 0 (omega arith)) refl

pub put_next : {k : ℕ} {w : List ℕ} {l m n : Bytes} {at to processed j d : ℕ} → Put k w l m at processed j → Wrote m n at to (line_at k w (3 * j))
    → d ≡ pick (eqb (get_or w (3 * j) 0) 1) 1 0 → Put k w l n to (processed + d) (j + 1)
put_next {k} {w} {j = j} {d = d} v x e =
    put_of (wrote_same (sym (lines_next k j w) ∙ ap (λ (i : ℕ). event_lines k i w) (sym (add-one j))) (wrote_on v.lines x))
    (ap (λ (i : ℕ). i + d) v.counted ∙ ap (λ (i : ℕ). processed_in j w + i) e ∙ sym (processed_next j w) ∙ ap (λ (i : ℕ). processed_in i w) (sym (add-one j)))

-- all of them
pub put_all : {k : ℕ} {w : List ℕ} {l m : Bytes} {at processed j n : ℕ} → Put k w l m at processed j → j ≡ n → Wrote l m 0 at (event_lines k n w) ×
    (processed ≡ processed_in n w)
put_all {k} {w} v e = (wrote_same (ap (λ (i : ℕ). event_lines k i w) e) v.lines, v.counted ∙ ap (λ (i : ℕ). processed_in i w) e)
