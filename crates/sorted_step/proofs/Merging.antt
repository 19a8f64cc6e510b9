-- What the merge has written after the first locators of the list. Assumes nothing.
use mathlib.Core.Path.{◌≡◌, refl, sym, ap, subst, ◌∙◌}
use mathlib.Core.Bool.{true, false}
use mathlib.Core.List.{List, [], ◌∷◌, ◌++◌, append_assoc, flatten, append-nil}
use Prim.Native.Nat.{ℕ, zero, suc, ◌+◌, ◌*◌, ◌≤◌, ◌<◌}
use native.Mathlib.Omega.{arith}
use native.Mathlib.Nat.{zero-add}
use lib.ListN.{length, take, drop, drop_of_length-le, length-append}
use lib.Seq.{take-add, drop-drop, take_all, take_at, drop_at, sets, sets-eq, length-sets, length-take-le}
use Rattle.base.specs.Le.{Bytes}
use Rattle.committee.specs.Committee.{Committee}
use Rattle.committee_set.specs.AuthoritySet.{inserted}
use Rattle.record_spec.specs.Reference.{TransactionLocator}
use Rattle.record_spec.specs.Block.{Block, author}
use Rattle.index_spec.specs.Runs.{Run}
use Rattle.index_spec.specs.Certified.{part_certifies}
use Rattle.sorted_spec.specs.Sorted.{reply_words, reply_of, step_reply, step}
use Rattle.sorted_step.specs.Step.{reply_from, replies_from, replies_words, step_words, Settled, Listed}
use Rattle.sorted_step.proofs.Words.{reply_stays, reply_grows}
use Rattle.sorted_step.proofs.Cursors.{at}

-- the replies to the first i locators are those after the step of a block, whichever of those that P tells, the others as before
pub record Merging (c : Committee) (P : Block → Type 0) (xs : List Run) (ls : List TransactionLocator) (ws₀ ws : List ℕ) (i : ℕ) : Type 0 where
  pub long : length ws ≡ length ws₀
  pub kept : drop (3 * i) ws ≡ drop (3 * i) ws₀
  pub done : (b : Block) → P b → take (3 * i) ws ++ step_words c b xs (drop i ls) (drop (3 * i) ws₀) ≡ step_words c b xs ls ws₀

three : (i : ℕ) → 3 * i + 3 ≡ 3 * (i + 1)
three i = omega arith

step_next : (c : Committee) (b : Block) (xs : List Run) (l : TransactionLocator) (ls : List TransactionLocator) (ws : List ℕ)
    → step_words c b xs (l ∷ ls) ws ≡ reply_words (step_reply c b xs l (reply_from ws)) ++ step_words c b xs ls (drop 3 ws)
unfolding step_words step replies_from replies_words flatten
step_next c b xs l ls ws = refl

module _ (c : Committee) (P : Block → Type 0) (xs : List Run) (ls : List TransactionLocator) (ws₀ : List ℕ) where
  pub merging_start : Merging c P xs ls ws₀ ws₀ 0
  merging_start = record { long = refl; kept = refl; done = λ b m. refl }

  module _ (bytes : Bytes) (l : Listed bytes ls) (s : Settled c (length ls) ws₀) where
    -- one more reply, w
    next : (ws ws₁ w : List ℕ) (i : ℕ) → i < length ls → Merging c P xs ls ws₀ ws i → length ws₁ ≡ length ws → take (3 * (i + 1)) ws₁ ≡ take (3 * i) ws ++ w
        → drop (3 * (i + 1)) ws₁ ≡ drop (3 * (i + 1)) ws
        → ((b : Block) → P b → reply_words (step_reply c b xs (at bytes i) (reply_from (drop (3 * i) ws₀))) ≡ w)
        → Merging c P xs ls ws₀ ws₁ (i + 1)
    next ws ws₁ w i h g e t d f = record { long = e ∙ g.long; kept = d ∙ onward ws ∙ ap (drop 3) g.kept ∙ sym (onward ws₀); done = done }
      where
        onward : (us : List ℕ) → drop (3 * (i + 1)) us ≡ drop 3 (drop (3 * i) us)
        onward us = ap (λ (n : ℕ). drop n us) (sym (three i)) ∙ sym (drop-drop 3 (3 * i) us)

        done : (b : Block) → P b → take (3 * (i + 1)) ws₁ ++ step_words c b xs (drop (i + 1) ls) (drop (3 * (i + 1)) ws₀) ≡ step_words c b xs ls ws₀
        done b m =
            ap (λ (us : List ℕ). us ++ step_words c b xs (drop (i + 1) ls) (drop (3 * (i + 1)) ws₀)) t
            ∙ append_assoc (take (3 * i) ws) w (step_words c b xs (drop (i + 1) ls) (drop (3 * (i + 1)) ws₀))
            ∙ ap (λ (us : List ℕ). take (3 * i) ws ++ us)
            (ap (λ (us : List ℕ). us ++ step_words c b xs (drop (i + 1) ls) (drop (3 * (i + 1)) ws₀)) (sym (f b m))
            ∙ ap (λ (us : List ℕ). reply_words (step_reply c b xs (at bytes i) (reply_from (drop (3 * i) ws₀))) ++ step_words c b xs (drop (i + 1) ls) us)
            (onward ws₀)
            ∙ sym (step_next c b xs (at bytes i) (drop (i + 1) ls) (drop (3 * i) ws₀))
            ∙ ap (λ (ms : List TransactionLocator). step_words c b xs ms (drop (3 * i) ws₀)) (sym (l.told i h)))
            ∙ g.done b m

    -- the reply stays
    pub merging_stays : (ws : List ℕ) (i : ℕ) → i < length ls → Merging c P xs ls ws₀ ws i → ((b : Block) → P b → part_certifies c b xs (at bytes i) ≡ false)
        → Merging c P xs ls ws₀ ws (i + 1)
    merging_stays ws i h g f =
        next ws ws (take 3 (drop (3 * i) ws)) i h g refl (ap (λ (n : ℕ). take n ws) (sym (three i)) ∙ take-add (3 * i) 3 ws) refl
        (λ b m. reply_stays c b xs (at bytes i) (drop (3 * i) ws₀) (s.each i h) (f b m) ∙ ap (take 3) (sym g.kept))

    -- an author more
    pub merging_grows : (a : ℕ) → ((b : Block) → P b → author b ≡ a) → (ws : List ℕ) (i : ℕ) → i < length ls → Merging c P xs ls ws₀ ws i
        → ((b : Block) → P b → part_certifies c b xs (at bytes i) ≡ true)
        → Merging c P xs ls ws₀ (sets ws (3 * i) (reply_words (reply_of c (inserted (reply_from (drop (3 * i) ws)).authors a)))) (i + 1)
    unfolding reply_words
    merging_grows a by ws i h g f =
        let w : List ℕ = reply_words (reply_of c (inserted (reply_from (drop (3 * i) ws)).authors a)) in
        let room : 3 * i + 3 ≤ length ws = omega (arith, g.long, s.long) in
        let front : length (take (3 * i) ws) ≡ 3 * i = length-take-le (3 * i) ws (omega arith) in
        let cut = sets-eq w ws (3 * i) room in
        let size : length (take (3 * i) ws ++ w) ≡ 3 * (i + 1) = omega (arith, length-append (take (3 * i) ws) w) in
        next ws (sets ws (3 * i) w) w i h g (length-sets ws (3 * i) w)
        (ap (take (3 * (i + 1))) cut ∙ take_at (take (3 * i) ws ++ w) (drop (3 * i + 3) ws) (3 * (i + 1)) size)
        (ap (drop (3 * (i + 1))) cut ∙ drop_at (take (3 * i) ws ++ w) (drop (3 * i + 3) ws) (3 * (i + 1)) size ∙ ap (λ (n : ℕ). drop n ws) (three i))
        (λ b m. reply_grows c b xs (at bytes i) (drop (3 * i) ws₀) (f b m) ∙ ap
        (λ (n : ℕ). reply_words (reply_of c (inserted (reply_from (drop (3 * i) ws₀)).authors n))) (by b m)
        ∙ ap (λ (us : List ℕ). reply_words (reply_of c (inserted (reply_from us).authors a))) (sym g.kept))

    -- all the others stay
    pub merging_rest : (n : ℕ) (ws : List ℕ) (i : ℕ) → length ls ≡ n + i → Merging c P xs ls ws₀ ws i →
        ((k : ℕ) → i ≤ k → k < length ls → (b : Block) → P b → part_certifies c b xs (at bytes k) ≡ false)
        → Merging c P xs ls ws₀ ws (length ls)
    merging_rest zero ws i e g f = subst (Merging c P xs ls ws₀ ws) (sym (e ∙ zero-add i)) g
    merging_rest (suc n) ws i e g f = merging_rest n ws (i + 1) (omega arith) (merging_stays ws i (omega arith) g (f i (omega arith) (omega arith)))
        (λ k h m. f k (omega arith) m)

    pub merging_end : (ws : List ℕ) → Merging c P xs ls ws₀ ws (length ls) → (b : Block) → P b → ws ≡ step_words c b xs ls ws₀
    unfolding step_words step replies_words flatten
    merging_end ws g b m =
        let whole : length ls ≤ length ls = omega arith in
        sym (append-nil ws)
        ∙ ap (λ (us : List ℕ). us ++ []) (sym (take_all (3 * length ls) ws (omega (arith, g.long, s.long))))
        ∙ ap (λ (ms : List TransactionLocator). take (3 * length ls) ws ++ step_words c b xs ms (drop (3 * length ls) ws₀)) (sym (drop_of_length-le ls whole))
        ∙ g.done b m
