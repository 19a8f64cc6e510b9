-- Adding a vote, over bytes. Assumes nothing.
use mathlib.Core.Path.{◌≡◌, refl, sym, ap, ◌∙◌}
use mathlib.Core.Bool.{Bool, true, false}
use mathlib.Core.List.{List, [], ◌∷◌, ◌++◌, flatten, append-nil}
use Prim.Native.Nat.{ℕ}
use native.Mathlib.Decide.{ℕ_discrete}
use native.Mathlib.Omega.{arith}
use lib.ListN.{length}
use lib.Seq.{sets, drop-drop}
use borrow.Author.Tests.{eq-eqb, ne_eqb}
use Rattle.base.specs.Lists.{pick}
use Rattle.base.specs.Le.{le_bytes, le_at}
use Rattle.base.specs.Checks.{◌⇒◌, refusal, passes, refused, answered, checked}
use Rattle.base.proofs.Le.{AllBytes, length_le_bytes, sets_append}
use Rattle.committee.specs.Committee.{Committee, broken}
use Rattle.committee_aggregator.specs.StakeAggregator.{StakeAggregator, add, add_checks, counted, told}
use Rattle.words.specs.Words.{words_in, bytes_of}
use Rattle.words.proofs.Stores.{sets_complete}
use Rattle.words.proofs.Words.{length_bytes_of, bytes_of_words_in}
use Rattle.committee_vote_answer.specs.Answers.{as_add_answer}
use Rattle.host_calls.specs.Calls.{encoded, committee_of}
use Rattle.host_add.specs.Add.{aggregator_of, aggregator_bytes, numbered, AddCall, add_of, add_call}
use Rattle.std.specs.Prelude.{Result}
use Rattle.base.specs.declared.refusal.Refusal.{Refusal}
use Rattle.committee_vote_answer.specs.declared.Vote as vote-answer

three_bytes : (a b c : ℕ) → bytes_of (a ∷ b ∷ c ∷ []) ≡ le_bytes 8 a ++ (le_bytes 8 b ++ le_bytes 8 c)
unfolding bytes_of flatten
three_bytes a b c = rw (append-nil (le_bytes 8 c))

-- three words written one after the other
pub three_written : (a b c : ℕ) (l : List ℕ) → length l ≡ 24 → sets (sets (sets l 0 (le_bytes 8 a)) 8 (le_bytes 8 b)) 16 (le_bytes 8 c)
    ≡ bytes_of (a ∷ b ∷ c ∷ [])
three_written a b c l h =
    sym (sym (sets_complete l (bytes_of (a ∷ b ∷ c ∷ [])) (length_bytes_of (a ∷ b ∷ c ∷ []) ∙ sym h)) ∙ rw (
      three_bytes a b c,
      sets_append (le_bytes 8 a) (le_bytes 8 b ++ le_bytes 8 c) l 0,
      length_le_bytes 8 a,
      sets_append (le_bytes 8 b) (le_bytes 8 c) (sets l 0 (le_bytes 8 a)) 8,
      length_le_bytes 8 b,
    ))

module _ (c : Committee) (b : List ℕ) (a : ℕ) where
  pub added_sized : length b ≡ 24
      → add_of c b a ≡ record { answer = numbered (add c (aggregator_of b) a).answer; aggregator = aggregator_bytes (add c (aggregator_of b) a).aggregator }
  unfolding add_of
  added_sized h = rw (eq-eqb (length b) 24 h)

  pub added_other : (length b ≡ 24 → ⊥) → add_of c b a ≡ record { answer = refused (refusal ((broken c ⇒ 5) ∷ (true ⇒ 6) ∷ [])); aggregator = b }
  unfolding add_of
  added_other h = rw (ne_eqb (length b) 24 h)

same_kept : (c : Committee) (g : StakeAggregator) (a n : ℕ) → numbered (add c g a).answer ≡ refused n → (add c g a).aggregator ≡ g
unfolding numbered add checked
same_kept c g a n e = go (passes (add_checks c g a)) e
  where
    go : (t : Bool) → numbered (pick t (answered (told c g a)) (refused (refusal (add_checks c g a)))) ≡ refused n → pick t (counted c g a) g ≡ g
    go true e = let z : ◌≡◌ {A = ℕ} 0 1 = cc in absurd (omega arith)
    go false e = refl

-- 24 bytes read and written
three_read : (b : List ℕ) → AllBytes b → length b ≡ 24 → aggregator_bytes (aggregator_of b) ≡ b
unfolding aggregator_bytes aggregator_of words_in le_at
three_read b bytes h = ap bytes_of words ∙ bytes_of_words_in 3 b bytes h
  where
    words : le_at 8 b 0 ∷ le_at 8 b 8 ∷ le_at 8 b 16 ∷ [] ≡ words_in 3 b
    words = sym (rw (drop-drop 8 8 b))

-- 01: "changing nothing": the bytes of a refused aggregator are as they were
pub add_kept : (c : Committee) (b : List ℕ) (a n : ℕ) → AllBytes b → (add_of c b a).answer ≡ refused n → (add_of c b a).aggregator ≡ b
add_kept c b a n bytes e = by (ℕ_discrete (length b) 24)
  where
    by : Dec (length b ≡ 24) → (add_of c b a).aggregator ≡ b
    by (no h) = ap (λ (x : AddCall). x.aggregator) (added_other c b a h)
    by (yes h) =
        let sized = added_sized c b a h in
        ap (λ (x : AddCall). x.aggregator) sized
        ∙ ap aggregator_bytes (same_kept c (aggregator_of b) a n (sym (ap (λ (x : AddCall). x.answer) sized) ∙ e))
        ∙ three_read b bytes h

-- the call, once the stakes are read and the answer is told
pub call_sound : (stakes b : List ℕ) (a : ℕ) (r : Result vote-answer.Vote Refusal) (n : ℕ) {held out : List ℕ} → held ≡ committee_of stakes →
    (numbered (as_add_answer r) ≡ (add_of held b a).answer) × (out ≡ (add_of held b a).aggregator)
    → n ≡ encoded (numbered (as_add_answer r)) → (n ≡ encoded (add_call stakes b a).answer) × (out ≡ (add_call stakes b a).aggregator)
unfolding add_call
call_sound stakes b a r n h told e = (e ∙ ap encoded told.0 ∙ rw h, told.1 ∙ rw h)
