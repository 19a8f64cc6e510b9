-- After the steps of some blocks the replies are those of the single question about these blocks. Assumes nothing.
use mathlib.Core.Path.{◌≡◌, refl, sym, ap, ◌∙◌}
use mathlib.Core.Bool.{Bool, true, false}
use mathlib.Core.List.{List, [], ◌∷◌, ◌++◌, map, flatten}
use Prim.Native.Nat.{ℕ, ◌*◌}
use native.Mathlib.Omega.{arith}
use lib.ListN.{length, drop}
use borrow.Author.Tests.{le-ltb, not-false}
use Rattle.base.specs.Lists.{pick, keep, ◌∈◌}
use Rattle.base.specs.Le.{Bytes}
use Rattle.base.specs.Checks.{◌⇒◌, passes}
use Rattle.base.proofs.Checks.{passes_first, passes_others}
use Rattle.committee.specs.Committee.{Committee, broken, total_stake, is_quorum}
use Rattle.committee_set.specs.AuthoritySet.{inserted, set_of, stake_of}
use Rattle.committee_set.proofs.Votes.{stake_nobody}
use Rattle.record_spec.specs.Reference.{TransactionLocator}
use Rattle.record_spec.specs.Block.{Block, author}
use Rattle.store_spec.specs.Store.{store_in_order}
use Rattle.final_spec.proofs.Asked.{in_order_stored}
use Rattle.final_spec.specs.Finality.{blocks_of}
use Rattle.store_spec.proofs.Stored.{WellStored, fresh, stored}
use Rattle.final_spec.specs.Voters.{certifies, certifiers, is_final}
use Rattle.index_spec.specs.Part.{part_in}
use Rattle.index_spec.specs.Index.{indexed}
use Rattle.base.proofs.Lists.{keep_same}
use Rattle.sorted_spec.specs.Sorted.{Reply, reply_words, single_reply, no_reply, reply_of, step_reply, step, replies_after, asked, sorted_checks, answer_sorted}
use Rattle.index_spec.proofs.Certifying.{older_certify, part_certifies_lem}

-- ---- no blocks

single_none : (c : Committee) (l : TransactionLocator) → no_reply ≡ single_reply c [] l
unfolding no_reply single_reply is_final certifiers keep set_of is_quorum stake_of
single_none c l = sym (rw (stake_nobody c 0, le-ltb (2 * total_stake c) 0 (omega arith)))

-- ---- one block

module _ (c : Committee) (b : Block) (older : List Block) (new : (d : Block) → d ∈ older → d.reference ≡ b.reference → ⊥) (l : TransactionLocator) where
  one_step : step_reply c b (part_in (b ∷ older) b.reference) l (single_reply c older l) ≡ single_reply c (b ∷ older) l
  unfolding step_reply single_reply reply_of is_final certifiers keep set_of
  one_step =
      rw (part_certifies_lem c b older new l, keep_same (certifies c (b ∷ older) l) (certifies c older l) older (older_certify c b older new l))
      (go (certifies c (b ∷ older) l b))
    where
      kept : List Block
      kept = keep (certifies c older l) older

      go : (t : Bool) → pick t (reply_of c (inserted (set_of (map author kept)) (author b))) (reply_of c (set_of (map author kept))) ≡ reply_of c
          (set_of (map author (pick t (b ∷ kept) kept)))
      go true = refl
      go false = refl

-- the same of every locator of the list
module _ (c : Committee) (b : Block) (older : List Block) where
  list_step : (ls : List TransactionLocator) → ((m : TransactionLocator) → step_reply c b (part_in (b ∷ older) b.reference) m (single_reply c older m) ≡
      single_reply c (b ∷ older) m)
      → step c b (part_in (b ∷ older) b.reference) ls (map (single_reply c older) ls) ≡ map (single_reply c (b ∷ older)) ls
  unfolding step
  list_step [] h = refl
  list_step (m ∷ ms) h = rw (h m, list_step ms h)

-- ---- all blocks

none_yet : (c : Committee) (ls : List TransactionLocator) → map (λ l. no_reply) ls ≡ map (single_reply c []) ls
none_yet c [] = refl
none_yet c (l ∷ ls) =
    let e = single_none c l in
    let f = none_yet c ls in
    λ i. e i ∷ f i

pub replies_single : (c : Committee) (ls : List TransactionLocator) {bs : List Block} → WellStored bs → replies_after c ls (indexed bs) ≡ map
    (single_reply c bs) ls
unfolding replies_after indexed
replies_single c ls fresh = none_yet c ls
replies_single c ls (stored {b = b} {older = older} new found w) =
    ap (step c b (part_in (b ∷ older) b.reference) ls) (replies_single c ls w)
    ∙ list_step c b older ls (one_step c b older new)

-- the first blocks alone
stored_first : (newer older : List Block) → WellStored (newer ++ older) → WellStored older
stored_first [] older w = w
stored_first (b ∷ newer) older (stored new found w) = stored_first newer older w

indexed_first : (newer older : List Block) → drop (length newer) (indexed (newer ++ older)) ≡ indexed older
unfolding indexed
indexed_first [] older = refl
indexed_first (b ∷ newer) older = indexed_first newer older

pub replies_first : (c : Committee) (ls : List TransactionLocator) (newer older : List Block) → WellStored (newer ++ older)
    → replies_after c ls (drop (length newer) (indexed (newer ++ older))) ≡ map (single_reply c older) ls
replies_first c ls newer older w = ap (replies_after c ls) (indexed_first newer older) ∙ replies_single c ls (stored_first newer older w)

-- ---- the question

question_stored : (c : Committee) (s : Bytes) (ix : List ℕ) (bytes : Bytes) (out : List ℕ) → passes (sorted_checks c s ix bytes out) ≡ true → WellStored
    (blocks_of s)
unfolding sorted_checks blocks_of
question_stored c s ix bytes out h = in_order_stored c s (not-false (store_in_order c s) (passes_first _ _ (passes_others (broken c ⇒ 5) _ h)))

-- what is written are the replies of the single questions
pub question_answered : (c : Committee) (s : Bytes) (ix : List ℕ) (bytes : Bytes) (out : List ℕ) → passes (sorted_checks c s ix bytes out) ≡ true
    → (answer_sorted c s ix bytes out).out ≡ flatten (map reply_words (map (single_reply c (blocks_of s)) (asked bytes))) ++ drop (3 * length (asked bytes)) out
unfolding answer_sorted
question_answered c s ix bytes out h =
    rw h
    (ap (λ (qs : List Reply). flatten (map reply_words qs) ++ drop (3 * length (asked bytes)) out)
    (replies_single c (asked bytes) (question_stored c s ix bytes out h)))
